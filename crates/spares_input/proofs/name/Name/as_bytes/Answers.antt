use Rattle.spares_input.proofs.name.Name.as_bytes.Goals as goal

pub shared_ref_as_front-result : goal.shared_ref_as_front-result
shared_ref_as_front-result c = c.self.invariant.few

pub returns-clause-bytes : goal.returns-clause-bytes
returns-clause-bytes c = c.self.view_is

pub returns-clause-name : goal.returns-clause-name
returns-clause-name c = c.self.invariant.name
