use Rattle.std.proofs.Common.{[], ◌∷◌}
use Rattle.price_certificate.specs.Grammar.{objective_name}
use Rattle.price_certificate.proofs.Written.{three_written}
use Rattle.price_certificate.proofs.writing.put_objective.Goals as goal
use lib.Chars.{codes}

pub returns : goal.returns
returns c =
    three_written c.args.out.now.items c.extend_from_slice.new.self.items c.extend_from_slice-2.new.self.items c.push.new.self.items
    (codes "objective,") (objective_name c.args.objective.now) (10 ∷ [])
    c.in_ok-extend_from_slice.ensures.items (rw c.word.ensures at c.in_ok-extend_from_slice-2.ensures.items) c.in_ok-push.ensures.items
