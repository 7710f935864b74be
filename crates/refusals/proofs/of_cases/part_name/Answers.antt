use Rattle.spares_input.proofs.Public.{is_name_fits}
use Rattle.refusals.proofs.of_cases.part_name.Goals as goal

pub returns-then-part-part_count-clause-short : goal.returns-then-part-part_count-clause-short
returns-then-part-part_count-clause-short c = is_name_fits c.as_bytes.result.now c.as_bytes.ensures.name
