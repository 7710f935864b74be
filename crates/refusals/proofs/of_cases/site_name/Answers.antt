use Rattle.spares_input.proofs.Public.{is_name_fits}
use Rattle.refusals.proofs.of_cases.site_name.Goals as goal

pub returns-then-site-site_count-clause-short : goal.returns-then-site-site_count-clause-short
returns-then-site-site_count-clause-short c = is_name_fits c.as_bytes.result.now c.as_bytes.ensures.name
