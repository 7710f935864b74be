use Rattle.spares_input.proofs.CaseFacts.{case_valid}
use Rattle.spares_input.proofs.case.Case.build.Goals as goal

pub invariant_of-result : goal.invariant_of-result
invariant_of-result c =
    let none = rw (c.as_slice.ensures.value, c.site_count-sites.ensures.count, c.part_count-parts.ensures.count) at c.in-Ok.ensures.fault in
    let rows = rw (c.as_slice.ensures.value, c.site_count-sites.ensures.count, c.part_count-parts.ensures.count) at c.in-Ok.ensures.rows in
    case_valid c.args.frame c.args.rates.items c.requires none c.in-Ok.rates.items c.site_count-sites.ensures.valid rows
