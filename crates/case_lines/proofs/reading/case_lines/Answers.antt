use Rattle.std.proofs.Common.{arith}
use Rattle.case_lines.proofs.Few.{sites_read, parts_read}
use Rattle.case_lines.proofs.reading.case_lines.Goals as goal

pub rates-requires-clause-some_sites : goal.rates-requires-clause-some_sites
rates-requires-clause-some_sites c = rw c.as_slice.ensures.value (omega (arith, (sites_read c.args.lines.now c.sites.new.lines c.in_ok-sites.sites.items c.in_ok-sites.ensures).0))

pub rates-requires-clause-few_sites : goal.rates-requires-clause-few_sites
rates-requires-clause-few_sites c = rw c.as_slice.ensures.value (sites_read c.args.lines.now c.sites.new.lines c.in_ok-sites.sites.items c.in_ok-sites.ensures).1

pub rates-requires-clause-few_parts : goal.rates-requires-clause-few_parts
rates-requires-clause-few_parts c = rw c.as_slice-2.ensures.value (parts_read c.sites.new.lines c.parts.new.lines c.in_ok-parts.parts.items c.in_ok-parts.ensures)
