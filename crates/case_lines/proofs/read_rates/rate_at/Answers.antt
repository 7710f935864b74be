use Rattle.std.proofs.Common.{◌%◌, ◌/◌, length, subst, ◌∙◌}
use Rattle.std.proofs.lemmas.List.{get_or_default}
use Rattle.std.proofs.lemmas.Nat.{div_below, mod_below}
use Rattle.spares_input.specs.Rows.{no_part, no_site}
use Rattle.line_text.specs.Reading.{Reads}
use Rattle.spares_input.specs.declared.rows.RateRow.{RateRow}
use Rattle.case_lines.specs.Grammar.{Pair, rate_line}
use Rattle.case_lines.proofs.Pairs.{at_place}
use Rattle.case_lines.proofs.read_rates.rate_at.Goals as goal

pub returns : goal.returns
returns c =
    let n = length c.args.sites.now in
    let p = c.args.i / n in
    let k = c.args.i % n in
    subst (λ (pair : Pair). Reads {X = RateRow} {Y = RateRow} (λ r. r) c.rate_line.result c.rate_line.new.lines ((rate_line pair).read c.args.lines.now))
    (at_place c.args.sites.now c.args.parts.now p k c.index-parts-part.result c.index-sites-site.result
    (c.index-parts-part.is ∙ get_or_default c.args.parts.now p c.index-parts-part.result no_part (div_below c.args.i n (length c.args.parts.now) c.requires.some_sites c.requires.within))
    (c.index-sites-site.is ∙ get_or_default c.args.sites.now k c.index-sites-site.result no_site (mod_below c.args.i n c.requires.some_sites)))
    c.rate_line.ensures
