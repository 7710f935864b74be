use Rattle.std.proofs.Common.{ℕ, List, ◌++◌, ap, sym, ◌∙◌}
use Rattle.std.specs.List.{concat}
use Rattle.std.proofs.lemmas.List.Folds.{concat-append}
use Rattle.list_laws.proofs.Public.{after_ok, joined_more}
use Rattle.case_lines.specs.Grammar.{sites, parts, rates}
use Rattle.case_lines.proofs.whole.put_case.Goals as goal

pub returns : goal.returns
returns c =
    let rows = c.args.case.now in
    let out = c.args.out.now.items in
    let first = sites.print rows.sites in
    let second = parts.print rows.parts in
    let third = (rates rows.sites rows.parts).print rows.rates in
    after_ok c.put_rates.result
    (λ h.
    let later = joined_more c.put_sites.new.out.items (concat second) (concat third) c.put_parts.new.out.items c.put_rates.new.out.items c.in_ok-put_parts.ensures h in
    joined_more out (concat first) (concat second ++ concat third) c.put_sites.new.out.items c.put_rates.new.out.items c.in_ok-put_sites.ensures later
    ∙ ap (λ (z : List ℕ). out ++ (concat first ++ z)) (sym (concat-append second third))
    ∙ ap (λ (z : List ℕ). out ++ z) (sym (concat-append first (second ++ third))))
    c.put_rates.ensures
