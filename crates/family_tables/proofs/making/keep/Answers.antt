use Rattle.family_tables.specs.declared.keys.Key.{Key}
use Rattle.std.proofs.lemmas.List.{map-append}
use Rattle.std.specs.Prelude.{if◌then◌else◌}
use Rattle.std.proofs.Common.{◌∷◌, [], List, subst, sym, ◌≡◌, ℕ, ◌++◌, ◌∙◌, false, map, ap, ap₂}
use Rattle.std.proofs.lemmas.List.Elements.{All-append, All-from_recursion}
use Rattle.std.specs.List.{All}
use Rattle.family_tables.specs.declared.keys.Kept.{Kept}
use Rattle.family_tables.specs.Kept.{IsKept, is_among}
use Rattle.family_tables.proofs.making.keep.Goals as goal

pub returns-clause-kept : goal.returns-clause-kept
returns-clause-kept g c =
    let P : Kept g.row.F → Type 0 = IsKept g.row.F c.args.numbers.now in
    let here : All P (c.in_ok-more.more ∷ []) = All-from_recursion P (c.in_ok-more.more ∷ []) (c.in_ok-more.ensures.kept, tt) in
    subst (λ (v : List (Kept g.row.F)). All P v) (sym c.in_ok-push.ensures.items) (All-append P c.args.kept.now.items (c.in_ok-more.more ∷ []) c.requires.kept here)

pub returns-clause-ok : goal.returns-clause-ok
returns-clause-ok g c =
    let key = c.args.key in
    let keys : List (Kept g.row.F) → List Key = map (λ (x : Kept g.row.F). x.key) in
    let old = c.args.kept.now.items in
    let none : is_among (keys old) key.place key.site.0 key.stocks ≡ false =
    ap₂ (λ (xs : List (Kept g.row.F)) (stocks : List ℕ). is_among (keys xs) key.place key.site.0 stocks) (sym c.as_slice.ensures.value) (sym c.as_slice-stocks.ensures)
    ∙ sym c.kept_at.ensures.found ∙ sym c.is_some-found.ensures ∙ c.if-found.false in
    ap keys c.in_ok-push.ensures.items ∙ map-append (λ (x : Kept g.row.F). x.key) old (c.in_ok-more.more ∷ [])
    ∙ ap (λ (k : Key). keys old ++ k ∷ []) c.in_ok-more.ensures.key
    ∙ sym (ap (λ b. if b then keys old else keys old ++ key ∷ []) none)
