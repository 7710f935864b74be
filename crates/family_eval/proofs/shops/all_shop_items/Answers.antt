use Rattle.std.proofs.Common.{◌≡◌, ℕ, ◌+◌, ◌<◌, List, [], ◌++◌, length, get_or, take, ap, ap₂, sym, ◌∙◌}
use Rattle.std.specs.Prelude.{flat_map}
use Rattle.std.proofs.lemmas.List.{flat_map_more, take_all, take_more}
use Rattle.spares_input.specs.declared.rows.PartId.{PartId}
use Rattle.family_items.specs.Profile.{part_items}
use Rattle.family_eval.proofs.shops.all_shop_items.Goals as goal

module _ {A B : Type 0} (own : A → List B) (xs : List A) (n : ℕ) where
  -- the items of one unit more
  next : (d : A) (old new row : List B) → n < length xs → new ≡ old ++ row → row ≡ own (get_or xs n d) → old ≡ flat_map own (take n xs) → new ≡ flat_map own (take (n + 1) xs)
  next d old new row l e f h =
      e ∙ ap₂ (λ (z w : List B). z ++ w) h f ∙ flat_map_more own [] (take n xs) (get_or xs n d) ∙ ap (flat_map own) (sym (take_more xs n d l))

pub loop-part-preserved : goal.loop-part-preserved
loop-part-preserved g c =
    let x = c.args.inputs.now in
    next (λ (p : PartId). part_items g.row.F x.case x.stocks.list p.0) c.args.shops.now c.loop-part.part-index (record { 0 = 0 }) c.loop-part.items.items c.append.new.self.items c.in_ok-row.row.items
    c.loop-part-test.true c.in_ok-append.ensures.items c.in_ok-row.ensures c.loop-part.invariant

pub returns : goal.returns
returns g c =
    let x = c.args.inputs.now in
    c.loop-part.invariant
    ∙ ap (flat_map (λ (p : PartId). part_items g.row.F x.case x.stocks.list p.0)) (take_all c.loop-part.part-index c.args.shops.now c.loop-part-test.false)
