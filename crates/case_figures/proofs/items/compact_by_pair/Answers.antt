use Rattle.std.proofs.Common.{◌≡◌, ℕ, ◌+◌, ◌<◌, List, [], length, get_or, take, replicate, lit<, ap, ap₂, sym, ◌∙◌, subst, arith}
use Rattle.std.specs.Prelude.{All, flat_map, slice_set}
use Rattle.std.proofs.lemmas.List.{flat_map_more, take_all, take_more, with_items_is}
use Rattle.std.proofs.lemmas.List.Sums.{fold-append}
use Rattle.spares_input.specs.Cases.{CaseRows, frame_rows, pair_count}
use Rattle.family_items.specs.Encloses.{no_item}
use Rattle.case_figures.specs.Compact.{compact_of}
use Rattle.case_figures.specs.Gathering.{item_place}
use Rattle.family_items.specs.declared.item.Item.{Item}
use Rattle.family_items.specs.declared.item.FamilyResult.{FamilyResult}
use Rattle.case_figures.specs.declared.compact.CompactItem.{CompactItem}
use Rattle.case_figures.specs.Gathering.{IsFamilyOf, IsItemOf, compact_by_pair, placed_compact}
use Rattle.case_figures.proofs.items.compact_by_pair.Goals as goal

-- one family more
module _ (f : ℕ) (c : CaseRows) where
  next : (xs : List (FamilyResult f)) (n : ℕ) (r : FamilyResult f) (items : List (Item f)) (before old new : List CompactItem) → n < length xs → r ≡ get_or xs n r
      → items ≡ r.items → before ≡ old → new ≡ placed_compact c before items → old ≡ compact_by_pair c (take n xs) → new ≡ compact_by_pair c (take (n + 1) xs)
  next xs n r items before old new l is same from e h =
      let own = λ (r : FamilyResult f). r.items in
      let start = replicate (pair_count (frame_rows c)) (compact_of (no_item f)) in
      e ∙ ap₂ (λ places items. placed_compact c places items) (from ∙ h) (same ∙ ap own is)
      ∙ sym (fold-append (λ places x. slice_set places (item_place c x) (compact_of x)) start (flat_map own (take n xs)) (get_or xs n r).items)
      ∙ ap (placed_compact c start) (flat_map_more own [] (take n xs) (get_or xs n r) ∙ ap (flat_map own) (sym (take_more xs n r l)))

pub place_items-requires : goal.place_items-requires
place_items-requires g c =
    let family = subst (IsFamilyOf g.row.F c.args.case.now) (sym c.family-item.is) (c.requires.families c.loop-family.family-index c.family-item.result c.loop-family-test.true) in (
      lit< tt,
      (
        c.requires.scale,
        (
          subst (λ (xs : List (Item g.row.F)). All (IsItemOf g.row.F c.args.case.now) xs) (sym c.as_slice.ensures) family.items,
          ap length c.as_mut_slice.ensures.value ∙ c.loop-family.invariant.room,
        ),
      ),
    )

pub loop-family-preserved : goal.loop-family-preserved
loop-family-preserved g c =
    let case = c.args.case.now in
    let old = c.loop-family.places in
    let long : length c.place_items.new.places ≡ length old.items = c.place_items.auto.places ∙ ap length c.as_mut_slice.ensures.value in
    let written = with_items_is old c.place_items.new.places (omega (arith, long, old.ok)) in
    record {
      places =
          written
          ∙ next g.row.F case c.args.families.now c.loop-family.family-index c.family-item.result c.as_slice.result.now c.as_mut_slice.result.now old.items
          c.place_items.new.places c.loop-family-test.true c.family-item.is c.as_slice.ensures c.as_mut_slice.ensures.value c.place_items.ensures c.loop-family.invariant.places;
      room = ap length written ∙ long ∙ c.loop-family.invariant.room;
    }

pub returns : goal.returns
returns g c =
    c.loop-family.invariant.places
    ∙ ap (λ (rs : List (FamilyResult g.row.F)). compact_by_pair c.args.case.now rs) (take_all c.loop-family.family-index c.args.families.now c.loop-family-test.false)
