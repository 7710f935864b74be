use Rattle.std.proofs.Common.{◌≡◌, ℕ, ◌+◌, ◌<◌, List, length, get_or, take, lit<, ap, sym, ◌∙◌, subst, arith, length-set}
use Rattle.std.specs.Prelude.{slice_set}
use Rattle.std.proofs.lemmas.List.Sums.{fold_more}
use Rattle.spares_input.specs.Cases.{CaseRows}
use Rattle.spares_input.specs.Pairs.{pair_place}
use Rattle.family_items.specs.declared.item.Item.{Item}
use Rattle.case_figures.specs.declared.compact.CompactItem.{CompactItem}
use Rattle.case_figures.specs.Compact.{compact_of}
use Rattle.case_figures.specs.Gathering.{IsItemOf, item_place, placed_compact}
use Rattle.case_figures.proofs.items.place_items.Goals as goal

-- one item more
next : (f : ℕ) (c : CaseRows) (start : List CompactItem) (xs : List (Item f)) (n : ℕ) (x : Item f) (old : List CompactItem) (place : ℕ) (compact : CompactItem) → n < length xs → x ≡ get_or xs n x
    → place ≡ item_place c x → compact ≡ compact_of x → old ≡ placed_compact c start (take n xs) → slice_set old place compact ≡ placed_compact c start (take (n + 1) xs)
next f c start xs n x old place compact l is at same h =
    (λ i. slice_set (h i) (at i) (same i)) ∙ ap (λ (y : Item f). slice_set (placed_compact c start (take n xs)) (item_place c y) (compact_of y)) is
    ∙ sym (fold_more (λ (ys : List CompactItem) (y : Item f). slice_set ys (item_place c y) (compact_of y)) start xs n x l)

pub of-requires : goal.of-requires
of-requires g c =
    let item = subst (IsItemOf g.row.F c.args.case.now) (sym c.item-item.is) (c.requires.pairs c.loop-item.item-index c.item-item.result c.loop-item-test.true) in
    (lit< tt, (c.requires.scale, item.most))

pub pair_place-requires : goal.pair_place-requires
pair_place-requires g c =
    let item = subst (IsItemOf g.row.F c.args.case.now) (sym c.item-item.is) (c.requires.pairs c.loop-item.item-index c.item-item.result c.loop-item-test.true) in
    let frame = c.site_count.ensures.valid.frame in
    record {
      few_sites = omega (arith, c.site_count.ensures.count, frame.most_sites);
      few_parts = omega (arith, c.part_count.ensures.count, frame.most_parts);
      part = omega (arith, c.part_count.ensures.count, item.part);
      site = omega (arith, c.site_count.ensures.count, item.site);
    }

pub loop-item-preserved : goal.loop-item-preserved
loop-item-preserved g c =
    let x = c.item-item.result in
    let place = c.pair_place.ensures.place ∙ ap (λ n. pair_place n x.part.0 x.site.0) c.site_count.ensures.count in
    record {
      places =
          next g.row.F c.args.case.now c.args.places.now c.args.items.now c.loop-item.item-index x c.loop-item.places c.pair_place.result c.of.result c.loop-item-test.true
          c.item-item.is place c.of.ensures c.loop-item.invariant.places;
      room = length-set c.loop-item.places c.pair_place.result c.of.result ∙ c.loop-item.invariant.room;
    }
