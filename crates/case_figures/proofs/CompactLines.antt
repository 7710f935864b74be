-- The compact items are those of all pairs, and their lines are the lines of these.
use Rattle.std.proofs.Common.{◌≡◌, ℕ, zero, suc, List, [], ◌∷◌, get_or, map, replicate, refl, sym, ap, ◌∙◌, arith}
use Rattle.std.specs.Prelude.{All, flat_map, slice_set}
use Rattle.std.specs.List.{AllByRecursion}
use Rattle.std.proofs.lemmas.List.{get_or-map, length-map, map-set}
use Rattle.std.proofs.lemmas.List.Elements.{All-map}
use Rattle.std.proofs.lemmas.Simd.{map-map}
use Rattle.list_laws.proofs.Public.{map_each}
use Rattle.spares_input.specs.Rows.{no_site, no_part}
use Rattle.spares_input.specs.Frames.{part_names, site_names}
use Rattle.spares_input.specs.declared.rows.PartRow.{PartRow}
use Rattle.spares_input.specs.declared.rows.SiteRow.{SiteRow}
use Rattle.spares_input.specs.Cases.{CaseRows, frame_rows, pair_count}
use Rattle.family_items.specs.declared.item.Item.{Item}
use Rattle.family_items.specs.declared.item.FamilyResult.{FamilyResult}
use Rattle.family_items.specs.Encloses.{no_item}
use Rattle.case_figures.specs.declared.figures.ItemLine.{ItemLine}
use Rattle.case_figures.specs.Figures.{named}
use Rattle.case_figures.specs.Compact.{IsNamedPair, compact_line, compact_of, line_under}
use Rattle.case_figures.specs.Gathering.{IsItemOf, compact_by_pair, items_by_pair, item_place, placed, placed_compact}

map_replicate : {A B : Type 0} (h : A → B) (n : ℕ) (x : A) → replicate n (h x) ≡ map h (replicate n x)
map_replicate h zero x = refl
map_replicate h (suc n) x = ap (λ ys. h x ∷ ys) (map_replicate h n x)

module _ (f : ℕ) (c : CaseRows) where
  compact_placed : (places items : List (Item f)) → placed_compact c (map compact_of places) items ≡ map compact_of (placed c places items)
  compact_placed places [] = refl
  compact_placed places (x ∷ items) =
      ap (λ ys. placed_compact c ys items) (sym (map-set compact_of places (item_place c x) x))
      ∙ compact_placed (slice_set places (item_place c x) x) items

  -- the compact items are the items of all families at their places
  pub compact_items : (families : List (FamilyResult f)) → compact_by_pair c families ≡ map compact_of (items_by_pair c families)
  compact_items families =
      let items = flat_map (λ (r : FamilyResult f). r.items) families in
      ap (λ ys. placed_compact c ys items) (map_replicate compact_of (pair_count (frame_rows c)) (no_item f))
      ∙ compact_placed (replicate (pair_count (frame_rows c)) (no_item f)) items

  abbrev line : Item f → ItemLine
  line x = line_under (part_names c.parts) (site_names c.sites) f (compact_of x)

  compact_named : (x : Item f) → IsItemOf f c x → line x ≡ named f c x
  compact_named x h =
      let part = get_or-map (λ (r : PartRow). r.name) c.parts x.part.0 no_part [] h.part in
      let site = get_or-map (λ (r : SiteRow). r.name) c.sites x.site.0 no_site [] h.site in
      ap (λ name. compact_line name (get_or (site_names c.sites) x.site.0 []) f (compact_of x)) part
      ∙ ap (λ name. compact_line (get_or c.parts x.part.0 no_part).name name f (compact_of x)) site

  -- the lines of compact items are those of the items, under the names of the case
  pub lines_named : (xs : List (Item f)) → AllByRecursion (IsItemOf f c) xs
      → map (line_under (part_names c.parts) (site_names c.sites) f) (map compact_of xs) ≡ map (named f c) xs
  lines_named xs h =
      map-map (line_under (part_names c.parts) (site_names c.sites) f) compact_of xs
      ∙ map_each line (named f c) xs (each_named xs h)
    where
      each_named : (xs : List (Item f)) → AllByRecursion (IsItemOf f c) xs → AllByRecursion (λ x. line x ≡ named f c x) xs
      each_named [] h = tt
      each_named (x ∷ xs) h = (compact_named x h.0, each_named xs h.1)

  -- the compact forms of items of the case have names
  pub compact_pairs : (xs : List (Item f)) → All (IsItemOf f c) xs → All (IsNamedPair (part_names c.parts) (site_names c.sites)) (map compact_of xs)
  compact_pairs xs h =
      All-map (IsNamedPair (part_names c.parts) (site_names c.sites)) compact_of xs
      (λ k d l. record {
        part = omega (arith, (h k d l).part, length-map c.parts (λ (r : PartRow). r.name));
        site = omega (arith, (h k d l).site, length-map c.sites (λ (r : SiteRow). r.name));
      })
