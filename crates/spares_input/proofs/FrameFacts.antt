-- Rows that break no rule make a frame.
use Rattle.std.proofs.Common.{◌≡◌, ℕ, zero, suc, ◌<◌, ◌≤◌, [], ◌∷◌, List, length, get_or, map, filter, take, drop, ◌++◌, true, false, Some, None, Ok, slice_get, bytes_eq, position, refl, sym, ap, subst, ◌∙◌, arith, length-append, length-drop, length-take-le}
use Rattle.std.specs.List.{All, IsDistinct, remove}
use Rattle.std.proofs.lemmas.List.Elements.{filter_passes, All-append, All-filter}
use Rattle.std.proofs.lemmas.List.Quantifiers.{position-Some}
use Rattle.std.proofs.lemmas.List.{length-map, map-append, take-map, drop-map, get_or_default}
use Rattle.std.proofs.lemmas.Option.{slice_get-get_or, slice_get-map, slice_get_within}
use Rattle.std.proofs.lemmas.Bool.{not-true}
use Rattle.std.proofs.lemmas.List.Sorted.{IsPermutation-remove}
use Rattle.std.proofs.lemmas.Map.Keys.{IsDistinct-IsPermutation}
use Rattle.std.specs.Cmp.Lexicographic.{nat_list_eq_equiv}
use Rattle.std.specs.List.Sorted.{IsPermutation}
use Rattle.spares_input.specs.First.{first}
use Rattle.spares_input.specs.Rows.{no_site, no_part, IsSiteRow, IsPartRow}
use Rattle.spares_input.specs.Frames.{double_part, frame_fault, frame_of, IsFrame, is_base, is_depot, kinds_fault, parent_fault, site_at, site_fault, site_names, sites_in_order}
use Rattle.spares_input.specs.Building.{IsNumbered, to_front}
use Rattle.spares_input.specs.declared.rows.SiteRow.{SiteRow}
use Rattle.spares_input.specs.declared.rows.PartRow.{PartRow}
use Rattle.spares_input.proofs.Firsts.{or_else_none}
use Rattle.spares_input.proofs.SiteFacts.{distinct_names, few_depots, depot_apart, enough_sites}
use Rattle.spares_input.proofs.PartFacts.{shop_units_few, length_shop_units, parent_has_line}

map_removed : {X Y : Type 0} (f : X → Y) (xs : List X) (d : ℕ) → map f (remove xs d) ≡ remove (map f xs) d
map_removed f xs d =
    map-append f (take d xs) (drop (suc d) xs) ∙ (λ j. sym (take-map f d xs) j ++ sym (drop-map f (suc d) xs) j)

-- a list with one element put before all others
map_to_front : {X Y : Type 0} (f : X → Y) (xs : List X) (d : ℕ) (x : X) → slice_get xs d ≡ Some x
    → map f (to_front xs d) ≡ to_front (map f xs) d
map_to_front f xs d x at =
    let image : slice_get (map f xs) d ≡ Some (f x) = slice_get-map f xs d ∙ rw at refl in
    rw (at, image) (ap (λ rest. f x ∷ rest) (map_removed f xs d))

length_to_front : {X : Type 0} (xs : List X) (d : ℕ) (x : X) → slice_get xs d ≡ Some x → length (to_front xs d) ≡ length xs
length_to_front xs d x at =
    let within : d < length xs = slice_get_within xs d x at in
    rw at (omega (arith, length-append (take d xs) (drop (suc d) xs), length-drop (suc d) xs, length-take-le d xs (omega arith)))

front_permutes : {X : Type 0} (xs : List X) (d : ℕ) (x : X) → d < length xs → IsPermutation xs (to_front xs d)
front_permutes xs d x within =
    subst (IsPermutation xs) (rw (slice_get-get_or xs d x within) refl) (IsPermutation-remove xs d (get_or xs d x) within (get_or_default xs d x (get_or xs d x) within))

-- what no fault at all says of each rule
rules_kept : (sites : List SiteRow) (parts : List PartRow) → frame_fault sites parts ≡ None
    → (first (site_fault sites) (length sites) ≡ None) × (kinds_fault sites ≡ None) × (first (parent_fault parts) (length parts) ≡ None)
rules_kept sites parts h =
    let a = or_else_none (first (site_fault sites) (length sites)) _ h in
    let b = or_else_none (kinds_fault sites) _ a.1 in
    let d = or_else_none (first (double_part parts) (length parts)) _ b.1 in
    (a.0, b.0, (or_else_none (first (parent_fault parts) (length parts)) None d.1).0)

-- the depot moved to the front stands before the bases in file order
pub moved_in_order : (sites : List SiteRow) (parts : List PartRow) (d : ℕ) → frame_fault sites parts ≡ None → position is_depot sites ≡ Some d
    → to_front sites d ≡ sites_in_order sites
moved_in_order sites parts d none place =
    let kept = rules_kept sites parts none in
    let found = position-Some is_depot sites d no_site place in
    let apart = depot_apart sites d (site_at sites d) found.0 refl found.1 (few_depots sites kept.0) in
    rw (slice_get-get_or sites d no_site found.0, apart.0, apart.1) refl

later_base : (r : SiteRow) (bases : List SiteRow) (k : ℕ) → All (λ x. is_base x ≡ true) bases → 0 < k → k < length (r ∷ bases)
    → (site_at (r ∷ bases) k).depot ≡ false
later_base r bases zero h some within = absurd (omega arith)
later_base r bases (suc j) h some within = not-true (get_or bases j no_site).depot (h j no_site (omega arith))

-- the depot has a place among the rows of sites
pub depot_within : (sites : List SiteRow) (parts : List PartRow) (d : ℕ) → IsNumbered sites parts d → d < length sites
depot_within sites parts d n = (position-Some is_depot sites d no_site n.depot_place).0

-- rows that break no rule are a frame once the depot is moved to the front
pub frame_numbered : (sites placed : List SiteRow) (parts : List PartRow) (d : ℕ) → IsNumbered sites parts d
    → length sites ≤ 16 → length parts ≤ 2000 → All IsSiteRow sites → All IsPartRow parts
    → placed ≡ to_front sites d → IsFrame (record { sites = placed; parts = parts })
frame_numbered sites placed parts d n few few_parts site_rows part_rows moved =
    let kept = rules_kept sites parts n.no_fault in
    let found = position-Some is_depot sites d no_site n.depot_place in
    let at = slice_get-get_or sites d no_site found.0 in
    let apart = depot_apart sites d (site_at sites d) found.0 refl found.1 (few_depots sites kept.0) in
    let named : site_names placed ≡ to_front (site_names sites) d = rw moved (map_to_front (λ s. s.name) sites d (site_at sites d) at) in
    let among : d < length (site_names sites) = rw (length-map sites (λ (s : SiteRow). s.name)) found.0 in
    let permuted = front_permutes (site_names sites) d [] among in
    let distinct = IsDistinct-IsPermutation bytes_eq nat_list_eq_equiv.symm (site_names sites) (to_front (site_names sites) d) permuted (distinct_names sites kept.0) in
    let ordered : placed ≡ sites_in_order sites = moved ∙ moved_in_order sites parts d n.no_fault n.depot_place in
    let split : placed ≡ site_at sites d ∷ filter is_base sites = ordered ∙ rw apart.0 refl in
    let many : length (to_front sites d) ≡ length sites = length_to_front sites d (site_at sites d) at in
    record {
      fewest_sites = rw (moved, many) (enough_sites sites kept.1);
      most_sites = rw (moved, many) few;
      most_parts = few_parts;
      depot = rw split found.1;
      bases = rw split (λ k some within. later_base (site_at sites d) (filter is_base sites) k (filter_passes is_base sites) some within);
      distinct_sites = subst (IsDistinct bytes_eq) (sym named) distinct;
      distinct_parts = n.distinct_parts;
      parents = λ p within shop. parent_has_line parts p kept.2 within shop;
      few_shop_units = λ l within. rw (length_shop_units parts l) (shop_units_few (get_or parts l no_part) parts kept.2);
      site_rows = rw ordered (All-append IsSiteRow (filter is_depot sites) (filter is_base sites) (All-filter is_depot IsSiteRow sites site_rows) (All-filter is_base IsSiteRow sites site_rows));
      part_rows = part_rows;
    }

-- the frame of rows that break no rule has the depot moved to the front
pub frame_answer : (sites placed : List SiteRow) (parts : List PartRow) (d : ℕ) → IsNumbered sites parts d
    → placed ≡ to_front sites d → frame_of sites parts ≡ Ok (record { sites = placed; parts = parts })
frame_answer sites placed parts d n moved =
    rw (n.no_fault, moved, moved_in_order sites parts d n.no_fault n.depot_place) refl
