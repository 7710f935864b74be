-- The part of all vectors of a family, by the stocks of the shop units at the depot.
use Rattle.std.proofs.Common.{ℕ, ◌<◌, ◌≤◌, List, ◌∷◌, length, map, flat_map, sym, ap₂, ◌∙◌, subst, arith}
use Rattle.std.proofs.lemmas.List.Folds.{flat_map-map}
use Rattle.hull.specs.declared.point.Point.{Point}
use Rattle.hull.specs.declared.price.Price.{Price}
use Rattle.hull.specs.Curves.{Among}
use Rattle.curve_parts.specs.Parts.{IsPartOf}
use Rattle.curve_parts.specs.Beyond.{IsKnownPart}
use Rattle.curve_parts.proofs.Public.{known_of_members}
use Rattle.spares_input.specs.Cases.{CaseRows}
use Rattle.family_points.specs.Vectors.{IsBetween, between, vectors}
use Rattle.family_points.specs.Points.{ScoreEnds, point_at_vector, points_within}
use Rattle.family_points.specs.Separation.{depot_points, shop_points}
use Rattle.family_points.specs.Inputs.{FamilyBox, IsFamilyBox, box_points, line_high, line_low, shop_high, shop_low, shop_vectors}
use Rattle.family_points.proofs.Public.{each_between, high_begins, low_begins, of_each, separated_is, turn_lists}
use Rattle.std.specs.List.{AllZip}
use Rattle.list_laws.proofs.Public.{each_any, each_mapped, flat_flat, same_flat}

-- the part of all stocks at the depot, the shop units' first
part_turned : (low high : Price) (at : List ℕ → List Point) (a b : ℕ) (least most : List ℕ) (part : List Point) (beyond : ℕ)
    → IsKnownPart low high (flat_map (λ shops. flat_map (λ s. at (s ∷ shops)) (between a b)) (vectors least most)) part beyond
    → IsKnownPart low high (flat_map at (vectors (a ∷ least) (b ∷ most))) part beyond
part_turned low high at a b least most part beyond h =
    let points : ℕ → List ℕ → List Point = λ s shops. at (s ∷ shops) in
    let back : List ℕ → ℕ → List Point = λ shops s. at (s ∷ shops) in
    subst (λ ps. IsKnownPart low high ps part beyond)
    (sym (flat_flat at (λ s. map (λ v. s ∷ v) (vectors least most)) (between a b)
    ∙ same_flat (λ s. Unit {0}) (λ s. flat_map at (map (λ v. s ∷ v) (vectors least most))) (λ s. flat_map (points s) (vectors least most)) (between a b)
    (λ s _. flat_map-map at (λ v. s ∷ v) (vectors least most)) (each_any (between a b))))
    (known_of_members low high (flat_map (λ shops. flat_map (back shops) (between a b)) (vectors least most)) (flat_map (λ s. flat_map (points s) (vectors least most)) (between a b)) part beyond
    (λ v. (turn_lists back v (vectors least most) (between a b), turn_lists points v (between a b) (vectors least most))) h)

-- the part of the points of all stocks of the shop units at the depot is the part of all points of the box
pub part_of_box : (x : FamilyBox) (valid : IsFamilyBox x) (ends : ScoreEnds) (low high : Price) (part : List Point) (beyond : ℕ) → IsKnownPart low high (flat_map (shop_points ends x) (shop_vectors x 0)) part beyond
    → IsKnownPart low high (box_points ends x) part beyond
part_of_box x valid ends low high part beyond a =
    let some = valid.valid.frame.fewest_sites in
    let inside : 0 < length x.case.sites = omega (arith, some) in
    let at : List ℕ → List Point = depot_points ends x in
    subst (λ ps. IsKnownPart low high ps part beyond)
    (ap₂ (λ low high. flat_map at (vectors low high)) (low_begins x valid 0 inside) (high_begins x valid 0 inside)
    ∙ separated_is ends x valid.valid valid.is_line valid.ordered)
    (part_turned low high at (line_low x 0) (line_high x 0) (shop_low x 0) (shop_high x 0) part beyond a)

-- each vertex of a part of a box has stocks from the least to the most
pub part_between : (c : CaseRows) (l : ℕ) (ends : ScoreEnds) (held least most : List ℕ) (low high : Price) (part : List Point) → AllZip (λ x y. x ≤ y) least most
    → IsPartOf low high (points_within c l ends held least most) part → (v : Point) → Among v part → IsBetween least most v.stocks
part_between c l ends held least most low high part h is v m =
    of_each (λ (v : Point). IsBetween least most v.stocks) (points_within c l ends held least most)
    (each_mapped (IsBetween least most) (λ (v : Point). IsBetween least most v.stocks) (point_at_vector c l ends held) (vectors least most) (λ v g. g) (each_between least most h)) v (is.among v m)
