-- A floor that no leaf's value is below is at most each Lagrangian.
use Rattle.std.proofs.Common.{◌≡◌, ℕ, ◌+◌, ◌*◌, ◌≤◌, inl, List, [], ◌∷◌, map, refl, sym, subst, arith, mul-le-mul_left}
use Rattle.hull.specs.declared.price.Price.{Price}
use Rattle.hull.specs.Curves.{lagrangian}
use Rattle.hull.proofs.Public.{among_map, Mapped, among_mapped}
use Rattle.spares_input.specs.Cases.{CaseRows}
use Rattle.family_points.specs.declared.bounds.Bounds.{Bounds}
use Rattle.family_points.specs.Points.{added_cost, point_at_vector, ScoreEnds}
use Rattle.family_points.specs.Vectors.{places, vectors}
use Rattle.gap_rules.specs.declared.leaf.Leaf.{Leaf}
use Rattle.gap_rules.specs.declared.leaf.Leaf.TheVariants as leaf
use Rattle.gap_rules.specs.Covers.{box_of, IsIn}
use Rattle.family_points.proofs.Public.{least_most}
use Rattle.gap_rules.specs.Values.{least_within, value_of_leaf}
use Rattle.gap_rules.specs.Laws.{FloorsHold}
use Rattle.gap_rules.proofs.Boxes.{added_more}
use Rattle.gap_rules.proofs.AmongLaws.{IsBetween, among_vectors, between}
use Rattle.gap_rules.proofs.Trees.{Finds, finds}

module _ (score : ScoreEnds) (c : CaseRows) (l : ℕ) (price : Price) where
  by_cost : (p q lo low cost : ℕ) → low ≤ cost → p * low ≤ q * lo + p * cost
  by_cost p q lo low cost h = (let m : p * low ≤ p * cost = mul-le-mul_left p h in omega (arith, m))

  whole_most : (box : Bounds) (v : List ℕ) → IsIn v box → least_within c l score price box ≤ lagrangian price.p price.q (point_at_vector c l score box.held v)
  unfolding least_within
  whole_most box v i = least_most (lagrangian price.p price.q) (map (point_at_vector c l score box.held) (vectors box.low box.high)) (point_at_vector c l score box.held v) (among_map (point_at_vector c l score box.held) (vectors box.low box.high) v (among_vectors box.low box.high v i.low i.high))

  -- a leaf's value is at most the Lagrangian of each of its vectors
  pub value_most : (x : Leaf) (v held : List ℕ) → IsIn v (box_of x) → (box_of x).held ≡ held → value_of_leaf c l score price x ≤ lagrangian price.p price.q (point_at_vector c l score held v)
  unfolding value_of_leaf
  value_most (leaf.Cost box) v held i k =
      subst (λ h. price.p * added_cost c l box.held box.low ≤ price.q * (point_at_vector c l score h v).lo + price.p * added_cost c l h v) k
      (by_cost price.p price.q (point_at_vector c l score box.held v).lo (added_cost c l box.held box.low) (added_cost c l box.held v) (added_more c (places c l) box.held box.low v i.low))
  value_most (leaf.Whole box) v held i k =
      subst (λ h. least_within c l score price box ≤ lagrangian price.p price.q (point_at_vector c l score h v)) k (whole_most box v i)

-- a floor that no leaf's value is below is at most the Lagrangian of each vector
pub floors_hold : FloorsHold
floors_hold score c l price nodes box ls floor h above w m =
    let r : Mapped (point_at_vector c l score box.held) (vectors box.low box.high) w = among_mapped (point_at_vector c l score box.held) (vectors box.low box.high) w m in
    let b : IsBetween box.low r.from box.high = between box.low box.high r.from r.there in
    let f : Finds ls r.from box.held = finds nodes (box ∷ []) ls r.from box.held box h (inl refl) (record { low = b.low; high = b.high }) refl in
    let one = above f.leaf f.among in
    let two = value_most score c l price f.leaf r.from box.held f.inside f.held in
    subst (λ z. floor ≤ lagrangian price.p price.q z) (sym r.is) (omega (arith, one, two))
