-- The shop units' part of a box, and lists that grow.
use Rattle.std.proofs.Common.{◌≡◌, ℕ, zero, suc, ◌+◌, ◌-◌, ◌*◌, ◌<◌, ◌≤◌, List, [], ◌∷◌, ◌++◌, length, get_or, drop, map, sym, ap, ap₂, ◌∙◌, arith}
use Rattle.std.specs.List.{All, AllZip, range_with_len}
use Rattle.std.proofs.lemmas.List.{append_assoc, get_or_default}
use Rattle.std.proofs.lemmas.List.FromFn.{map-range_with_len_more}
use Rattle.list_laws.proofs.Public.{same_length}
use Rattle.fixed_interval.specs.Ends.{Ends}
use Rattle.series_bounds.specs.Answer.{at_place}
use Rattle.fleet_model.specs.Fleet.{family}
use Rattle.family_points.specs.Boxes.{IsBox}
use Rattle.family_points.specs.Inputs.{FamilyBox, IsFamilyBox, high_at, low_at, shop_high, shop_low}
use Rattle.family_points.proofs.Bounded.{box_at, high_long}
use Rattle.family_points.proofs.Points.{low_begins}
use Rattle.family_points.proofs.Sites.{part_long, size}

-- ---- lists that grow

-- a list that has f at all numbers from a to s - 1 behind older entries has it at s too, with f s put behind
pub mapped_from : {X : Type 0} (f : ℕ → X) (a s : ℕ) (old xs ys : List X) (x : X) → a ≤ s → ys ≡ xs ++ x ∷ [] → xs ≡ old ++ map f (range_with_len a (s - a)) → x ≡ f s
    → ys ≡ old ++ map f (range_with_len a (s + 1 - a))
mapped_from {X} f a s old xs ys x h e g t =
    let next : s - a + 1 ≡ s + 1 - a = omega (arith, h) in
    let at : a + (s - a) ≡ s = omega (arith, h) in
    e ∙ ap₂ (λ (zs : List X) (z : X). zs ++ z ∷ []) g t ∙ append_assoc old (map f (range_with_len a (s - a))) (f s ∷ [])
    ∙ ap (λ (r : List X). old ++ r) (sym (map-range_with_len_more f a (s - a) s at))
    ∙ ap (λ n. old ++ map f (range_with_len a n)) next

-- what is read at a place of a list within its length is the entry there
pub read_place : (list : List Ends) (i s : ℕ) (e : Ends) → e ≡ get_or list i e → i ≡ s → s < length list → e ≡ at_place list s
read_place list i s e h g m = h ∙ ap (λ k. get_or list k e) g ∙ get_or_default list s e (record { lo = 0; hi = 0 }) m

-- ---- stocks of shop units

pub box_rest : (low high : List ℕ) → IsBox low high → IsBox (drop 1 low) (drop 1 high)
box_rest [] [] h = h
box_rest [] (b ∷ high) h = absurd h.ordered
box_rest (a ∷ low) [] h = absurd h.ordered
box_rest (a ∷ low) (b ∷ high) h = record {
  few = omega (arith, h.few);
  ordered = h.ordered.1;
  small = λ i d m. h.small (suc i) d (omega (arith, m));
}

-- stocks below stocks of at most 63 are at most 63
pub all_below : (v high : List ℕ) → AllZip (λ x y. x ≤ y) v high → All (λ s. s ≤ 63) high → All (λ s. s ≤ 63) v
all_below [] [] h a i d m = absurd (omega (arith, m))
all_below [] (y ∷ ys) h a i d m = absurd h
all_below (x ∷ xs) [] h a i d m = absurd h
all_below (x ∷ xs) (y ∷ ys) h a zero d m = omega (arith, h.0, a 0 d (omega arith))
all_below (x ∷ xs) (y ∷ ys) h a (suc i) d m = all_below xs ys h.1 (λ k e l. a (suc k) e (omega (arith, l))) i d (omega (arith, m))

module _ (x : FamilyBox) (valid : IsFamilyBox x) where
  -- the bounds of the shop units at a site make a box
  pub box_shops : (k : ℕ) → k < length x.case.sites → IsBox (shop_low x k) (shop_high x k)
  box_shops k m = box_rest (low_at x k) (high_at x k) (box_at x k valid m)

  -- the least stocks of the shop units at a site: one for each
  pub shops_low_long : (k : ℕ) → k < length x.case.sites → length (shop_low x k) ≡ length (family x.case x.line) - 1
  shops_low_long k m = omega (arith, ap length (low_begins x valid k m), part_long x.case x.line x.low k (length x.case.sites) low_at_long m)
    where
      low_at_long : length x.low ≡ length x.case.sites * size x.case x.line
      low_at_long = sym (same_length x.low x.high valid.ordered.low_least) ∙ high_long x valid
