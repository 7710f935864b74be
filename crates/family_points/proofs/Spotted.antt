-- Stocks at a base as the code keeps them.
use Rattle.std.proofs.Common.{◌≡◌, ℕ, zero, suc, ◌+◌, ◌-◌, ◌*◌, ◌<◌, ◌≤◌, List, [], ◌∷◌, ◌++◌, length, map, take, get_or, refl, sym, ap, ap₂, ◌∙◌, arith}
use Rattle.std.proofs.lemmas.List.{map-append}
use Rattle.list_laws.proofs.Public.{take_next}
use Rattle.spares_input.specs.Frames.{part_at}
use Rattle.spares_input.specs.Cases.{CaseRows}
use Rattle.fleet_model.specs.Fleet.{family}
use Rattle.fleet_model.specs.Rows.{shop_units}
use Rattle.family_points.specs.declared.order.ShopVector.{ShopVector}
use Rattle.family_points.specs.Points.{cost_above}
use Rattle.family_points.specs.Inputs.{AreShopsAt, FamilyBox, IsAt, IsFamilyBox, held_at, line_high, line_low}
use Rattle.family_points.proofs.Bounded.{held_most, held_part_long}
use Rattle.family_points.proofs.Points.{joined_at, site_cost_most}

-- each more of a part adds its cost
dearer : (c : CaseRows) (p : ℕ) (ps held v : List ℕ) (low s : ℕ) → 0 < length held → get_or held 0 0 ≤ low → low ≤ s
    → cost_above c (p ∷ ps) held (s ∷ v) ≡ cost_above c (p ∷ ps) held (low ∷ v) + (s - low) * (part_at c.parts p).cost
dearer c p ps [] v low s some a b = absurd (omega (arith, some))
dearer c p ps (h ∷ held) v low s some a b = parts (s - h) (low - h) (s - low) (part_at c.parts p).cost (cost_above c ps held v) (omega (arith, a, b))
  where
    parts : (all first more each rest : ℕ) → all ≡ first + more → all * each + rest ≡ first * each + rest + more * each
    parts all first more each rest e = let k : all * each ≡ (first + more) * each = ap (λ n. n * each) e in omega (arith, k)

module _ (x : FamilyBox) (valid : IsFamilyBox x) (k s : ℕ) (v : List ℕ) (m : k < length x.case.sites) (within : AreShopsAt x k v) (least : line_low x k ≤ s) (most : s ≤ line_high x k) where
  here : IsAt x k (s ∷ v)
  here = joined_at x valid k s v m within least most

  first : IsAt x k (line_low x k ∷ v)
  first = joined_at x valid k (line_low x k) v m within (omega arith) (omega (arith, least, most))

  -- each unit of the line unit above its least stock costs its price
  pub line_dearer : cost_above x.case (family x.case x.line) (held_at x k) (s ∷ v)
      ≡ cost_above x.case (family x.case x.line) (held_at x k) (line_low x k ∷ v) + (s - line_low x k) * (part_at x.case.parts x.line).cost
  line_dearer =
      let some : 0 < length (family x.case x.line) = omega arith in
      let long = held_part_long x valid k m in
      let held : get_or (held_at x k) 0 0 ≤ line_low x k = held_most x valid k 0 (line_low x k ∷ v) m first some in
      dearer x.case x.line (shop_units x.case x.line) (held_at x k) v (line_low x k) s (omega (arith, some, long)) held least

  -- such stocks cost at most 56,700,000,000 beyond what is held there
  pub line_cost_most : cost_above x.case (family x.case x.line) (held_at x k) (s ∷ v) ≤ 56700000000
  line_cost_most = site_cost_most x valid k (s ∷ v) m here

  -- the cost with the least stock, and so many units above it
  pub line_cost : (base above each : ℕ) → base ≡ cost_above x.case (family x.case x.line) (held_at x k) (line_low x k ∷ v) → above ≡ s - line_low x k
      → each ≡ (part_at x.case.parts x.line).cost → base + above * each ≡ cost_above x.case (family x.case x.line) (held_at x k) (s ∷ v)
  line_cost base above each e g h = ap₂ (λ a b. a + b) e (ap₂ (λ n p. n * p) g h) ∙ sym line_dearer

  -- which is at most 56,700,000,000
  pub line_cost_small : (base above each : ℕ) → base ≡ cost_above x.case (family x.case x.line) (held_at x k) (line_low x k ∷ v) → above ≡ s - line_low x k
      → each ≡ (part_at x.case.parts x.line).cost → base + above * each ≤ 56700000000
  line_cost_small base above each e g h =
      let is : base + above * each ≡ cost_above x.case (family x.case x.line) (held_at x k) (s ∷ v) = line_cost base above each e g h in
      let most = line_cost_most in
      omega (arith, is, most)

-- shop vectors with the first n stocks of a list have, with the next one added, its first n + 1
pub stocks_more : (xs ys : List ShopVector) (v : ShopVector) (all : List (List ℕ)) (n : ℕ) (d : List ℕ) → ys ≡ xs ++ v ∷ [] → map (λ (v : ShopVector). v.stocks) xs ≡ take n all
    → n < length all → d ≡ get_or all n [] → v.stocks ≡ d → map (λ (v : ShopVector). v.stocks) ys ≡ take (n + 1) all
stocks_more xs ys v all n d e g h is same =
    ap (map (λ (v : ShopVector). v.stocks)) e ∙ map-append (λ (v : ShopVector). v.stocks) xs (v ∷ []) ∙ ap (λ (l : List (List ℕ)). l ++ v.stocks ∷ []) g
    ∙ ap (λ (w : List ℕ). take n all ++ w ∷ []) (same ∙ is) ∙ sym (take_next all n h)

-- the stocks of the shop units read at a place are those of the vector at this place
pub stock_read : (xs : List ShopVector) (n : ℕ) (v d : ShopVector) (all : List (List ℕ)) → map (λ (v : ShopVector). v.stocks) xs ≡ all → n < length xs → v ≡ get_or xs n d → v.stocks ≡ get_or all n []
stock_read xs n v d all e h g = ap (λ (v : ShopVector). v.stocks) g ∙ mapped xs n h ∙ ap (λ (l : List (List ℕ)). get_or l n []) e
  where
    mapped : (xs : List ShopVector) (n : ℕ) → n < length xs → (get_or xs n d).stocks ≡ get_or (map (λ (v : ShopVector). v.stocks) xs) n []
    mapped [] n h = absurd (omega (arith, h))
    mapped (x ∷ xs) zero h = refl
    mapped (x ∷ xs) (suc n) h = mapped xs n (omega (arith, h))
