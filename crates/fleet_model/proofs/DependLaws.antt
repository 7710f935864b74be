-- A family's backorders and cost depend on its own stocks alone.
use Rattle.std.proofs.Common.{◌≡◌, ℕ, zero, suc, ◌+◌, ◌-◌, ◌*◌, ◌<◌, ◌≤◌, List, [], ◌∷◌, length, refl, ap, ap₂, arith}
use Rattle.std.specs.List.{AllByRecursion, range_with_len}
use Rattle.list_laws.proofs.Public.{all_follow, count_each}
use Rattle.exact_model.specs.Fraction.{Fraction, ◌+ℚ◌, ◌*ℚ◌}
use Rattle.exact_model.specs.Sums.{sum_over}
use Rattle.exact_model.specs.Series.{ebo, vbo}
use Rattle.exact_model.specs.Shares.{shared}
use Rattle.spares_input.specs.Frames.{part_at}
use Rattle.spares_input.specs.Cases.{CaseRows, IsCase}
use Rattle.fleet_model.specs.Rows.{all_parts, all_sites, bases, shop_units, stock, systems, per_system, weight}
use Rattle.fleet_model.specs.Demand.{f_i0, f_ij, f_0j}
use Rattle.fleet_model.specs.ZeroStock.{direct_00, direct_ij, direct_0j}
use Rattle.fleet_model.specs.Pipelines.{Moments, pipeline_i0, pipeline_00, pipeline_ij, pipeline_0j, ebo_i0, ebo_00, ebo_ij, ebo_0j, vbo_i0, vbo_00, vbo_ij}
use Rattle.fleet_model.specs.Fleet.{family}
use Rattle.fleet_model.specs.Aims.{Value, family_aim, part_cost_beyond, family_cost_beyond}
use Rattle.fleet_model.specs.Laws.{AgreeOnFamily}

sum_each : (xs : List ℕ) (f g : ℕ → Fraction) → AllByRecursion (λ i. f i ≡ g i) xs → sum_over xs f ≡ sum_over xs g
unfolding sum_over
sum_each [] f g h = refl
sum_each (x ∷ xs) f g h = ap₂ (λ a b. a +ℚ b) h.0 (sum_each xs f g h.1)

all_in_range : (P : ℕ → Type 0) (n a m : ℕ) → a + n ≤ m → ((k : ℕ) → k < m → P k) → AllByRecursion P (range_with_len a n)
all_in_range P zero a m l h = tt
all_in_range P (suc n) a m l h = (h a (omega arith), all_in_range P n (a + 1) m (omega arith) h)

-- a fact of each site, of each part and of each base
pub at_sites : (c : CaseRows) (P : ℕ → Type 0) → ((k : ℕ) → k < length c.sites → P k) → AllByRecursion P (all_sites c)
at_sites c P h = all_in_range P (length c.sites) 0 (length c.sites) (omega arith) h

-- what is true of each part of a case is true of all members of its list of parts
pub at_parts : (c : CaseRows) (P : ℕ → Type 0) → ((p : ℕ) → p < length c.parts → P p) → AllByRecursion P (all_parts c)
at_parts c P h = all_in_range P (length c.parts) 0 (length c.parts) (omega arith) h

pub at_bases : (c : CaseRows) (P : ℕ → Type 0) → 0 < length c.sites → ((k : ℕ) → k < length c.sites → P k) → AllByRecursion P (bases c)
at_bases c P some h = all_in_range P (length c.sites - 1) 1 (length c.sites) (omega arith) h

module _ (c : CaseRows) (s t : List ℕ) (some : 0 < length c.sites) where
  abbrev Agree : ℕ → Type 0
  Agree p = (k : ℕ) → k < length c.sites → stock c s p k ≡ stock c t p k

  ebo_i0_same : (n l i : ℕ) → Agree i → ebo_i0 c s n l i ≡ ebo_i0 c t n l i
  unfolding ebo_i0
  ebo_i0_same n l i h = ap (λ z. ebo n (pipeline_i0 c l i).mean (pipeline_i0 c l i).variance z) (h 0 some)

  vbo_i0_same : (n l i : ℕ) → Agree i → vbo_i0 c s n l i ≡ vbo_i0 c t n l i
  unfolding vbo_i0
  vbo_i0_same n l i h = ap (λ z. vbo n (pipeline_i0 c l i).mean (pipeline_i0 c l i).variance z) (h 0 some)

  moments : (a b u v : Fraction) → a ≡ b → u ≡ v → ◌≡◌ {A = Moments} (record { mean = a; variance = u }) (record { mean = b; variance = v })
  moments a b u v h k = ap₂ (λ x y. let m : Moments = record { mean = x; variance = y } in m) h k

  pipeline_00_same : (n l : ℕ) → AgreeOnFamily c s t l → pipeline_00 c s n l ≡ pipeline_00 c t n l
  unfolding pipeline_00
  pipeline_00_same n l h =
      moments _ _ _ _
      (ap (λ z. direct_00 c l +ℚ z) (sum_each (shop_units c l) _ _ (all_follow Agree _ (shop_units c l) (λ i a. ap (λ z. f_i0 c l i *ℚ z) (ebo_i0_same n l i a)) h.1)))
      (ap (λ z. direct_00 c l +ℚ z) (sum_each (shop_units c l) _ _ (all_follow Agree _ (shop_units c l)
      (λ i a. ap₂ (λ y z. shared (f_i0 c l i) y z) (ebo_i0_same n l i a) (vbo_i0_same n l i a)) h.1)))

  ebo_00_same : (n l : ℕ) → AgreeOnFamily c s t l → ebo_00 c s n l ≡ ebo_00 c t n l
  unfolding ebo_00
  ebo_00_same n l h = ap₂ (λ (m : Moments) (z : ℕ). ebo n m.mean m.variance z) (pipeline_00_same n l h) (h.0 0 some)

  vbo_00_same : (n l : ℕ) → AgreeOnFamily c s t l → vbo_00 c s n l ≡ vbo_00 c t n l
  unfolding vbo_00
  vbo_00_same n l h = ap₂ (λ (m : Moments) (z : ℕ). vbo n m.mean m.variance z) (pipeline_00_same n l h) (h.0 0 some)

  pipeline_ij_same : (n l i j : ℕ) → Agree i → pipeline_ij c s n l i j ≡ pipeline_ij c t n l i j
  unfolding pipeline_ij
  pipeline_ij_same n l i j h =
      moments _ _ _ _
      (ap (λ z. direct_ij c l i j +ℚ f_ij c l i j *ℚ z) (ebo_i0_same n l i h))
      (ap₂ (λ y z. direct_ij c l i j +ℚ shared (f_ij c l i j) y z) (ebo_i0_same n l i h) (vbo_i0_same n l i h))

  ebo_ij_same : (n l i j : ℕ) → j < length c.sites → Agree i → ebo_ij c s n l i j ≡ ebo_ij c t n l i j
  unfolding ebo_ij
  ebo_ij_same n l i j lj h = ap₂ (λ (m : Moments) (z : ℕ). ebo n m.mean m.variance z) (pipeline_ij_same n l i j h) (h j lj)

  vbo_ij_same : (n l i j : ℕ) → j < length c.sites → Agree i → vbo_ij c s n l i j ≡ vbo_ij c t n l i j
  unfolding vbo_ij
  vbo_ij_same n l i j lj h = ap₂ (λ (m : Moments) (z : ℕ). vbo n m.mean m.variance z) (pipeline_ij_same n l i j h) (h j lj)

  pipeline_0j_same : (n l j : ℕ) → j < length c.sites → AgreeOnFamily c s t l → pipeline_0j c s n l j ≡ pipeline_0j c t n l j
  unfolding pipeline_0j
  pipeline_0j_same n l j lj h =
      moments _ _ _ _
      (ap₂ (λ y z. direct_0j c l j +ℚ f_0j c l j *ℚ y +ℚ z) (ebo_00_same n l h)
      (sum_each (shop_units c l) _ _ (all_follow Agree _ (shop_units c l) (λ i a. ebo_ij_same n l i j lj a) h.1)))
      (ap₂ (λ y z. direct_0j c l j +ℚ y +ℚ z)
      (ap₂ (λ y z. shared (f_0j c l j) y z) (ebo_00_same n l h) (vbo_00_same n l h))
      (sum_each (shop_units c l) _ _ (all_follow Agree _ (shop_units c l) (λ i a. vbo_ij_same n l i j lj a) h.1)))

  pub ebo_0j_same : (n l j : ℕ) → j < length c.sites → AgreeOnFamily c s t l → ebo_0j c s n l j ≡ ebo_0j c t n l j
  unfolding ebo_0j
  ebo_0j_same n l j lj h = ap₂ (λ (m : Moments) (z : ℕ). ebo n m.mean m.variance z) (pipeline_0j_same n l j lj h) (h.0 j lj)

  -- stocks that agree on a family give it the same aim
  pub family_aim_same : (value : Value) (n l : ℕ) → AgreeOnFamily c s t l → family_aim value c s n l ≡ family_aim value c t n l
  unfolding family_aim
  family_aim_same value n l h =
      sum_each (bases c) _ _ (at_bases c _ some (λ j lj. ap (λ z. value (systems c j) (per_system c l) (weight c l) z n) (ebo_0j_same n l j lj h)))

  -- stocks that agree on a family cost the same there beyond what is held
  pub family_cost_beyond_same : (held : List ℕ) (l : ℕ) → AgreeOnFamily c s t l → family_cost_beyond c held s l ≡ family_cost_beyond c held t l
  family_cost_beyond_same held l h =
      count_each (family c l) (part_cost_beyond c held s) (part_cost_beyond c held t)
      (all_follow Agree _ (family c l) (λ p a. count_each (all_sites c) _ _ (at_sites c _ (λ k lk. ap (λ z. (z - stock c held p k) * (part_at c.parts p).cost) (a k lk)))) h)

-- a valid case has a site
pub has_sites : (c : CaseRows) → IsCase c → 0 < length c.sites
has_sites c valid = (let h = valid.frame.fewest_sites in omega (arith, h))
