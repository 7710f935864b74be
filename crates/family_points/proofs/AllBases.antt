-- What is read from the list of the bases' data.
use Rattle.std.proofs.Common.{◌≡◌, ℕ, zero, suc, ◌-◌, ◌<◌, List, [], ◌∷◌, length, get_or, ◌∙◌, sym, subst, arith}
use Rattle.std.specs.List.{AllZip, range_with_len}
use Rattle.std.proofs.lemmas.List.FromFn.{get_or-range_with_len, length-range_with_len}
use Rattle.std.proofs.lemmas.Slice.Zip.{AllZip-long}
use Rattle.fleet_model.specs.Rows.{bases}
use Rattle.family_points.specs.declared.order.Base.{Base}
use Rattle.family_points.specs.Choices.{AreBases, IsBaseOf}
use Rattle.family_points.specs.Inputs.{FamilyBox}

-- Each fact on numbers is stated over numbers alone.
none_below : (k : ℕ) → k < 0 → ⊥
none_below k h = omega arith

below : (k n : ℕ) → suc k < suc n → k < n
below k n h = omega arith

place : (n j : ℕ) → 0 < j → j < n → j - 1 < n - 1
place n j some most = omega arith

place_within : (n j : ℕ) → 0 < j → j < n → j - 1 < length (range_with_len 1 (n - 1))
place_within n j some most = omega (arith, length-range_with_len 1 (n - 1))

site_there : (n j : ℕ) → 0 < j → j < n → get_or (range_with_len 1 (n - 1)) (j - 1) 0 ≡ j
site_there n j some most = omega (arith, get_or-range_with_len 1 (n - 1) (j - 1) 0 (place n j some most))

-- the base at a place
zip_read : (x : FamilyBox) (js : List ℕ) (bs : List Base) (k : ℕ) (b : Base) → AllZip (IsBaseOf x) js bs → k < length js → b ≡ get_or bs k b → IsBaseOf x (get_or js k 0) b
zip_read x [] bs k b a h e = absurd (none_below k h)
zip_read x (j ∷ js) [] k b a h e = absurd a
zip_read x (j ∷ js) (y ∷ bs) zero b a h e = subst (IsBaseOf x j) (sym e) a.0
zip_read x (j ∷ js) (y ∷ bs) (suc k) b a h e = zip_read x js bs k b a.1 (below k (length js) h) e

-- what stands at the place j - 1 of the list of bases is base j
pub base_read : (x : FamilyBox) (j : ℕ) (bs : List Base) (b : Base) → AreBases x bs → 0 < j → j < length x.case.sites → b ≡ get_or bs (j - 1) b → IsBaseOf x j b
base_read x j bs b a some most e =
    let n = length x.case.sites in
    subst (λ k. IsBaseOf x k b) (site_there n j some most) (zip_read x (bases x.case) bs (j - 1) b a (place_within n j some most) e)

-- the list of bases has an entry for each base of the case
pub bases_long : (x : FamilyBox) (bs : List Base) → AreBases x bs → length bs ≡ length x.case.sites - 1
bases_long x bs a = AllZip-long (IsBaseOf x) (bases x.case) bs a ∙ length-range_with_len 1 (length x.case.sites - 1)
