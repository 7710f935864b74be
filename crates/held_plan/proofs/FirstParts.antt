-- The parts of the first families, as they are made one after another.
use Rattle.std.proofs.Common.{◌≡◌, ℕ, zero, suc, ◌+◌, ◌<◌, List, [], ◌∷◌, ◌++◌, length, length-append, slice_index, inl, inr, refl, sym, subst, arith}
use Rattle.list_laws.proofs.Public.{below_or}
use Rattle.hull.specs.declared.point.Point.{Point}
use Rattle.hull.specs.declared.price.Price.{Price}
use Rattle.step_walk.specs.Prefix.{curve_at}
use Rattle.curve_parts.specs.Beyond.{IsKnownPart}

-- the curves are the parts between two prices of the first n families, and all vertices behind them lie as high as the
-- numbers
pub record AreFirstParts (low high : Price) (families parts : List (List Point)) (beyond : List ℕ) (n : ℕ) : Type 0 where
  pub count : length parts ≡ n
  pub beyond_count : length beyond ≡ n
  pub each : (f : ℕ) → f < n → IsKnownPart low high (curve_at families f) (curve_at parts f) (slice_index beyond f)

at_before : (xs : List (List Point)) (x : List Point) (f : ℕ) → f < length xs → curve_at (xs ++ x ∷ []) f ≡ curve_at xs f
at_before [] x f h = absurd (omega (arith, h))
at_before (y ∷ xs) x zero h = refl
at_before (y ∷ xs) x (suc f) h = at_before xs x f (omega (arith, h))

at_end : (xs : List (List Point)) (x : List Point) → curve_at (xs ++ x ∷ []) (length xs) ≡ x
at_end [] x = refl
at_end (y ∷ xs) x = at_end xs x

number_before : (xs : List ℕ) (x : ℕ) (f : ℕ) → f < length xs → slice_index (xs ++ x ∷ []) f ≡ slice_index xs f
number_before [] x f h = absurd (omega (arith, h))
number_before (y ∷ xs) x zero h = refl
number_before (y ∷ xs) x (suc f) h = number_before xs x f (omega (arith, h))

number_end : (xs : List ℕ) (x : ℕ) → slice_index (xs ++ x ∷ []) (length xs) ≡ x
number_end [] x = refl
number_end (y ∷ xs) x = number_end xs x

-- with the next family's part they are those of one family more
pub one_more : (low high : Price) (families parts new : List (List Point)) (beyond longer : List ℕ) (part : List Point) (number n : ℕ) → new ≡ parts ++ part ∷ [] → longer ≡ beyond ++ number ∷ []
    → AreFirstParts low high families parts beyond n → IsKnownPart low high (curve_at families n) part number → AreFirstParts low high families new longer (n + 1)
one_more low high families parts new beyond longer part number n is long a h =
    subst (λ xs. AreFirstParts low high families xs longer (n + 1)) (sym is) (subst (λ xs. AreFirstParts low high families (parts ++ part ∷ []) xs (n + 1)) (sym long) (record {
      count = omega (arith, length-append parts (part ∷ []), a.count);
      beyond_count = omega (arith, length-append beyond (number ∷ []), a.beyond_count);
      each = λ f b. elim (below_or f n b) [
        | inl l ↦ subst (λ z. IsKnownPart low high (curve_at families f) z (slice_index (beyond ++ number ∷ []) f)) (sym (at_before parts part f (omega (arith, l, a.count))))
            (subst (λ k. IsKnownPart low high (curve_at families f) (curve_at parts f) k) (sym (number_before beyond number f (omega (arith, l, a.beyond_count)))) (a.each f l))
        | inr e ↦ subst (λ k. IsKnownPart low high (curve_at families k) (curve_at (parts ++ part ∷ []) k) (slice_index (beyond ++ number ∷ []) k)) (sym e)
            (subst (λ z. IsKnownPart low high (curve_at families n) z (slice_index (beyond ++ number ∷ []) n)) (sym (subst (λ k. curve_at (parts ++ part ∷ []) k ≡ part) a.count (at_end parts part)))
            (subst (λ k. IsKnownPart low high (curve_at families n) part k) (sym (subst (λ k. slice_index (beyond ++ number ∷ []) k ≡ number) a.beyond_count (number_end beyond number))) h))
      ];
    }))

-- before the first family there are none
pub no_parts_yet : (low high : Price) (families parts : List (List Point)) (beyond : List ℕ) → parts ≡ [] → beyond ≡ [] → AreFirstParts low high families parts beyond 0
no_parts_yet low high families parts beyond none nothing = rw (none, nothing) (record { count = refl; beyond_count = refl; each = λ f b. absurd (omega (arith, b)) })
