-- The first place at which something is found.
use Rattle.std.proofs.Common.{◌≡◌, ℕ, zero, suc, ◌+◌, ◌<◌, ◌⊎◌, inl, inr, Option, Some, None, refl, arith, add-one, subst, sym}
use Rattle.spares_input.specs.First.{first, or_else}

-- where nothing is found below a place and nothing at it, nothing is found up to it
pub first_more : {A : Type 0} (at : ℕ → Option A) (k : ℕ) → first at k ≡ None → at k ≡ None → first at (k + 1) ≡ None
unfolding first
first_more at k before here = rw (add-one, before) here

below_or_at : (k n : ℕ) → k < suc n → (k < n) ⊎ (k ≡ n)
below_or_at k n h = grind arith

-- where nothing is found below a place, what is found at it is the first of all
pub first_found : {A : Type 0} (at : ℕ → Option A) (k n : ℕ) (x : A) → first at k ≡ None → at k ≡ Some x → k < n → first at n ≡ Some x
unfolding first
first_found at k zero x before here h = absurd (omega arith)
first_found at k (suc n) x before here h =
    elim (below_or_at k n h) [
      | inl lt ↦ rw (first_found at k n x before here lt) refl
      | inr e ↦ subst (λ m. or_else (first at m) (at m) ≡ Some x) e (rw (before, here) refl)
    ]

-- where the first found of two is none, neither is found
pub or_else_none : {A : Type 0} (o p : Option A) → or_else o p ≡ None → (o ≡ None) × (p ≡ None)
or_else_none None p h = (refl, h)
or_else_none (Some x) p h = cc

-- nothing is found at any place where nothing is found first
pub first_none : {A : Type 0} (at : ℕ → Option A) (n k : ℕ) → first at n ≡ None → k < n → at k ≡ None
unfolding first
first_none at zero k h lt = absurd (omega arith)
first_none at (suc n) k h lt =
    let both = or_else_none (first at n) (at n) h in
    elim (below_or_at k n lt) [
      | inl below ↦ first_none at n k both.0 below
      | inr e ↦ subst (λ m. at m ≡ None) (sym e) both.1
    ]

-- what finds the same at each place finds the same first
pub first_same : {A : Type 0} (f g : ℕ → Option A) (n : ℕ) → ((k : ℕ) → k < n → f k ≡ g k) → first f n ≡ first g n
unfolding first
first_same f g zero h = refl
first_same f g (suc n) h = rw (first_same f g n (λ k lt. h k (omega arith)), h n (omega arith)) refl
