-- A filling has one end.
use Rattle.std.proofs.Common.{◌≡◌, ℕ, ◌<◌, ◌≤◌, ◌⊎◌, inl, inr, List, set, refl, sym, subst, arith}
use Rattle.hull.specs.declared.point.Point.{Point}
use Rattle.marginal_alloc.specs.Filling.{IsBestChange, Fills, full, change, gain}

later_or : (a b f k g j : ℕ) → (a < b) ⊎ ((a ≡ b) × ((f < g) ⊎ ((f ≡ g) × (k ≤ j)))) → (b < a) ⊎ ((b ≡ a) × ((g < f) ⊎ ((g ≡ f) × (j ≤ k)))) → (f ≡ g) × (k ≡ j)
later_or a b f k g j (inl l) (inl m) = absurd (omega arith)
later_or a b f k g j (inl l) (inr m) = absurd (let e = m.0 in omega (arith, e))
later_or a b f k g j (inr m) (inl l) = absurd (let e = m.0 in omega (arith, e))
later_or a b f k g j (inr m) (inr n) = inner m.1 n.1
  where
    inner : (f < g) ⊎ ((f ≡ g) × (k ≤ j)) → (g < f) ⊎ ((g ≡ f) × (j ≤ k)) → (f ≡ g) × (k ≡ j)
    inner (inl l) (inl m) = absurd (omega arith)
    inner (inl l) (inr m) = absurd (let e = m.0 in omega (arith, e))
    inner (inr m) (inl l) = absurd (let e = m.0 in omega (arith, e))
    inner (inr m) (inr n) = (m.0, (let x = m.1 in let y = n.1 in omega (arith, x, y)))

-- the best change is one
one_best : (curves : List (List Point)) (budget : ℕ) (picks : List ℕ) (f k g j : ℕ) → IsBestChange curves budget picks f k → IsBestChange curves budget picks g j → (f ≡ g) × (k ≡ j)
one_best curves budget picks f k g j a b = later_or (gain curves picks g j) (gain curves picks f k) f k g j (a.best g j b.change) (b.best f k a.change)

-- there is one filling of given picks under a budget
pub fills_same : (curves : List (List Point)) (budget : ℕ) (picks one two : List ℕ) → Fills curves budget picks one → Fills curves budget picks two → one ≡ two
fills_same curves budget picks one two (full h) (full g) = refl
fills_same curves budget picks one two (full h) (change f k b more) = absurd (h f k b.change)
fills_same curves budget picks one two (change f k b more) (full h) = absurd (h f k b.change)
fills_same curves budget picks one two (change f k b more) (change g j d rest) =
    let e = one_best curves budget picks f k g j b d in
    fills_same curves budget (set picks f k) one two more
    (subst (λ z. Fills curves budget (set picks z k) two) (sym e.0) (subst (λ z. Fills curves budget (set picks g z) two) (sym e.1) rest))
