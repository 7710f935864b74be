-- The picks of what is known and those of the curves.
use Rattle.std.proofs.Common.{◌≡◌, ℕ, zero, suc, ◌<◌, List, [], ◌∷◌, length, set, slice_index, ap₂, arith}
use Rattle.hull.specs.declared.point.Point.{Point}
use Rattle.hull.specs.Curves.{point_at}
use Rattle.step_walk.specs.Prefix.{picked, vertex_at}

head_same : (x y : Point) (xs ys : List Point) → x ∷ xs ≡ y ∷ ys → x ≡ y
head_same x y xs ys e = cc

tail_same : (x y : Point) (xs ys : List Point) → x ∷ xs ≡ y ∷ ys → xs ≡ ys
tail_same x y xs ys e = cc

-- where all picks are the same, each is
pub same_at : (curves known : List (List Point)) (places picks : List ℕ) → length places ≡ length curves → length picks ≡ length known → length known ≡ length curves
    → picked curves places ≡ picked known picks → (f : ℕ) → f < length curves → vertex_at curves f (slice_index places f) ≡ vertex_at known f (slice_index picks f)
same_at [] known places picks n m l e f b = absurd (omega (arith, b))
same_at (c ∷ cs) [] places picks n m l e f b = absurd (omega (arith, l))
same_at (c ∷ cs) (p ∷ ps) [] picks n m l e f b = absurd (omega (arith, n))
same_at (c ∷ cs) (p ∷ ps) (j ∷ js) [] n m l e f b = absurd (omega (arith, m))
same_at (c ∷ cs) (p ∷ ps) (j ∷ js) (k ∷ ks) n m l e zero b = head_same (point_at c j) (point_at p k) (picked cs js) (picked ps ks) e
same_at (c ∷ cs) (p ∷ ps) (j ∷ js) (k ∷ ks) n m l e (suc f) b =
    same_at cs ps js ks (omega (arith, n)) (omega (arith, m)) (omega (arith, l)) (tail_same (point_at c j) (point_at p k) (picked cs js) (picked ps ks) e) f (omega (arith, b))

-- the same change of both leaves them the same
pub same_changed : (curves known : List (List Point)) (places picks : List ℕ) (f j k : ℕ) → length places ≡ length curves → length picks ≡ length known → length known ≡ length curves
    → f < length curves → picked curves places ≡ picked known picks → vertex_at curves f j ≡ vertex_at known f k → picked curves (set places f j) ≡ picked known (set picks f k)
same_changed [] known places picks f j k n m l b e at = absurd (omega (arith, b))
same_changed (c ∷ cs) [] places picks f j k n m l b e at = absurd (omega (arith, l))
same_changed (c ∷ cs) (p ∷ ps) [] picks f j k n m l b e at = absurd (omega (arith, n))
same_changed (c ∷ cs) (p ∷ ps) (i ∷ is) [] f j k n m l b e at = absurd (omega (arith, m))
same_changed (c ∷ cs) (p ∷ ps) (i ∷ is) (h ∷ hs) zero j k n m l b e at =
    let here : point_at c j ≡ point_at p k = at in
    ap₂ (λ (v : Point) (vs : List Point). v ∷ vs) here (tail_same (point_at c i) (point_at p h) (picked cs is) (picked ps hs) e)
same_changed (c ∷ cs) (p ∷ ps) (i ∷ is) (h ∷ hs) (suc f) j k n m l b e at =
    ap₂ (λ (v : Point) (vs : List Point). v ∷ vs) (head_same (point_at c i) (point_at p h) (picked cs is) (picked ps hs) e)
    (same_changed cs ps is hs f j k (omega (arith, n)) (omega (arith, m)) (omega (arith, l)) (omega (arith, b)) (tail_same (point_at c i) (point_at p h) (picked cs is) (picked ps hs) e) at)
