-- What stands between two places of a shape is one.
use Rattle.std.proofs.Common.{◌≡◌, ℕ, zero, suc, ◌+◌, ◌-◌, ◌<◌, ◌≤◌, List, [], ◌∷◌, drop, length, map, take, sym, ap, ◌∙◌, subst, arith}
use Rattle.std.proofs.lemmas.List.{drop-map, take-map, drop-take, take-append-drop}
use Rattle.hull.specs.declared.point.Point.{Point}
use Rattle.hull.specs.Curves.{Among, IsChain, IsShape}
use Rattle.hull.proofs.Stand.{among_left, among_right}
use Rattle.hull.proofs.StepsOf.{chain_prefix}
use Rattle.hull.proofs.Joined.{chain_suffix}

stretch_few : (m : ℕ) (xs : List Point) → length (take m xs) ≤ length xs
stretch_few zero xs = omega arith
stretch_few (suc m) [] = omega arith
stretch_few (suc m) (x ∷ xs) = omega (arith, stretch_few m xs)

rest_few : (n m : ℕ) (xs : List Point) → length (take m (drop n xs)) ≤ length xs
rest_few zero m xs = stretch_few m xs
rest_few (suc n) m [] = stretch_few m []
rest_few (suc n) m (x ∷ xs) = omega (arith, rest_few n m xs)

rest_some : (n m : ℕ) (xs : List Point) → 0 < m → n < length xs → 0 < length (take m (drop n xs))
rest_some n zero xs h k = absurd (omega (arith, h))
rest_some zero (suc m) [] h k = absurd (omega (arith, k))
rest_some zero (suc m) (x ∷ xs) h k = omega arith
rest_some (suc n) (suc m) [] h k = absurd (omega (arith, k))
rest_some (suc n) (suc m) (x ∷ xs) h k = rest_some n (suc m) xs h (omega (arith, k))

-- what stands between two places of a shape is one
pub kept_shape : (n m : ℕ) (xs : List Point) → 0 < m → n < length xs → IsShape xs → IsShape (take m (drop n xs))
kept_shape n m xs h k s = record {
  some = rest_some n m xs h k;
  few = (let l = rest_few n m xs in let f = s.few in omega (arith, l, f));
  chain = chain_prefix (take m (drop n xs)) (drop m (drop n xs)) (subst IsChain (sym (take-append-drop m (drop n xs)))
      (chain_suffix (take n xs) (drop n xs) (subst IsChain (sym (take-append-drop n xs)) s.chain)));
  ranges = λ v i. s.ranges v (inside v i);
  widths = λ v w i j. s.widths v w (inside v i) (inside w j);
}
  where
    inside : (v : Point) → Among v (take m (drop n xs)) → Among v xs
    inside v i = subst (Among v) (take-append-drop n xs) (among_right v (take n xs) (drop n xs)
        (subst (Among v) (take-append-drop m (drop n xs)) (among_left v (take m (drop n xs)) (drop m (drop n xs)) i)))

-- what is left of a list that is cut at its end, and then at its begin
pub left_of : {X : Type 0} (f : X → Point) (old short new : List X) (from to : ℕ) → from ≤ to → short ≡ take to old → new ≡ drop from short → map f new ≡ take (to - from) (drop from (map f old))
left_of f old short new from to h a b =
    let e : to ≡ from + (to - from) = omega (arith, h) in
    ap (map f) (b ∙ ap (drop from) (a ∙ ap (λ n. take n old) e) ∙ drop-take from (to - from) old)
    ∙ sym (take-map f (to - from) (drop from old)) ∙ ap (take (to - from)) (sym (drop-map f from old))

-- the same of points
pub left_of_points : (old short new : List Point) (from to : ℕ) → from ≤ to → short ≡ take to old → new ≡ drop from short → new ≡ take (to - from) (drop from old)
left_of_points old short new from to h a b =
    let e : to ≡ from + (to - from) = omega (arith, h) in
    b ∙ ap (drop from) (a ∙ ap (λ n. take n old) e) ∙ drop-take from (to - from) old
