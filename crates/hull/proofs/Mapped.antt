-- Lists of what stands for points.
use Rattle.std.proofs.Common.{◌≡◌, ℕ, zero, suc, ◌+◌, ◌<◌, ◌≤◌, inl, inr, List, [], ◌∷◌, ◌++◌, map, length, get_or, sym, ap, ◌∙◌, subst, arith}
use Rattle.std.proofs.lemmas.List.{length-map, map-append}
use Rattle.std.specs.List.Sorted.{IsNonDecreasingBy}
use Rattle.hull.specs.declared.point.Point.{Point}
use Rattle.hull.specs.Curves.{Among, IsChain}
use Rattle.hull.proofs.Runs.{CostsRise, StepRead, step_read}

-- the last of a list
pub last_mapped : {X : Type 0} (f : X → Point) (xs rest : List X) (t : X) → xs ≡ rest ++ t ∷ [] → map f xs ≡ map f rest ++ f t ∷ []
last_mapped f xs rest t e = ap (map f) e ∙ map-append f rest (t ∷ [])

-- a point that stands in a list of points, and what stands for it
pub record Origin {X : Type 0} (f : X → Point) (xs : List X) (w : Point) : Type 0 where
  pub at : ℕ
  pub below : at < length xs
  pub is : (d : X) → f (get_or xs at d) ≡ w

-- a point among those that a list stands for has a place in the list
pub origin_of : {X : Type 0} (f : X → Point) (xs : List X) (w : Point) → Among w (map f xs) → Origin f xs w
origin_of f [] w m = absurd m
origin_of f (x ∷ xs) w m = elim m [
  | inl e ↦ record { at = zero; below = omega arith; is = λ d. sym e }
  | inr n ↦ (let r : Origin f xs w = origin_of f xs w n in record { at = suc r.at; below = (let b = r.below in omega arith); is = r.is })
]

mapped_head : {X : Type 0} (f : X → Point) (x : X) (xs : List X) → IsNonDecreasingBy (λ v. (f v).cost) (x ∷ xs) → (w : Point) → Among w (map f xs) → (f x).cost ≤ w.cost
mapped_head f x xs h w m =
    let r : Origin f xs w = origin_of f xs w m in
    subst (λ y. (f x).cost ≤ y.cost) (r.is x) (h zero (suc r.at) x (omega arith) (let b = r.below in omega arith))

-- things in order of their points' costs have points in order of cost
pub mapped_rise : {X : Type 0} (f : X → Point) (xs : List X) → IsNonDecreasingBy (λ v. (f v).cost) xs → CostsRise (map f xs)
mapped_rise f [] h = tt
mapped_rise f (x ∷ xs) h = (mapped_head f x xs h, mapped_rise f xs (λ i j d a b. h (suc i) (suc j) d (omega arith) (omega arith)))

-- what is read of a list stands for what stands at that place
pub mapped_at : {X : Type 0} (f : X → Point) (xs : List X) (k : ℕ) (x : X) (d : Point) → k < length xs → x ≡ get_or xs k x → f x ≡ get_or (map f xs) k d
mapped_at f [] k x d h e = absurd (let l : k < 0 = h in omega arith)
mapped_at f (y ∷ xs) zero x d h e = ap f e
mapped_at f (y ∷ xs) (suc k) x d h e = mapped_at f xs k x d (omega arith) e

-- what stands at two places next to each other is a step of the chain of points
pub mapped_step : {X : Type 0} (f : X → Point) (xs : List X) (now : List Point) (k : ℕ) (s e : X) → IsChain (map f xs) → map f xs ≡ now → k + 1 < length now → s ≡ get_or xs k s → e ≡ get_or xs (k + 1) e → StepRead now k (f s) (f e)
mapped_step f xs now k s e chain view below s_is e_is =
    let n : length xs ≡ length now = sym (length-map xs f) ∙ ap length view in
    step_read (map f xs) now k (f s) (f e) chain view below (mapped_at f xs k s (f s) (omega arith) s_is) (mapped_at f xs (k + 1) e (f e) (omega arith) e_is)
