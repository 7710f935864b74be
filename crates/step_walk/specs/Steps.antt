-- The next steps of the families, and their order. No promise of the crate rests on these words.
use Rattle.std.specs.Prelude.{◌≡◌, ℕ, ◌+◌, ◌-◌, ◌*◌, ◌<◌, ◌≤◌, Option, Some, None, List, [], ◌∷◌, slice_index}
use Rattle.std.specs.declared.cmp.Ordering.{Ordering}
use Rattle.std.specs.Ordering.{nat_cmp, on, flip_args, then_cmp}
use Rattle.std.specs.List.{AllByRecursion}
use Rattle.hull.specs.declared.point.Point.{Point}
use Rattle.step_walk.specs.declared.step.Step.{Step}
use Rattle.step_walk.specs.Prefix.{HasStep, fall, rise}

-- the order of slopes, by cross products
abbrev pub slope_cmp : Step → Step → Ordering
slope_cmp x y = nat_cmp (x.price.p * y.price.q) (y.price.p * x.price.q)

-- by slope, and of equal slopes the first family is the greatest
abbrev pub step_cmp : Step → Step → Ordering
step_cmp = then_cmp slope_cmp (flip_args (on (λ s. s.family) nat_cmp))

-- s is the step from place k of family f
pub record TellsStep (curves : List (List Point)) (f k : ℕ) (s : Step) : Type 0 where
  pub step : HasStep curves f k
  pub family : s.family ≡ f
  pub p : s.price.p ≡ fall curves f k
  pub q : s.price.q ≡ rise curves f k

-- the step from place k of family f, if there is one
abbrev pub TellsNext : List (List Point) → ℕ → ℕ → Option Step → Type 0
TellsNext curves f k None = HasStep curves f k → ⊥
TellsNext curves f k (Some s) = TellsStep curves f k s

-- 1 if f is g, otherwise 0
abbrev pub is_of : ℕ → ℕ → ℕ
is_of g f = 1 - ((f - g) + (g - f))

-- the number of the steps that are of family g
abbrev pub count_of : ℕ → List Step → ℕ
count_of g [] = 0
count_of g (s ∷ steps) = is_of g s.family + count_of g steps

-- the step is the next of its family
pub record IsNextOfOwn (curves : List (List Point)) (picks : List ℕ) (n : ℕ) (s : Step) : Type 0 where
  pub below : s.family < n
  pub told : TellsStep curves s.family (slice_index picks s.family) s

-- the steps are the next steps of the families below n that have one, each once
pub record HoldsNext (curves : List (List Point)) (picks : List ℕ) (n : ℕ) (steps : List Step) : Type 0 where
  pub own : AllByRecursion (IsNextOfOwn curves picks n) steps
  pub once : (g : ℕ) → count_of g steps ≤ 1
  pub waits : (g : ℕ) → g < n → HasStep curves g (slice_index picks g) → 0 < count_of g steps
