-- The meaning of a verdict on the last point of a chain. No promise of the crate rests on these words.
use Rattle.std.specs.Prelude.{◌≡◌, ℕ, ◌-◌, ◌<◌, ◌≤◌, ◌⊎◌, List, [], ◌∷◌, ◌++◌, length, take}
use Rattle.hull.specs.declared.point.Point.{Point}
use Rattle.hull.specs.declared.scan.Verdict.{Verdict}
use Rattle.hull.specs.declared.scan.Verdict.TheVariants.{Keep, Drop, Refuse}
use Rattle.hull.specs.declared.walk.Turn.{Turn}
use Rattle.hull.specs.declared.walk.Turn.TheVariants.{Left, Right, End}
use Rattle.hull.specs.Curves.{Among, IsVertexAt, StandFor, IsChain}

-- the verdict is right: the points with p are a chain, or their last or p can be dropped, and no vertex is lost
abbrev pub Tells : List Point → Point → Verdict → Type 0
Tells stack p Keep = IsChain (stack ++ p ∷ [])
Tells stack p Drop = (0 < length stack) × StandFor (stack ++ p ∷ []) (take (length stack - 1) stack ++ p ∷ [])
Tells stack p Refuse = (0 < length stack) × StandFor (stack ++ p ∷ []) stack

-- at no price are both v, in left, and a point of rest, in right, vertices
abbrev pub Blocks : List Point → Point → List Point → List Point → Type 0
Blocks left v right rest = (p q : ℕ) → IsVertexAt p q left v → (w : Point) → Among w rest → IsVertexAt p q right w → ⊥

-- the turn is right for the two chains
abbrev pub LeadsTo : List Point → List Point → Turn → Type 0
LeadsTo [] right t = ⊥
LeadsTo (v ∷ ls) [] t = ⊥
LeadsTo (v ∷ ls) (u ∷ rs) Left = (0 < length ls) × Blocks (v ∷ ls) v (u ∷ rs) rs
LeadsTo (v ∷ ls) (u ∷ rs) Right = (0 < length rs) × Blocks (u ∷ rs) u (v ∷ ls) ls
LeadsTo (v ∷ ls) (u ∷ rs) End = (length ls ≡ 0) × (length rs ≡ 0)

-- x costs no more than the first of a list, if there is one
abbrev pub IsNoDearer : {X : Type 0} → (X → ℕ) → X → List X → Type 0
IsNoDearer cost x [] = Unit {0}
IsNoDearer cost x (y ∷ ys) = cost x ≤ cost y

-- x is the first of one of two lists, and costs no more than the first of the other
abbrev pub TakesCheaper : {X : Type 0} → (X → ℕ) → X → List X → List X → List X → List X → Type 0
TakesCheaper cost x left right left_rest right_rest =
    ((left ≡ x ∷ left_rest) × (right ≡ right_rest) × IsNoDearer cost x right)
    ⊎ ((right ≡ x ∷ right_rest) × (left ≡ left_rest) × IsNoDearer cost x left)

-- the last of a list of points is p
abbrev pub IsLastOf : Point → List Point → Type 0
IsLastOf p points = (front : List Point) × (points ≡ front ++ p ∷ [])
