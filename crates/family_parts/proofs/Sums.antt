-- The sums of a first point and of the parts that are read.
use Rattle.std.proofs.Common.{◌≡◌, ℕ, List, [], ◌∷◌, sym, subst}
use Rattle.hull.specs.declared.point.Point.{Point}
use Rattle.hull.specs.declared.price.Price.{Price}
use Rattle.sum_walk.specs.Sums.{sums_of_each}
use Rattle.curve_parts.specs.Parts.{StandForBetween}
use Rattle.curve_parts.specs.Beyond.{LieBeyond}

-- they stand for the points for which those of the same point and parts stand
pub standing : (low high : Price) (points : List Point) (first made : Point) (parts read : List (List Point)) → made ≡ first → read ≡ parts
    → StandForBetween low high points (sums_of_each (first ∷ []) parts) → StandForBetween low high points (sums_of_each (made ∷ []) read)
standing low high points first made parts read e f h =
    subst (λ (p : Point). StandForBetween low high points (sums_of_each (p ∷ []) read)) (sym e)
    (subst (λ (ls : List (List Point)). StandForBetween low high points (sums_of_each (first ∷ []) ls)) (sym f) h)

-- and those that are behind lie as high
pub standing_beyond : (low : Price) (points : List Point) (first made : Point) (parts read : List (List Point)) (beyond : ℕ) → made ≡ first → read ≡ parts
    → LieBeyond low points (sums_of_each (first ∷ []) parts) beyond → LieBeyond low points (sums_of_each (made ∷ []) read) beyond
standing_beyond low points first made parts read beyond e f h =
    subst (λ (p : Point). LieBeyond low points (sums_of_each (p ∷ []) read) beyond) (sym e)
    (subst (λ (ls : List (List Point)). LieBeyond low points (sums_of_each (first ∷ []) ls) beyond) (sym f) h)
