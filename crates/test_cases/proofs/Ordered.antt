-- Lists whose elements are in order place by place.
use Rattle.std.proofs.Common.{◌≡◌, ℕ, suc, ◌<◌, ◌≤◌, List, [], ◌∷◌, length, get_or, arith}
use Rattle.std.specs.List.{AllZip}

-- where each entry is at most the one at its place in a list of the same length, the lists are so entry by entry
pub zip_from : (xs ys : List ℕ) → length xs ≡ length ys → ((k : ℕ) → k < length xs → get_or xs k 0 ≤ get_or ys k 0) → AllZip (λ x y. x ≤ y) xs ys
zip_from [] [] e h = tt
zip_from [] (y ∷ ys) e h = absurd (omega (arith, e))
zip_from (x ∷ xs) [] e h = absurd (omega (arith, e))
zip_from (x ∷ xs) (y ∷ ys) e h = (h 0 (omega arith), zip_from xs ys (omega (arith, e)) (λ k l. h (suc k) (omega (arith, l))))
