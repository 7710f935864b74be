-- Lists of what a function gives for the parts so far.
use Rattle.std.proofs.Common.{◌≡◌, ◌+◌, ◌<◌, ℕ, List, [], ◌∷◌, ◌++◌, length, get_or, map, take, sym, ap, ap₂, ◌∙◌, add-one}
use Rattle.std.proofs.lemmas.List.{append_assoc, map-append}
use Rattle.std.proofs.Math.Seq.{take-suc}
use Rattle.spares_input.specs.declared.rows.PartId.{PartId}

-- a list that has f of the first i ids behind older entries has that of the next id too, with its number put behind
pub mapped_on : (f : PartId → ℕ) (ids : List PartId) (i : ℕ) (d : PartId) (old xs ys : List ℕ) (n : ℕ) → i < length ids → xs ≡ old ++ map f (take i ids) → ys ≡ xs ++ n ∷ [] → n ≡ f (get_or ids i d)
    → ys ≡ old ++ map f (take (i + 1) ids)
mapped_on f ids i d old xs ys n m h e g =
    e ∙ ap₂ (λ (zs : List ℕ) (z : ℕ). zs ++ z ∷ []) h g ∙ append_assoc old (map f (take i ids)) (f (get_or ids i d) ∷ [])
    ∙ ap (λ (zs : List ℕ). old ++ zs) (sym (map-append f (take i ids) (get_or ids i d ∷ [])))
    ∙ ap (λ (zs : List PartId). old ++ map f zs) (sym (take-suc ids i d m))
    ∙ ap (λ k. old ++ map f (take k ids)) (sym (add-one i))
