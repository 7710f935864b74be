-- Three fields that stand one after another.
use Rattle.std.proofs.Common.{◌≡◌, List, Bool, Ok, refl}
use Rattle.line_text.specs.Formats.{Token, Format, and_then, as_shape}

-- where each of three formats is read after the one before, so are they together
pub three_read : {A B C D : Type 0} (f : Format A) (g : Format B) (h : Format C) (to : A × (B × C) → D) (from : D → A × (B × C)) (fits : D → Bool) (ts t u left : List Token) (a : A) (b : B) (c : C)
    → f.read ts ≡ Ok (a, t) → g.read t ≡ Ok (b, u) → h.read u ≡ Ok (c, left)
    → (as_shape (and_then f (λ _. and_then g (λ _. h))) to from fits).read ts ≡ Ok (to (a, (b, c)), left)
three_read f g h to from fits ts t u left a b c p q r = rw (p, q, r) refl
