use Rattle.std.proofs.Common.{◌≡◌, ℕ, ◌<◌, ◌⊎◌, inl, inr, List, [], ◌∷◌, refl, sym, ◌∙◌, subst, IsTrue, Bool, true, false, cond, eqb, arith}
use Rattle.std.specs.Ordering.{nat_cmp, is_le}
use Rattle.std.specs.declared.cmp.Ordering.{Ordering}
use Rattle.std.specs.Cmp.Lexicographic.{slice_cmp}
use Rattle.std.proofs.lemmas.Cmp.{same_from_slice_cmp}
use Rattle.std.proofs.Math.Dec.{ltb}
use Rattle.std.proofs.lemmas.Bool.Decides.{nat_tests}
use Rattle.hull.specs.Curves.{IsFirstOf}
use Rattle.hull.proofs.spot.is_first.Goals as goal

abbrev upto : List ℕ → List ℕ → Bool
upto [] ys = true
upto (x ∷ xs) [] = false
upto (x ∷ xs) (y ∷ ys) = cond (eqb x y) (upto xs ys) (ltb x y)

is_upto : (xs ys : List ℕ) (o : Ordering) → o ≡ slice_cmp nat_cmp xs ys → is_le o ≡ upto xs ys
is_upto = same_from_slice_cmp nat_cmp is_le upto refl (λ _ _. refl) (λ _ _. refl) (λ x y xs ys o h. grind (arith, nat_tests))

split_true : (x y : ℕ) (b : Bool) → IsTrue (cond (eqb x y) b (ltb x y)) → (x < y) ⊎ ((x ≡ y) × IsTrue b)
split_true x y b h = grind (arith, nat_tests)

join_less : (x y : ℕ) (b : Bool) → x < y → IsTrue (cond (eqb x y) b (ltb x y))
join_less x y b h = grind (arith, nat_tests)

join_same : (x y : ℕ) (b : Bool) → x ≡ y → IsTrue b → IsTrue (cond (eqb x y) b (ltb x y))
join_same x y b e h = grind (arith, nat_tests)

first_by : (xs ys : List ℕ) → IsTrue (upto xs ys) → IsFirstOf xs ys
first_by [] ys h = tt
first_by (x ∷ xs) [] h = grind arith
first_by (x ∷ xs) (y ∷ ys) h = elim (split_true x y (upto xs ys) h) [ inl a ↦ inl a | inr b ↦ inr (b.0, first_by xs ys b.1) ]

by_first : (xs ys : List ℕ) → IsFirstOf xs ys → IsTrue (upto xs ys)
by_first [] ys h = grind arith
by_first (x ∷ xs) [] h = absurd h
by_first (x ∷ xs) (y ∷ ys) h = elim h [ inl a ↦ join_less x y (upto xs ys) a | inr b ↦ join_same x y (upto xs ys) b.0 (by_first xs ys b.1) ]

pub returns : goal.returns
returns c =
    let e : is_le c.cmp.result ≡ upto c.args.a.now c.args.b.now = is_upto c.args.a.now c.args.b.now c.cmp.result c.cmp.ensures in
    let r : c.is_le.result ≡ upto c.args.a.now c.args.b.now = c.is_le.ensures ∙ e in
    (λ h. first_by c.args.a.now c.args.b.now (subst IsTrue r h), λ h. subst IsTrue (sym r) (by_first c.args.a.now c.args.b.now h))
