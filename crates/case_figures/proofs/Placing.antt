-- Values that are put at their places: what a place holds afterwards.
use Rattle.std.proofs.Common.{◌≡◌, ◌≢◌, ℕ, zero, suc, ◌+◌, ◌<◌, ◌≤◌, Bool, true, false, cond, List, [], ◌∷◌, ◌++◌, length, get_or, filter, map, inl, inr, refl, sym, ap, ◌∙◌, subst, arith}
use Rattle.std.specs.Prelude.{slice_set, flat_map}
use Rattle.std.specs.List.{fold, range_with_len}
use Rattle.std.proofs.lemmas.Bool.{cases_order}
use Rattle.std.proofs.lemmas.Grind.{fold-append}
use Rattle.std.proofs.lemmas.List.{get_or-set_same, get_or-set_other, length-set}
use Rattle.list_laws.proofs.Public.{first_or_later}

module _ {A : Type 0} (place : A → ℕ) (value : ℕ → A) (count : ℕ) (d : A) where
  abbrev pub put : List A → A → List A
  put ys x = slice_set ys (place x) x

  -- x is the value of its place
  pub record IsAt (x : A) : Type 0 where
    pub is : x ≡ value (place x)
    pub within : place x < count

  -- a place that holds its value holds it after these are put
  pub record Keeps (xs : List A) : Type 0 where
    pub length_is : (ys : List A) → length (fold put ys xs) ≡ length ys
    pub keeps : (ys : List A) (i : ℕ) → length ys ≡ count → get_or ys i d ≡ value i → get_or (fold put ys xs) i d ≡ value i

  -- the place i holds its value after these are put
  pub record Fills (i : ℕ) (xs : List A) : Type 0 where
    pub fills : (ys : List A) → length ys ≡ count → get_or (fold put ys xs) i d ≡ value i

  put_there : (ys : List A) (x : A) (i : ℕ) → IsAt x → length ys ≡ count → i ≡ place x → get_or (put ys x) i d ≡ value i
  put_there ys x i h l e =
      subst (λ j. get_or (put ys x) j d ≡ value j) (sym e) (get_or-set_same ys (place x) x d (omega (arith, h.within, l)) ∙ h.is)

  put_elsewhere : (ys : List A) (x : A) (i : ℕ) → i ≢ place x → get_or ys i d ≡ value i → get_or (put ys x) i d ≡ value i
  put_elsewhere ys x i n e = get_or-set_other ys (place x) i x d n ∙ e

  put_keeps : (ys : List A) (x : A) (i : ℕ) → IsAt x → length ys ≡ count → get_or ys i d ≡ value i → get_or (put ys x) i d ≡ value i
  put_keeps ys x i h l e = elim (cases_order i (place x)) [
    | inl q ↦ put_there ys x i h l q
    | inr (inl q) ↦ put_elsewhere ys x i (λ z. omega (arith, q, z)) e
    | inr (inr q) ↦ put_elsewhere ys x i (λ z. omega (arith, q, z)) e
  ]

  pub keeps_none : Keeps []
  keeps_none = record { length_is = λ ys. refl; keeps = λ ys i l e. e }

  pub keeps_more : (x : A) (xs : List A) → IsAt x → Keeps xs → Keeps (x ∷ xs)
  keeps_more x xs h k = record {
    length_is = λ ys. k.length_is (put ys x) ∙ length-set ys (place x) x;
    keeps = λ ys i l e. k.keeps (put ys x) i (length-set ys (place x) x ∙ l) (put_keeps ys x i h l e);
  }

  -- where each of two lists keeps what places hold, both together keep it
  pub keeps_both : (xs ys : List A) → Keeps xs → Keeps ys → Keeps (xs ++ ys)
  keeps_both xs ys k m = record {
    length_is = λ zs. ap length (fold-append put zs xs ys) ∙ m.length_is (fold put zs xs) ∙ k.length_is zs;
    keeps = λ zs i l e.
        ap (λ (v : List A). get_or v i d) (fold-append put zs xs ys)
        ∙ m.keeps (fold put zs xs) i (k.length_is zs ∙ l) (k.keeps zs i l e);
  }

  -- a place filled by the first of two lists is filled by both together
  pub fills_first : (i : ℕ) (xs ys : List A) → Fills i xs → Keeps xs → Keeps ys → Fills i (xs ++ ys)
  fills_first i xs ys f k m = record {
    fills = λ zs l. ap (λ (v : List A). get_or v i d) (fold-append put zs xs ys) ∙ m.keeps (fold put zs xs) i (k.length_is zs ∙ l) (f.fills zs l);
  }

  -- a place filled by the second of two lists is filled by both together
  pub fills_later : (i : ℕ) (xs ys : List A) → Keeps xs → Fills i ys → Fills i (xs ++ ys)
  fills_later i xs ys k f = record {
    fills = λ zs l. ap (λ (v : List A). get_or v i d) (fold-append put zs xs ys) ∙ f.fills (fold put zs xs) (k.length_is zs ∙ l);
  }

  fills_here : (i : ℕ) (x : A) (xs : List A) → IsAt x → i ≡ place x → Keeps xs → Fills i (x ∷ xs)
  fills_here i x xs h e k = record { fills = λ zs l. k.keeps (put zs x) i (length-set zs (place x) x ∙ l) (put_there zs x i h l e) }

  fills_behind : (i : ℕ) (x : A) (xs : List A) → Fills i xs → Fills i (x ∷ xs)
  fills_behind i x xs f = record { fills = λ zs l. f.fills (put zs x) (length-set zs (place x) x ∙ l) }

  -- ---- values for each number of a range

  -- a list of values, each that of its place, keeps what places hold
  pub keeps_map : (h : ℕ → A) (n a : ℕ) → ((k : ℕ) → k < a + n → IsAt (h k)) → Keeps (map h (range_with_len a n))
  keeps_map h zero a t = keeps_none
  keeps_map h (suc n) a t =
      keeps_more (h a) (map h (range_with_len (a + 1) n)) (t a (omega arith)) (keeps_map h n (a + 1) (λ k l. t k (omega arith)))

  -- a list of values, each that of its place, fills the place of each
  pub fills_map : (h : ℕ → A) (n a k : ℕ) → ((j : ℕ) → j < a + n → IsAt (h j)) → a ≤ k → k < a + n
      → Fills (place (h k)) (map h (range_with_len a n))
  fills_map h zero a k t l m = absurd (omega arith)
  fills_map h (suc n) a k t l m = elim (first_or_later a k l) [
    | inl e ↦ fills_here (place (h k)) (h a) (map h (range_with_len (a + 1) n)) (t a (omega arith)) (ap (λ (j : ℕ). place (h j)) e)
        (keeps_map h n (a + 1) (λ j q. t j (omega arith)))
    | inr q ↦ fills_behind (place (h k)) (h a) (map h (range_with_len (a + 1) n)) (fills_map h n (a + 1) k (λ j r. t j (omega arith)) q (omega arith))
  ]

  -- ---- lists for each number of a range that passes a test

  keeps_tested : (f : ℕ → List A) (b : Bool) (a : ℕ) (rest : List ℕ) → (b ≡ true → Keeps (f a)) → Keeps (flat_map f rest)
      → Keeps (flat_map f (cond b (a ∷ rest) rest))
  keeps_tested f true a rest k m = keeps_both (f a) (flat_map f rest) (k refl) m
  keeps_tested f false a rest k m = m

  -- lists that keep what places hold, one for each number of a range that passes a test, keep it together
  pub keeps_each : (f : ℕ → List A) (t : ℕ → Bool) (n a : ℕ) → ((l : ℕ) → l < a + n → t l ≡ true → Keeps (f l))
      → Keeps (flat_map f (filter t (range_with_len a n)))
  keeps_each f t zero a k = keeps_none
  keeps_each f t (suc n) a k =
      keeps_tested f (t a) a (filter t (range_with_len (a + 1) n)) (k a (omega arith)) (keeps_each f t n (a + 1) (λ l q e. k l (omega arith) e))

  fills_tested_first : (i : ℕ) (f : ℕ → List A) (b : Bool) (a : ℕ) (rest : List ℕ) → b ≡ true → Fills i (f a) → Keeps (f a) → Keeps (flat_map f rest)
      → Fills i (flat_map f (cond b (a ∷ rest) rest))
  fills_tested_first i f true a rest e g k m = fills_first i (f a) (flat_map f rest) g k m
  fills_tested_first i f false a rest e g k m = absurd cc

  fills_tested_later : (i : ℕ) (f : ℕ → List A) (b : Bool) (a : ℕ) (rest : List ℕ) → (b ≡ true → Keeps (f a)) → Fills i (flat_map f rest)
      → Fills i (flat_map f (cond b (a ∷ rest) rest))
  fills_tested_later i f true a rest k g = fills_later i (f a) (flat_map f rest) (k refl) g
  fills_tested_later i f false a rest k g = g

  -- a place that one of these lists fills is filled by all of them together
  pub fills_each : (i : ℕ) (f : ℕ → List A) (t : ℕ → Bool) (n a l : ℕ) → ((j : ℕ) → j < a + n → t j ≡ true → Keeps (f j))
      → a ≤ l → l < a + n → t l ≡ true → Fills i (f l) → Fills i (flat_map f (filter t (range_with_len a n)))
  fills_each i f t zero a l k p q e g = absurd (omega arith)
  fills_each i f t (suc n) a l k p q e g = elim (first_or_later a l p) [
    | inl here ↦ fills_tested_first i f (t a) a (filter t (range_with_len (a + 1) n)) (ap t (sym here) ∙ e) (subst (λ j. Fills i (f j)) here g)
        (k a (omega arith) (ap t (sym here) ∙ e)) (keeps_each f t n (a + 1) (λ j r z. k j (omega arith) z))
    | inr later ↦ fills_tested_later i f (t a) a (filter t (range_with_len (a + 1) n)) (k a (omega arith))
        (fills_each i f t n (a + 1) l (λ j r z. k j (omega arith) z) later (omega arith) e g)
  ]
