-- The families make up the parts: costs add up over them.
use Rattle.std.proofs.Common.{◌≡◌, ◌≢◌, ℕ, zero, suc, ◌+◌, ◌*◌, ◌<◌, ◌≤◌, Bool, true, false, cond, ◌&&◌, List, [], ◌∷◌, length, filter, sum_by, count_by, bytes_eq, Option, Some, None, is_none, IfSome, inl, inr, refl, sym, ap, ap₂, ◌∙◌, arith}
use Rattle.std.specs.List.{range_with_len}
use Rattle.std.proofs.lemmas.List.Sums.{sum_by-cons}
use Rattle.spares_input.specs.Cases.{CaseRows}
use Rattle.std.specs.Option.{option_map_or}
use Rattle.list_laws.proofs.Public.{first_or_later, same_sum_range, sum_each, sum_plus, sum_turned}
use Rattle.spares_input.specs.Frames.{is_shop_of, part_at}
use Rattle.spares_input.specs.Rows.{is_line}
use Rattle.fleet_model.specs.Rows.{all_parts, line_units, shop_units}
use Rattle.fleet_model.specs.Fleet.{part_cost, cost, family, family_cost}
use Rattle.fleet_model.specs.Aims.{part_cost_beyond, family_cost_beyond, cost_beyond}

-- one part alone has this name, and it is a line unit
pub record HasLine (c : CaseRows) (name : List ℕ) : Type 0 where
  pub line : ℕ
  pub is_part : line < length c.parts
  pub no_parent : (part_at c.parts line).parent ≡ None
  pub named : bytes_eq (part_at c.parts line).name name ≡ true
  pub alone : (p : ℕ) → p < length c.parts → bytes_eq (part_at c.parts p).name name ≡ true → p ≡ line

-- each shop unit's line unit is a part, and no other part has its name
pub record HasFamilies (c : CaseRows) : Type 0 where
  pub parent_of : (p : ℕ) → p < length c.parts → IfSome (part_at c.parts p).parent (λ name. HasLine c name)

-- g, where the test passes
abbrev where_true : Bool → ℕ → ℕ
where_true b n = cond b n 0

sum_filter_step : (b : Bool) (g : ℕ → ℕ) (x : ℕ) (xs : List ℕ) → sum_by g (cond b (x ∷ xs) xs) ≡ where_true b (g x) + sum_by g xs
sum_filter_step true g x xs = sum_by-cons g x xs
sum_filter_step false g x xs = omega arith

sum_filter : (t : ℕ → Bool) (g : ℕ → ℕ) (xs : List ℕ) → sum_by g (filter t xs) ≡ sum_by (λ x. where_true (t x) (g x)) xs
sum_filter t g [] = refl
sum_filter t g (x ∷ xs) =
    sum_filter_step (t x) g x (filter t xs)
    ∙ ap (λ z. where_true (t x) (g x) + z) (sum_filter t g xs)
    ∙ sym (sum_by-cons (λ y. where_true (t y) (g y)) x xs)

counted_step : (b : Bool) (n : ℕ) → where_true b n ≡ where_true b 1 * n
counted_step true n = omega arith
counted_step false n = omega arith

sum_counted : (t : ℕ → Bool) (n : ℕ) (xs : List ℕ) → sum_by (λ x. where_true (t x) n) xs ≡ count_by t xs * n
sum_counted t n [] = omega arith
sum_counted t n (x ∷ xs) = omega (arith, sum_by-cons (λ y. where_true (t y) n) x xs, ap (λ z. z * n) (sum_by-cons (λ y. where_true (t y) 1) x xs), counted_step (t x) n, sum_counted t n xs)

none_there : (t : ℕ → Bool) (n a : ℕ) → ((x : ℕ) → a ≤ x → x < a + n → t x ≡ false) → count_by t (range_with_len a n) ≡ 0
none_there t zero a h = refl
none_there t (suc n) a h =
    omega (
      arith,
      sum_by-cons (λ x. where_true (t x) 1) a (range_with_len (a + 1) n),
      ap (λ b. where_true b 1) (h a (omega arith) (omega arith)),
      none_there t n (a + 1) (λ x l m. h x (omega arith) (omega arith)),
    )

one_there : (t : ℕ → Bool) (n a i : ℕ) → a ≤ i → i < a + n → t i ≡ true
    → ((x : ℕ) → x < a + n → x ≢ i → t x ≡ false) → count_by t (range_with_len a n) ≡ 1
one_there t zero a i h l e others = absurd (omega arith)
one_there t (suc n) a i h l e others = elim (first_or_later a i h) [
  | inl here ↦
      omega (
        arith,
        sum_by-cons (λ x. where_true (t x) 1) a (range_with_len (a + 1) n),
        ap (λ b. where_true b 1) (ap t (sym here) ∙ e),
        none_there t n (a + 1) (λ x m k. others x (omega arith) (λ q. omega (arith, q, here))),
      )
  | inr later ↦
      omega (
        arith,
        sum_by-cons (λ x. where_true (t x) 1) a (range_with_len (a + 1) n),
        ap (λ b. where_true b 1) (others a (omega arith) (λ q. omega (arith, q))),
        one_there t n (a + 1) i later (omega arith) e (λ x k ne. others x (omega arith) ne),
      )
]

-- ---- families

abbrev is_line_at : CaseRows → ℕ → Bool
is_line_at c p = is_line (part_at c.parts p)

abbrev is_shop_at : CaseRows → ℕ → ℕ → Bool
is_shop_at c p l = is_shop_of (part_at c.parts l) (part_at c.parts p)

both_step : (a b : Bool) → where_true a (where_true b 1) ≡ where_true (a && b) 1
both_step true b = refl
both_step false b = refl

count_lines : (c : CaseRows) (t : ℕ → Bool) → count_by t (line_units c) ≡ count_by (λ l. is_line_at c l && t l) (all_parts c)
count_lines c t = sum_filter (is_line_at c) (λ l. where_true (t l) 1) (all_parts c) ∙ sum_each _ _ (all_parts c) (λ l. both_step (is_line_at c l) (t l))

and_false : (a : Bool) → a && false ≡ false
and_false true = refl
and_false false = refl

is_line_none : (o : Option (List ℕ)) → o ≡ None → is_none o ≡ true
is_line_none None h = refl
is_line_none (Some x) h = ap (λ o. is_none o) h

other_name : (b : Bool) (a : Bool) (p i : ℕ) → (b ≡ true → p ≡ i) → p ≢ i → a && b ≡ false
other_name true a p i h n = absurd (n (h refl))
other_name false a p i h n = and_false a

-- how often a part stands in a family
once : (c : CaseRows) (p : ℕ) (parent : Option (List ℕ)) → IfSome parent (λ name. HasLine c name)
    → where_true (is_none parent) 1 + count_by (λ l. option_map_or (bytes_eq (part_at c.parts l).name) parent false) (line_units c) ≡ 1
once c p None h =
    let e = count_lines c (λ l. false) in
    omega (arith, e, none_there (λ l. is_line_at c l && false) (length c.parts) 0 (λ x a b. and_false (is_line_at c x)))
once c p (Some name) h =
    let e = count_lines c (λ l. bytes_eq (part_at c.parts l).name name) in
    omega (
      arith,
      e,
      one_there (λ l. is_line_at c l && bytes_eq (part_at c.parts l).name name) (length c.parts) 0 h.line (omega arith) (omega (arith, h.is_part))
          (ap₂ (λ a b. a && b) (is_line_none (part_at c.parts h.line).parent h.no_parent) h.named)
          (λ x l ne. other_name (bytes_eq (part_at c.parts x).name name) (is_line_at c x) x h.line (λ q. h.alone x (omega arith) q) ne),
    )

-- the sum over the parts is the sum over the families
sum_families : (c : CaseRows) (g : ℕ → ℕ) → HasFamilies c → sum_by (λ l. sum_by g (family c l)) (line_units c) ≡ sum_by g (all_parts c)
sum_families c g h =
    sum_each _ _ (line_units c) (λ l. sum_by-cons g l (shop_units c l) ∙ ap (λ z. g l + z) (sum_filter (λ p. is_shop_at c p l) g (all_parts c)))
    ∙ sum_plus g (λ l. sum_by (λ p. where_true (is_shop_at c p l) (g p)) (all_parts c)) (line_units c)
    ∙ ap₂ (λ a b. a + b) (sum_filter (is_line_at c) g (all_parts c))
    (sum_turned (λ l p. where_true (is_shop_at c p l) (g p)) (line_units c) (all_parts c)
    ∙ sum_each _ _ (all_parts c) (λ p. sum_counted (is_shop_at c p) (g p) (line_units c)))
    ∙ sym (sum_plus (λ p. where_true (is_line_at c p) (g p)) (λ p. count_by (is_shop_at c p) (line_units c) * g p) (all_parts c))
    ∙ same_sum_range _ g (length c.parts) 0 (λ p l.
    in_one (is_line_at c p) (count_by (is_shop_at c p) (line_units c)) (g p) (once c p (part_at c.parts p).parent (h.parent_of p (omega (arith, l)))))
  where
    in_one : (b : Bool) (n g : ℕ) → where_true b 1 + n ≡ 1 → where_true b g + n * g ≡ g
    in_one b n g h = omega (arith, counted_step b g, ap (λ z. z * g) h)

-- the costs of the families add up to the cost of the stocks
pub cost_families : (c : CaseRows) (s : List ℕ) → HasFamilies c → sum_by (family_cost c s) (line_units c) ≡ cost c s
cost_families c s h = sum_families c (part_cost c s) h

-- the families' costs beyond what is held add up to the cost beyond it
pub cost_beyond_families : (c : CaseRows) (held s : List ℕ) → HasFamilies c → sum_by (family_cost_beyond c held s) (line_units c) ≡ cost_beyond c held s
cost_beyond_families c held s h = sum_families c (part_cost_beyond c held s) h
