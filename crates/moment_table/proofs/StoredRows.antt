-- The rows that a table stores, as they are made and as they are read.
use Rattle.std.proofs.Common.{◌≡◌, ℕ, ◌+◌, ◌*◌, ◌<◌, ◌≤◌, ◌^◌, ◌==◌, nat_lt, min, max, cond, List, [], ◌∷◌, ◌++◌, length, sym, ap, ◌∙◌, arith, subst, inl, inr}
use Rattle.std.proofs.lemmas.Bool.{cond-true, cond-false, cond_both, lt-ltb, le-ltb, cases_lt}
use Rattle.std.proofs.Math.Nat.{max-le}
use Rattle.fixed_interval.specs.Ends.{Ends, IsWithinLimit}
use Rattle.fixed_interval.proofs.Public.{unit_most}
use Rattle.series_bounds.specs.Profile.{listed}
use Rattle.series_bounds.specs.Answer.{at_place}
use Rattle.series_bounds.proofs.Public.{listed_same, listed_at, length_listed}
use Rattle.moment_table.specs.declared.kinds.Row.{Row}
use Rattle.moment_table.specs.declared.stored.StoredRow.{StoredRow}
use Rattle.moment_table.specs.declared.stored.Rows.{Rows}
use Rattle.moment_table.specs.Stored.{HasRows, IsStored, IsShort, bare_row, stored_row, stored_at}
use Rattle.moment_table.specs.Inputs.{CanTable}
use Rattle.moment_table.specs.Profile.{wide_row, empty_row, table_rows}
use Rattle.moment_table.specs.Rows.{at_stock}
use Rattle.moment_table.proofs.Steps.{listed_none, listed_next}

-- ---- as they are made

-- where nothing is stored, there are the first 0 rows
pub rows_none : (f : ℕ) (u : ℕ → Row f) (tails : ℕ) (rows : Rows f) → rows.stored.items ≡ [] → rows.tails.items ≡ [] → HasRows f u 0 tails rows
rows_none f u tails rows h k = record {
  stored = listed_none (λ k. stored_row (u k)) rows.stored.items h;
  tails = listed_none (λ k. (u k).tail) rows.tails.items k ∙ ap (listed (λ k. (u k).tail)) (omega arith);
}

tails_next : {X : Type 0} (u : ℕ → X) (s tails : ℕ) (xs ys : List X) (x : X) → xs ≡ listed u (min s tails) → x ≡ u s
    → ys ≡ cond (nat_lt s tails) (xs ++ x ∷ []) xs → ys ≡ listed u (min (s + 1) tails)
tails_next u s tails xs ys x h k e = elim (cases_lt s tails) [
  | inl l ↦ (
      let a : min s tails ≡ s = omega arith in
      let b : min (s + 1) tails ≡ s + 1 = omega arith in
      e ∙ cond-true (nat_lt s tails) (xs ++ x ∷ []) xs (lt-ltb s tails l) ∙ listed_next u s xs x (h ∙ ap (listed u) a) k ∙ ap (listed u) (sym b))
  | inr l ↦ (
      let a : min s tails ≡ min (s + 1) tails = omega arith in
      e ∙ cond-false (nat_lt s tails) (xs ++ x ∷ []) xs (le-ltb s tails l) ∙ h ∙ ap (listed u) a)
]

-- with one row more, and its tail where it is wanted, the rows up to the next stock are stored
pub rows_next : (f : ℕ) (u : ℕ → Row f) (s tails : ℕ) (rows more : Rows f) (stored : StoredRow f) (tail : Ends) → HasRows f u s tails rows
    → more.stored.items ≡ rows.stored.items ++ stored ∷ [] → more.tails.items ≡ cond (nat_lt s tails) (rows.tails.items ++ tail ∷ []) rows.tails.items
    → stored ≡ stored_row (u s) → tail ≡ (u s).tail → HasRows f u (s + 1) tails more
rows_next f u s tails rows more stored tail h a b e t = record {
  stored = a ∙ listed_next (λ k. stored_row (u k)) s rows.stored.items stored h.stored e;
  tails = tails_next (λ k. (u k).tail) s tails rows.tails.items more.tails.items tail h.tails t b;
}

-- with one row more without its tail, where that isn't wanted
pub rows_last : (f : ℕ) (u : ℕ → Row f) (s tails : ℕ) (rows more : Rows f) (stored : StoredRow f) → HasRows f u s tails rows → tails ≤ s
    → more.stored.items ≡ rows.stored.items ++ stored ∷ [] → more.tails.items ≡ rows.tails.items → stored ≡ stored_row (u s) → HasRows f u (s + 1) tails more
rows_last f u s tails rows more stored h l a b e = record {
  stored = a ∙ listed_next (λ k. stored_row (u k)) s rows.stored.items stored h.stored e;
  tails = (let i : min s tails ≡ min (s + 1) tails = omega arith in b ∙ h.tails ∙ ap (listed (λ k. (u k).tail)) i);
}

-- stored rows are those of any other rows that agree with them
pub rows_same : (f : ℕ) (u v : ℕ → Row f) (n tails : ℕ) (rows : Rows f) → ((s : ℕ) → s < n → stored_row (u s) ≡ stored_row (v s)) → ((s : ℕ) → s < tails → (u s).tail ≡ (v s).tail)
    → HasRows f u n tails rows → HasRows f v n tails rows
rows_same f u v n tails rows h t r = record {
  stored = r.stored ∙ listed_same (λ k. stored_row (u k)) (λ k. stored_row (v k)) n h;
  tails = r.tails ∙ listed_same (λ k. (u k).tail) (λ k. (v k).tail) (min n tails) (λ k l. t k (omega arith));
}

-- ---- their sizes

unit_short : (f n : ℕ) → f ≤ 52 → n ≤ 256 * 2 ^ f → n < 2 ^ 64
unit_short f n s h = omega (arith, h, unit_most f s)

-- what is within the limit has ends of 64 bits
pub limit_short : (f : ℕ) (x : Ends) → f ≤ 52 → IsWithinLimit f x → x.hi < 2 ^ 64
limit_short f x s h = unit_short f x.hi s h

empty_is_short : (f : ℕ) → IsShort f (empty_row f)
unfolding empty_row
empty_is_short f = record { ebo = omega arith; vbo = omega arith; tail = omega arith }

wide_is_short : (f : ℕ) (m v : Ends) (s : ℕ) → f ≤ 52 → IsWithinLimit f m → IsWithinLimit f v → IsShort f (wide_row f m v s)
unfolding wide_row
wide_is_short f m v s w a b =
    let t : max v.hi m.hi ≤ 256 * 2 ^ f = max-le b a in
    record { ebo = unit_short f _ w a; vbo = unit_short f _ w t; tail = unit_short f _ w (omega arith) }

-- a row of an empty pipeline, or of Wide weights, has ends of 64 bits
pub bare_short : (f : ℕ) (m v : Ends) (s : ℕ) (row : Row f) → f ≤ 52 → IsWithinLimit f m → IsWithinLimit f v → row ≡ bare_row f m v s → IsShort f row
bare_short f m v s row w a b e =
    subst (λ z. IsShort f z) (sym e) (cond_both (m.hi == 0) (empty_row f) (wide_row f m v s) (λ z. IsShort f z) (λ h. empty_is_short f) (λ h. wide_is_short f m v s w a b))

-- ---- as they are read

-- the rows u(0) .. u(n - 1) are n stored rows
pub count_stored : (f : ℕ) (u : ℕ → Row f) (n tails : ℕ) (rows : Rows f) → HasRows f u n tails rows → length rows.stored.items ≡ n
count_stored f u n tails rows h = ap length h.stored ∙ length_listed (λ k. stored_row (u k)) n

-- stored rows that are those of a table are a beginning of it
pub rows_stored : (f : ℕ) (m v : Ends) (n tails : ℕ) (rows : Rows f) → CanTable f m v → HasRows f (at_stock (table_rows f m v)) n tails rows → IsStored f m v rows
rows_stored f m v n tails rows can h = record {
  can = can;
  stored = λ s l.
      let i : s < n = (let a = ap length h.stored ∙ length_listed (λ k. stored_row (at_stock (table_rows f m v) k)) n in omega (arith, a, l)) in
      ap (λ z. stored_at z s) h.stored ∙ listed_at (λ k. stored_row (at_stock (table_rows f m v) k)) n s (stored_row (empty_row f)) i;
  tails = λ s l.
      let i : s < min n tails = (let a = ap length h.tails ∙ length_listed (λ k. (at_stock (table_rows f m v) k).tail) (min n tails) in omega (arith, a, l)) in
      ap (λ z. at_place z s) h.tails ∙ listed_at (λ k. (at_stock (table_rows f m v) k).tail) (min n tails) s (record { lo = 0; hi = 0 }) i;
}
