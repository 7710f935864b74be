-- The tables of the definitions enclose the model: a law of the definitions.
use Rattle.std.proofs.Common.{◌≡◌, ℕ, ◌*◌, ◌^◌, ◌<◌, ◌≤◌, true, false, inl, inr, List, refl, subst, arith, pow_pos, mul-le-mul_right}
use Rattle.std.proofs.Math.Nat.{div-le_of_le-mul, le_refl}
use Rattle.std.proofs.lemmas.Bool.{cases_Bool}
use Rattle.list_laws.proofs.Public.{floor_below_ceil}
use Rattle.exact_model.specs.Series.{excess, relative_sum}
use Rattle.fixed_interval.specs.Ends.{Ends}
use Rattle.fixed_interval.proofs.Public.{ends_ordered}
use Rattle.series_bounds.specs.Profile.{is_wide, pivot_at, weights_of}
use Rattle.series_bounds.specs.declared.kinds.Weights.TheVariants.{Known}
use Rattle.series_bounds.specs.Answer.{EncloseWeights, Sized}
use Rattle.series_bounds.proofs.Public.{known_answer as weigh_known_answer, profile_encloses as weigh_profile_encloses, profile_sized as weigh_profile_sized, wide_answer as weigh_wide_answer}
use Rattle.moment_table.specs.Profile.{empty_row, excess_ends, known_row, table_rows, wide_row}
use Rattle.moment_table.specs.Rows.{at_stock, EncloseRows, EnclosesRow}
use Rattle.moment_table.proofs.Enclosure as tables
use Rattle.moment_table.specs.Inputs.{CanTable}

excess_ordered : (f : ℕ) (m v : Ends) → 0 < m.lo → m.lo ≤ m.hi → v.lo ≤ v.hi → (excess_ends f m v).lo ≤ (excess_ends f m v).hi
unfolding excess_ends
excess_ordered f m v p mo vo = omega (arith, floor_below_ceil (v.lo * 2 ^ f) m.hi (v.hi * 2 ^ f) m.lo (mul-le-mul_right (2 ^ f) vo) p mo)

pivot_most : (f : ℕ) (m d : Ends) → m.lo ≤ 256 * 2 ^ f → pivot_at f m d ≤ 256
unfolding pivot_at
pivot_most f m d h = div-le_of_le-mul (2 ^ f) (omega (arith, h))

-- the row at the stock s, by what the weights are
module _ (f : ℕ) (m v : Ends) (s : ℕ) (few : s ≤ 63) where
  wide_table : 0 < m.lo → m.lo ≤ m.hi → is_wide f m (excess_ends f m v) ≡ true → EnclosesRow f m v s (at_stock (table_rows f m v) s)
  wide_table pos mo h =
      subst (EnclosesRow f m v s) (tables.row_of_wide f m v (wide_row f m v s) s few (omega (arith, pos, mo)) (weigh_wide_answer f m (excess_ends f m v) h) refl)
      (tables.wide_row_in f m v (wide_row f m v s) s few refl pos)

  known_from : (c : ℕ) (list : List Ends) (sum : Ends) → 0 < m.lo → m.lo ≤ m.hi → EncloseWeights f m (excess_ends f m v) c list sum
      → Sized f list sum → Known c list sum ≡ weights_of f m (excess_ends f m v) → EnclosesRow f m v s (at_stock (table_rows f m v) s)
  known_from c list sum pos mo weighs sized h u w a b =
      let all = (weighs u (excess u w) a (tables.excess_in f m v u w pos mo a b)).1 1024 (le_refl 1024) in
      subst (EnclosesRow f m v s) (tables.row_of_known f m v c list sum (known_row f m v list sum s) s few (omega (arith, pos, mo)) h refl)
      (tables.known_row_in f m v c list sum (known_row f m v list sum s) s few refl pos mo (omega (arith, pow_pos f, sized.sum_least))
      (ends_ordered f sum (relative_sum u (excess u w) c 1024) all) sized.enough weighs) u w a b

  known_table : 0 < m.lo → m.lo ≤ m.hi → v.lo ≤ v.hi → m.hi ≤ 256 * 2 ^ f → is_wide f m (excess_ends f m v) ≡ false
      → EnclosesRow f m v s (at_stock (table_rows f m v) s)
  known_table pos mo vo most h =
      let q : pivot_at f m (excess_ends f m v) ≤ 256 = pivot_most f m (excess_ends f m v) (omega (arith, mo, most)) in
      known_from (pivot_at f m (excess_ends f m v)) _ _ pos mo (weigh_profile_encloses f m (excess_ends f m v) pos mo (excess_ordered f m v pos mo vo) q h)
      (weigh_profile_sized f m (excess_ends f m v) _ q h refl) (weigh_known_answer f m (excess_ends f m v) h)

  full_table : 0 < m.lo → m.lo ≤ m.hi → v.lo ≤ v.hi → m.hi ≤ 256 * 2 ^ f → EnclosesRow f m v s (at_stock (table_rows f m v) s)
  full_table pos mo vo most = elim (cases_Bool (is_wide f m (excess_ends f m v))) [
    | inl h ↦ wide_table pos mo h
    | inr h ↦ known_table pos mo vo most h
  ]

  empty_table : m.hi ≡ 0 → EnclosesRow f m v s (at_stock (table_rows f m v) s)
  empty_table z =
      subst (EnclosesRow f m v s) (tables.row_of_empty f m v (empty_row f) s few z refl) (tables.empty_row_in f m v (empty_row f) s refl z)

-- the row at a stock encloses the model, for each mean and variance in the intervals and each depth from 1024 on
pub table_encloses : (f : ℕ) (m v : Ends) (s : ℕ) → CanTable f m v → s ≤ 63 → EnclosesRow f m v s (at_stock (table_rows f m v) s)
table_encloses f m v s can few u w a b = elim can.ratio [
  | inl e ↦ empty_table f m v s few e.0 u w a b
  | inr e ↦ full_table f m v s few e.0 (ends_ordered f m u a) (ends_ordered f v w b) can.mean_top u w a b
]

-- the rows of a table enclose EBO, VBO and tail at each stock and each depth from 1024 on
pub rows_enclose : (f : ℕ) (m v : Ends) → CanTable f m v → EncloseRows f m v (table_rows f m v)
rows_enclose f m v can u w a b n deep s l = table_encloses f m v s can (omega (arith, l)) u w a b n deep
