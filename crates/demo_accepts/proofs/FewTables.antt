-- How many tables a drawn case takes.
use Rattle.std.proofs.Common.{◌≡◌, ℕ, ◌+◌, ◌-◌, ◌*◌, ◌<◌, ◌≤◌, true, false, refl, sym, ap, ◌∙◌, subst, arith, List, [], ◌∷◌, length, get_or, map, count_by, if◌then◌else◌, nat_le, Ok, Err}
use Rattle.std.specs.List.{All, range_with_len}
use Rattle.std.proofs.lemmas.Bool.Decides.{nat_tests}
use Rattle.std.proofs.lemmas.List.Elements.{All-head, All-tail, All-filter, filter_passes}
use Rattle.std.proofs.lemmas.List.Sums.{length-filter}
use Rattle.std.proofs.lemmas.List.Folds.{fold-map}
use Rattle.std.proofs.lemmas.List.FromFn.{fill_by_all, get_or-range_with_len, length-range_with_len}
use Rattle.answers.specs.Counts.{count64}
use Rattle.spares_input.specs.Rows.{is_line, no_part}
use Rattle.spares_input.specs.Frames.{part_at}
use Rattle.spares_input.specs.Cases.{CaseRows, IsCase}
use Rattle.spares_input.specs.declared.rows.PartRow.{PartRow}
use Rattle.fleet_model.specs.Rows.{bases, line_units, shop_units, all_parts}
use Rattle.case_maker.specs.Ranges.{IsDrawn, HasFewShopUnits, HasLineUnits}
use Rattle.family_points.specs.Counts.{base_width, depot_width, limited, tables_by, tables_of, work_of}
use Rattle.demo_accepts.specs.Tables.{all_tables, HasFewTables}
use Rattle.demo_accepts.proofs.Accepted.{of_shops, sum_list}

-- a family of at most two shop units, each with two stocks at each site
few_by : (f g : ℕ → ℕ) (xs : List ℕ) → length xs ≤ 2 → All (λ i. f i ≡ 2) xs → All (λ i. g i ≡ 2) xs
    → tables_by 4 (map f xs) (map (λ (j : ℕ). map g xs) (1 ∷ 2 ∷ [])) ≤ 142
few_by f g [] h a b = omega arith
few_by f g (x ∷ []) h a b =
    let fx : f x ≡ 2 = All-head (λ i. f i ≡ 2) x [] a in
    let gx : g x ≡ 2 = All-head (λ i. g i ≡ 2) x [] b in
    rw (fx, gx) (omega arith)
few_by f g (x ∷ y ∷ []) h a b =
    let fx : f x ≡ 2 = All-head (λ i. f i ≡ 2) x (y ∷ []) a in
    let gx : g x ≡ 2 = All-head (λ i. g i ≡ 2) x (y ∷ []) b in
    let fy : f y ≡ 2 = All-head (λ i. f i ≡ 2) y [] (All-tail (λ i. f i ≡ 2) x (y ∷ []) a) in
    let gy : g y ≡ 2 = All-head (λ i. g i ≡ 2) y [] (All-tail (λ i. g i ≡ 2) x (y ∷ []) b) in
    rw (fx, gx, fy, gy) (omega arith)
few_by f g (x ∷ y ∷ z ∷ xs) h a b = absurd (omega (arith, h))

module _ (c : CaseRows) (v : IsCase c) (d : IsDrawn c) (few : HasFewShopUnits c) where
  line_width : (l : ℕ) → l < length c.parts → is_line (part_at c.parts l) ≡ true → depot_width c l ≡ 4
  line_width l h e =
      let limit : (part_at c.parts l).max_depot ≡ 3 = (d.parts l h).max_depot ∙ (rw e refl) in
      omega (arith, limit)

  shop_width : (i : ℕ) → i < length c.parts → is_line (part_at c.parts i) ≡ false → depot_width c i ≡ 2
  shop_width i h e =
      let limit : (part_at c.parts i).max_depot ≡ 1 = (d.parts i h).max_depot ∙ (rw e refl) in
      omega (arith, limit)

  shop_base_width : (i : ℕ) → i < length c.parts → is_line (part_at c.parts i) ≡ false → base_width c i ≡ 2
  shop_base_width i h e =
      let limit : (part_at c.parts i).max_base ≡ 1 = (d.parts i h).max_base ∙ (rw e refl) in
      omega (arith, limit)

  two_bases : bases c ≡ 1 ∷ 2 ∷ []
  two_bases = ap (λ n. range_with_len 1 (n - 1)) d.sites

  -- a family of a drawn case with few shop units takes at most 142 tables
  pub family_few : HasFewTables 142 c
  family_few l h e =
      let shops = few_by (depot_width c) (base_width c) (shop_units c l) (few l h e)
      (of_shops c v d (λ i. depot_width c i ≡ 2) l shop_width) (of_shops c v d (λ i. base_width c i ≡ 2) l shop_base_width) in
      subst (λ w. tables_by w (map (depot_width c) (shop_units c l)) (map (λ j. map (base_width c) (shop_units c l)) (bases c)) ≤ 142) (sym (line_width l h e))
      (subst (λ bs. tables_by 4 (map (depot_width c) (shop_units c l)) (map (λ (j : ℕ). map (base_width c) (shop_units c l)) bs) ≤ 142) (sym two_bases) shops)

  all_inside : All (λ l. l < length c.parts) (all_parts c)
  all_inside i x within =
      let short : i < length c.parts = omega (arith, within, length-range_with_len 0 (length c.parts)) in
      omega (arith, get_or-range_with_len 0 (length c.parts) i x short, short)

  lines_few : All (λ l. tables_of c l ≤ 142) (line_units c)
  lines_few i x within =
      family_few (get_or (line_units c) i x)
      (All-filter (λ p. is_line (part_at c.parts p)) (λ l. l < length c.parts) (all_parts c) all_inside i x within)
      (filter_passes (λ p. is_line (part_at c.parts p)) (all_parts c) i x within)

  line_places : length (line_units c) ≡ count_by is_line c.parts
  line_places =
      let all : c.parts ≡ map (part_at c.parts) (range_with_len 0 (length c.parts)) = fill_by_all (part_at c.parts) c.parts (length c.parts) no_part refl (λ k h. refl) in
      length-filter (λ p. is_line (part_at c.parts p)) (range_with_len 0 (length c.parts))
      ∙ (sym (fold-map (λ (s : ℕ) (x : PartRow). s + (if is_line x then 1 else 0)) (part_at c.parts) 0 (range_with_len 0 (length c.parts))) ∙ ap (count_by is_line) (sym all))

  -- all families of such a case take at most 142 tables for each line unit
  pub all_few : (lines : ℕ) → HasLineUnits lines c → all_tables c ≤ 142 * lines
  all_few lines h =
      let n : length (line_units c) ≡ lines = line_places ∙ h in
      subst (λ n. all_tables c ≤ 142 * n) n
      (let m = sum_list (tables_of c) 142 (line_units c) lines_few in omega (arith, m))

-- so many tables are within the limit
within_limit : (n : ℕ) → n ≤ 11360 → limited (count64 n) ≡ Ok n
within_limit n h =
    let same : count64 n ≡ n = omega arith in
    let test : nat_le n 1000000 ≡ true = grind (arith, nat_tests) in
    ap limited same ∙ ap (λ b. if b then Ok n else Err n) test

-- the tables of a demonstration case are within the limit of the work
pub work_few : (c : CaseRows) (lines : ℕ) → lines ≤ 80 → all_tables c ≤ 142 * lines → work_of c ≡ Ok (all_tables c)
work_few c lines few h = within_limit (all_tables c) (omega (arith, h, few))
