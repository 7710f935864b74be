-- The first rule that a certificate breaks. The held stocks have a number for each pair; costs count the stocks above
-- them.
use Rattle.std.specs.Prelude.{◌==◌, ℕ, ◌+◌, ◌-◌, nat_lt, List, [], ◌∷◌, length, map, get_or, sum, sum_by, Option, Some, None, is_none, unwrap_or, Result, if◌then◌else◌}
use Rattle.std.specs.List.{range_with_len}
use Rattle.std.specs.Option.{option_map}
use Rattle.answers.specs.Counts.{count64}
use Rattle.hull.specs.declared.point.Point.{Point}
use Rattle.spares_input.specs.First.{first, first_of, unless}
use Rattle.spares_input.specs.Pairs.{part_of_place, site_of_place}
use Rattle.spares_input.specs.Cases.{CaseRows, frame_rows, pair_count}
use Rattle.spares_input.specs.Stocks.{StockList, limit_at, cost_of_stocks}
use Rattle.fleet_model.specs.Rows.{line_units}
use Rattle.demand_rates.specs.Limits.{rate_fault_of}
use Rattle.price_bounds.specs.Sums.{hi_of, bound_of}
use Rattle.family_points.specs.Vectors.{box_from, vector_of}
use Rattle.family_points.specs.Points.{point_at_vector, ScoreEnds}
use Rattle.family_points.specs.Counts.{most_tables}
use Rattle.price_certificate.specs.declared.certificate.Node.{Node}
use Rattle.price_certificate.specs.declared.certificate.Node.TheVariants.{Whole}
use Rattle.price_certificate.specs.declared.certificate.Certificate.{Certificate}
use Rattle.gap_rules.specs.declared.leaf.Leaf.{Leaf}
use Rattle.check_answers.specs.declared.refusal.Accepted.{Accepted}
use Rattle.check_answers.specs.declared.refusal.Reject.{Reject}
use Rattle.check_answers.specs.declared.refusal.Reject.TheVariants as reject
use Rattle.gap_rules.specs.Covers.{leaves}
use Rattle.gap_rules.specs.Values.{value_of_leaf, cover_tables}

-- ---- covers

-- the count of families of a case
abbrev pub case_family_count : CaseRows → ℕ
case_family_count c = length (line_units c)

-- the line unit of family f
abbrev pub line_at : CaseRows → ℕ → ℕ
line_at c f = get_or (line_units c) f 0

-- the nodes of a family's cover; format 1 has none, and each family is one whole leaf
abbrev pub cover_nodes : Certificate → ℕ → List Node
cover_nodes cert f = if cert.format == 2 then get_or cert.covers f [] else Whole ∷ []

-- the leaves of family f, if its nodes are a tree
unfoldable pub cover_of : Certificate → StockList → ℕ → Option (List Leaf)
cover_of cert held f = leaves (cover_nodes cert f) (box_from cert.case (line_at cert.case f) held.list ∷ [])

-- the leaves of family f, or none if its nodes aren't a tree
abbrev pub family_leaves : Certificate → StockList → ℕ → List Leaf
family_leaves cert held f = unwrap_or (cover_of cert held f) []

-- the reject of family f if its nodes aren't a tree of its box
abbrev pub gap_at : Certificate → StockList → ℕ → Option Reject
gap_at cert held f = if is_none (cover_of cert held f) then Some (reject.CoverGap f) else None

-- the tables of all whole leaves
abbrev pub family_tables : Certificate → StockList → ℕ → ℕ
family_tables cert held f = cover_tables cert.case (line_at cert.case f) (family_leaves cert held f)

-- the tables of the whole leaves of the first n families
abbrev pub tables_of_first : Certificate → StockList → ℕ → ℕ
tables_of_first cert held n = sum_by (family_tables cert held) (range_with_len 0 n)

-- the tables of the whole leaves of all families, as a count
abbrev pub check_work_of : Certificate → StockList → ℕ
check_work_of cert held = count64 (tables_of_first cert held (case_family_count cert.case))

-- the reject of the work, if it is over the most tables
abbrev pub too_much_work : Certificate → StockList → Option Reject
too_much_work cert held =
    if nat_lt most_tables (check_work_of cert held) then Some (reject.WorkTooLarge (check_work_of cert held)) else None

-- ---- stocks

-- the reject of pair i if its stock is over its limit
abbrev pub over_limit : CaseRows → StockList → ℕ → Option Reject
over_limit c s i =
    if nat_lt (limit_at c.parts (part_of_place (length c.sites) i).0 (site_of_place (length c.sites) i).0)
    (get_or s.list i 0)
    then Some (reject.StocksOverLimit (part_of_place (length c.sites) i) (site_of_place (length c.sites) i)
    (get_or s.list i 0))
    else None

-- the reject of pair i if its stock is below its held stock
abbrev pub below_held : CaseRows → StockList → StockList → ℕ → Option Reject
below_held c held s i =
    if nat_lt (get_or s.list i 0) (get_or held.list i 0)
    then Some (reject.StocksBelowHeld (part_of_place (length c.sites) i) (site_of_place (length c.sites) i)
    (get_or s.list i 0))
    else None

-- the cost of stocks above the cost of the held ones
abbrev pub case_cost_above : CaseRows → StockList → StockList → ℕ
case_cost_above c held s = cost_of_stocks c s - cost_of_stocks c held

-- the reject of the cost above the held stocks, if it is over the budget
abbrev pub over_budget : Certificate → StockList → Option Reject
over_budget cert held =
    if nat_lt cert.budget (case_cost_above cert.case held cert.stocks)
    then Some (reject.OverBudget (case_cost_above cert.case held cert.stocks)) else None

-- ---- the bound

-- the largest bound that the price and the floors allow under the budget
abbrev pub largest_of : Certificate → ℕ
largest_of cert = bound_of cert.price.p cert.price.q (sum cert.floors) cert.budget

-- the reject of a bound above the largest
abbrev pub bound_too_high : Certificate → Option Reject
bound_too_high cert =
    if nat_lt (largest_of cert) cert.bound then Some (reject.BoundTooHigh cert.bound (largest_of cert)) else None

-- ---- floors and upper end

-- the reject of a leaf of family f whose value is below the claimed floor; in format 1 it names the family
abbrev pub too_low : ℕ → ℕ → ℕ → ℕ → ℕ → Reject
too_low format f k floor value = if format == 2 then reject.LeafTooLow f k floor value
    else reject.FloorTooHigh f floor value

-- the first leaf whose value is below the floor, with its value; the leaves are numbered from k on
unfoldable pub low_leaf : (Leaf → ℕ) → ℕ → ℕ → List Leaf → Option (ℕ × ℕ)
low_leaf value floor k [] = None
low_leaf value floor k (x ∷ xs) = if nat_lt (value x) floor then Some (k, value x) else low_leaf value floor (k + 1) xs

module _ (score : ScoreEnds) where
  -- the value of a leaf of family f at the certificate's price
  abbrev pub leaf_value : Certificate → ℕ → Leaf → ℕ
  leaf_value cert f x = value_of_leaf cert.case (line_at cert.case f) score cert.price x

  -- the reject of family f, of its first leaf whose value is below the claimed floor
  unfoldable pub low_reject_at : Certificate → StockList → ℕ → Option Reject
  low_reject_at cert held f =
      option_map (λ low. too_low cert.format f low.0 (get_or cert.floors f 0) low.1)
      (low_leaf (leaf_value cert f) (get_or cert.floors f 0) 0 (family_leaves cert held f))

  -- the point of a family at the certificate's stocks
  abbrev pub chosen_point : Certificate → StockList → ℕ → Point
  chosen_point cert held l = point_at_vector cert.case l score (vector_of cert.case l held.list)
      (vector_of cert.case l cert.stocks.list)

  -- the points of all families at the certificate's stocks
  abbrev pub chosen_of : Certificate → StockList → List Point
  chosen_of cert held = map (chosen_point cert held) (line_units cert.case)

  -- the upper ends of these points, added up
  abbrev pub upper_of : Certificate → StockList → ℕ
  upper_of cert held = hi_of (chosen_of cert held)

  -- the reject of an upper end below that of the stocks
  abbrev pub upper_too_low : Certificate → StockList → Option Reject
  upper_too_low cert held =
      if nat_lt cert.upper (upper_of cert held) then Some (reject.UpperTooLow cert.upper (upper_of cert held)) else None

  -- the first rule that is broken
  unfoldable pub reject_of : Certificate → StockList → Option Reject
  reject_of cert held = first_of (
      option_map reject.Rate (rate_fault_of cert.case)
      ∷ first (gap_at cert held) (case_family_count cert.case)
      ∷ too_much_work cert held
      ∷ first (over_limit cert.case cert.stocks) (pair_count (frame_rows cert.case))
      ∷ first (below_held cert.case held cert.stocks) (pair_count (frame_rows cert.case))
      ∷ over_budget cert held
      ∷ first (low_reject_at cert held) (case_family_count cert.case)
      ∷ upper_too_low cert held
      ∷ bound_too_high cert
      ∷ [])

  -- the answer of a check
  abbrev pub judged : Certificate → StockList → Result Accepted Reject
  judged cert held = unless (reject_of cert held)
      (record { bound = cert.bound; upper = cert.upper; cost = case_cost_above cert.case held cert.stocks })
