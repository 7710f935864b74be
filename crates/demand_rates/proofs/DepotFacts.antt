-- The demands at the depot, of line units and of shop units.
use Rattle.std.proofs.Common.{◌≡◌, ℕ, ◌<◌, ◌≤◌, true, List, length, get_or, map, Option, Some, None, is_none, refl, sym, ap, ◌∙◌, subst, zero-add}
use Rattle.std.specs.List.{range_with_len}
use Rattle.std.specs.Option.{option_and_then}
use Rattle.std.proofs.lemmas.Bool.{false≢true}
use Rattle.std.proofs.lemmas.List.FromFn.{get_or-map-range_with_len, length-map-range_with_len}
use Rattle.spares_input.specs.Rows.{is_line}
use Rattle.spares_input.specs.Frames.{line_of, part_at, part_names, place_of}
use Rattle.spares_input.specs.Cases.{CaseRows, IsCase}
use Rattle.spares_input.specs.declared.rows.PartRow.{PartRow}
use Rattle.fleet_model.specs.Units.{demand_00, demand_i0, demand_of, demand_units}
use Rattle.demand_rates.specs.Depot.{AreDepotDemands}
use Rattle.demand_rates.proofs.Within.{demand_most, demand_00_most}

no_line : (parts : List PartRow) (o : Option (List ℕ)) → is_none o ≡ true → option_and_then (λ name. place_of name (part_names parts)) o ≡ None
no_line parts None h = refl
no_line parts (Some x) h = absurd (false≢true h)

-- a line unit has no line unit
pub no_line_there : (parts : List PartRow) (p : ℕ) → is_line (part_at parts p) ≡ true → line_of parts p ≡ None
no_line_there parts p h = no_line parts (part_at parts p).parent h

line_demand : (c : CaseRows) (p : ℕ) → is_line (part_at c.parts p) ≡ true → demand_units c p 0 ≡ demand_00 c p
line_demand c p h = ap (λ o. demand_of c o p 0) (no_line_there c.parts p h)

at : (c : CaseRows) (demands : List ℕ) (p : ℕ) → demands ≡ map (λ p. demand_units c p 0) (range_with_len 0 (length c.parts)) → p < length c.parts
    → get_or demands p 0 ≡ demand_units c p 0
at c demands p e l = ap (λ xs. get_or xs p 0) e ∙ get_or-map-range_with_len (λ p. demand_units c p 0) 0 (length c.parts) p p 0 l (zero-add p)

-- the demands of a valid case at the depot, listed in part order, are within their bounds
pub demands_are : (c : CaseRows) (demands : List ℕ) → IsCase c → demands ≡ map (λ p. demand_units c p 0) (range_with_len 0 (length c.parts))
    → AreDepotDemands c demands
demands_are c demands h e = record {
  all = e;
  lines = λ p l t. subst (λ n. n ≤ 150000000000000) (sym (at c demands p e l ∙ line_demand c p t)) (demand_00_most c p h);
  small = λ p l. subst (λ n. n ≤ 30000000000000000000000) (sym (at c demands p e l)) (demand_most c p h);
}

-- there is one such demand for each part
pub demands_count : (c : CaseRows) (demands : List ℕ) → AreDepotDemands c demands → length demands ≡ length c.parts
demands_count c demands h = ap (λ (xs : List ℕ). length xs) h.all ∙ length-map-range_with_len (λ p. demand_units c p 0) 0 (length c.parts)

-- that of a line unit is what the bases send of it to the depot
pub line_depot : (c : CaseRows) (demands : List ℕ) (p : ℕ) → AreDepotDemands c demands → p < length c.parts → is_line (part_at c.parts p) ≡ true
    → get_or demands p 0 ≡ demand_00 c p
line_depot c demands p h l t = at c demands p h.all l ∙ line_demand c p t

-- that of a shop unit is what the bases send and what repairs of its line unit at the depot need
pub shop_depot : (c : CaseRows) (demands : List ℕ) (p l : ℕ) → AreDepotDemands c demands → p < length c.parts → line_of c.parts p ≡ Some l
    → get_or demands p 0 ≡ demand_i0 c l p
shop_depot c demands p l h w e = at c demands p h.all w ∙ ap (λ o. demand_of c o p 0) e
