-- Rough lower bounds on the Lagrangians of the bases, for all stocks of the line unit at the depot at once. No promise
-- of the crate rests on these words.
use Rattle.std.specs.Prelude.{◌≡◌, ℕ, ◌-◌, ◌*◌, ◌≤◌, List, drop, get_or, length, sum_by}
use Rattle.hull.specs.declared.price.Price.{Price}
use Rattle.hull.specs.Limits.{most_floor}
use Rattle.fleet_model.specs.Laws.{IsBase}
use Rattle.backorder_bounds.specs.Places.{low_end}
use Rattle.family_points.specs.Inputs.{FamilyBox, IsAt, line_high, line_low}
use Rattle.family_points.specs.Points.{ScoreEnds}
use Rattle.family_points.specs.Least.{AreAtLeast}
use Rattle.family_points.specs.Separation.{base_points}
use Rattle.moment_table.specs.Rows.{TableRows, at_stock}
use Rattle.family_bases.specs.declared.lows.Lows.{Lows}
use Rattle.depot_lows.specs.declared.rough.RoughLows.{RoughLows}
use Rattle.family_bases.specs.Lows.{AreUnder, line_place}

-- stocks of the depot within their bounds, of which v are the shop units'
pub record IsDepotWith (x : FamilyBox) (v d : List ℕ) : Type 0 where
  pub within : IsAt x 0 d
  pub shops : drop 1 d ≡ v

-- at most the backorders of a table at the depot, at each stock of the line unit there
abbrev pub AreFewest : FamilyBox → TableRows 48 → ℕ → Type 0
AreFewest x t fewest = (s : ℕ) → line_low x 0 ≤ s → s ≤ line_high x 0 → fewest ≤ (at_stock t.rows s).ebo.lo

-- at most the backorders of the line unit at base j without stock there, whatever its stock at the depot
abbrev pub AreFewestWithout : FamilyBox → List ℕ → ℕ → List ℕ → ℕ → Type 0
AreFewestWithout x v j shops fewest = (d : List ℕ) → IsDepotWith x v d → fewest ≤ low_end 48 (line_place x d j shops 0)

-- at most the Lagrangians at base j with these stocks of the shop units there, whatever the line unit's stocks are
abbrev pub AreUnderLines : ScoreEnds → FamilyBox → List ℕ → ℕ → Price → Price → List ℕ → Lows → Type 0
AreUnderLines ends x v j low high shops lows = (d : List ℕ) → IsDepotWith x v d
    → (s : ℕ) → line_low x j ≤ s → s ≤ line_high x j → AreUnder ends x d j low high shops s lows

-- at most all Lagrangians at base j, whatever the line unit's stock at the depot
pub record AreUnderBase (ends : ScoreEnds) (x : FamilyBox) (v : List ℕ) (j : ℕ) (low high : Price) (lows : Lows)
    : Type 0 where
  pub at_low : (d : List ℕ) → IsDepotWith x v d → AreAtLeast low.p low.q lows.at_low (base_points ends x d j)
  pub at_high : (d : List ℕ) → IsDepotWith x v d → AreAtLeast high.p high.q lows.at_high (base_points ends x d j)

-- the bounds at base j; past the last one the look-up answers zeros
abbrev pub lows_of : List Lows → ℕ → Lows
lows_of bases j = get_or bases (j - 1) (record { at_low = 0; at_high = 0 })

-- such bounds of each base, and their sum, with the shop units' stocks v at the depot
pub record AreRough (ends : ScoreEnds) (x : FamilyBox) (v : List ℕ) (low high : Price) (r : RoughLows) : Type 0 where
  pub count : length r.bases.items ≡ length x.case.sites - 1
  pub under : (j : ℕ) → IsBase x.case j → AreUnderBase ends x v j low high (lows_of r.bases.items j)
  pub sum_low : r.sum.at_low ≡ sum_by (λ (l : Lows). l.at_low) r.bases.items
  pub sum_high : r.sum.at_high ≡ sum_by (λ (l : Lows). l.at_high) r.bases.items
  pub most_low : r.sum.at_low ≤ 15 * most_floor
  pub most_high : r.sum.at_high ≤ 15 * most_floor
