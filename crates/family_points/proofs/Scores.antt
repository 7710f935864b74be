-- The items of a line unit at its bases are sound, and what they score is small.
use Rattle.std.proofs.Common.{ℕ, ◌^◌, ◌≤◌, List, arith}
use Rattle.fixed_interval.proofs.Public.{ends_ordered}
use Rattle.fleet_model.specs.Laws.{IsBase}
use Rattle.fleet_model.specs.Pipelines.{ebo_0j}
use Rattle.family_items.specs.Profile.{item_of}
use Rattle.family_items.specs.Inputs.{IsSound}
use Rattle.family_items.proofs.Public.{item_small, line_in, sound_of}
use Rattle.family_points.specs.Vectors.{stock_list}
use Rattle.family_points.specs.Separation.{depot_and_base, base_stocks}
use Rattle.family_points.specs.Inputs.{FamilyBox, IsFamilyBox, IsAt}
use Rattle.family_points.proofs.Bounded.{stocks_for, stocks_within}

module _ (x : FamilyBox) (valid : IsFamilyBox x) (j : ℕ) (d b : List ℕ) (at_depot : IsAt x 0 d) (at_base : IsAt x j b) where
  pub sound_at : IsSound x.case (base_stocks x d j b)
  sound_at = sound_of (record { case = x.case; rates = x.rates; stocks = stock_list x.case (base_stocks x d j b) }) (record {
    valid = valid.valid;
    are_rates = valid.are_rates;
    are_stocks = record {
      is_for = stocks_for x valid (depot_and_base d j b);
      limits = stocks_within x valid j d b at_depot at_base;
    };
  })

  -- the backorders of the line unit at a base are at most 2^56 units
  pub backorders_small : IsBase x.case j → (item_of 48 x.case (base_stocks x d j b) x.line j).backorders.hi ≤ 2 ^ 56
  backorders_small base = (item_small 48 x.case (base_stocks x d j b) (omega arith) sound_at x.line j valid.is_line.is_part base.1).backorders_most

  -- the backorders of the line unit at a base have ends in order
  pub backorders_ordered : IsBase x.case j
      → (item_of 48 x.case (base_stocks x d j b) x.line j).backorders.lo ≤ (item_of 48 x.case (base_stocks x d j b) x.line j).backorders.hi
  backorders_ordered base =
      ends_ordered 48 (item_of 48 x.case (base_stocks x d j b) x.line j).backorders (ebo_0j x.case (base_stocks x d j b) 1024 x.line j)
      (line_in 48 x.case (base_stocks x d j b) x.line j (omega arith) sound_at valid.is_line base 1024 (omega arith))
