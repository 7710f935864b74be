-- What a sweep and a target say of a case.
use Rattle.std.proofs.Common.{◌≡◌, ℕ, ◌<◌, ◌≤◌, List, Option, Some, None, length, map, sym, ap, ◌∙◌, subst}
use Rattle.std.specs.Prelude.{IfSome, MatchOption}
use Rattle.exact_model.specs.Fraction.{◌≤ℚ◌, Contains}
use Rattle.fixed_interval.proofs.Public.{down_below, up_above}
use Rattle.hull.specs.declared.point.Point.{Point}
use Rattle.hull.specs.Scores.{EnclosesValue}
use Rattle.spares_input.specs.Cases.{CaseRows}
use Rattle.family_points.specs.Points.{ScoreEnds}
use Rattle.price_bounds.specs.Allocations.{Family, points_of, cost_at, total_at}
use Rattle.fleet_model.specs.Aims.{Value, aim, IsHeldAllocation}
use Rattle.fleet_model.specs.Bounds.{NoneHasLess}
use Rattle.fleet_plan.specs.Families.{families_at, case_points, vectors_at}
use Rattle.fleet_plan.specs.Laws.{IsAcceptedCase}
use Rattle.fleet_plan.proofs.Public.{points_are, families_enclosed, same_cost, same_total, same_choice, of_stocks, none_less}
use Rattle.case_plan.proofs.Public.{below_printed}
use Rattle.budget_sweep.specs.declared.report.SweepPoint.{SweepPoint}
use Rattle.budget_sweep.specs.declared.report.TargetReport.{TargetReport}
use Rattle.budget_sweep.specs.Sweep.{state_at, last_state}
use Rattle.budget_sweep.specs.Target.{units_below, units_above, least_cost, IsReach, IsLeastCost, IsTold}
use Rattle.budget_sweep.specs.Cases.{IsSweepFor}
use Rattle.budget_sweep.specs.Truth.{ends_of, target_value, StandBehind, IsTruePoint, Reaches, AllCost, NoneReaches, IsTrueTarget}
use Rattle.budget_sweep.proofs.Sound.{Behind, state_behind, none_fewer_at, comes_to, none_come, all_cost}

record Standing (value : Value) (c : CaseRows) (held : List ℕ) (point : SweepPoint) : Type 0 where
  stocks : List ℕ
  stand : StandBehind value c held point stocks

module _ (ends : ScoreEnds) (value : Value) (c : CaseRows) (held : List ℕ) (accepted : IsAcceptedCase c)
    (encloses : EnclosesValue ends value)
    (curves : List (List Point)) (points : List SweepPoint) (h : IsSweepFor (case_points ends c held) curves points)
  where
    abbrev own : List Family
    own = families_at ends value c held

    swept : IsSweepFor (map points_of own) curves points
    swept = subst (λ z. IsSweepFor z curves points) (sym (points_are ends value c held)) h

    -- ---- points

    standing : (point : SweepPoint) → Behind own point → Standing value c held point
    standing point b =
        let o = of_stocks ends value c held accepted.valid b.stocks b.allocation in
        from_stocks o.stocks o.is_allocation o.vectors
      where
        from_stocks : (s : List ℕ) → IsHeldAllocation c held s → vectors_at c s ≡ b.stocks → Standing value c held point
        from_stocks s a e = record {
          stocks = s;
          stand = record {
            allocation = a;
            cost_is = sym (same_cost ends value c held accepted.valid s) ∙ ap (cost_at own) e ∙ sym b.cost;
            within = within;
            printed = λ n deep. (
              down_below 48 6 (ends_of point) (aim value c s n) (within n deep),
              up_above 48 6 (ends_of point) (aim value c s n) (within n deep),
            );
          };
        }
          where
            within : (n : ℕ) → 1024 ≤ n → Contains 48 point.lo point.hi (aim value c s n)
            within n deep =
                subst (λ z. Contains 48 point.lo point.hi z) (ap (total_at n own) (sym e)
                ∙ same_total ends value c held accepted.valid s n) (b.within n deep)

    stands : (k : ℕ) → k < length points → Standing value c held (state_at points k)
    stands k l =
        standing (state_at points k)
        (state_behind own curves k (state_at points k) (families_enclosed ends value c held accepted encloses)
        swept.areas (swept.sweep.each k l))

    least_at : (k : ℕ) → k < length points → NoneHasLess value c held (state_at points k).cost (state_at points k).lo
    least_at k l =
        none_less ends value c held accepted encloses (state_at points k).cost (state_at points k).lo
        (none_fewer_at own curves points k (families_enclosed ends value c held accepted encloses) swept l)

    -- each point of a case's sweep is true of the case
    pub point_true : (k : ℕ) → k < length points → IsTruePoint value c held (state_at points k)
    point_true k l = record {
      stocks = (stands k l).stocks;
      stand_behind = (stands k l).stand;
      none_less = least_at k l;
      printed = λ n deep s a fits.
          below_printed (state_at points k).lo (aim value c s n) (least_at k l n deep s a fits);
    }

    -- ---- targets

    reaches : (target : ℕ) (point : SweepPoint) → Standing value c held point → point.hi ≤ units_below target
        → Reaches value c held target point
    reaches target point s most = record {
      stocks = s.stocks;
      stand_behind = s.stand;
      reach = λ n deep. comes_to target point.lo point.hi (aim value c s.stocks n) (s.stand.within n deep) most;
    }

    reached : (target : ℕ) (reach : Option SweepPoint) → IsReach points (units_below target) reach
        → IfSome reach (Reaches value c held target)
    reached target None r = tt
    reached target (Some point) r =
        subst (λ z. Reaches value c held target z) (sym r.2)
        (reaches target (state_at points r.0) (stands r.0 r.1) (subst (λ z. z.hi ≤ units_below target) r.2 r.3))

    -- an allocation of the case is one of its families
    none_reach : (target : ℕ) → units_above target < (last_state points).lo → NoneReaches value c held target
    none_reach target over n deep s a comes =
        none_come own curves points target (families_enclosed ends value c held accepted encloses) swept over n
        (vectors_at c s) deep (same_choice ends value c held accepted.valid s a).allocation
        (subst (λ z. z ≤ℚ target_value target) (sym (same_total ends value c held accepted.valid s n)) comes)

    cost_all : (target : ℕ) → AllCost value c held target (least_cost (units_above target) points)
    cost_all target n deep s a comes =
        subst (λ z. least_cost (units_above target) points ≤ z) (same_cost ends value c held accepted.valid s)
        (all_cost own curves points target (families_enclosed ends value c held accepted encloses) swept n
        (vectors_at c s) deep (same_choice ends value c held accepted.valid s a).allocation
        (subst (λ z. z ≤ℚ target_value target) (sym (same_total ends value c held accepted.valid s n)) comes))

    told_least : (target : ℕ) (least : Option ℕ) → IsLeastCost points (units_above target) least
        → MatchOption least (NoneReaches value c held target) (AllCost value c held target)
    told_least target None over = none_reach target over
    told_least target (Some least) is = subst (λ z. AllCost value c held target z) (sym is.1) (cost_all target)

    -- what the sweep tells of a target is true of the case
    pub target_true : (report : TargetReport) → IsTold points report → IsTrueTarget value c held report
    target_true report t = record {
      reach = reached report.target.units report.reach t.reach;
      at_least = told_least report.target.units report.at_least t.at_least;
    }
