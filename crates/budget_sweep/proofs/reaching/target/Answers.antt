use Rattle.std.proofs.Common.{◌≡◌, ◌*◌, ◌/◌, ◌%◌, ◌^◌, ◌∙◌, List, ap, sym, subst, refl, arith}
use Rattle.std.specs.Int.{div_ceil}
use Rattle.budget_sweep.specs.Target.{IsLeastCost, IsReach}
use Rattle.std.specs.List.{All}
use Rattle.budget_sweep.specs.declared.report.SweepPoint.{SweepPoint}
use Rattle.budget_sweep.specs.Sweep.{IsSweep}
use Rattle.budget_sweep.specs.Fits.{IsSmallPoint}
use Rattle.budget_sweep.proofs.Room.{all_small, least_fits, reach_fits}
use Rattle.budget_sweep.proofs.reaching.target.Goals as goal

pub least_of-at_least-requires-clause-small : goal.least_of-at_least-requires-clause-small
least_of-at_least-requires-clause-small c =
    subst (λ (ps : List SweepPoint). All IsSmallPoint ps) (sym c.as_slice-points.ensures)
    (all_small c.args.curves.now c.in_ok-swept.swept.points c.requires.few c.in_ok-swept.ensures.shapes
    c.in_ok-swept.ensures.states)

pub least_of-at_least-requires-clause-room : goal.least_of-at_least-requires-clause-room
least_of-at_least-requires-clause-room c =
    least_fits c.args.curves.now c.as_slice-points.result.now c.div_ceil.result c.requires.few
    c.in_ok-swept.ensures.shapes
    (subst (λ (ps : List SweepPoint). IsSweep c.args.curves.now ps) (sym c.as_slice-points.ensures)
    c.in_ok-swept.ensures.states)

pub returns-clause-fits : goal.returns-clause-fits
returns-clause-fits c = reach_fits c.first_within-reach.result c.first_within-reach.ensures.small

pub returns-clause-told : goal.returns-clause-told
returns-clause-told c =
    let points = c.as_slice-points.result.now in
    let product : c.from-units.result * 2 ^ 48 % 2 ^ 128 ≡ c.args.target.units * 2 ^ 48 = omega (arith, c.from-units.ensures, c.requires.most) in
    record {
      points = points;
      sweep = subst (λ (ps : List SweepPoint). IsSweep c.args.curves.now ps) (sym c.as_slice-points.ensures) c.in_ok-swept.ensures.states;
      target_is = refl;
      places = c.requires.places;
      told = record {
        reach = subst (λ n. IsReach points (n / 10000) c.first_within-reach.result) product c.first_within-reach.ensures.first;
        at_least = subst (λ n. IsLeastCost points n c.least_of-at_least.result) (c.div_ceil.ensures ∙ ap (λ n. div_ceil n 10000) product) c.least_of-at_least.ensures;
      };
    }

pub returns-clause-case : goal.returns-clause-case
returns-clause-case c = λ ends rows held areas. record {
  curves = c.args.curves.now;
  areas = areas;
  shapes = c.in_ok-swept.ensures.shapes;
  is_target = returns-clause-told c;
}
