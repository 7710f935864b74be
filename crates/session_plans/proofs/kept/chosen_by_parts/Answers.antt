use Rattle.std.proofs.Common.{◌≡◌, ℕ, ◌<◌, [], List, sym, subst}
use Rattle.std.specs.Result.{IsOk}
use Rattle.std.proofs.lemmas.List.{get_or-replicate, length-replicate}
use Rattle.hull.specs.declared.point.Point.{Point}
use Rattle.spares_input.specs.Cases.{CaseRows, frame_rows, pair_count}
use Rattle.spares_input.specs.Stocks.{StockList, nothing_held}
use Rattle.family_points.specs.Points.{plain_ends}
use Rattle.marginal_alloc.specs.Choice.{AreCurves}
use Rattle.fleet_plan.specs.Families.{case_points}
use Rattle.held_work.specs.Work.{IsNothing}
use Rattle.held_work.proofs.Public.{all_points, all_work}
use Rattle.held_plan.specs.Kept.{AreKeptParts}
use Rattle.session_plans.proofs.kept.chosen_by_parts.Goals as goal

-- zeros hold nothing, and so the points are those of all vectors
zeros : (c : CaseRows) (s : StockList) → s ≡ nothing_held c → IsNothing s.list
zeros c s e =
    subst (λ (t : StockList). IsNothing t.list) (sym e)
    (λ i d b. get_or-replicate (pair_count (frame_rows c)) i 0 d (subst (λ n. i < n) (length-replicate {A = ℕ} (pair_count (frame_rows c)) 0) b))

same_points : (c : CaseRows) (s : StockList) → s ≡ nothing_held c → case_points plain_ends c s.list ≡ case_points plain_ends c []
same_points c s e = all_points plain_ends c s.list (zeros c s e)

pub choose_by_kept_parts-requires-clause-work : goal.choose_by_kept_parts-requires-clause-work
choose_by_kept_parts-requires-clause-work g c =
    subst IsOk (sym (all_work c.args.case.now c.in_ok-held.held.list c.invariant.ensures.valid (zeros c.args.case.now c.in_ok-held.held c.in_ok-held.ensures.held))) c.requires.work

pub choose_by_kept_parts-requires-clause-kept : goal.choose_by_kept_parts-requires-clause-kept
choose_by_kept_parts-requires-clause-kept g c =
    subst (λ (points : List (List Point)). AreKeptParts points c.args.parts.now) (sym (same_points c.args.case.now c.in_ok-held.held c.in_ok-held.ensures.held)) c.requires.parts

pub returns-clause-parts : goal.returns-clause-parts
returns-clause-parts g c =
    subst (λ (points : List (List Point)). AreKeptParts points c.choose_by_kept_parts.new.kept) (same_points c.args.case.now c.in_ok-held.held c.in_ok-held.ensures.held)
    c.choose_by_kept_parts.ensures.kept

pub returns-clause-chosen : goal.returns-clause-chosen
returns-clause-chosen g c = λ curves are.
    c.choose_by_kept_parts.ensures.chosen curves
    (subst (λ (points : List (List Point)). AreCurves points curves) (sym (same_points c.args.case.now c.in_ok-held.held c.in_ok-held.ensures.held)) are)
