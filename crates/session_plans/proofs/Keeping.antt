-- The curves of a case's families.
use Rattle.std.proofs.Common.{◌≡◌, ℕ, ◌<◌, ◌≤◌, List, [], length, get_or, Bor, Option, None, Some, is_some, IfSome, sym, ap, ◌∙◌, subst, arith}
use Rattle.std.specs.Option.{option_copied}
use Rattle.std.specs.Result.{IsOk}
use Rattle.spares_input.specs.Cases.{CaseRows, IsCase}
use Rattle.fleet_model.specs.Rows.{line_units}
use Rattle.family_items.specs.Inputs.{IsLine}
use Rattle.family_points.specs.Points.{plain_ends}
use Rattle.family_points.specs.Counts.{most_tables, tables_of, work_of}
use Rattle.family_points.proofs.Public.{tables_whole}
use Rattle.hull.specs.declared.point.Point.{Point}
use Rattle.held_work.specs.Curves.{IsFamilyCurve}
use Rattle.held_work.specs.Work.{IsNothing}
use Rattle.held_work.proofs.Public.{all_work, few_tables}
use Rattle.held_plan.specs.Kept.{KeptRows}
use Rattle.session_plans.specs.Sessions.{has_mark, marks_of, IsSession, SessionRows}
use Rattle.session_plans.specs.declared.evaluated.Evaluated.{Evaluated}
use Rattle.session_plans.proofs.Places.{any_default, mark_is}

-- an empty list holds nothing
pub none_held : IsNothing []
none_held i d b = absurd (omega (arith, b))

-- where the work of the case is within its limit, so are the tables of each family
pub few : (c : CaseRows) (l : ℕ) → IsCase c → IsLine c l → IsOk (work_of c) → tables_of c l ≤ most_tables
few c l valid line work =
    let held = few_tables c [] l valid line (subst IsOk (sym (all_work c [] valid none_held)) work) in
    omega (arith, held, tables_whole c l valid)

-- what a session lends of its curves
module _ (s self : SessionRows) (curves : List (Option (List Point))) (parts : KeptRows) (evaluated : Evaluated) (e : s ≡ self) (h : IsSession s.case s.budget curves parts evaluated) (k : ℕ)
    (kept : Option (List Point)) (b : k < length (line_units self.case)) (is : kept ≡ get_or curves k kept) where
  there : get_or curves k None ≡ kept
  there =
      let within : k < length (line_units s.case) = subst (λ (z : SessionRows). k < length (line_units z.case)) (sym e) b in
      any_default curves k None kept (omega (arith, within, h.are_kept.count)) ∙ sym is

  -- a curve that is lent is the family's
  pub lent : IfSome kept (IsFamilyCurve plain_ends self.case [] (get_or (line_units self.case) k 0))
  lent =
      subst (λ (z : SessionRows). IfSome kept (IsFamilyCurve plain_ends z.case [] (get_or (line_units z.case) k 0))) e
      (subst (λ (o : Option (List Point)). IfSome o (IsFamilyCurve plain_ends s.case [] (get_or (line_units s.case) k 0))) there (h.are_kept.each k))

  -- and one is lent if the family's mark is on
  pub lent_mark : s.marks ≡ marks_of curves → is_some kept ≡ has_mark self.marks k
  lent_mark marks = sym (ap is_some there) ∙ sym (mark_is curves k) ∙ ap (λ m. has_mark m k) (sym marks) ∙ ap (λ (z : SessionRows). has_mark z.marks k) e

-- a reference to what there is
pub seen : {X : Type 0} (r : Option (Bor X)) (o : Option X) (P : X → Type 0) → option_copied r ≡ o → IfSome o P → IfSome r (λ x. P x.now)
seen None o P e h = tt
seen (Some x) o P e h = subst (λ z. IfSome z P) (sym e) h
