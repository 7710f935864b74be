use Rattle.std.proofs.Common.{ℕ, ◌≤◌, ◌+◌, Global, List, Vec, length, ap, subst, sym, ◌∙◌, arith}
use Rattle.std.specs.List.{All}
use Rattle.std.proofs.lemmas.List.{length_push}
use Rattle.std.proofs.lemmas.List.Elements.{All-push}
use Rattle.spares_input.specs.Cases.{CaseRows}
use Rattle.spares_input.specs.declared.rows.PartId.{PartId}
use Rattle.family_items.specs.Inputs.{IsLine}
use Rattle.held_plan.proofs.families.HeldFamilies.sample.Goals.{then-family-every+in_ok-push, else-family-every}
use Rattle.held_plan.proofs.families.HeldFamilies.sample.Goals as goal

-- so many line units of a case, or fewer
abbrev AreLines : CaseRows → List PartId → ℕ → Type 0
AreLines case ps n = record {
  lines : All (λ (p : PartId). IsLine case p.0) ps;
  few : length ps ≤ n;
}

pub loop-family-preserved : goal.loop-family-preserved
loop-family-preserved g c =
    let h = c.loop-family.invariant in
    let few = h.few in
    elim c.if-family-every.branch [
      | then-family-every+in_ok-push w ↦
          let is = ap (λ (v : Vec PartId Global). v.items) w.lines-is ∙ w.in_ok-push.ensures.items in
          let one = length_push c.loop-family.lines.items w.line.result in
          subst (λ (ps : List PartId). AreLines c.args.self.now.case ps (c.loop-family.family + 1)) (sym is) (record {
            lines = All-push (λ (p : PartId). IsLine c.args.self.now.case p.0) c.loop-family.lines.items w.line.result h.lines w.line.ensures.is_line;
            few = omega (arith, few, one);
          })
      | else-family-every w ↦
          let is = ap (λ (v : Vec PartId Global). v.items) w.lines-is in
          subst (λ (ps : List PartId). AreLines c.args.self.now.case ps (c.loop-family.family + 1)) (sym is) (record {
            lines = h.lines;
            few = omega (arith, few);
          })
    ]

pub returns : goal.returns
returns g c = (
    let h = c.loop-family.invariant in
    let most = c.count-family-end.ensures.few in
    let end = c.loop-family.auto.family-end in
    let few = h.few in
    record { lines = h.lines; few = omega (arith, few, most, end) })
