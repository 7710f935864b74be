use Rattle.std.proofs.Common.{ℕ, ◌<◌, List, length, get_or, sym, ap, ◌∙◌, subst, arith}
use Rattle.std.proofs.lemmas.List.{get_or-map, length-map}
use Rattle.spares_input.specs.declared.rows.PartId.{PartId}
use Rattle.fleet_model.specs.Fleet.{family}
use Rattle.family_items.proofs.Public.{member_in_case}
use Rattle.held_plan.proofs.size.size_of.Goals as goal

pub size_of_parts-requires : goal.size_of_parts-requires
size_of_parts-requires c = λ k d h.
    let x = c.args.case.now in
    let parts = c.family.result.now in
    let same = c.family.ensures in
    let within : k < length (family x c.args.line.0) = omega (arith, h, ap (λ (v : List ℕ). length v) same, length-map parts (λ (p : PartId). p.0)) in
    rw c.of-rated.ensures
    (subst (λ i. i < length x.parts) (ap (λ (v : List ℕ). get_or v k 0) (sym same) ∙ get_or-map (λ (p : PartId). p.0) parts k d 0 h)
    (member_in_case x c.args.line.0 k c.invariant.ensures.valid c.requires.line within))
