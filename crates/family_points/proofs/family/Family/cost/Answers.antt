use Rattle.std.proofs.Common.{◌≡◌, ◌-◌, ◌*◌, ◌+◌, ◌<◌, ◌≤◌, length, get_or, take, drop, sym, ap, ap₂, ◌∙◌, subst, arith}
use Rattle.std.proofs.Math.ListN.{drop_of_length-le}
use Rattle.family_points.specs.Points.{cost_above}
use Rattle.spares_input.specs.Frames.{part_at}
use Rattle.fleet_model.specs.Fleet.{family}
use Rattle.family_points.specs.Inputs.{FamilyBox, held_at}
use Rattle.family_points.proofs.Bounded.{Costs, at_long, costs_on, held_long, held_most, held_part_long, id_at, ids_long, member_is, part_within}
use Rattle.family_points.proofs.family.Family.cost.Goals as goal

pub part_of-held-requires-clause-within : goal.part_of-held-requires-clause-within
part_of-held-requires-clause-within c =
    let site = subst (λ (x : FamilyBox). c.args.site.0 < length x.case.sites) (sym c.self.view_is) c.requires.site in
    let size = subst (λ (x : FamilyBox). c.size-size.result ≡ length (family x.case x.line)) (sym c.self.view_is) c.size-size.ensures.size in
    part_within c.args.site.0 (length c.self.inside.case.now.sites) c.size-size.result _ site
    (ap length c.as_slice.ensures ∙ held_long _ c.self.invariant.0 ∙ ap (λ n. length c.self.inside.case.now.sites * n) (sym size))

pub part-requires : goal.part-requires
part-requires c =
    let size = subst (λ (x : FamilyBox). c.size-size.result ≡ length (family x.case x.line)) (sym c.self.view_is) c.size-size.ensures.size in
    let long = ids_long c.self.inside.case.now c.self.inside.line.0 c.self.inside.members.now c.self.invariant.1 in
    let e = id_at c.self.inside.case.now c.self.inside.line.0 c.self.inside.members.now c.loop-i.i (record { 0 = 0 }) c.self.invariant.1
    (omega (arith, c.loop-i-test.true, size, long)) in
    subst (λ n. n < length c.self.inside.case.now.parts) (sym e) (member_is _ c.self.invariant.0 c.loop-i.i (omega (arith, c.loop-i-test.true, size)))

pub bounds-stocks-i : goal.bounds-stocks-i
bounds-stocks-i c = omega (arith, c.loop-i-test.true, c.size-size.ensures.size, at_long c.args.self.now c.size-size.ensures.valid c.args.site.0 c.args.stocks.now c.requires.site c.requires.stocks)

pub bounds-held-i : goal.bounds-held-i
bounds-held-i c =
    let held : c.part_of-held.result.now ≡ held_at c.args.self.now c.args.site.0 =
    c.part_of-held.ensures ∙ ap₂ (λ n h. take n (drop (c.args.site.0 * n) h)) c.size-size.ensures.size (c.as_slice.ensures ∙ ap (λ (x : FamilyBox). x.held) c.self.view_is) in
    omega (arith, c.loop-i-test.true, c.size-size.ensures.size, ap length held, held_part_long c.args.self.now c.size-size.ensures.valid c.args.site.0 c.requires.site)

pub overflow_sub-stocks : goal.overflow_sub-stocks
overflow_sub-stocks c =
    let held : c.part_of-held.result.now ≡ held_at c.args.self.now c.args.site.0 =
    c.part_of-held.ensures ∙ ap₂ (λ n h. take n (drop (c.args.site.0 * n) h)) c.size-size.ensures.size (c.as_slice.ensures ∙ ap (λ (x : FamilyBox). x.held) c.self.view_is) in
    subst (λ h. get_or h c.loop-i.i 0 ≤ get_or c.args.stocks.now c.loop-i.i 0) (sym held)
    (held_most c.args.self.now c.size-size.ensures.valid c.args.site.0 c.loop-i.i c.args.stocks.now c.requires.site c.requires.stocks (omega (arith, c.loop-i-test.true, c.size-size.ensures.size)))

-- the cost with one part more
costed : (c : goal.After-from) → Costs c.args.self.now c.args.site.0 c.args.stocks.now (c.loop-i.i + 1) (c.loop-i.cost + c.from.result * c.from-each.result)
costed c =
    let held : c.part_of-held.result.now ≡ held_at c.args.self.now c.args.site.0 =
    c.part_of-held.ensures ∙ ap₂ (λ n h. take n (drop (c.args.site.0 * n) h)) c.size-size.ensures.size (c.as_slice.ensures ∙ ap (λ (x : FamilyBox). x.held) c.self.view_is) in
    let size = subst (λ (x : FamilyBox). c.size-size.result ≡ length (family x.case x.line)) (sym c.self.view_is) c.size-size.ensures.size in
    let long = ids_long c.self.inside.case.now c.self.inside.line.0 c.self.inside.members.now c.self.invariant.1 in
    let e = id_at c.self.inside.case.now c.self.inside.line.0 c.self.inside.members.now c.loop-i.i (record { 0 = 0 }) c.self.invariant.1
    (omega (arith, c.loop-i-test.true, size, long)) in
    let cost : c.from-each.result ≡ (part_at c.args.self.now.case.parts (get_or (family c.args.self.now.case c.args.self.now.line) c.loop-i.i 0)).cost =
    c.from-each.ensures ∙ ap (λ r. r.cost) (c.part.ensures.row ∙ ap (part_at c.self.inside.case.now.parts) e)
    ∙ ap (λ (x : FamilyBox). (part_at x.case.parts (get_or (family x.case x.line) c.loop-i.i 0)).cost) c.self.view_is in
    let units : c.from.result ≡ get_or c.args.stocks.now c.loop-i.i 0 - get_or (held_at c.args.self.now c.args.site.0) c.loop-i.i 0 =
    c.from.ensures ∙ ap (λ h. get_or c.args.stocks.now c.loop-i.i 0 - get_or h c.loop-i.i 0) held in
    subst (Costs c.args.self.now c.args.site.0 c.args.stocks.now (c.loop-i.i + 1)) (ap₂ (λ a b. c.loop-i.cost + a * b) (sym units) (sym cost))
    (costs_on c.args.self.now c.size-size.ensures.valid c.args.site.0 c.loop-i.i c.loop-i.cost c.args.stocks.now c.requires.site c.requires.stocks
    (omega (arith, c.loop-i-test.true, c.size-size.ensures.size)) c.loop-i.invariant)

pub loop-i-preserved : goal.loop-i-preserved
loop-i-preserved c = costed c

pub offset_bounds-self-inside-i : goal.offset_bounds-self-inside-i
offset_bounds-self-inside-i c = omega (arith, c.loop-i-test.true, c.size-size.ensures.few)

pub bounds-self-inside-i : goal.bounds-self-inside-i
bounds-self-inside-i c =
    let size = subst (λ (x : FamilyBox). c.size-size.result ≡ length (family x.case x.line)) (sym c.self.view_is) c.size-size.ensures.size in
    omega (arith, c.loop-i-test.true, size, ids_long c.self.inside.case.now c.self.inside.line.0 c.self.inside.members.now c.self.invariant.1)

pub overflow_mul-cost : goal.overflow_mul-cost
overflow_mul-cost c = omega (arith, (costed c).most, c.loop-i-test.true, c.size-size.ensures.few)

pub overflow_add-cost : goal.overflow_add-cost
overflow_add-cost c = omega (arith, (costed c).most, c.loop-i-test.true, c.size-size.ensures.few)

pub returns-clause-cost : goal.returns-clause-cost
returns-clause-cost c =
    let x = c.args.self.now in
    let done = drop_of_length-le (family x.case x.line) {i = c.loop-i.i} (omega (arith, c.loop-i-test.false, c.size-size.ensures.size)) in
    omega (arith, c.loop-i.invariant.goes_on, ap (λ ps. cost_above x.case ps (drop c.loop-i.i (held_at x c.args.site.0)) (drop c.loop-i.i c.args.stocks.now)) done)

pub returns-clause-most : goal.returns-clause-most
returns-clause-most c = omega (arith, c.loop-i.invariant.most, c.loop-i.auto.i-end, c.size-size.ensures.few)

pub loop-i-init : goal.loop-i-init
loop-i-init c = record { goes_on = omega arith; most = omega arith }
