use Rattle.std.proofs.Common.{◌≡◌, ◌+◌, ◌-◌, ◌<◌, IfSome, List, set, sym, ap, ◌∙◌, subst, arith}
use Rattle.hull.specs.declared.point.Point.{Point}
use Rattle.price_bounds.specs.Sums.{cost_of, hi_of}
use Rattle.step_walk.specs.Prefix.{picked}
use Rattle.marginal_alloc.specs.Filling.{IsBestChange, change, full}
use Rattle.marginal_alloc.proofs.Public.{changed_vertices, hi_falls}
use Rattle.part_filling.specs.Known.{IsFound}
use Rattle.part_filling.proofs.Picked.{same_changed}
use Rattle.part_filling.proofs.filling.fill_parts.Goals as goal

pub changes-init : goal.changes-init
changes-init g c =
    let next = c.in_ok-found.ensures in
    let known = c.args.known.now.curves.items in
    let picks = c.args.known.now.picks.items in
    let cost : c.cost_at.result ≡ cost_of (picked known picks) =
    c.cost_at.ensures ∙ ap (λ l. cost_of (picked l c.as_slice-2.result.now)) c.as_slice.ensures.value ∙ ap (λ l. cost_of (picked known l)) c.as_slice-2.ensures.value in
    let all : cost_of (picked known picks) + (c.args.budget - c.cost_at.result) ≡ c.args.budget = (let fits = c.requires.fits in omega (arith, cost, fits)) in
    record {
      known = next.known;
      vertices = next.vertices;
      money = ap (λ vs. cost_of vs + (c.args.budget - c.cost_at.result)) next.picks ∙ all;
      some = subst (λ m. IfSome c.in_ok-found.found (λ x. IsBestChange c.next_change.new.known.curves.items m c.next_change.new.known.picks.items x.family x.vertex)) all next.some;
      found = subst (λ m. IsFound (g.F.Families.points c.args.families.now) m c.next_change.new.known.curves.items c.next_change.new.known.picks.items c.in_ok-found.found) all next.found;
      on = λ curves starts areas at. (starts, record { vertices = at.vertices; same = at.same ∙ sym next.picks }, λ end rest. rest);
    }

pub changes-smaller : goal.changes-smaller
changes-smaller g c =
    let known = c.changes.known.curves.items in
    let picks = c.changes.known.picks.items in
    let f = c.in-Some.change.family in
    let k = c.in-Some.change.vertex in
    let b : IsBestChange known c.args.budget picks f k = subst (λ x. IfSome x (λ y. IsBestChange known c.args.budget picks y.family y.vertex)) c.in-Some.is c.changes.invariant.some in
    subst (λ (vs : List Point). hi_of vs < hi_of (picked known picks)) (sym (c.in_ok-found-2.ensures.picks ∙ ap (picked known) c.take_change-left.ensures.picks))
    (hi_falls known picks f k b.change.family c.changes.invariant.vertices.count b.change.lower)

pub changes-preserved : goal.changes-preserved
changes-preserved g c =
    let i = c.changes.invariant in
    let next = c.in_ok-found-2.ensures in
    let known = c.changes.known.curves.items in
    let picks = c.changes.known.picks.items in
    let f = c.in-Some.change.family in
    let k = c.in-Some.change.vertex in
    let is = c.take_change-left.ensures.picks in
    let b : IsBestChange known c.args.budget picks f k = subst (λ x. IfSome x (λ y. IsBestChange known c.args.budget picks y.family y.vertex)) c.in-Some.is i.some in
    let found = subst (IsFound (g.F.Families.points c.args.families.now) c.args.budget known picks) c.in-Some.is i.found in
    let all : cost_of (picked known c.take_change-left.new.picks.items) + c.take_change-left.result ≡ c.args.budget =
    subst (λ l. cost_of (picked l c.take_change-left.new.picks.items) + c.take_change-left.result ≡ cost_of (picked l picks) + c.changes.left) c.as_slice-in-Some.ensures.value c.take_change-left.ensures.money ∙ i.money in
    record {
      known = next.known;
      vertices = next.vertices;
      money = ap (λ vs. cost_of vs + c.take_change-left.result) next.picks ∙ all;
      some = subst (λ m. IfSome c.in_ok-found-2.found (λ x. IsBestChange c.next_change-in-Some.new.known.curves.items m c.next_change-in-Some.new.known.picks.items x.family x.vertex)) all next.some;
      found = subst (λ m. IsFound (g.F.Families.points c.args.families.now) m c.next_change-in-Some.new.known.curves.items c.next_change-in-Some.new.known.picks.items c.in_ok-found-2.found) all next.found;
      on = λ curves starts areas at.
          let r = i.on curves starts areas at in
          let t = found curves r.0 areas r.1 in (
            set r.0 f t.0,
            record {
              vertices = changed_vertices curves r.0 f t.0 t.1.change.family t.1.change.vertex r.1.vertices;
              same = same_changed curves known r.0 picks f t.0 k r.1.vertices.count i.vertices.count (sym i.known.count ∙ areas.count) t.1.change.family r.1.same t.2
                  ∙ ap (picked known) (sym is) ∙ sym next.picks;
            },
            λ end rest. r.2 end (change f t.0 t.1 rest),
          );
    }

pub returns-clause-fills : goal.returns-clause-fills
returns-clause-fills g c =
    let i = c.changes.invariant in
    let none = subst (IsFound (g.F.Families.points c.args.families.now) c.args.budget c.changes.known.curves.items c.changes.known.picks.items) c.in_default.is i.found in
    λ curves starts areas at. (let r = i.on curves starts areas at in (r.0, r.1, r.2 r.0 (full (none curves r.0 areas r.1))))
