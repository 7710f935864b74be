use Rattle.std.proofs.Common.{ℕ, List, Option, None, IfSome, set, sym, subst, ◌∙◌, arith}
use Rattle.std.proofs.lemmas.List.{get_or_default}
use Rattle.std.proofs.lemmas.Result.{err_from_is_err_and}
use Rattle.hull.specs.declared.point.Point.{Point}
use Rattle.step_walk.specs.Prefix.{curve_at}
use Rattle.held_plan.specs.Kept.{AreKeptIn, IsPartIn}
use Rattle.held_plan.proofs.FirstParts.{no_parts_yet, one_more}
use Rattle.held_plan.proofs.KeptFacts.{kept_with}
use Rattle.held_plan.proofs.parts.parts_between.Goals as goal

pub part_taken-requires-clause-kept : goal.part_taken-requires-clause-kept
part_taken-requires-clause-kept g c =
    let kept = c.loop-f.kept.items in
    let h = c.loop-f.invariant.kept in
    let count = h.count in
    let long = c.requires.count in
    let within = c.loop-f-test.true in
    subst (λ (o : Option (List Point × ℕ)). IfSome o (IsPartIn c.args.window (curve_at (g.F.Families.points c.args.families.now) c.loop-f.f)))
    (sym (c.index_mut.ensures.value ∙ get_or_default kept c.loop-f.f c.index_mut.result.now None (omega (arith, count, long, within)))) (h.each c.loop-f.f)

pub loop-f-preserved : goal.loop-f-preserved
loop-f-preserved g c =
    let points = g.F.Families.points c.args.families.now in
    let h = c.loop-f.invariant.kept in
    let count = h.count in
    let long = c.requires.count in
    let within = c.loop-f-test.true in
    record {
      parts = one_more c.args.window.low c.args.window.high (g.F.Families.points c.args.families.now) c.loop-f.curves.items c.push.new.self.items c.loop-f.beyond.items c.push-in-loop-f.new.self.items
          c.in_ok-part.part c.in_ok-part.behind c.loop-f.f c.in_ok-push.ensures.items c.in_ok-push-2.ensures.items c.loop-f.invariant.parts c.in_ok-part.ensures.part;
      kept = subst (λ (o : Option (List Point × ℕ)). AreKeptIn c.args.window points (set c.loop-f.kept.items c.loop-f.f o)) (sym c.part_taken.ensures.kept)
          (kept_with c.args.window points c.loop-f.kept.items c.loop-f.f None (omega (arith, count, long, within)) tt h);
    }

pub returns-clause-beyond : goal.returns-clause-beyond
returns-clause-beyond g c =
    let a = c.loop-f.invariant.parts in
    let n = a.count in
    record {
      count = a.beyond_count ∙ sym a.count;
      each = λ f b. (a.each f (omega (arith, b, n))).behind;
    }

pub loop-f-init : goal.loop-f-init
loop-f-init g c = record {
  parts = no_parts_yet c.args.window.low c.args.window.high (g.F.Families.points c.args.families.now) c.new-curves.result.items c.new-beyond.result.items
      c.new-curves.ensures.items c.new-beyond.ensures.items;
  kept = c.requires.kept;
}

pub index_mut-requires : goal.index_mut-requires
index_mut-requires g c =
    let count = c.loop-f.invariant.kept.count in
    let long = c.loop-f.kept.ok.0 in
    let all = c.requires.count in
    let within = c.loop-f-test.true in
    omega (arith, count, long, all, within)

pub returns-clause-kept : goal.returns-clause-kept
returns-clause-kept g c = c.loop-f.invariant.kept

-- ---- want of memory

pub returns-in_err-part : goal.returns-in_err-part
returns-in_err-part g c =
    let points = g.F.Families.points c.args.families.now in
    let h = c.loop-f.invariant.kept in
    let count = h.count in
    let long = c.requires.count in
    let within = c.loop-f-test.true in
    let p = err_from_is_err_and c.from_residual.result c.from_residual.ensures.1 in
    record {
      parts = rw p.1 tt;
      beyond = rw p.1 tt;
      kept = subst (λ (o : Option (List Point × ℕ)). AreKeptIn c.args.window points (set c.loop-f.kept.items c.loop-f.f o)) (sym c.part_taken.ensures.kept)
          (kept_with c.args.window points c.loop-f.kept.items c.loop-f.f None (omega (arith, count, long, within)) tt h);
    }

pub returns-in_err-push : goal.returns-in_err-push
returns-in_err-push g c =
    let points = g.F.Families.points c.args.families.now in
    let h = c.loop-f.invariant.kept in
    let count = h.count in
    let long = c.requires.count in
    let within = c.loop-f-test.true in
    let p = err_from_is_err_and c.from_residual-in_err-push.result c.from_residual-in_err-push.ensures.1 in
    record {
      parts = rw p.1 tt;
      beyond = rw p.1 tt;
      kept = subst (λ (o : Option (List Point × ℕ)). AreKeptIn c.args.window points (set c.loop-f.kept.items c.loop-f.f o)) (sym c.part_taken.ensures.kept)
          (kept_with c.args.window points c.loop-f.kept.items c.loop-f.f None (omega (arith, count, long, within)) tt h);
    }

pub returns-in_err-push-2 : goal.returns-in_err-push-2
returns-in_err-push-2 g c =
    let points = g.F.Families.points c.args.families.now in
    let h = c.loop-f.invariant.kept in
    let count = h.count in
    let long = c.requires.count in
    let within = c.loop-f-test.true in
    let p = err_from_is_err_and c.from_residual-in_err-push-2.result c.from_residual-in_err-push-2.ensures.1 in
    record {
      parts = rw p.1 tt;
      beyond = rw p.1 tt;
      kept = subst (λ (o : Option (List Point × ℕ)). AreKeptIn c.args.window points (set c.loop-f.kept.items c.loop-f.f o)) (sym c.part_taken.ensures.kept)
          (kept_with c.args.window points c.loop-f.kept.items c.loop-f.f None (omega (arith, count, long, within)) tt h);
    }
