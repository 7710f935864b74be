use Rattle.std.proofs.Common.{◌≡◌, ℕ, ◌+◌, ◌-◌, ◌<◌, ◌≤◌, List, [], ◌∷◌, ◌++◌, drop, get_or, length, map, take, sym, ap, ◌∙◌, subst, arith}
use Rattle.std.specs.List.{AllZip}
use Rattle.std.proofs.lemmas.List.{take_more}
use Rattle.list_laws.proofs.Public.{zip_push}
use Rattle.hull.specs.declared.point.Point.{Point}
use Rattle.spares_input.specs.Cases.{CaseRows}
use Rattle.spares_input.specs.declared.rows.PartId.{PartId}
use Rattle.fleet_model.specs.Rows.{line_units}
use Rattle.family_points.specs.Inputs.{FamilyBox}
use Rattle.family_rows.specs.declared.sources.Sources.{Sources}
use Rattle.held_work.specs.Curves.{IsFamilyCurve}
use Rattle.held_plan.specs.Held.{HeldCase, held_box}
use Rattle.held_plan.proofs.HeldFacts.{as_many, held_same, some_is_line, some_line, some_long, source_of}
use Rattle.held_plan.proofs.curves.add_curves.Goals as goal

pub bounds_of-requires-clause-lines : goal.bounds_of-requires-clause-lines
bounds_of-requires-clause-lines g c =
    let within = subst (λ (k : CaseRows). c.args.to ≤ length (line_units k)) (sym c.case-case.ensures.case) c.requires.within in
    some_is_line c.case-case.result.now c.line_units-all.result.now c.line_units-all.ensures c.args.from c.args.to c.requires.order within

pub families_of-requires-clause-lines : goal.families_of-requires-clause-lines
families_of-requires-clause-lines g c =
    let within = subst (λ (k : CaseRows). c.args.to ≤ length (line_units k)) (sym c.case-case.ensures.case) c.requires.within in
    some_is_line c.case-case.result.now c.line_units-all.result.now c.line_units-all.ensures c.args.from c.args.to c.requires.order within

-- the line unit of the sources at the place k is that of the family from + k
module _ (x : HeldCase) (c : CaseRows) (all : List PartId) (sources : List Sources) (e : c ≡ x.case) (is : map (λ (p : PartId). p.0) all ≡ line_units c) (from to : ℕ) (order : from ≤ to) (within : to ≤ length (line_units x.case)) (are : map (λ (s : Sources). s.family.now) sources ≡ map (λ (p : PartId). held_box x p.0) (take (to - from) (drop from all))) where
  inside : to ≤ length (line_units c)
  inside = subst (λ (k : CaseRows). to ≤ length (line_units k)) (sym e) within

  -- they are as many as the families
  count : length sources ≡ to - from
  count = as_many x (take (to - from) (drop from all)) sources are ∙ some_long c all is from to order inside

  family : (s : Sources) (k : ℕ) → k < length sources → s ≡ get_or sources k s → s.family.now ≡ held_box x (get_or (line_units x.case) (from + k) 0)
  family s k h at =
      ap (λ (r : Sources). r.family.now) at ∙ source_of x (take (to - from) (drop from all)) sources are k s (record { 0 = 0 }) h
      ∙ ap (held_box x)
      (some_line c all is from to order inside k (record { 0 = 0 }) (omega (arith, h, as_many x (take (to - from) (drop from all)) sources are))
      ∙ ap (λ (k' : CaseRows). get_or (line_units k') (from + k) 0) e)

pub curve_from-requires-clause-family : goal.curve_from-requires-clause-family
curve_from-requires-clause-family g c =
    let x = c.args.families.now in
    let all = c.line_units-all.result.now in
    let sources = c.in_ok-sources.sources.items in
    let below : c.loop-k.k < length sources = let t = c.loop-k-test.true in let n = c.len-k-end.ensures in let o = c.in_ok-sources.sources.ok.0 in omega (arith, t, n, o) in
    let same = held_same x c.case-case.result.now c.rates-rates.result.now c.held-held.result.now c.case-case.ensures.case c.rates-rates.ensures c.held-held.ensures in
    let are : map (λ (s : Sources). s.family.now) sources ≡ map (λ (p : PartId). held_box x p.0) (take (c.args.to - c.args.from) (drop c.args.from all)) =
    c.in_ok-sources.ensures.families ∙ c.as_slice-2.ensures.value ∙ c.in_ok-boxes.ensures
    ∙ ap (λ (y : HeldCase). map (λ (p : PartId). held_box y p.0) (take (c.args.to - c.args.from) (drop c.args.from all))) same in
    let is = family x c.case-case.result.now all sources c.case-case.ensures.case c.line_units-all.ensures c.args.from c.args.to c.requires.order c.requires.within are c.index.result.now c.loop-k.k below c.index.ensures in
    is ∙ ap (held_box x) (sym (ap (λ (y : FamilyBox). y.line) is))

pub loop-k-preserved : goal.loop-k-preserved
loop-k-preserved g c =
    let x = c.args.families.now in
    let all = c.line_units-all.result.now in
    let sources = c.in_ok-sources.sources.items in
    let below : c.loop-k.k < length sources = let t = c.loop-k-test.true in let n = c.len-k-end.ensures in let o = c.in_ok-sources.sources.ok.0 in omega (arith, t, n, o) in
    let from = c.args.from in
    let k = c.loop-k.k in
    let units = line_units x.case in
    let same = held_same x c.case-case.result.now c.rates-rates.result.now c.held-held.result.now c.case-case.ensures.case c.rates-rates.ensures c.held-held.ensures in
    let are : map (λ (s : Sources). s.family.now) sources ≡ map (λ (p : PartId). held_box x p.0) (take (c.args.to - from) (drop from all)) =
    c.in_ok-sources.ensures.families ∙ c.as_slice-2.ensures.value ∙ c.in_ok-boxes.ensures
    ∙ ap (λ (y : HeldCase). map (λ (p : PartId). held_box y p.0) (take (c.args.to - from) (drop from all))) same in
    let is = family x c.case-case.result.now all sources c.case-case.ensures.case c.line_units-all.ensures from c.args.to c.requires.order c.requires.within are c.index.result.now k below c.index.ensures in
    let many = count x c.case-case.result.now all sources c.case-case.ensures.case c.line_units-all.ensures from c.args.to c.requires.order c.requires.within are in
    let least : from ≤ c.args.to = c.requires.order in
    let most : c.args.to ≤ length units = c.requires.within in
    let next : from + (k + 1) ≡ from + k + 1 = omega arith in
    let Is = IsFamilyCurve g.S.Score.ends x.case x.held.list in
    subst (λ (ys : List (List Point)). AllZip Is (take (from + (k + 1)) units) ys) (sym c.in_ok-push.ensures.items)
    (subst (λ (n : ℕ). AllZip Is (take n units) (c.loop-k.curves.items ++ c.in_ok-curve.curve ∷ [])) (sym next)
    (subst (λ (ls : List ℕ). AllZip Is ls (c.loop-k.curves.items ++ c.in_ok-curve.curve ∷ [])) (sym (take_more units (from + k) 0 (omega (arith, below, many, least, most))))
    (zip_push Is (take (from + k) units) c.loop-k.curves.items (get_or units (from + k) 0) c.in_ok-curve.curve c.loop-k.invariant
    (subst (λ (l : ℕ). Is l c.in_ok-curve.curve) (ap (λ (y : FamilyBox). y.line) is) c.in_ok-curve.ensures))))
