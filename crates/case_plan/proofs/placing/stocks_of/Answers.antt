use Rattle.std.proofs.Common.{◌≡◌, ◌*◌, ◌%◌, ◌<◌, length, sym, ap, ap₂, ◌∙◌, subst, arith, replicate, rules}
use Rattle.std.proofs.Math.Nat.{mul-mod_left}
use Rattle.std.proofs.lemmas.List.{length-map, length-replicate}
use Rattle.hull.specs.declared.point.Point.{Point}
use Rattle.spares_input.specs.declared.rows.PartId.{PartId}
use Rattle.fleet_model.specs.Fleet.{family}
use Rattle.step_walk.specs.Prefix.{picked}
use Rattle.price_bounds.specs.Soundness.{stocks_of}
use Rattle.case_plan.specs.Placing.{IsPlacedFamily}
use Rattle.case_plan.proofs.Families.{here, unit_pair, family_placed, none_placed, all_placed}
use Rattle.case_plan.proofs.placing.stocks_of.Goals as goal
use Rattle.case_plan.proofs.placing.stocks_of.Goals.{then-is_line, else-is_line}

pub of-stocks-requires-clause-whole : goal.of-stocks-requires-clause-whole
of-stocks-requires-clause-whole c =
    let zeros : c.in_ok-vec.field-0.items ≡ replicate (c.part_count-parts.result * c.site_count-sites.result) 0 = search rules in
    ap (λ xs. length xs % c.site_count-sites.result) zeros ∙ ap (λ n. n % c.site_count-sites.result) (length-replicate (c.part_count-parts.result * c.site_count-sites.result) 0)
    ∙ mul-mod_left c.part_count-parts.result c.site_count-sites.result

pub pick_of-point-requires-clause-family : goal.pick_of-point-requires-clause-family
pick_of-point-requires-clause-family c =
    (here c.args.case.now c.site_count-sites.ensures.valid c.args.curves.now c.args.picks.now c.loop-p.stocks c.loop-p.p c.loop-p.f
    (subst (λ n. c.loop-p.p < n) c.part_count-parts.ensures.count c.loop-p-test.true) (sym c.is_line.ensures ∙ c.if-is_line.true) c.requires.vertices.count c.requires.widths c.loop-p.invariant).curve

pub place_vector-requires-clause-pairs : goal.place_vector-requires-clause-pairs
place_vector-requires-clause-pairs c i k d l b =
    unit_pair c.args.case.now c.loop-p.stocks c.family-units.result.now c.loop-p.p i k d c.site_count-sites.ensures.valid c.loop-p.invariant.is_for
    (subst (λ n. c.loop-p.p < n) c.part_count-parts.ensures.count c.loop-p-test.true) (sym c.is_line.ensures ∙ c.if-is_line.true)
    c.family-units.ensures l (subst (λ n. k < n) c.site_count-sites.ensures.count b)

pub place_vector-requires-clause-count : goal.place_vector-requires-clause-count
place_vector-requires-clause-count c =
    let h = here c.args.case.now c.site_count-sites.ensures.valid c.args.curves.now c.args.picks.now c.loop-p.stocks c.loop-p.p c.loop-p.f
    (subst (λ n. c.loop-p.p < n) c.part_count-parts.ensures.count c.loop-p-test.true) (sym c.is_line.ensures ∙ c.if-is_line.true) c.requires.vertices.count c.requires.widths c.loop-p.invariant in
    ap length (c.as_slice.ensures ∙ ap (λ (v : Point). v.stocks) c.pick_of-point.ensures.is) ∙ h.width
    ∙ ap₂ (λ a b. a * b) (sym c.site_count-sites.ensures.count) (sym (ap length c.family-units.ensures) ∙ length-map c.family-units.result.now (λ (q : PartId). q.0))

pub overflow_add-f : goal.overflow_add-f
overflow_add-f c =
    let h = here c.args.case.now c.site_count-sites.ensures.valid c.args.curves.now c.args.picks.now c.loop-p.stocks c.loop-p.p c.loop-p.f
    (subst (λ n. c.loop-p.p < n) c.part_count-parts.ensures.count c.loop-p-test.true) (sym c.is_line.ensures ∙ c.if-is_line.true) c.requires.vertices.count c.requires.widths c.loop-p.invariant in
    (let m = c.site_count-sites.ensures.valid.frame.most_parts in let b = h.few in omega (arith, m, b))

pub loop-p-preserved : goal.loop-p-preserved
loop-p-preserved c =
    elim c.if-is_line.branch [
      | then-is_line w ↦
          let k = sym c.is_line.ensures ∙ w.if-is_line.true in
          let lp : c.loop-p.p < length c.args.case.now.parts = (subst (λ n. c.loop-p.p < n) c.part_count-parts.ensures.count c.loop-p-test.true) in
          let h = here c.args.case.now c.site_count-sites.ensures.valid c.args.curves.now c.args.picks.now c.loop-p.stocks c.loop-p.p c.loop-p.f lp k c.requires.vertices.count c.requires.widths c.loop-p.invariant in
          let v = w.as_slice.ensures ∙ ap (λ (v : Point). v.stocks) w.pick_of-point.ensures.is in
          rw (w.stocks-is, w.f-is)
          (family_placed c.args.case.now c.site_count-sites.ensures.valid (stocks_of (picked c.args.curves.now c.args.picks.now)) c.loop-p.stocks w.place_vector.new.stocks c.loop-p.p c.loop-p.f
          w.as_slice.result.now lp k c.loop-p.invariant c.requires.widths (h.vector ∙ sym v)
          (subst (λ n. IsPlacedFamily c.loop-p.stocks w.place_vector.new.stocks (family c.args.case.now c.loop-p.p) w.as_slice.result.now n) c.site_count-sites.ensures.count
          (subst (λ ps. IsPlacedFamily c.loop-p.stocks w.place_vector.new.stocks ps w.as_slice.result.now c.site_count-sites.result) w.family-units.ensures w.place_vector.ensures)))
      | else-is_line w ↦
          rw (w.stocks-is, w.f-is)
          (none_placed c.args.case.now c.site_count-sites.ensures.valid (stocks_of (picked c.args.curves.now c.args.picks.now)) c.loop-p.stocks c.loop-p.p c.loop-p.f (sym c.is_line.ensures ∙ w.if-is_line.false) c.loop-p.invariant)
    ]

pub returns-clause-vectors : goal.returns-clause-vectors
returns-clause-vectors c =
    all_placed c.args.case.now c.site_count-sites.ensures.valid (stocks_of (picked c.args.curves.now c.args.picks.now)) c.loop-p.stocks c.loop-p.p c.loop-p.f
    (let t = c.loop-p-test.false in let e = c.loop-p.auto.p-end in let n = c.part_count-parts.ensures.count in omega (arith, t, e, n)) c.requires.widths c.loop-p.invariant
