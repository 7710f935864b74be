use Rattle.std.proofs.Common.{◌≡◌, ◌∙◌, ap, flat_map, lit<, map, subst}
use Rattle.spares_input.specs.declared.rows.PartId.{PartId}
use Rattle.spares_input.specs.declared.rows.PartRow.{PartRow}
use Rattle.fleet_model.specs.Rows.{all_sites}
use Rattle.demand_rates.specs.Rates.{RatedCase}
use Rattle.family_numbers.specs.Numbers.{pair_numbers}
use Rattle.family_numbers.proofs.Numbered.{gathered, member_in, numbers_made}
use Rattle.family_numbers.proofs.numbers.Numbers.of.Goals as goal

pub all_numbers-requires : goal.all_numbers-requires
all_numbers-requires g c = (
  lit< tt,
  (
    c.requires.scale,
    λ k d h. rw c.of-rated.ensures
        (member_in c.args.case.now c.args.line.0 c.in_ok-members.members.items c.as_slice.result.now k d c.site_count-site_count.ensures.valid c.requires.line
        c.as_slice.ensures.value (ap (map (λ (p : PartId). p.0)) (c.in_ok-members.ensures.items_if_clones_equal (λ x y e. e)) ∙ c.family.ensures) h),
  ),
)

pub invariant_of-result : goal.invariant_of-result
invariant_of-result g c =
    let own = subst (λ (x : RatedCase). c.in_ok-own.own.items ≡ flat_map (λ (p : PartId). map (pair_numbers g.row.F x.case p.0) (all_sites x.case)) c.as_slice.result.now)
    c.of-rated.ensures c.in_ok-own.ensures in
    numbers_made g.row.F c.args.case.now c.args.rates.now c.args.line.0 _ c.requires.scale.0 c.site_count-site_count.ensures.valid c.requires.rates c.requires.line
    (gathered g.row.F c.args.case.now c.args.line.0 c.in_ok-members.members.items c.as_slice.result.now c.site_count-site_count.result c.from.result c.in_ok-own.own.items
    (ap (map (λ (p : PartId). p.0)) (c.in_ok-members.ensures.items_if_clones_equal (λ x y e. e)) ∙ c.family.ensures) c.site_count-site_count.ensures.count c.as_slice.ensures.value own (c.from.ensures ∙ ap (λ (r : PartRow). r.weight) c.part.ensures.row))

pub returns : goal.returns
returns g c =
    let own = subst (λ (x : RatedCase). c.in_ok-own.own.items ≡ flat_map (λ (p : PartId). map (pair_numbers g.row.F x.case p.0) (all_sites x.case)) c.as_slice.result.now)
    c.of-rated.ensures c.in_ok-own.ensures in
    gathered g.row.F c.args.case.now c.args.line.0 c.in_ok-members.members.items c.as_slice.result.now c.site_count-site_count.result c.from.result c.in_ok-own.own.items
    (ap (map (λ (p : PartId). p.0)) (c.in_ok-members.ensures.items_if_clones_equal (λ x y e. e)) ∙ c.family.ensures) c.site_count-site_count.ensures.count c.as_slice.ensures.value own (c.from.ensures ∙ ap (λ (r : PartRow). r.weight) c.part.ensures.row)
