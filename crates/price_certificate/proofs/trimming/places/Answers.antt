use Rattle.std.proofs.Common.{◌≡◌, ◌<◌, ◌≤◌, ◌%◌, ap, length, map, subst, sym, ◌∙◌, arith}
use Rattle.std.proofs.lemmas.List.Elements.{All-nil, All-push}
use Rattle.std.proofs.lemmas.Nat.{mod_below}
use Rattle.std.proofs.lemmas.Result.{IfOk-from_err}
use Rattle.std.specs.List.{range_with_len}
use Rattle.price_certificate.specs.declared.place.Place.{Place}
use Rattle.price_certificate.specs.Covers.{IsPlace, parts_of_family, place_at, place_count}
use Rattle.price_certificate.proofs.Families.{same_length, place_is, site_below, places_more}
use Rattle.price_certificate.proofs.trimming.places.Goals as goal

pub overflow_cast-site : goal.overflow_cast-site
overflow_cast-site c =
    let lt : c.loop-m.m < place_count c.args.case.now c.args.line.0 = omega (arith, c.loop-m-test.true, c.requires.count) in
    let site = site_below c.args.case.now c.args.line.0 c.args.parts.now c.loop-m.m c.requires.parts lt in
    grind (arith, site, c.invariant.ensures.valid.frame.most_sites)

pub place_of-requires-clause-held : goal.place_of-requires-clause-held
place_of-requires-clause-held c =
    let rows = c.args.case.now in
    let lt : c.loop-m.m < place_count rows c.args.line.0 = omega (arith, c.loop-m-test.true, c.requires.count) in
    let same = place_is rows c.args.line.0 c.args.parts.now c.args.held.now c.loop-m.m (record { 0 = 0 }) c.requires.parts in
    subst (λ (x : Place). x.held ≤ x.most) (sym same) (c.requires.within c.loop-m.m lt)

pub loop-m-preserved : goal.loop-m-preserved
loop-m-preserved c =
    let rows = c.args.case.now in
    let same = place_is rows c.args.line.0 c.args.parts.now c.args.held.now c.loop-m.m (record { 0 = 0 }) c.requires.parts in (
      places_more rows c.args.line.0 c.args.held.now c.loop-m.m c.loop-m.found.items c.push.new.self.items c.place_of.result c.loop-m.invariant.0 (c.place_of.ensures.place ∙ same) c.in_ok-push.ensures.items,
      rw c.in_ok-push.ensures.items (All-push IsPlace c.loop-m.found.items c.place_of.result c.loop-m.invariant.1 c.place_of.ensures.valid),
    )

pub returns-in_err-push-clause-places : goal.returns-in_err-push-clause-places
returns-in_err-push-clause-places c = IfOk-from_err c.from_residual.result _ c.from_residual.ensures.0

pub returns-in_err-push-clause-valid : goal.returns-in_err-push-clause-valid
returns-in_err-push-clause-valid c = IfOk-from_err c.from_residual.result _ c.from_residual.ensures.0

-- a family has its line unit
some_parts : (c : goal.In-loop-m) → 0 < length c.args.parts.now
some_parts c = omega (arith, same_length c.args.parts.now (parts_of_family c.args.case.now c.args.line.0) c.requires.parts)

pub nonzero_rem-part : goal.nonzero_rem-part
nonzero_rem-part c = some_parts c

pub nonzero_div-site : goal.nonzero_div-site
nonzero_div-site c = omega (arith, same_length c.args.parts.now (parts_of_family c.args.case.now c.args.line.0) c.requires.parts)

pub place_of-requires-clause-part : goal.place_of-requires-clause-part
place_of-requires-clause-part c =
    let some : 0 < length c.args.parts.now = omega (arith, same_length c.args.parts.now (parts_of_family c.args.case.now c.args.line.0) c.requires.parts) in
    c.requires.ids (c.loop-m.m % length c.args.parts.now) (record { 0 = 0 }) (mod_below c.loop-m.m (length c.args.parts.now) some)

pub place_of-requires-clause-site : goal.place_of-requires-clause-site
place_of-requires-clause-site c =
    let lt : c.loop-m.m < place_count c.args.case.now c.args.line.0 = omega (arith, c.loop-m-test.true, c.requires.count) in
    site_below c.args.case.now c.args.line.0 c.args.parts.now c.loop-m.m c.requires.parts lt

pub loop-m-init : goal.loop-m-init
loop-m-init c = (c.new-found.ensures.items, rw c.new-found.ensures.items (All-nil IsPlace))

pub returns-clause-places : goal.returns-clause-places
returns-clause-places c =
    let all : c.loop-m.m ≡ place_count c.args.case.now c.args.line.0 = omega (arith, c.loop-m-test.false, c.loop-m.auto.m-end, c.requires.count) in
    c.loop-m.invariant.0 ∙ ap (λ n. map (place_at c.args.case.now c.args.line.0 c.args.held.now) (range_with_len 0 n)) all

pub returns-clause-valid : goal.returns-clause-valid
returns-clause-valid c = c.loop-m.invariant.1
