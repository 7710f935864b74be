use Rattle.std.proofs.Common.{◌≡◌, ◌+◌, ◌-◌, ◌*◌, length, ap, ◌∙◌, arith}
use Rattle.answers.specs.Counts.{count64}
use Rattle.fleet_model.specs.Rows.{shop_units}
use Rattle.family_points.specs.Rooms.{bounds_of}
use Rattle.family_points.proofs.Bounded.{ids_long}
use Rattle.family_points.proofs.Rooms.{rooms_ordered}
use Rattle.family_points.proofs.TableFacts.{based_more, tables_are_between}
use Rattle.family_points.proofs.counts.count_tables.Goals as goal

pub loop-j-preserved : goal.loop-j-preserved
loop-j-preserved c =
    let x = bounds_of c.args.case.now c.args.line.0 c.args.rooms in
    based_more c.args.case.now c.args.line.0 x.low x.high c.loop-j.j c.loop-j.shops c.site_rooms-shops.result.shops c.loop-j.auto.j c.site_rooms-shops.ensures.shops
    c.site_rooms-shops.ensures.few.1.1 c.loop-j.invariant

pub returns : goal.returns
returns c =
    let k = c.args.case.now in
    let l = c.args.line.0 in
    let x = bounds_of k l c.args.rooms in
    let valid = c.site_count.ensures.valid in
    let few = valid.frame.fewest_sites in
    let depot = c.site_rooms-depot.result in
    let units = length c.family.result.now - 1 in
    let count : units ≡ length (shop_units k l) = omega (arith, ids_long k l c.family.result.now c.family.ensures) in
    let last : c.loop-j.j ≡ length k.sites =
    omega (arith, c.loop-j-test.false, c.loop-j.auto.j-end (omega (arith, few, c.site_count-j-end.ensures.count)), c.site_count-j-end.ensures.count) in
    let bases : c.from-bases.result - 1 ≡ length k.sites - 1 = ap (λ n. n - 1) (c.from-bases.ensures ∙ c.site_count.ensures.count) in
    tables_are_between k l x.held x.low x.high valid c.requires.line (rooms_ordered k l c.args.rooms valid c.requires.line c.requires.rooms)
    units depot.line depot.sum depot.shops c.loop-j.j c.loop-j.shops c.saturating_add.result count (omega (arith, few))
    c.site_rooms-depot.ensures.line c.site_rooms-depot.ensures.sum c.site_rooms-depot.ensures.shops last c.loop-j.invariant
    (c.saturating_add.ensures
    ∙ ap (λ n. count64 (units + depot.shops + n * depot.sum + c.saturating_mul.result)) bases
    ∙ ap (λ n. count64 (units + depot.shops + (length k.sites - 1) * depot.sum + n)) c.saturating_mul.ensures)
