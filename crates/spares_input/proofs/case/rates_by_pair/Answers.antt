use Rattle.std.proofs.Common.{◌*◌}
use Rattle.spares_input.specs.Rows.{no_rate}
use Rattle.spares_input.specs.Cases.{rate_place}
use Rattle.spares_input.specs.Building.{missing_rate_at}
use Rattle.spares_input.proofs.Outcomes.{stops_last}
use Rattle.spares_input.proofs.PlaceFacts.{vacant_same, all_in_order}
use Rattle.spares_input.proofs.case.rates_by_pair.Goals as goal

pub returns-clause-fault : goal.returns-clause-fault
returns-clause-fault c =
    let f = rw c.as_slice.ensures.value at c.rows_of_places.ensures.fault in
    let same = vacant_same (rate_place c.args.sites) (missing_rate_at c.args.sites) (c.args.parts * c.args.sites) c.args.rows.now c.in_ok-places.places.items c.in_ok-places.ensures.placed in
    stops_last _ _ c.rows_of_places.result c.in_ok-places.ensures.fault (rw same at f)

pub returns-clause-rows : goal.returns-clause-rows
returns-clause-rows c =
    let f = rw c.as_slice.ensures.value at c.rows_of_places.ensures.rows in
    all_in_order (rate_place c.args.sites) c.rows_of_places.result no_rate (c.args.parts * c.args.sites) c.args.rows.now c.in_ok-places.places.items c.in_ok-places.ensures.placed f
