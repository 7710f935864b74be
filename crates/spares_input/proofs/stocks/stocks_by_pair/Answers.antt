use Rattle.std.proofs.Common.{◌*◌, length}
use Rattle.spares_input.specs.Stocks.{stock_place}
use Rattle.spares_input.specs.Building.{missing_stock_at}
use Rattle.spares_input.proofs.Outcomes.{stops_last}
use Rattle.spares_input.proofs.PlaceFacts.{vacant_same}
use Rattle.spares_input.proofs.StockFacts.{all_stocks}
use Rattle.spares_input.proofs.stocks.stocks_by_pair.Goals as goal

pub returns-clause-fault : goal.returns-clause-fault
returns-clause-fault c =
    let case = c.args.case.now in
    let f = rw (c.as_slice.ensures.value, c.site_count-sites.ensures.count) at c.stocks_of_places.ensures.fault in
    let same = vacant_same (stock_place (length case.sites)) (missing_stock_at (length case.sites)) (length case.parts * length case.sites) c.args.rows.now c.in_ok-places.places.items c.in_ok-places.ensures.placed in
    stops_last _ _ c.stocks_of_places.result c.in_ok-places.ensures.fault (rw same at f)

pub returns-clause-stocks : goal.returns-clause-stocks
returns-clause-stocks c =
    let f = rw c.as_slice.ensures.value at c.stocks_of_places.ensures.stocks in
    all_stocks c.args.case.now c.args.rows.now c.in_ok-places.places.items c.stocks_of_places.result c.in_ok-places.ensures.placed f
