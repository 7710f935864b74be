use Rattle.csv_tables.specs.Rest.{all_records}
use Rattle.csv_tables.specs.Stocks.{stock_of}
use Rattle.spares_input.specs.Stocks.{IsStockOf}
use Rattle.csv_tables.proofs.RowFacts.{stock_good}
use Rattle.csv_tables.proofs.TableFacts.{answer_fields, answer_few}
use Rattle.csv_tables.proofs.stocks.read_stocks.Goals as goal

pub returns-clause-few : goal.returns-clause-few
returns-clause-few c =
    let f = c.args.frame.now in
    answer_few (IsStockOf f) (stock_of f) (stock_good f) _ _ _ (all_records c.args.bytes.now) c.read_table.result c.read_table.ensures

pub returns-clause-fields : goal.returns-clause-fields
returns-clause-fields c =
    let f = c.args.frame.now in
    answer_fields (IsStockOf f) (stock_of f) (stock_good f) _ _ _ (all_records c.args.bytes.now) c.read_table.result c.read_table.ensures
