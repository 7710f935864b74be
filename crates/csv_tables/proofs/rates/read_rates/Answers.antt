use Rattle.csv_tables.specs.Rest.{all_records}
use Rattle.csv_tables.specs.Rates.{rate_of}
use Rattle.spares_input.specs.Cases.{IsRateOf}
use Rattle.csv_tables.proofs.RowFacts.{rate_good}
use Rattle.csv_tables.proofs.TableFacts.{answer_fields, answer_few}
use Rattle.csv_tables.proofs.rates.read_rates.Goals as goal

pub returns-clause-few : goal.returns-clause-few
returns-clause-few c =
    let f = c.args.frame.now in
    answer_few (IsRateOf f) (rate_of f) (rate_good f) _ _ _ (all_records c.args.bytes.now) c.read_table.result c.read_table.ensures

pub returns-clause-fields : goal.returns-clause-fields
returns-clause-fields c =
    let f = c.args.frame.now in
    answer_fields (IsRateOf f) (rate_of f) (rate_good f) _ _ _ (all_records c.args.bytes.now) c.read_table.result c.read_table.ensures
