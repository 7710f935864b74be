use Rattle.csv_tables.specs.Rest.{all_records}
use Rattle.csv_tables.specs.Parts.{part_of}
use Rattle.spares_input.specs.Rows.{IsPartRow}
use Rattle.csv_tables.proofs.RowFacts.{part_good}
use Rattle.csv_tables.proofs.TableFacts.{answer_fields, answer_few}
use Rattle.csv_tables.proofs.parts.read_parts.Goals as goal

pub returns-clause-few : goal.returns-clause-few
returns-clause-few c = answer_few IsPartRow part_of part_good _ _ _ (all_records c.args.bytes.now) c.read_table.result c.read_table.ensures

pub returns-clause-fields : goal.returns-clause-fields
returns-clause-fields c = answer_fields IsPartRow part_of part_good _ _ _ (all_records c.args.bytes.now) c.read_table.result c.read_table.ensures
