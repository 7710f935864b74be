use Rattle.csv_tables.specs.Rest.{all_records}
use Rattle.csv_tables.specs.Sites.{site_of}
use Rattle.spares_input.specs.Rows.{IsSiteRow}
use Rattle.csv_tables.proofs.RowFacts.{site-good}
use Rattle.csv_tables.proofs.TableFacts.{answer-fields, answer-few}
use Rattle.csv_tables.proofs.sites.read_sites.Goals as goal

pub returns-clause-few : goal.returns-clause-few
returns-clause-few c = answer-few IsSiteRow site_of site-good _ _ _ (all_records c.args.bytes.now) c.read_table.result c.read_table.ensures

pub returns-clause-fields : goal.returns-clause-fields
returns-clause-fields c = answer-fields IsSiteRow site_of site-good _ _ _ (all_records c.args.bytes.now) c.read_table.result c.read_table.ensures
