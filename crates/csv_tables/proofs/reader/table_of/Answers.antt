use Rattle.std.proofs.Common.{◌≤◌, length, arith, rules}
use Rattle.csv.specs.Reading.{strip_bom}
use Rattle.csv_tables.proofs.RestFacts.{length_strip_bom}
use Rattle.csv_tables.proofs.reader.table_of.Goals as goal

pub returns-clause-table : goal.returns-clause-table
returns-clause-table c =
    let small : length (strip_bom c.args.bytes.now) ≤ 4194304 = omega (arith, length_strip_bom c.args.bytes.now, c.requires) in
    search rules
