use Rattle.csv.specs.Records.{fields_of}
use Rattle.csv_tables.proofs.LineFacts.{of_record}
use Rattle.csv_tables.proofs.rates.rate_of.Goals as goal

pub returns : goal.returns
returns c =
    of_record c.args.frame.now c.args.row (fields_of c.args.record.now) c.rate_in.result _ _ _ _ _ _ c.rate_in.ensures
    c.field.ensures c.field-2.ensures c.field-3.ensures c.field-4.ensures c.field-5.ensures c.field-6.ensures
