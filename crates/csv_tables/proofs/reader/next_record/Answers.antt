use Rattle.std.proofs.Common.{◌∙◌, inl}
use Rattle.csv.specs.Records.{fields_of}
use Rattle.csv_tables.proofs.RestFacts.{read_takes}
use Rattle.csv_tables.proofs.reader.next_record.Goals as goal

pub returns-in-Ok-clause-table : goal.returns-in-Ok-clause-table
returns-in-Ok-clause-table c =
    let t = c.requires in
    let r = c.in-Ok.ensures.reads t.2 t.0 in
    let k = read_takes c.args.rdr.now c.read_byte_record.new.self c.in-Ok.found (fields_of c.read_byte_record.new.row) t r in
    λ h. let m = k.3 h in (inl (c.in-Ok.ensures.ready t.2), r.2 ∙ t.1, r.3 ∙ t.2, c.in-Ok.ensures.flexible ∙ t.3, m.0, k.1, k.2, m.1)

pub returns-in-Ok-clause-few : goal.returns-in-Ok-clause-few
returns-in-Ok-clause-few c =
    let t = c.requires in
    let r = c.in-Ok.ensures.reads t.2 t.0 in
    let k = read_takes c.args.rdr.now c.read_byte_record.new.self c.in-Ok.found (fields_of c.read_byte_record.new.row) t r in
    λ h. let m = k.3 h in m.2

pub returns-in-Ok-clause-takes : goal.returns-in-Ok-clause-takes
returns-in-Ok-clause-takes c =
    let t = c.requires in
    let r = c.in-Ok.ensures.reads t.2 t.0 in
    (read_takes c.args.rdr.now c.read_byte_record.new.self c.in-Ok.found (fields_of c.read_byte_record.new.row) t r).0
