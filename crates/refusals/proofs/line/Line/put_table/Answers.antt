use Rattle.refusals.proofs.line.Line.put_table.Goals as goal

pub returns-in-NoHeader-clause-text : goal.returns-in-NoHeader-clause-text
returns-in-NoHeader-clause-text c = rw c.in-NoHeader.is c.put_file.ensures.text

pub returns-in-FieldCount-clause-text : goal.returns-in-FieldCount-clause-text
returns-in-FieldCount-clause-text c = rw c.in-FieldCount.is c.put_at_field.ensures.text

pub returns-in-Header-clause-text : goal.returns-in-Header-clause-text
returns-in-Header-clause-text c = rw c.in-Header.is c.put_in_file.ensures.text

pub returns-in-TooManyRows-clause-text : goal.returns-in-TooManyRows-clause-text
returns-in-TooManyRows-clause-text c = rw c.in-TooManyRows.is c.put_file-in-TooManyRows.ensures.text

pub returns-in-BadName-clause-text : goal.returns-in-BadName-clause-text
returns-in-BadName-clause-text c = rw c.in-BadName.is c.put_at_field-in-BadName.ensures.text

pub returns-in-BadKind-clause-text : goal.returns-in-BadKind-clause-text
returns-in-BadKind-clause-text c = rw c.in-BadKind.is c.put_in_file-in-BadKind.ensures.text

pub returns-in-UnknownPart-clause-text : goal.returns-in-UnknownPart-clause-text
returns-in-UnknownPart-clause-text c = rw c.in-UnknownPart.is c.put_in_file-in-UnknownPart.ensures.text

pub returns-in-UnknownSite-clause-text : goal.returns-in-UnknownSite-clause-text
returns-in-UnknownSite-clause-text c = rw c.in-UnknownSite.is c.put_in_file-in-UnknownSite.ensures.text

pub returns-in-FieldEmpty-clause-text : goal.returns-in-FieldEmpty-clause-text
returns-in-FieldEmpty-clause-text c = rw c.in-FieldEmpty.is c.put_at_field-in-FieldEmpty.ensures.text

pub returns-in-FieldNotEmpty-clause-text : goal.returns-in-FieldNotEmpty-clause-text
returns-in-FieldNotEmpty-clause-text c = rw c.in-FieldNotEmpty.is c.put_at_field-in-FieldNotEmpty.ensures.text

pub returns-in-BadNumber-clause-text : goal.returns-in-BadNumber-clause-text
returns-in-BadNumber-clause-text c = rw c.in-BadNumber.is c.put_at_field-in-BadNumber.ensures.text

pub returns-in-OutOfRange-clause-text : goal.returns-in-OutOfRange-clause-text
returns-in-OutOfRange-clause-text c = rw c.in-OutOfRange.is c.put_at_field-in-OutOfRange.ensures.text
