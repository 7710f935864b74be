use Rattle.line_text.specs.Exact.{IsToken}
use Rattle.line_text.proofs.FieldLaws.{number_is_exact, no_field_is_exact, empty_field_is_exact}
use Rattle.line_text.proofs.MoreFields.{fixed_is_exact}
use Rattle.line_text.proofs.exactness.fields_are_exact.Goals as goal

pub returns-clause-number : goal.returns-clause-number
returns-clause-number g c = λ least most h m. number_is_exact least most h m

pub returns-clause-fixed : goal.returns-clause-fixed
returns-clause-fixed g c = λ places least most h m. fixed_is_exact places least most h m

pub returns-clause-no_field : goal.returns-clause-no_field
returns-clause-no_field g c = λ level x has h only. no_field_is_exact (IsToken level) x has h only

pub returns-clause-empty_field : goal.returns-clause-empty_field
returns-clause-empty_field g c = λ x has h only. empty_field_is_exact x has h only
