use Rattle.fixed_interval.proofs.Text.{fixed_text_reads}
use Rattle.fixed_interval.proofs.digits.texts_read.Goals as goal

pub returns : goal.returns
returns c = fixed_text_reads
