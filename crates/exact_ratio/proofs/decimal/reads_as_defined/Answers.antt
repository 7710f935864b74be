use Rattle.exact_ratio.proofs.Answer.{as_defined}
use Rattle.exact_ratio.proofs.decimal.reads_as_defined.Goals as goal

pub returns : goal.returns
returns c = as_defined
