use Rattle.exact_ratio.proofs.Answer.{one_answer}
use Rattle.exact_ratio.proofs.decimal.reads_one_answer.Goals as goal

pub returns : goal.returns
returns c = one_answer
