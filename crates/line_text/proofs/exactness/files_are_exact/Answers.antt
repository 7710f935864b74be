use Rattle.line_text.proofs.Files.{answer_again, answer_takes, answer_refuses}
use Rattle.line_text.proofs.exactness.files_are_exact.Goals as goal

pub returns-clause-again : goal.returns-clause-again
returns-clause-again g c = λ format e a h. answer_again format e a h

pub returns-clause-its_text : goal.returns-clause-its_text
returns-clause-its_text g c = λ format e bytes a h. answer_takes format e bytes a h

pub returns-clause-first_bad : goal.returns-clause-first_bad
returns-clause-first_bad g c = λ format e bytes n h. answer_refuses format e bytes n h
