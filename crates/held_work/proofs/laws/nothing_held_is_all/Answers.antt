use Rattle.held_work.proofs.Kept.{all_points, all_tables, all_work}
use Rattle.held_work.proofs.laws.nothing_held_is_all.Goals as goal

pub returns-clause-tables : goal.returns-clause-tables
returns-clause-tables c = λ rows held valid h. all_tables rows held valid h

pub returns-clause-work : goal.returns-clause-work
returns-clause-work c = λ rows held valid h. all_work rows held valid h

pub returns-clause-points : goal.returns-clause-points
returns-clause-points c = λ ends rows held h. all_points ends rows held h
