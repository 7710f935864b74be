use Rattle.std.proofs.Common.{ℕ, ◌*◌, ◌≤◌}
use Rattle.case_maker.specs.Demonstration.{made}
use Rattle.case_maker.proofs.Public.{made_valid, made_few, made_lines, made_drawn}
use Rattle.demo_accepts.specs.Tables.{all_tables}
use Rattle.demo_accepts.proofs.FewTables.{family_few, all_few, work_few}
use Rattle.demo_accepts.proofs.law.demonstrations_take_few_tables.Goals as goal

all : (number lines : ℕ) → lines ≤ 80 → all_tables (made number lines) ≤ 142 * lines
all number lines few =
    all_few (made number lines) (made_valid number lines few) (made_drawn number lines) (made_few number lines few) lines (made_lines number lines)

pub returns : goal.returns
returns c = record {
  family = λ number lines few. family_few (made number lines) (made_valid number lines few) (made_drawn number lines) (made_few number lines few);
  all = all;
  work = λ number lines few. work_few (made number lines) lines few (all number lines few);
}
