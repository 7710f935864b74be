use Rattle.std.specs.Prelude.{Result, Ok, Err, OnOk}
use Rattle.std.proofs.Common.{◌≡◌, List, ℕ, [], ◌∷◌, ◌++◌, ap, ◌∙◌, append_assoc}
use Rattle.std.proofs.lemmas.List.{append-nil}
use Rattle.std.specs.Fmt.{decimal}
use Rattle.answers.specs.declared.stop.NoMemory.{NoMemory}
use Rattle.line_text.specs.Writing.{Puts}
use Rattle.plan_report.proofs.text.put_number_line.Goals as goal

as_line : (name number : List ℕ) → ((name ++ 44 ∷ number) ++ 10 ∷ []) ++ [] ≡ name ++ (44 ∷ number ++ 10 ∷ [])
as_line name number = append-nil ((name ++ 44 ∷ number) ++ 10 ∷ []) ∙ append_assoc name (44 ∷ number) (10 ∷ [])

after_ok : (r : Result Unit NoMemory) (old new piece other : List ℕ) → piece ≡ other → Puts r old new piece → OnOk r (new ≡ old ++ other)
after_ok (Ok v) old new piece other e h = h ∙ ap (λ (z : List ℕ). old ++ z) e
after_ok (Err x) old new piece other e h = tt

pub returns : goal.returns
returns c =
    after_ok c.put_count_line.result c.args.text.now.items _ _ _ (as_line c.args.name.now (decimal c.args.number)) (c.put_count_line.ensures 0 0)
