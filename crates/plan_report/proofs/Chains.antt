-- Texts that are appended one after the other.
use Rattle.std.proofs.Common.{◌≡◌, ℕ, List, ◌++◌, Result, Ok, Err, ap, ◌∙◌, append_assoc}
use Rattle.std.specs.Prelude.{OnOk}
use Rattle.answers.specs.declared.stop.NoMemory.{NoMemory}

-- four pieces
pub joined : (old a b c d s t u v : List ℕ) → s ≡ old ++ a → t ≡ s ++ b → u ≡ t ++ c → v ≡ u ++ d → v ≡ old ++ (a ++ (b ++ (c ++ d)))
joined old a b c d s t u v h i j k =
    k ∙ ap (λ z. z ++ d) (j ∙ ap (λ z. z ++ c) (i ∙ ap (λ z. z ++ b) h)) ∙ append_assoc ((old ++ a) ++ b) c d ∙ append_assoc (old ++ a) b (c ++ d)
    ∙ append_assoc old a (b ++ (c ++ d))

-- what follows from a promise of an Ok
pub after : (r : Result Unit NoMemory) (P Q : Type 0) → (P → Q) → OnOk r P → OnOk r Q
after (Ok v) P Q f h = f h
after (Err e) P Q f h = tt
