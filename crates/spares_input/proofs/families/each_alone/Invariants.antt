use Rattle.std.proofs.Common.{◌≡◌, ℕ, ◌<◌, [], ◌∷◌, length, map, get_or}
use Rattle.spares_input.specs.Building.{ids}
use Rattle.spares_input.proofs.families.each_alone.Given as goal

abbrev pub invariant-loop-p : goal.invariant-loop-p
invariant-loop-p l = record {
  whole : length l.families.items ≡ l.p;
  each : (q : ℕ) → q < l.p → get_or (map (λ v. ids v.items) l.families.items) q [] ≡ q ∷ [];
}
