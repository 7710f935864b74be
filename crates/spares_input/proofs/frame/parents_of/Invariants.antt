use Rattle.std.proofs.Common.{◌≡◌, ◌<◌, ℕ, length, get_or, None}
use Rattle.std.specs.Option.{option_map}
use Rattle.spares_input.specs.Frames.{line_of}
use Rattle.spares_input.proofs.frame.parents_of.Given as goal

abbrev pub invariant-loop-part : goal.invariant-loop-part
invariant-loop-part l = record {
  whole : length l.parents.items ≡ l.part-index;
  each : (p : ℕ) → p < l.part-index → option_map (λ line. line.0) (get_or l.parents.items p None) ≡ line_of l.parts p;
}
