use Rattle.std.proofs.Common.{◌≡◌, ◌-◌, ◌/◌, ◌^◌, drop, length}
use Rattle.fixed_interval.specs.Text.{last_digits}
use Rattle.line_text.proofs.decimals.end_with_digits.Given as goal

abbrev pub invariant-loop-k : goal.invariant-loop-k
invariant-loop-k l = record {
  long : length l.bytes ≡ 40;
  left : l.left ≡ l.number / 10 ^ l.k;
  written : drop (40 - l.k) l.bytes ≡ last_digits l.k l.number;
}
