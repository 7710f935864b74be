use Rattle.std.proofs.Common.{◌≡◌, ◌++◌, take}
use Rattle.std.specs.List.{flat_map}
use Rattle.plan_report.specs.Texts.{base_text}
use Rattle.plan_report.proofs.text.put_bases.Given as goal

abbrev pub invariant-loop-base : goal.invariant-loop-base
invariant-loop-base l = l.text.items ≡ l.initial.text.items ++ flat_map base_text (take l.base-index l.bases)
