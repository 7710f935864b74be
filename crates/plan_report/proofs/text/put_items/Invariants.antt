use Rattle.std.proofs.Common.{◌≡◌, ◌++◌, take}
use Rattle.std.specs.List.{flat_map}
use Rattle.plan_report.specs.Texts.{item_text}
use Rattle.plan_report.proofs.text.put_items.Given as goal

abbrev pub invariant-loop-n : goal.invariant-loop-n
invariant-loop-n l = l.text.items ≡ l.initial.text.items ++ flat_map item_text (take l.n l.items)
