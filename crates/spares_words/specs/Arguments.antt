-- Why the system gives no words.
use Rattle.std.specs.Prelude.{◌≡◌, ⊤}
use Rattle.answers.specs.declared.stop.Stop.{Stop}
use Rattle.answers.specs.declared.stop.Stop.TheVariants as stop
use Rattle.spares_words.specs.declared.order.WordsFault.{WordsFault}
use Rattle.spares_words.specs.declared.order.WordsFault.TheVariants.{Shape}

-- there is no memory for the arguments, or one of them isn't text
abbrev pub NoMemoryOrShape : Stop WordsFault → Type 0
NoMemoryOrShape stop.NoMemory = ⊤
NoMemoryOrShape (stop.Fault fault) = fault ≡ Shape
