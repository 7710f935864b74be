use Rattle.std.proofs.Common.{◌≡◌, ◌<◌, ℕ, false, get_or}
use Rattle.family_tables.specs.declared.keys.Kept.{Kept}
use Rattle.family_tables.specs.Kept.{is_key}
use Rattle.family_tables.proofs.keys.place_of.Given as goal

abbrev pub invariant-loop-n : goal.invariant-loop-n
invariant-loop-n g l = (k : ℕ) (d : Kept g.row.F) → k < l.n → is_key (get_or l.fn.kept k d).key l.fn.place l.fn.site.0 l.fn.stocks ≡ false
