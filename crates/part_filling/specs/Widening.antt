-- How far the parts that are known can widen, and what a widening leaves as it was. No promise of the crate rests on
-- these words.
use Rattle.std.specs.Prelude.{◌≡◌, ◌≢◌, ℕ, ◌+◌, ◌-◌, ◌/◌, ◌<◌, Bool, true, false, List, [], ◌∷◌, slice_index}
use Rattle.hull.specs.Limits.{most_price_units, most_price_money}
use Rattle.step_walk.specs.Prefix.{curve_at}
use Rattle.curve_parts.specs.Cuts.{IsWithin}
use Rattle.part_filling.specs.declared.known.Known.{Known}
use Rattle.part_filling.specs.declared.window.Window.{Window}
use Rattle.part_filling.specs.Known.{IsPriceWindow, window_at}

-- how far a window can widen: its low price down to 1/10^12, its high price up to 2^74
abbrev pub room : Window → ℕ
room w = w.low.p + (most_price_money - w.low.q) + (most_price_units - w.high.p / w.high.q)

-- and several windows
abbrev pub rooms : List Window → ℕ
rooms [] = 0
rooms (w ∷ ws) = room w + rooms ws

-- the new window has the old one within it, and less room
pub record IsWider (old new : Window) : Type 0 where
  pub prices : IsPriceWindow new.low new.high
  pub within : IsWithin old.low old.high new.low new.high
  pub less : room new < room old

-- families other than f are known as before
pub record OthersStay (f : ℕ) (old new : Known) : Type 0 where
  pub curves : (g : ℕ) → g ≢ f → curve_at new.curves.items g ≡ curve_at old.curves.items g
  pub windows : (g : ℕ) → g ≢ f → window_at new.windows.items g ≡ window_at old.windows.items g
  pub beyond : (g : ℕ) → g ≢ f → slice_index new.beyond.items g ≡ slice_index old.beyond.items g
  pub picks : (g : ℕ) → g ≢ f → slice_index new.picks.items g ≡ slice_index old.picks.items g

-- all families are known as before
pub record AllStay (old new : Known) : Type 0 where
  pub curves : new.curves.items ≡ old.curves.items
  pub windows : new.windows.items ≡ old.windows.items
  pub picks : new.picks.items ≡ old.picks.items

-- a part was widened, so that less room is left, or all families are known as before
abbrev pub HasWidened : Bool → Known → Known → Type 0
HasWidened true old new = rooms new.windows.items < rooms old.windows.items
HasWidened false old new = AllStay old new
