-- Wider windows, and what a widening leaves as it was.
use Rattle.std.proofs.Common.{◌≡◌, ◌≢◌, ℕ, zero, suc, ◌+◌, ◌-◌, ◌*◌, ◌/◌, ◌^◌, ◌<◌, ◌≤◌, ◌||◌, Bool, true, false, List, [], ◌∷◌, length, set, slice_index, sym, ◌∙◌, subst, arith}
use Rattle.std.proofs.Math.Nat.{mul-le-mul_left, le_of_mul-le-mul_left}
use Rattle.std.proofs.lemmas.Nat.{div_below, le-div}
use Rattle.hull.specs.declared.price.Price.{Price}
use Rattle.hull.specs.declared.point.Point.{Point}
use Rattle.step_walk.specs.Prefix.{curve_at}
use Rattle.curve_parts.specs.Cuts.{IsSmall}
use Rattle.part_filling.specs.declared.known.Known.{Known}
use Rattle.part_filling.specs.declared.window.Window.{Window}
use Rattle.part_filling.specs.Known.{HasNoBetter, IsPriceWindow, IsSettled, window_at}
use Rattle.part_filling.specs.Widening.{HasWidened, IsWider, OthersStay, room, rooms}

-- with one window of less room there is less room
pub rooms_fall : (windows : List Window) (f : ℕ) (new : Window) → f < length windows → room new < room (window_at windows f) → rooms (set windows f new) < rooms windows
rooms_fall [] f new b less = absurd (omega (arith, b))
rooms_fall (w ∷ ws) zero new b less = (let l : room new < room w = less in omega (arith, l))
rooms_fall (w ∷ ws) (suc f) new b less = (let r = rooms_fall ws f new (omega (arith, b)) less in omega (arith, r))

-- so a wider window leaves less room
pub rooms_after : (windows after : List Window) (f : ℕ) (old new : Window) → f < length windows → old ≡ window_at windows f → IsWider old new → after ≡ set windows f new → rooms after < rooms windows
rooms_after windows after f old new b at wider is =
    subst (λ ws. rooms ws < rooms windows) (sym is) (rooms_fall windows f new b (subst (λ w. room new < room w) at wider.less))

-- after one widening a second one leaves less room still
pub widened_again : (widened : Bool) (first old new : Known) → HasWidened widened first old → rooms new.windows.items < rooms old.windows.items → rooms new.windows.items < rooms first.windows.items
widened_again true first old new h less = omega (arith, h, less)
widened_again false first old new h less = subst (λ ws. rooms new.windows.items < rooms ws) h.windows less

-- one after another
pub widened_both : (one two : Bool) (first old new : Known) → HasWidened one first old → HasWidened two old new → HasWidened (one || two) first new
widened_both true true first old new h k = omega (arith, h, k)
widened_both true false first old new h k = subst (λ ws. rooms ws < rooms first.windows.items) (sym k.windows) h
widened_both false true first old new h k = subst (λ ws. rooms new.windows.items < rooms ws) h.windows k
widened_both false false first old new h k = record { curves = k.curves ∙ h.curves; windows = k.windows ∙ h.windows; picks = k.picks ∙ h.picks }

-- a family that is as before is settled as before
pub settled_stays : (old new : Known) (f g left most : ℕ) → OthersStay f old new → g ≢ f → IsSettled old.windows.items old.beyond.items old.curves.items old.picks.items left most g
    → IsSettled new.windows.items new.beyond.items new.curves.items new.picks.items left most g
settled_stays old new f g left most stay other is =
    let w = window_at new.windows.items g in
    let b = slice_index new.beyond.items g in
    subst (λ k. HasNoBetter w.low w.high b (curve_at new.curves.items g) k left most) (sym (stay.picks g other))
    (subst (λ (c : List Point). HasNoBetter w.low w.high b c (slice_index old.picks.items g) left most) (sym (stay.curves g other))
    (subst (λ n. HasNoBetter w.low w.high n (curve_at old.curves.items g) (slice_index old.picks.items g) left most) (sym (stay.beyond g other))
    (subst (λ (w : Window). HasNoBetter w.low w.high (slice_index old.beyond.items g) (curve_at old.curves.items g) (slice_index old.picks.items g) left most) (sym (stay.windows g other)) is)))

-- two changes of one family leave the others as they were
pub stay_both : (f : ℕ) (first old new : Known) → OthersStay f first old → OthersStay f old new → OthersStay f first new
stay_both f first old new h k = record {
  curves = λ g d. k.curves g d ∙ h.curves g d;
  windows = λ g d. k.windows g d ∙ h.windows g d;
  beyond = λ g d. k.beyond g d ∙ h.beyond g d;
  picks = λ g d. k.picks g d ∙ h.picks g d;
}

-- ---- wider windows

-- a lower price for the low one
pub wider_low : (old : Window) (low : Price) → IsPriceWindow old.low old.high → 0 < low.p → 0 < low.q → IsSmall low → low.p * old.low.q ≤ old.low.p * low.q
    → low.p + (1000000000000 - low.q) < old.low.p + (1000000000000 - old.low.q) → IsWider old (record { low = low; high = old.high })
wider_low old low is steep money small below less = record {
  prices = record {
    window = record { steep = is.window.steep; money = money; order = order };
    low_price = steep;
    high_money = is.high_money;
    low_small = small;
    high_small = is.high_small;
  };
  within = record { least_below = below; most_above = omega arith };
  less = omega (arith, less);
}
  where
    order : low.p * old.high.q ≤ old.high.p * low.q
    order =
        let x : old.high.q * (low.p * old.low.q) ≤ old.high.q * (old.low.p * low.q) = mul-le-mul_left old.high.q below in
        let y : low.q * (old.low.p * old.high.q) ≤ low.q * (old.high.p * old.low.q) = mul-le-mul_left low.q is.window.order in
        le_of_mul-le-mul_left (let z : old.low.q * (low.p * old.high.q) ≤ old.low.q * (old.high.p * low.q) = omega (arith, x, y) in z) is.window.money

-- a whole price above the high one
above : (p q lo hi : ℕ) → lo * q + p < hi * q → p < (hi - lo) * q
above p q lo hi h = apart (hi - lo) (order hi lo)
  where
    order : (hi lo : ℕ) → hi ≤ lo + (hi - lo)
    order hi lo = omega arith

    apart : (d : ℕ) → hi ≤ lo + d → p < d * q
    apart d e =
        let x : q * hi ≤ q * (lo + d) = mul-le-mul_left q e in
        omega (arith, h, x)

-- a higher price for the high one
pub wider_high : (old : Window) (hi lo : ℕ) → IsPriceWindow old.low old.high → lo * old.high.q + old.high.p < hi * old.high.q → hi < 2 ^ 74
    → IsWider old (record { low = old.low; high = record { p = hi - lo; q = 1 } })
wider_high old hi lo is h small = made (hi - lo) (above old.high.p old.high.q lo hi h) (omega (arith, small))
  where
    made : (d : ℕ) → old.high.p < d * old.high.q → d < 2 ^ 74 → IsWider old (record { low = old.low; high = record { p = d; q = 1 } })
    made d more few = record {
      prices = record {
        window = record { steep = steep d more; money = is.window.money; order = order };
        low_price = is.low_price;
        high_money = omega arith;
        low_small = is.low_small;
        high_small = record { p = omega (arith, few); q = omega arith };
      };
      within = record { least_below = omega arith; most_above = omega (arith, more) };
      less = less (d / 1) (old.high.p / old.high.q) (le-div d d 1 (omega arith) (omega arith)) (div_below old.high.p old.high.q d is.high_money more);
    }
      where
        less : (new floor : ℕ) → d ≤ new → floor < d → old.low.p + (1000000000000 - old.low.q) + (2 ^ 74 - new) < old.low.p + (1000000000000 - old.low.q) + (2 ^ 74 - floor)
        less new floor up below = omega (arith, up, below, few)

        steep : (d : ℕ) → old.high.p < d * old.high.q → 0 < d
        steep zero h = absurd (omega (arith, h))
        steep (suc d) h = omega arith

        order : old.low.p * 1 ≤ d * old.low.q
        order =
            let x : old.low.q * old.high.p ≤ old.low.q * (d * old.high.q) = mul-le-mul_left old.low.q (omega (arith, more)) in
            let y = is.window.order in
            le_of_mul-le-mul_left (let z : old.high.q * (old.low.p * 1) ≤ old.high.q * (d * old.low.q) = omega (arith, x, y) in z) is.high_money
