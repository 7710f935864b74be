use Rattle.std.proofs.Common.{◌/◌, ◌∙◌, ap, lit<}
use Rattle.std.specs.Int.{div_ceil}
use Rattle.std.proofs.Math.Nat.{mod-eq_of_lt}
use Rattle.family_items.proofs.Shifted.{share_room, share_top}
use Rattle.family_items.proofs.ratios.share_ends.Goals as goal

pub quotient_ends-requires : goal.quotient_ends-requires
quotient_ends-requires g c =
    (lit< tt, (c.requires.scale, (c.requires.divisor, share_top g.row.F c.args.num c.args.den c.requires.scale.1 c.requires.divisor c.requires.part c.requires.small_divisor)))

pub returns : goal.returns
returns g c =
    record {
      ends = c.quotient_ends.ensures
          ∙ ap (λ n. record { lo = n / c.args.den; hi = div_ceil n c.args.den })
          (mod-eq_of_lt (share_room g.row.F c.args.num c.args.den c.requires.scale.1 c.requires.part c.requires.small_divisor));
    }
