use Rattle.std.proofs.Common.{◌≡◌, ◌*◌, ◌<◌, arith, ap₂}
use Rattle.log_loss.specs.Profile.{series_ends, share_ends}
use Rattle.log_loss.proofs.LowEnds.{places_above, share_above}
use Rattle.log_loss.proofs.score.LogLossScore.low.Goals as goal

pub returns : goal.returns
returns c = λ b limits l.
    let n = c.args.systems in
    let z = c.args.per_system in
    let places = c.from.result * c.from-2.result in
    let e : places ≡ n * z = ap₂ (λ i j. i * j) c.from.ensures c.from-2.ensures in
    let some : 0 < places = omega (arith, c.if-places-eq0.false) in
    let share = share_above n z c.args.low places c.min-share.result b e some l (omega (arith, c.min-share.ensures)) in
    let low = c.low_series.ensures.low (share_ends n z b) share in
    let above = places_above n z places c.low_series.result (series_ends 48 (share_ends n z b)).lo e low in
    let left : c.from-3.result * c.from-4.result ≡ c.low_series.result * places = ap₂ (λ i j. i * j) c.from-3.ensures c.from-4.ensures in
    omega (arith, left, above)
