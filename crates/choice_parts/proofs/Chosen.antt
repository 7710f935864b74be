-- The hull choice of parts.
use Rattle.std.proofs.Common.{sym, ap, ◌∙◌, arith}
use Rattle.price_bounds.specs.Sums.{cost_of}
use Rattle.choice_parts.specs.Parts.{IsNextOfAll}
use Rattle.choice_parts.proofs.Prefixes.{nexts, picks_same, prefixes}
use Rattle.choice_parts.specs.Laws.{PartsChoose}

-- the hull choice of parts is that of the curves
pub chosen : PartsChoose
chosen low high curves parts froms budget picks cost price f k are is =
    let n : IsNextOfAll curves parts froms picks f = nexts low high curves parts froms picks f are is.prefix is.stops.0 in
    let v = is.stops.1 in
    let b = is.stops.4 in
    record {
      prefix = prefixes low high curves parts froms picks are is.prefix;
      cost_is = is.cost_is ∙ ap cost_of (sym (picks_same low high curves parts froms picks are is.prefix));
      fits = is.fits;
      stops = (n.next, (let p = n.place in omega (arith, v, p)), is.stops.2 ∙ n.fall_is, is.stops.3 ∙ n.rise_is, (let r = n.rise_is in omega (arith, b, r)));
    }
