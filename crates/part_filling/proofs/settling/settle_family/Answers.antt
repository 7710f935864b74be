use Rattle.std.proofs.Common.{◌<◌, length, ◌∙◌, arith}
use Rattle.std.proofs.lemmas.List.{get_or_default}
use Rattle.part_filling.specs.Known.{no_window}
use Rattle.part_filling.specs.Widening.{rooms}
use Rattle.part_filling.proofs.Widened.{rooms_after, stay_both, widened_again}
use Rattle.part_filling.proofs.settling.settle_family.Goals as goal

pub wider-smaller : goal.wider-smaller
wider-smaller g c =
    let windows = c.wider.known.windows.items in
    let fam = c.wider.invariant.family in
    let n = c.wider.invariant.known.windows_count in
    let b : c.args.family < length c.wider.known.windows.items = omega (arith, fam, n) in
    rooms_after windows c.widen.new.known.windows.items c.args.family c.index-in-wider-2.result.now c.in-Some.window b
    (c.index-in-wider-2.ensures ∙ get_or_default windows c.args.family c.index-in-wider-2.result.now no_window b) c.in-Some.ensures.some c.in_ok-widen.ensures.windows

pub wider-preserved : goal.wider-preserved
wider-preserved g c =
    let i = c.wider.invariant in
    let e = c.in_ok-widen.ensures in
    let windows = c.wider.known.windows.items in
    let fam = i.family in
    let n = i.known.windows_count in
    let old = i.known.count in
    let new = e.known.count in
    let b : c.args.family < length c.wider.known.windows.items = omega (arith, fam, n) in
    let less : rooms c.widen.new.known.windows.items < rooms c.wider.known.windows.items =
    rooms_after windows c.widen.new.known.windows.items c.args.family c.index-in-wider-2.result.now c.in-Some.window b
    (c.index-in-wider-2.ensures ∙ get_or_default windows c.args.family c.index-in-wider-2.result.now no_window b) c.in-Some.ensures.some e.windows in
    record {
      known = e.known;
      vertices = e.vertices;
      family = omega (arith, fam, old, new);
      picks = e.picks ∙ i.picks;
      others = stay_both c.args.family c.args.known.now c.wider.known c.widen.new.known i.others e.others;
      widened = widened_again c.wider.widened c.args.known.now c.wider.known c.widen.new.known i.widened less;
    }
