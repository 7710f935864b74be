use Rattle.std.proofs.Common.{length, refl, sym, ◌∙◌}
use Rattle.std.proofs.lemmas.List.{get_or_read}
use Rattle.std.specs.List.{IsDistinct}
use Rattle.spares_input.specs.First.{first}
use Rattle.spares_input.specs.Rows.{no_part}
use Rattle.spares_input.specs.Frames.{double_part}
use Rattle.spares_input.proofs.Firsts.{first_more, first_found}
use Rattle.spares_input.proofs.PartFacts.{double_part_known, double_part_new}
use Rattle.spares_input.proofs.PartPlaces.{none_before, places_more, still_distinct}
use Rattle.spares_input.proofs.frame.places_of.Goals as goal

pub loop-k-init : goal.loop-k-init
unfolding first IsDistinct
loop-k-init c = record { fault = refl; placed = λ name. rw c.new-places.ensures.empty refl; distinct = tt }

pub returns-then-not-fresh-clause-fault : goal.returns-then-not-fresh-clause-fault
returns-then-not-fresh-clause-fault c =
    let parts = c.args.parts.now in
    let k = c.loop-k.k in
    let r = c.index-parts-k.result in
    let row = get_or_read parts k r c.loop-k-test.true c.index-parts-k.is no_part in
    let inv = c.loop-k.invariant in
    first_found (double_part parts) k (length parts) _ inv.fault
    (double_part_known parts k r _ c.in_ok-fresh.fresh row refl
    (c.in_ok-fresh.ensures.fresh ∙ none_before c.loop-k.places parts k r c.loop-k-test.true row inv.placed) c.if-not-fresh.true) c.loop-k-test.true

pub loop-k-preserved : goal.loop-k-preserved
loop-k-preserved c =
    let parts = c.args.parts.now in
    let k = c.loop-k.k in
    let r = c.index-parts-k.result in
    let row = get_or_read parts k r c.loop-k-test.true c.index-parts-k.is no_part in
    let inv = c.loop-k.invariant in
    let fresh = c.in_ok-fresh.ensures.fresh in
    let none = sym fresh ∙ c.if-not-fresh.false in
    record {
      fault = first_more (double_part parts) k inv.fault
          (double_part_new parts k r _ c.in_ok-fresh.fresh row refl (fresh ∙ none_before c.loop-k.places parts k r c.loop-k-test.true row inv.placed) c.if-not-fresh.false);
      placed = places_more c.loop-k.places parts k r c.loop-k-test.true row inv.placed c.put_place.new.places _ refl c.in_ok-fresh.ensures.placed none;
      distinct = still_distinct c.loop-k.places parts k r c.loop-k-test.true row inv.placed inv.distinct none;
    }
