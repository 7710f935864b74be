use Rattle.std.proofs.Common.{length, subst, refl}
use Rattle.std.specs.BinaryHeap.{heap_items}
use Rattle.step_walk.specs.Steps.{HoldsNext}
use Rattle.step_walk.proofs.Steeper.{shapes_after, prefix_after}
use Rattle.step_walk.proofs.walk.Walk.begin_after.Goals as goal

pub invariant_of-result : goal.invariant_of-result
invariant_of-result c =
    let curves = c.args.curves.now in
    record {
      few = c.requires.few;
      short = λ f b. (c.in_ok-picks.ensures.each f b).shape.few;
      shapes = shapes_after c.args.price curves c.in_ok-picks.picks.items c.in_ok-picks.ensures;
      prefix = prefix_after c.args.price curves c.in_ok-picks.picks.items c.in_ok-picks.ensures;
      order = c.in_ok-waiting.ensures.order;
      waits = subst (λ picks. HoldsNext curves picks (length curves) (heap_items c.in_ok-waiting.waiting)) c.as_slice.ensures.value c.in_ok-waiting.ensures.waits;
    }

pub returns : goal.returns
returns c =
    let curves = c.args.curves.now in
    record {
      way = record {
        shapes = shapes_after c.args.price curves c.in_ok-picks.picks.items c.in_ok-picks.ensures;
        prefix = prefix_after c.args.price curves c.in_ok-picks.picks.items c.in_ok-picks.ensures;
      };
      same = refl;
      steep = c.in_ok-picks.ensures;
    }
