use Rattle.std.proofs.Common.{◌+◌, ◌++◌, length, take, drop, refl, sym, ap, ◌∙◌, subst, rules}
use Rattle.std.proofs.Math.Seq.{take-append_seam}
use Rattle.spares_input.specs.First.{first}
use Rattle.spares_input.specs.Frames.{parent_fault}
use Rattle.spares_input.specs.Building.{AreCounts}
use Rattle.spares_input.proofs.Firsts.{first_more, first_found}
use Rattle.spares_input.proofs.ShopCounts.{counts_none}
use Rattle.spares_input.proofs.frame.parents_fault.Goals as goal

pub loop-k-init : goal.loop-k-init
unfolding first
loop-k-init c = record { fault = refl; counted = counts_none c.args.parts.now c.in_ok-counts.counts.items (search rules) }

pub returns-in-Some : goal.returns-in-Some
returns-in-Some c =
    sym (first_found (parent_fault c.args.parts.now) c.loop-k.k (length c.args.parts.now) c.in-Some.fault c.loop-k.invariant.fault (sym c.in-Some.ensures.fault) c.loop-k-test.true)

pub loop-k-preserved : goal.loop-k-preserved
loop-k-preserved c =
    let counts = c.parent_fault.new.counts in
    let counted = c.in_default.ensures.counted refl in
    let whole = c.loop-k.counts.ok.0 ∙ c.loop-k.invariant.counted.whole ∙ sym counted.whole in
    let rest = drop (length counts) c.loop-k.counts.items in
    record {
      fault = first_more (parent_fault c.args.parts.now) c.loop-k.k c.loop-k.invariant.fault (sym c.in_default.ensures.fault);
      counted = subst (AreCounts c.args.parts.now (c.loop-k.k + 1)) (sym (ap (λ n. take n (counts ++ rest)) whole ∙ take-append_seam counts rest)) counted;
    }
