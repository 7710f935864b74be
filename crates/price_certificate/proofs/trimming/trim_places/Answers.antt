use Rattle.price_certificate.specs.Covers.{nodes_of, trimmed_from}
use Rattle.price_certificate.proofs.Trims.{cut_step, cut_few}
use Rattle.price_certificate.proofs.trimming.trim_places.Goals as goal

pub loop-at-preserved : goal.loop-at-preserved
loop-at-preserved c =
    let all = c.args.places.now in (
      cut_step c.args.p c.args.floor all c.loop-at.at c.loop-at.cuts c.in_ok-cuts.field-0 c.loop-at.nodes.items c.push_cut.new.nodes.items (nodes_of (trimmed_from c.args.p c.args.floor 0 all)) c.loop-at-test.true c.in_ok-cuts.ensures c.loop-at.invariant.0,
      cut_few c.args.p c.args.floor all c.loop-at.at c.loop-at.cuts c.in_ok-cuts.field-0 c.loop-at.nodes.items c.push_cut.new.nodes.items c.in_ok-cuts.ensures c.loop-at.invariant.1,
    )
