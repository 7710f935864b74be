use Rattle.std.proofs.Common.{◌∙◌, arith}
use Rattle.list_laws.proofs.Public.{mapped_more}
use Rattle.metric_compare.specs.Profile.{poisson_of}
use Rattle.metric_compare.proofs.Pipes.{base_line_at_pair}
use Rattle.metric_compare.proofs.lines.row_with.Goals as goal

pub loop-j-preserved : goal.loop-j-preserved
loop-j-preserved c =
    mapped_more (poisson_of 48 c.args.inputs.now.case c.args.inputs.now.stocks.list c.args.line.0) c.loop-j.j c.loop-j.row.items c.push-in-loop-j.new.self.items c.in_ok-line_at_base.field-0
    c.in_ok-push-2.ensures.items c.loop-j.invariant
    (c.in_ok-line_at_base.ensures.ends ∙ base_line_at_pair c.args.inputs.now.case c.args.inputs.now.stocks.list c.args.line.0 c.loop-j.j c.requires.line (omega (arith, c.loop-j.auto.j)))
