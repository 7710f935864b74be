use Rattle.std.proofs.Common.{◌++◌, ◌∷◌, [], length, ap, ◌∙◌, arith, length-append}
use Rattle.fixed_interval.specs.Text.{fixed_text}
use Rattle.plan_report.specs.Texts.{lower_millionths, upper_millionths}
use Rattle.plan_report.proofs.Chains.{joined}
use Rattle.plan_report.proofs.item.put_ends.Goals as goal

pub returns : goal.returns
returns g c =
    let old = c.args.line.now in
    let comma = c.push.new.self in
    let low = c.put_millionths.new.line in
    let next = c.push-2.new.self in
    let x = c.args.interval.now in
    record {
      text =
          joined old (44 ∷ []) (fixed_text 6 (lower_millionths g.row.F x)) (44 ∷ []) (fixed_text 6 (upper_millionths g.row.F x)) comma low next c.put_millionths-2.new.line
          c.push.ensures (c.put_millionths.ensures.text ∙ ap (λ m. comma ++ fixed_text 6 m) c.lower_millionths.ensures) c.push-2.ensures
          (c.put_millionths-2.ensures.text ∙ ap (λ m. next ++ fixed_text 6 m) c.upper_millionths.ensures);
      short =
          omega (
            arith,
            ap length c.push.ensures,
            length-append old (44 ∷ []),
            c.put_millionths.ensures.short,
            ap length c.push-2.ensures,
            length-append low (44 ∷ []),
            c.put_millionths-2.ensures.short,
          );
    }
