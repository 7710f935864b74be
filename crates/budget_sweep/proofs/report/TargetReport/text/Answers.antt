use Rattle.budget_sweep.specs.Texts.{least_text, reach_text}
use Rattle.plan_report.specs.Texts.{line}
use Rattle.fixed_interval.specs.Text.{fixed_text}
use Rattle.std.specs.Prelude.{codes}
use Rattle.std.proofs.Common.{◌≡◌, ℕ, List, ◌++◌, ◌∷◌, [], ◌∙◌, ap}
use Rattle.list_laws.proofs.Public.{joined_more}
use Rattle.budget_sweep.proofs.report.TargetReport.text.Goals as goal

pub returns : goal.returns
returns c =
    let report = c.args.self.now in
    let number = fixed_text 4 report.target.units in
    let reach = reach_text report.reach in
    let least = least_text report.at_least in
    let begun = c.extend_from_slice.new.self.items in
    let put : c.put_fixed.new.out.items ≡ begun ++ number = c.in_ok-put_fixed.ensures ∙ ap (λ n. begun ++ fixed_text 4 n) c.from.ensures in
    let first : c.push.new.self.items ≡ line (codes "target") number =
    joined_more begun number (10 ∷ []) c.put_fixed.new.out.items c.push.new.self.items put c.in_ok-push.ensures.items
    ∙ ap (λ (start : List ℕ). start ++ (number ++ (10 ∷ []))) (c.in_ok-extend_from_slice.ensures.items ∙ ap (λ (start : List ℕ). start ++ codes "target,") c.new-text.ensures.items) in
    joined_more c.push.new.self.items reach least c.put_reach.new.text.items c.put_least.new.text.items c.in_ok-put_reach.ensures c.in_ok-put_least.ensures
    ∙ ap (λ (start : List ℕ). start ++ (reach ++ least)) first
