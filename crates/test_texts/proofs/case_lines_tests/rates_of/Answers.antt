use Rattle.std.proofs.Common.{List, [], ◌∷◌, sym, subst, All}
use Rattle.std.proofs.lemmas.List.Elements.{All-append, All-from_recursion}
use Rattle.spares_input.specs.Cases.{IsRateOf}
use Rattle.spares_input.specs.declared.rows.RateRow.{RateRow}
use Rattle.test_texts.proofs.case_lines_tests.rates_of.Goals as goal

pub loop-i-preserved : goal.loop-i-preserved
loop-i-preserved c =
    let frame = c.args.frame.now in
    let here : All (IsRateOf frame) (c.rate.result ∷ []) = All-from_recursion (IsRateOf frame) (c.rate.result ∷ []) (c.rate.ensures, tt) in
    subst (λ (v : List RateRow). All (IsRateOf frame) v) (sym c.in_ok-push.ensures.items) (All-append (IsRateOf frame) c.loop-i.rates.items (c.rate.result ∷ []) c.loop-i.invariant here)
