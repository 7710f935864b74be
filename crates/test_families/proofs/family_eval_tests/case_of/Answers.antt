use Rattle.std.proofs.Common.{List, [], ◌∷◌, sym, subst, All}
use Rattle.std.proofs.lemmas.List.Elements.{All-from_recursion}
use Rattle.spares_input.specs.Cases.{IsRateOf}
use Rattle.spares_input.specs.declared.rows.RateRow.{RateRow}
use Rattle.test_families.proofs.family_eval_tests.case_of.Goals as goal

pub build-requires : goal.build-requires
build-requires c =
    subst (λ (rows : List RateRow). All (IsRateOf c.in_ok-frame.frame) rows) (sym c.in-Ok.ensures.items)
    (All-from_recursion (IsRateOf c.in_ok-frame.frame) (c.rate.result ∷ c.rate-2.result ∷ c.rate-3.result ∷ c.rate-4.result ∷ c.rate-5.result ∷ c.rate-6.result ∷ [])
    (c.rate.ensures, (c.rate-2.ensures, (c.rate-3.ensures, (c.rate-4.ensures, (c.rate-5.ensures, (c.rate-6.ensures, tt)))))))
