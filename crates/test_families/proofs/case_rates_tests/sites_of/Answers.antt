use Rattle.std.proofs.Common.{List, [], ◌∷◌, sym, subst, All, arith}
use Rattle.std.proofs.lemmas.List.Elements.{All-append, All-from_recursion}
use Rattle.spares_input.specs.Rows.{IsSiteRow}
use Rattle.spares_input.specs.declared.rows.SiteRow.{SiteRow}
use Rattle.test_families.proofs.case_rates_tests.sites_of.Goals as goal

pub loop-k-preserved : goal.loop-k-preserved
loop-k-preserved c =
    let here : All IsSiteRow (c.base.result ∷ []) = All-from_recursion IsSiteRow (c.base.result ∷ []) (c.base.ensures, tt) in
    record {
      rows = subst (λ (v : List SiteRow). All IsSiteRow v) (sym c.in-Ok-push.ensures.items) (All-append IsSiteRow c.loop-k.sites.items (c.base.result ∷ []) c.loop-k.invariant.rows here);
      count = omega (arith, c.in-Ok-push.ensures.len, c.loop-k.invariant.count);
    }
