use Rattle.std.proofs.Common.{List, [], ◌∷◌, sym, subst, All}
use Rattle.std.proofs.lemmas.List.Elements.{All-from_recursion}
use Rattle.spares_input.specs.Rows.{IsSiteRow}
use Rattle.spares_input.specs.declared.rows.SiteRow.{SiteRow}
use Rattle.test_families.proofs.family_eval_tests.frame_of.Goals as goal

pub build-requires-clause-site_rows : goal.build-requires-clause-site_rows
build-requires-clause-site_rows c =
    subst (λ (rows : List SiteRow). All IsSiteRow rows) (sym c.in-Ok-Ok.ensures.items)
    (All-from_recursion IsSiteRow (c.site.result ∷ c.site-2.result ∷ c.site-3.result ∷ []) (c.site.ensures, (c.site-2.ensures, (c.site-3.ensures, tt))))
