use Rattle.std.proofs.Common.{◌≡◌, ◌++◌, Bool, true, ap, sym, ◌∙◌}
use Rattle.std.specs.Prelude.{◌==◌}
use Rattle.std.specs.List.{concat}
use Rattle.std.proofs.lemmas.Bool.{eq-eqb}
use Rattle.list_laws.proofs.Public.{after_ok}
use Rattle.price_certificate.proofs.Fits.{covers_at}
use Rattle.price_certificate.proofs.writing.put_covers_of.Goals as goal

pub returns-then-format-eq2 : goal.returns-then-format-eq2
returns-then-format-eq2 c =
    let two : (c.args.format == 2) ≡ true = eq-eqb c.args.format 2 c.if-format-eq2.true in
    after_ok c.put_covers.result (λ h. λ families. h families ∙ ap (λ (b : Bool). c.args.out.now.items ++ concat ((covers_at b families).print c.args.list.now)) (sym two)) c.put_covers.ensures
