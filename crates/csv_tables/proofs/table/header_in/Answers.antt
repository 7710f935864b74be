use Rattle.std.proofs.Common.{◌≡◌, refl, sym, length, arith}
use Rattle.std.proofs.lemmas.List.{length-map}
use Rattle.spares_input.specs.First.{first}
use Rattle.spares_input.proofs.Public.{first_more, first_found}
use Rattle.csv_tables.proofs.TableFacts.{header_fault, header_whole}
use Rattle.csv_tables.proofs.table.header_in.Goals as goal

pub loop-k-init : goal.loop-k-init
unfolding first
loop-k-init c = refl

pub returns-in-Some : goal.returns-in-Some
returns-in-Some c =
    header_fault c.args.least _ _ c.len-columns.result (length c.args.header.now) c.in-Some.fault (length-map c.args.header.now (λ f. f.now)) c.len-columns.ensures
    c.if-columns-least.false c.if-columns-header.false
    (first_found _ c.loop-k.k c.len-columns.result c.in-Some.fault c.loop-k.invariant (sym c.in-Some.ensures) c.loop-k-test.true)

pub loop-k-preserved : goal.loop-k-preserved
loop-k-preserved c = first_more _ c.loop-k.k c.loop-k.invariant (sym c.in_default.ensures)

pub returns : goal.returns
returns c =
    let done : c.loop-k.k ≡ c.len-columns.result = omega (arith, c.loop-k-test.false, c.loop-k.auto.k-end) in
    header_whole c.args.least _ _ c.len-columns.result (length c.args.header.now) c.loop-k.k (length-map c.args.header.now (λ f. f.now)) c.len-columns.ensures
    c.if-columns-least.false c.if-columns-header.false c.loop-k.invariant done
