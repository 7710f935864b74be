use Rattle.std.proofs.Common.{◌≡◌, ◌≤◌, ◌<◌, ℕ, refl, get_or, length, None, Some, arith, subst, map, ap, ◌∙◌}
use Rattle.std.proofs.lemmas.List.{take_all}
use Rattle.std.specs.Option.{option_map}
use Rattle.spares_input.specs.First.{first}
use Rattle.spares_input.specs.Building.{vacant, missing_stock_at}
use Rattle.spares_input.proofs.Firsts.{first_more, first_found}
use Rattle.spares_input.proofs.PlaceFacts.{vacant_here, vacant_not}
use Rattle.spares_input.proofs.StockFacts.{stocks_more}
use Rattle.spares_input.proofs.stocks.stocks_of_places.Goals as goal

within : (i n most : ℕ) → i < n → n ≤ most → i < most
within i n most below few = omega arith

ended : (i n : ℕ) → n ≤ i → i ≤ n → i ≡ n
ended i n past within = omega (arith, past, within)

pub pair_at-requires-clause-within : goal.pair_at-requires-clause-within
pair_at-requires-clause-within c = within c.loop-i.i _ _ c.loop-i-test.true c.requires.few

pub loop-i-init : goal.loop-i-init
unfolding first
loop-i-init c = record { fault = refl; stocks = rw c.new-list.ensures.items refl }

pub returns-in-None-clause-fault : goal.returns-in-None-clause-fault
returns-in-None-clause-fault c =
    let nothing : get_or c.args.places.now c.loop-i.i None ≡ None = c.in-None.is in
    rw (c.pair_at.ensures.part, c.pair_at.ensures.site) (first_found (vacant (missing_stock_at c.args.sites) c.args.places.now) c.loop-i.i (length c.args.places.now) _ c.loop-i.invariant.fault
    (vacant_here (missing_stock_at c.args.sites) c.args.places.now c.loop-i.i c.loop-i-test.true nothing) c.loop-i-test.true)

pub loop-i-preserved : goal.loop-i-preserved
loop-i-preserved c =
    let something : get_or c.args.places.now c.loop-i.i None ≡ Some c.in-Some.row = c.in-Some.is in
    record {
      fault = first_more (vacant (missing_stock_at c.args.sites) c.args.places.now) c.loop-i.i c.loop-i.invariant.fault
          (vacant_not (missing_stock_at c.args.sites) c.args.places.now c.loop-i.i c.in-Some.row c.loop-i-test.true something);
      stocks = rw c.in_ok-push-in-Some.ensures.items (stocks_more c.loop-i.list.items c.args.places.now c.loop-i.i c.in-Some.row c.loop-i-test.true something c.loop-i.invariant.stocks);
    }

pub pair_at-requires-clause-some_sites : goal.pair_at-requires-clause-some_sites
pair_at-requires-clause-some_sites c = c.requires.some_sites

pub pair_at-requires-clause-few_sites : goal.pair_at-requires-clause-few_sites
pair_at-requires-clause-few_sites c = c.requires.few_sites

pub returns-clause-fault : goal.returns-clause-fault
returns-clause-fault c =
    subst (λ n. first (vacant (missing_stock_at c.args.sites) c.args.places.now) n ≡ None) (ended c.loop-i.i (length c.args.places.now) c.loop-i-test.false c.loop-i.auto.i-end)
    c.loop-i.invariant.fault

pub returns-clause-stocks : goal.returns-clause-stocks
returns-clause-stocks c = c.loop-i.invariant.stocks ∙ ap (λ rows. map (option_map (λ r. r.stock)) rows) (take_all c.loop-i.i c.args.places.now c.loop-i-test.false)
