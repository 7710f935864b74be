use Rattle.std.proofs.Common.{◌++◌, ◌∙◌, List, map, ap, ap₂, sym, ◌≡◌, ◌-◌, ◌∷◌, [], flat_map, length, arith}
use Rattle.std.specs.List.{range_with_len}
use Rattle.family_tables.specs.declared.keys.Key.{Key}
use Rattle.family_tables.specs.Kept.{shop_key}
use Rattle.family_tables.proofs.Keyed.{flat_next}
use Rattle.family_tables.proofs.making.keys_of.Goals as goal

pub loop-i-preserved : goal.loop-i-preserved
loop-i-preserved g c =
    c.in_ok-append.ensures.items
    ∙ ap₂ (λ (a b : List Key). a ++ b) c.loop-i.invariant
    (c.in_ok-more.ensures ∙ ap (λ n. map (shop_key c.args.depot.now c.loop-i.i) (range_with_len 0 n)) c.sites.ensures.sites)
    ∙ sym (flat_next (λ i. map (shop_key c.args.depot.now i) (range_with_len 0 c.args.numbers.now.sites)) c.loop-i.i)

pub returns : goal.returns
returns g c =
    let numbers = c.args.numbers.now in
    let depot = c.args.depot.now in
    let all : c.loop-i.i ≡ length numbers.parts - 1 = omega (arith, c.loop-i-test.false, c.loop-i.auto.i-end, c.shops-i-end.ensures.shops) in
    c.in_ok-push.ensures.items
    ∙ ap₂ (λ (keys : List Key) (line : Key). keys ++ line ∷ [])
    (c.loop-i.invariant ∙ ap (λ n. flat_map (λ i. map (shop_key depot i) (range_with_len 0 numbers.sites)) (range_with_len 0 n)) all) c.in_ok-line.ensures
