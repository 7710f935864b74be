use Rattle.std.proofs.Common.{◌≡◌, ◌∙◌, List, ap, arith, length, lit<, map, subst, sym}
use Rattle.std.proofs.lemmas.Result.{IfOk-weaker}
use Rattle.std.specs.List.{All}
use Rattle.family_tables.specs.declared.keys.Key.{Key}
use Rattle.family_tables.specs.declared.keys.Kept.{Kept}
use Rattle.family_tables.specs.Kept.{Grows, Has, IsKept, IsKey, depot_stocks, key_item, keys_of, with_keys}
use Rattle.family_tables.proofs.Found.{has_all}
use Rattle.family_tables.proofs.Gathered.{stocks_count, stocks_few}
use Rattle.family_tables.proofs.Keyed.{keys_valid}
use Rattle.family_tables.proofs.items.kept_items.Goals as goal

pub depot_stocks-requires : goal.depot_stocks-requires
depot_stocks-requires g c = (lit< tt, λ i h. c.requires.stocks.pairs i 0 h (omega (arith, c.invariant.ensures.valid.fewest_sites)))

pub keys_of-requires : goal.keys_of-requires
keys_of-requires g c = (lit< tt, ap (λ (v : List _). length v) (c.as_slice.ensures.value ∙ c.in_ok-depot.ensures) ∙ stocks_count g.row.F c.args.numbers.now c.args.stocks.now)

pub keep_each-requires : goal.keep_each-requires
keep_each-requires g c =
    let x = c.args.numbers.now in
    let s = c.args.stocks.now in
    let are = c.invariant.ensures.valid in
    let keys : c.as_slice-2.result.now ≡ keys_of x (depot_stocks x s) =
    c.as_slice-2.ensures.value ∙ c.in_ok-keys.ensures ∙ ap (keys_of x) (c.as_slice.ensures.value ∙ c.in_ok-depot.ensures) in (
      lit< tt,
      (
        lit< tt,
        (
          c.requires.kept,
          subst (All (IsKey x)) (sym keys) (keys_valid g.row.F x (depot_stocks x s) are (stocks_count g.row.F x s) (stocks_few g.row.F x s are c.requires.stocks)),
        ),
      ),
    )

pub returns-in_err-keep_each-clause-grows : goal.returns-in_err-keep_each-clause-grows
returns-in_err-keep_each-clause-grows g c =
    let x = c.args.numbers.now in
    let keys : c.as_slice-2.result.now ≡ keys_of x (depot_stocks x c.args.stocks.now) =
    c.as_slice-2.ensures.value ∙ c.in_ok-keys.ensures ∙ ap (keys_of x) (c.as_slice.ensures.value ∙ c.in_ok-depot.ensures) in
    subst (λ (given : List Key). Grows given (map (λ (y : Kept g.row.F). y.key) c.args.kept.now.items) (map (λ (y : Kept g.row.F). y.key) c.keep_each.new.kept.items)) keys
    c.keep_each.ensures.grows

pub items_of-requires : goal.items_of-requires
items_of-requires g c =
    let x = c.args.numbers.now in
    let s = c.args.stocks.now in
    let d = depot_stocks x s in
    let are = c.invariant.ensures.valid in
    let old = map (λ (y : Kept g.row.F). y.key) c.args.kept.now.items in
    let depot = c.as_slice.ensures.value ∙ c.in_ok-depot.ensures in
    let first : c.as_slice-2.result.now ≡ keys_of x d = c.as_slice-2.ensures.value ∙ c.in_ok-keys.ensures ∙ ap (keys_of x) depot in
    let keys : c.as_slice-4.result.now ≡ keys_of x d = c.as_slice-4.ensures.value ∙ c.in_ok-keys.ensures ∙ ap (keys_of x) depot in
    let kept : map (λ (y : Kept g.row.F). y.key) c.as_slice-3.result.now ≡ with_keys old (keys_of x d) =
    ap (λ (v : List (Kept g.row.F)). map (λ (y : Kept g.row.F). y.key) v) c.as_slice-3.ensures.value ∙ c.in_ok-keep_each.ensures.keys ∙ ap (with_keys old) first in (
      lit< tt,
      (
        lit< tt,
        (
          lit< tt,
          (
            subst (All (IsKept g.row.F x)) (sym c.as_slice-3.ensures.value) c.in_ok-keep_each.ensures.kept,
            (
              subst (All (IsKey x)) (sym keys) (keys_valid g.row.F x d are (stocks_count g.row.F x s) (stocks_few g.row.F x s are c.requires.stocks)),
              (
                subst (λ (given : List Key). Has given (map (λ (y : Kept g.row.F). y.key) c.as_slice-3.result.now)) (sym keys)
                    (subst (Has (keys_of x d)) (sym kept) (has_all old (keys_of x d))),
                c.requires.stocks,
              ),
            ),
          ),
        ),
      ),
    )

pub returns-clause-grows : goal.returns-clause-grows
returns-clause-grows g c =
    let x = c.args.numbers.now in
    let keys : c.as_slice-2.result.now ≡ keys_of x (depot_stocks x c.args.stocks.now) =
    c.as_slice-2.ensures.value ∙ c.in_ok-keys.ensures ∙ ap (keys_of x) (c.as_slice.ensures.value ∙ c.in_ok-depot.ensures) in
    subst (λ (given : List Key). Grows given (map (λ (y : Kept g.row.F). y.key) c.args.kept.now.items) (map (λ (y : Kept g.row.F). y.key) c.keep_each.new.kept.items)) keys
    c.keep_each.ensures.grows

pub returns-clause-items : goal.returns-clause-items
returns-clause-items g c =
    let x = c.args.numbers.now in
    IfOk-weaker c.items_of.result _ _
    (λ v h. h ∙ ap (map (key_item g.row.F x c.args.stocks.now))
    (c.as_slice-4.ensures.value ∙ c.in_ok-keys.ensures ∙ ap (keys_of x) (c.as_slice.ensures.value ∙ c.in_ok-depot.ensures))) c.items_of.ensures
