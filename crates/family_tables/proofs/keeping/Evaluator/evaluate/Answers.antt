use Rattle.std.proofs.Common.{◌≡◌, ◌∙◌, ◌++◌, ◌∷◌, [], ℕ, ap, flat_map, get_or, lit<, map, subst, sym}
use Rattle.std.proofs.lemmas.Result.{IfOk-weaker}
use Rattle.fleet_model.specs.Rows.{shop_units}
use Rattle.family_items.specs.Inputs.{IsLine}
use Rattle.family_items.specs.Profile.{item_of, part_items}
use Rattle.family_tables.specs.declared.keys.Kept.{Kept}
use Rattle.family_tables.specs.Kept.{Evaluation, Grows, Has, depot_stocks, keys_of}
use Rattle.family_numbers.specs.Numbers.{numbers_of}
use Rattle.family_tables.proofs.Found.{has_all}
use Rattle.family_tables.proofs.Gathered.{stocks_there}
use Rattle.family_tables.proofs.KeptItems.{items_are}
use Rattle.family_tables.proofs.keeping.Evaluator.evaluate.Goals as goal

pub kept_items-requires : goal.kept_items-requires
kept_items-requires g c =
    let l : ℕ = get_or c.args.self.now.numbers.parts 0 0 in
    let family : c.self.inside.family ≡ numbers_of g.row.F c.args.case.now l = ap (λ (e : Evaluation g.row.F). e.numbers) c.self.view_is ∙ c.requires.numbers in
    let inputs = c.requires.inputs in (
      lit< tt,
      (lit< tt, (lit< tt, (c.self.invariant, stocks_there g.row.F c.args.case.now l c.args.stocks.now c.self.inside.family inputs.valid c.requires.line inputs.are_stocks.is_for inputs.are_stocks.limits family))),
    )

pub family_of-requires : goal.family_of-requires
family_of-requires g c =
    let f = g.row.F in
    let k = c.args.case.now in
    let s = c.args.stocks.now in
    let l : ℕ = get_or c.args.self.now.numbers.parts 0 0 in
    let family : c.self.inside.family ≡ numbers_of f k l = ap (λ (e : Evaluation f). e.numbers) c.self.view_is ∙ c.requires.numbers in
    let part : c.part-line.result.0 ≡ l = c.part-line.ensures ∙ ap (λ (e : Evaluation f). get_or e.numbers.parts 0 0) c.self.view_is in (
      lit< tt,
      (
        lit< tt,
        (
          c.requires.inputs,
          (
            c.requires.rates,
            (
              subst (IsLine k) (sym part) c.requires.line,
              c.as_slice.ensures.value ∙ c.in_ok-items.ensures.items
                  ∙ items_are f k l s c.self.inside.family c.requires.inputs.valid c.requires.line c.requires.inputs.are_stocks.is_for family
                  ∙ ap (λ p. flat_map (part_items f k s.list) (shop_units k p) ++ item_of f k s.list p 0 ∷ []) (sym part),
            ),
          ),
        ),
      ),
    )

pub returns-in_err-items-clause-grows : goal.returns-in_err-items-clause-grows
returns-in_err-items-clause-grows g c =
    subst (λ (e : Evaluation g.row.F). Grows (keys_of e.numbers (depot_stocks e.numbers c.args.stocks.now)) e.keys (map (λ (y : Kept g.row.F). y.key) c.kept_items.new.kept.items))
    c.self.view_is c.kept_items.ensures.grows

pub returns-clause-grows : goal.returns-clause-grows
returns-clause-grows g c =
    subst (λ (e : Evaluation g.row.F). Grows (keys_of e.numbers (depot_stocks e.numbers c.args.stocks.now)) e.keys (map (λ (y : Kept g.row.F). y.key) c.kept_items.new.kept.items))
    c.self.view_is c.kept_items.ensures.grows

pub returns-clause-has : goal.returns-clause-has
returns-clause-has g c =
    let given = keys_of c.self.inside.family (depot_stocks c.self.inside.family c.args.stocks.now) in
    let here : Has given (map (λ (y : Kept g.row.F). y.key) c.kept_items.new.kept.items) =
    subst (Has given) (sym c.in_ok-items.ensures.keys) (has_all (map (λ (y : Kept g.row.F). y.key) c.self.inside.tables.items) given) in
    IfOk-weaker c.family_of.result _ _
    (λ r h. subst (λ (e : Evaluation g.row.F). Has (keys_of e.numbers (depot_stocks e.numbers c.args.stocks.now)) (map (λ (y : Kept g.row.F). y.key) c.kept_items.new.kept.items))
    c.self.view_is here) c.family_of.ensures.ends
