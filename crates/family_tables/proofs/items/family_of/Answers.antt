use Rattle.std.proofs.Common.{◌≡◌, ◌-◌, ◌≤◌, List, [], ◌∷◌, ◌++◌, length, get_or, take, refl, lit<, ◌∙◌, ap, ap₂, subst, sym, arith}
use Rattle.std.proofs.lemmas.List.{get_or_push, length_push, take-append-le, take_all}
use Rattle.family_items.specs.declared.item.Item.{Item}
use Rattle.fleet_model.specs.Rows.{shop_units}
use Rattle.std.specs.Prelude.{flat_map}
use Rattle.std.proofs.lemmas.Result.{IfOk-weaker}
use Rattle.family_items.specs.Encloses.{EnclosesFamily, IsSmallFamily}
use Rattle.family_items.specs.Inputs.{InputRows, IsLine}
use Rattle.family_items.specs.Profile.{family_of, item_of, part_items}
use Rattle.family_tables.proofs.items.family_of.Goals as goal

pub returns-clause-encloses : goal.returns-clause-encloses
returns-clause-encloses g c =
    IfOk-weaker c.family_from.result _ _
    (λ r h. subst (EnclosesFamily g.row.F c.args.case.now c.args.stocks.now.list c.args.line.0)
    (sym (h ∙ ap (λ (x : InputRows). family_of g.row.F x.case c.args.line.0 x.stocks) c.of-inputs.ensures))
    (c.families_enclose.ensures.encloses g.row.F c.args.case.now c.args.stocks.now c.args.line.0 c.requires.inputs c.requires.line)) c.family_from.ensures

pub returns-clause-small : goal.returns-clause-small
returns-clause-small g c =
    IfOk-weaker c.family_from.result _ _
    (λ r h. subst (IsSmallFamily g.row.F c.args.case.now c.args.line.0)
    (sym (h ∙ ap (λ (x : InputRows). family_of g.row.F x.case c.args.line.0 x.stocks) c.of-inputs.ensures))
    (c.families_enclose.ensures.small g.row.F c.args.case.now c.args.stocks.now c.args.line.0 c.requires.inputs c.requires.line)) c.family_from.ensures

-- the last entry, and those before it
module _ {A : Type 0} (xs ys : List A) (x : A) (e : ys ≡ xs ++ x ∷ []) where
  before : length ys - 1 ≡ length xs
  before = omega (arith, ap length e, length_push xs x)

  last_is : (d : A) → get_or ys (length ys - 1) d ≡ x
  last_is d = ap₂ (λ (zs : List A) n. get_or zs n d) e before ∙ get_or_push xs x d (length xs) refl

  others_are : take (length ys - 1) ys ≡ xs
  others_are =
      let all : length xs ≤ length xs = omega arith in
      let front : take (length xs) (xs ++ x ∷ []) ≡ xs = rw take-append-le (take_all (length xs) xs all) in
      ap₂ (λ n (zs : List A). take n zs) before e ∙ front

pub family_from-requires : goal.family_from-requires
family_from-requires g c =
    let f = g.row.F in
    let l = c.args.line.0 in
    let rows = c.args.case.now in
    let stocks = c.args.stocks.now.list in
    let xs = c.args.items.now in
    let shops : List (Item f) = flat_map (part_items f rows stocks) (shop_units rows l) in
    let last : Item f = item_of f rows stocks l 0 in
    let same = sym c.of-inputs.ensures in (
      lit< tt,
      (
        lit< tt,
        (
          c.requires.inputs.scale,
          (
            subst (λ (x : InputRows). IsLine x.case l) same c.requires.line,
            (
              c.index-items-last.is ∙ last_is shops xs last c.requires.items c.index-items-last.result ∙ ap (λ (x : InputRows). item_of f x.case x.stocks.list l 0) same,
              others_are shops xs last c.requires.items ∙ ap (λ (x : InputRows). flat_map (part_items f x.case x.stocks.list) (shop_units x.case l)) same,
            ),
          ),
        ),
      ),
    )

pub bounds-items-last : goal.bounds-items-last
bounds-items-last g c = let many = length_push (flat_map (part_items g.row.F c.args.case.now c.args.stocks.now.list) (shop_units c.args.case.now c.args.line.0))
    (item_of g.row.F c.args.case.now c.args.stocks.now.list c.args.line.0 0) in omega (arith, many, ap length c.requires.items)
