use Rattle.std.proofs.Common.{◌≡◌, ◌<◌, ◌++◌, List, [], get_or, length, map, sym, ap, ◌∙◌, subst, arith, OnOk}
use Rattle.std.proofs.lemmas.List.{append-nil}
use Rattle.fixed_interval.specs.Ends.{Ends}
use Rattle.hull.specs.declared.point.Point.{Point}
use Rattle.hull.specs.Curves.{StandFor}
use Rattle.hull.proofs.Public.{stand_self}
use Rattle.family_points.specs.Choices.{choice_point}
use Rattle.family_rows.specs.Spots.{IsRowOf}
use Rattle.base_parts.proofs.Kept.{empty_found, kept_is, none_is, row_is, some_found}
use Rattle.base_parts.proofs.choices.add_kept.Goals as goal

pub bounds-rows-choice : goal.bounds-rows-choice
bounds-rows-choice g c = omega (arith, c.requires.choice.place, c.requires.long)

pub take_choice-requires-clause-row : goal.take_choice-requires-clause-row
take_choice-requires-clause-row g c =
    let b = c.args.here.now in
    let v = c.args.choice.now in
    let inside : v.shops < length c.args.rows.now = omega (arith, c.requires.choice.place, c.requires.long) in
    let is : c.as_slice-row.result.now ≡ get_or (map (λ r. r.items) c.args.rows.now) v.shops [] =
    c.as_slice-row.ensures.value ∙ row_is (λ r. r.items) c.args.rows.now v.shops c.index-rows-choice.result inside c.index-rows-choice.is in
    let some : 0 < length c.as_slice-row.result.now = some_found (length c.as_slice-row.result.now) c.is_empty.result c.is_empty.ensures c.if-is_empty.false in
    subst (λ (r : List Ends). IsRowOf b v.shops r) (sym is)
    (c.requires.rows v.shops c.requires.choice.place (subst (λ (r : List Ends). 0 < length r) is some))

pub returns-then-is_empty-clause-stands : goal.returns-then-is_empty-clause-stands
returns-then-is_empty-clause-stands g c =
    let b = c.args.here.now in
    let v = c.args.choice.now in
    let chain : List Point = c.args.chain.now in
    let p : Point = choice_point g.S.Score.ends b.family.now b.depot.now b.site.0 v in
    let inside : v.shops < length c.args.rows.now = omega (arith, c.requires.choice.place, c.requires.long) in
    let row : List Ends = get_or (map (λ r. r.items) c.args.rows.now) v.shops [] in
    let is : c.as_slice-row.result.now ≡ row = c.as_slice-row.ensures.value ∙ row_is (λ r. r.items) c.args.rows.now v.shops c.index-rows-choice.result inside c.index-rows-choice.is in
    let empty : length row ≡ 0 = sym (ap length is) ∙ empty_found (length c.as_slice-row.result.now) c.is_empty.result c.is_empty.ensures c.if-is_empty.true in
    subst (λ (l : List Point). StandFor l chain) (sym (ap (λ (ps : List Point). chain ++ ps) (none_is row p empty) ∙ append-nil chain)) (stand_self chain)

pub returns-clause-stands : goal.returns-clause-stands
returns-clause-stands g c =
    let b = c.args.here.now in
    let v = c.args.choice.now in
    let p : Point = choice_point g.S.Score.ends b.family.now b.depot.now b.site.0 v in
    let inside : v.shops < length c.args.rows.now = omega (arith, c.requires.choice.place, c.requires.long) in
    let row : List Ends = get_or (map (λ r. r.items) c.args.rows.now) v.shops [] in
    let is : c.as_slice-row.result.now ≡ row = c.as_slice-row.ensures.value ∙ row_is (λ r. r.items) c.args.rows.now v.shops c.index-rows-choice.result inside c.index-rows-choice.is in
    let some : 0 < length c.as_slice-row.result.now = some_found (length c.as_slice-row.result.now) c.is_empty.result c.is_empty.ensures c.if-is_empty.false in
    subst (λ (ps : List Point). OnOk c.take_choice.result (StandFor (c.args.chain.now ++ ps) c.take_choice.new.chain))
    (sym (kept_is row p (subst (λ (r : List Ends). 0 < length r) is some))) c.take_choice.ensures.stands
