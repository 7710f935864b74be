use Rattle.std.proofs.Common.{◌≡◌, ◌<◌, ◌≤◌, List, [], ◌∷◌, get_or, length, map, sym, ap, ◌∙◌, subst, arith}
use Rattle.std.proofs.lemmas.List.{take_all}
use Rattle.fixed_interval.specs.Ends.{Ends}
use Rattle.hull.specs.declared.point.Point.{Point}
use Rattle.hull.specs.Curves.{InRange, StandFor}
use Rattle.hull.proofs.Public.{curve_made, stand_self}
use Rattle.family_points.specs.declared.order.Choice.{Choice}
use Rattle.family_points.specs.Choices.{IsChoice, choice_point}
use Rattle.family_points.proofs.Public.{choice_range, earlier_cheaper, earlier_wide}
use Rattle.family_rows.specs.Spots.{IsRowOf}
use Rattle.base_parts.specs.Choices.{kept_points}
use Rattle.base_parts.proofs.Kept.{kept_among, kept_first, row_is, stands_kept}
use Rattle.base_parts.proofs.choices.put_kept.Goals as goal

pub spot_by_row-requires-clause-choice : goal.spot_by_row-requires-clause-choice
spot_by_row-requires-clause-choice g c =
    let b = c.args.here.now in
    subst (IsChoice b.family.now b.site.0) (sym c.index-choice.ensures) (c.requires.here.base.order.choices c.first_kept-first.result c.index-choice.result.now c.first_kept-first.ensures.within)

pub bounds-rows-choice : goal.bounds-rows-choice
bounds-rows-choice g c =
    let b = c.args.here.now in
    let v : Choice = c.index-choice.result.now in
    let choice : IsChoice b.family.now b.site.0 v =
    subst (IsChoice b.family.now b.site.0) (sym c.index-choice.ensures) (c.requires.here.base.order.choices c.first_kept-first.result v c.first_kept-first.ensures.within) in
    omega (arith, choice.place, c.requires.long)

pub spot_by_row-requires-clause-row : goal.spot_by_row-requires-clause-row
spot_by_row-requires-clause-row g c =
    let b = c.args.here.now in
    let v : Choice = c.index-choice.result.now in
    let choice : IsChoice b.family.now b.site.0 v =
    subst (IsChoice b.family.now b.site.0) (sym c.index-choice.ensures) (c.requires.here.base.order.choices c.first_kept-first.result v c.first_kept-first.ensures.within) in
    let inside : v.shops < length c.args.rows.now = omega (arith, choice.place, c.requires.long) in
    let is : c.as_slice.result.now ≡ get_or (map (λ r. r.items) c.args.rows.now) v.shops [] =
    c.as_slice.ensures.value ∙ row_is (λ r. r.items) c.args.rows.now v.shops c.index-rows-choice.result inside c.index-rows-choice.is in
    subst (λ (r : List Ends). IsRowOf b v.shops r) (sym is) (c.requires.rows v.shops choice.place (c.first_kept-first.ensures.kept v c.index-choice.ensures))

pub begin_with-requires : goal.begin_with-requires
begin_with-requires g c =
    let b = c.args.here.now in
    let v : Choice = c.index-choice.result.now in
    let choice : IsChoice b.family.now b.site.0 v =
    subst (IsChoice b.family.now b.site.0) (sym c.index-choice.ensures) (c.requires.here.base.order.choices c.first_kept-first.result v c.first_kept-first.ensures.within) in
    subst InRange (sym c.spot_by_row.ensures)
    (choice_range b.family.now c.requires.here.valid b.site.0 v choice c.requires.here.site g.S.Score.ends g.met.S.Score.leaves_room b.depot.now c.requires.here.depot)

pub loop-n-init : goal.loop-n-init
loop-n-init g c =
    let b = c.args.here.now in
    let v : Choice = c.index-choice.result.now in
    let order = b.base.now.order.items in
    let first = c.first_kept-first in
    let rows : List (List Ends) = map (λ r. r.items) c.args.rows.now in
    let p : List Point = choice_point g.S.Score.ends b.family.now b.depot.now b.site.0 v ∷ [] in
    let chain : c.begin_with.new.self ≡ p = c.begin_with.ensures ∙ ap (λ (q : Point). q ∷ []) c.spot_by_row.ensures in
    let points = kept_first g.S.Score.ends b rows order first.result v first.ensures.within c.index-choice.ensures (first.ensures.kept v c.index-choice.ensures) first.ensures.first in
    record {
      stands = subst (λ (l : List Point). StandFor l c.begin_with.new.self) (sym points) (subst (StandFor p) (sym chain) (stand_self p));
      few = omega (arith, ap length chain);
    }

pub add_kept-requires-clause-choice : goal.add_kept-requires-clause-choice
add_kept-requires-clause-choice g c =
    let b = c.args.here.now in
    let v : Choice = c.index.result.now in
    let inside : c.loop-n.n < length b.base.now.order.items = omega (arith, c.loop-n-test.true, c.len-n-end.ensures, b.base.now.order.ok.0) in
    subst (IsChoice b.family.now b.site.0) (sym c.index.ensures) (c.requires.here.base.order.choices c.loop-n.n v inside)

pub add_kept-requires-clause-order : goal.add_kept-requires-clause-order
add_kept-requires-clause-order g c = λ v m. (
    let b = c.args.here.now in
    let order = b.base.now.order.items in
    let inside : c.loop-n.n < length order = omega (arith, c.loop-n-test.true, c.len-n-end.ensures, b.base.now.order.ok.0) in
    earlier_cheaper b.family.now b.site.0 order c.requires.here.base.order g.S.Score.ends b.depot.now c.loop-n.n c.index.result.now v inside c.index.ensures
    (kept_among g.S.Score.ends b (map (λ r. r.items) c.args.rows.now) order c.loop-n.n v (c.loop-n.invariant.stands.among v m)))

pub add_kept-requires-clause-width : goal.add_kept-requires-clause-width
add_kept-requires-clause-width g c = λ v m. (
    let b = c.args.here.now in
    let order = b.base.now.order.items in
    let inside : c.loop-n.n < length order = omega (arith, c.loop-n-test.true, c.len-n-end.ensures, b.base.now.order.ok.0) in
    let is : IsChoice b.family.now b.site.0 c.index.result.now = subst (IsChoice b.family.now b.site.0) (sym c.index.ensures) (c.requires.here.base.order.choices c.loop-n.n c.index.result.now inside) in
    earlier_wide b.family.now b.site.0 order c.requires.here.base.order g.S.Score.ends b.depot.now c.requires.here.valid g.met.S.Score.leaves_room c.requires.here.depot c.requires.here.site
    c.loop-n.n c.index.result.now v (omega (arith, inside)) is
    (kept_among g.S.Score.ends b (map (λ r. r.items) c.args.rows.now) order c.loop-n.n v (c.loop-n.invariant.stands.among v m)))

pub loop-n-preserved : goal.loop-n-preserved
loop-n-preserved g c =
    let b = c.args.here.now in
    let order = b.base.now.order.items in
    let inside : c.loop-n.n < length order = omega (arith, c.loop-n-test.true, c.len-n-end.ensures, b.base.now.order.ok.0) in
    record {
      stands = stands_kept g.S.Score.ends b (map (λ r. r.items) c.args.rows.now) order c.loop-n.n c.index.result.now c.loop-n.chain c.add_kept.new.chain inside c.index.ensures
          c.loop-n.invariant.stands c.in_ok-add_kept.ensures.stands;
      few = omega (arith, c.in_ok-add_kept.ensures.few, c.loop-n.invariant.few);
    }

pub returns-clause-curve : goal.returns-clause-curve
returns-clause-curve g c =
    let b = c.args.here.now in
    let order = b.base.now.order.items in
    let rows : List (List Ends) = map (λ r. r.items) c.args.rows.now in
    let all : length order ≤ c.loop-n.n = omega (arith, c.loop-n-test.false, c.len-n-end.ensures, b.base.now.order.ok.0) in
    let stands : StandFor (kept_points g.S.Score.ends b rows order) c.loop-n.chain =
    subst (λ (l : List Choice). StandFor (kept_points g.S.Score.ends b rows l) c.loop-n.chain) (take_all c.loop-n.n order all) c.loop-n.invariant.stands in
    curve_made (kept_points g.S.Score.ends b rows order) c.loop-n.chain stands c.invariant.ensures.shape.chain
