use Rattle.std.proofs.Common.{◌≡◌, ◌<◌, ◌≤◌, List, [], ◌∷◌, length, map, sym, ap, ◌∙◌, subst, arith}
use Rattle.std.proofs.lemmas.List.{take_all}
use Rattle.hull.specs.declared.point.Point.{Point}
use Rattle.hull.specs.Curves.{InRange, StandFor}
use Rattle.hull.proofs.Public.{stand_self}
use Rattle.family_points.specs.declared.order.Choice.{Choice}
use Rattle.family_points.specs.Choices.{IsChoice, choice_point}
use Rattle.family_points.proofs.Public.{choice_range, earlier_cheaper, earlier_wide, stands_on}
use Rattle.family_bases.proofs.curves.put_points.Goals as goal

pub spot_at-requires-clause-choice : goal.spot_at-requires-clause-choice
spot_at-requires-clause-choice g c =
    let here = c.args.here.now in
    let first = c.index-first.result.now in
    subst (IsChoice here.family.now here.site.0) (sym c.index-first.ensures) (c.requires.here.base.order.choices 0 first c.requires.some)

pub begin_with-requires : goal.begin_with-requires
begin_with-requires g c =
    let here = c.args.here.now in
    let x = here.family.now in
    let first = c.index-first.result.now in
    let choice : IsChoice x here.site.0 first = subst (IsChoice x here.site.0) (sym c.index-first.ensures) (c.requires.here.base.order.choices 0 first c.requires.some) in
    subst InRange (sym c.spot_at.ensures)
    (choice_range x c.requires.here.valid here.site.0 first choice c.requires.here.site g.S.Score.ends g.met.S.Score.leaves_room here.depot.now c.requires.here.depot)

pub loop-n-init : goal.loop-n-init
loop-n-init g c =
    let here = c.args.here.now in
    let x = here.family.now in
    let first = c.index-first.result.now in
    let p : List Point = choice_point g.S.Score.ends x here.depot.now here.site.0 first ∷ [] in
    let chain : c.begin_with.new.self ≡ p = c.begin_with.ensures ∙ ap (λ (q : Point). q ∷ []) c.spot_at.ensures in
    record {
      stands = stands_on x here.site.0 here.base.now.order.items c.requires.here.base.order g.S.Score.ends here.depot.now 0 first [] c.begin_with.new.self c.requires.some
          c.index-first.ensures (stand_self []) (subst (StandFor p) (sym chain) (stand_self p));
      few = omega (arith, ap length chain);
    }

pub row_at-requires-clause-choice : goal.row_at-requires-clause-choice
row_at-requires-clause-choice g c =
    let here = c.args.here.now in
    let choice = c.index-choice.result.now in
    subst (IsChoice here.family.now here.site.0) (sym c.index-choice.ensures)
    (c.requires.here.base.order.choices c.loop-n.n choice (omega (arith, c.loop-n-test.true, c.len-n-end.ensures, here.base.now.order.ok.0)))

pub take_choice-requires-clause-choice : goal.take_choice-requires-clause-choice
take_choice-requires-clause-choice g c =
    let here = c.args.here.now in
    let choice = c.index-choice.result.now in
    subst (IsChoice here.family.now here.site.0) (sym c.index-choice.ensures)
    (c.requires.here.base.order.choices c.loop-n.n choice (omega (arith, c.loop-n-test.true, c.len-n-end.ensures, here.base.now.order.ok.0)))

pub take_choice-requires-clause-order : goal.take_choice-requires-clause-order
take_choice-requires-clause-order g c = λ v m. (
    let here = c.args.here.now in
    let inside : c.loop-n.n < length here.base.now.order.items = omega (arith, c.loop-n-test.true, c.len-n-end.ensures, here.base.now.order.ok.0) in
    earlier_cheaper here.family.now here.site.0 here.base.now.order.items c.requires.here.base.order g.S.Score.ends here.depot.now c.loop-n.n c.index-choice.result.now v inside
    c.index-choice.ensures (c.loop-n.invariant.stands.among v m))

pub take_choice-requires-clause-width : goal.take_choice-requires-clause-width
take_choice-requires-clause-width g c = λ v m. (
    let here = c.args.here.now in
    let choice = c.index-choice.result.now in
    let inside : c.loop-n.n < length here.base.now.order.items = omega (arith, c.loop-n-test.true, c.len-n-end.ensures, here.base.now.order.ok.0) in
    let is : IsChoice here.family.now here.site.0 choice =
    subst (IsChoice here.family.now here.site.0) (sym c.index-choice.ensures) (c.requires.here.base.order.choices c.loop-n.n choice inside) in
    earlier_wide here.family.now here.site.0 here.base.now.order.items c.requires.here.base.order g.S.Score.ends here.depot.now c.requires.here.valid g.met.S.Score.leaves_room c.requires.here.depot
    c.requires.here.site c.loop-n.n choice v (omega (arith, inside)) is (c.loop-n.invariant.stands.among v m))

pub loop-n-preserved : goal.loop-n-preserved
loop-n-preserved g c =
    let here = c.args.here.now in
    let inside : c.loop-n.n < length here.base.now.order.items = omega (arith, c.loop-n-test.true, c.len-n-end.ensures, here.base.now.order.ok.0) in
    record {
      stands = stands_on here.family.now here.site.0 here.base.now.order.items c.requires.here.base.order g.S.Score.ends here.depot.now c.loop-n.n c.index-choice.result.now c.loop-n.chain
          c.take_choice.new.chain inside c.index-choice.ensures c.loop-n.invariant.stands c.in_ok-take_choice.ensures.stands;
      few = omega (arith, c.in_ok-take_choice.ensures.few, c.loop-n.invariant.few);
    }

pub returns-clause-stands : goal.returns-clause-stands
returns-clause-stands g c =
    let here = c.args.here.now in
    let order = here.base.now.order.items in
    let all : length order ≤ c.loop-n.n = omega (arith, c.loop-n-test.false, c.len-n-end.ensures, here.base.now.order.ok.0) in
    subst (λ (l : List Choice). StandFor (map (choice_point g.S.Score.ends here.family.now here.depot.now here.site.0) l) c.loop-n.chain) (take_all c.loop-n.n order all)
    c.loop-n.invariant.stands
