use Rattle.std.proofs.Common.{ℕ, List, ◌∷◌, ◌++◌, IfOk, flat_map, sym, ◌∙◌, subst, arith}
use Rattle.hull.specs.declared.point.Point.{Point}
use Rattle.hull.specs.Curves.{IsCurve}
use Rattle.family_points.specs.Separation.{depot_points}
use Rattle.family_points.specs.Inputs.{AreShopsAt, line_stocks}
use Rattle.family_bases.specs.Joining.{vertices_of}
use Rattle.family_curve.proofs.joining.with_shops.Goals as goal

pub depot_tables-requires-clause-depot : goal.depot_tables-requires-clause-depot
depot_tables-requires-clause-depot g c = subst (AreShopsAt c.args.sources.now.family.now 0) (sym c.as_slice-shops.ensures.value) c.in_ok-vector.ensures.within

pub put-requires-clause-depot : goal.put-requires-clause-depot
put-requires-clause-depot g c = subst (AreShopsAt c.args.sources.now.family.now 0) (sym c.as_slice-shops.ensures.value) c.in_ok-vector.ensures.within

pub put-requires-clause-sources : goal.put-requires-clause-sources
put-requires-clause-sources g c = c.requires.sources

pub depot_tables-requires-clause-shops : goal.depot_tables-requires-clause-shops
depot_tables-requires-clause-shops g c = c.in_ok-put.ensures

pub with_lines-requires-clause-shops : goal.with_lines-requires-clause-shops
with_lines-requires-clause-shops g c = subst (AreShopsAt c.args.sources.now.family.now 0) (sym c.as_slice-shops.ensures.value) c.in_ok-vector.ensures.within

pub returns-clause-curve : goal.returns-clause-curve
returns-clause-curve g c =
    let x = c.args.sources.now.family.now in
    let own : List ℕ → List Point = λ d. flat_map (λ s. depot_points g.S.Score.ends x (s ∷ d)) (line_stocks x 0) in
    subst (λ (d : List ℕ). IfOk c.with_lines.result (IsCurve (vertices_of c.args.so_far ++ own d)))
    (c.as_slice-shops.ensures.value ∙ c.in_ok-vector.ensures.vector) c.with_lines.ensures.curve

pub returns-clause-few : goal.returns-clause-few
returns-clause-few g c = c.with_lines.ensures.few

pub returns-clause-widths : goal.returns-clause-widths
returns-clause-widths g c = c.with_lines.ensures.widths

pub returns-clause-work : goal.returns-clause-work
returns-clause-work g c = c.with_lines.ensures.work

pub shop_vector-requires-clause-site : goal.shop_vector-requires-clause-site
shop_vector-requires-clause-site g c = let some = c.invariant.ensures.valid.valid.frame.fewest_sites in omega (arith, some)

pub shop_vector-requires-clause-within : goal.shop_vector-requires-clause-within
shop_vector-requires-clause-within g c = c.requires.number

pub depot_tables-requires-clause-sources : goal.depot_tables-requires-clause-sources
depot_tables-requires-clause-sources g c = c.requires.sources

pub with_lines-requires-clause-sources : goal.with_lines-requires-clause-sources
with_lines-requires-clause-sources g c = c.requires.sources

pub with_lines-requires-clause-tables : goal.with_lines-requires-clause-tables
with_lines-requires-clause-tables g c = c.in_ok-tables.ensures

pub with_lines-requires-clause-room : goal.with_lines-requires-clause-room
with_lines-requires-clause-room g c = c.requires.room

pub with_lines-requires-clause-widths : goal.with_lines-requires-clause-widths
with_lines-requires-clause-widths g c = c.requires.widths

pub with_lines-requires-clause-work : goal.with_lines-requires-clause-work
with_lines-requires-clause-work g c = c.requires.work
