use Rattle.std.proofs.Common.{ℕ, ◌+◌, ◌≤◌, List, [], ◌∷◌, ◌++◌, drop, length, sum_by, sym, ap, subst, arith}
use Rattle.std.proofs.lemmas.Result.{IfOk-weaker}
use Rattle.hull.specs.declared.point.Point.{Point}
use Rattle.hull.specs.Curves.{Among, StandFor}
use Rattle.hull.proofs.Public.{stand_for_both, stand_self, stand_trans}
use Rattle.family_points.specs.Separation.{depot_point, depot_points}
use Rattle.family_points.specs.Inputs.{IsAt, vertex_count}
use Rattle.family_rows.specs.Tabled.{AreTables}
use Rattle.sum_walk.specs.Sums.{sums_of_each}
use Rattle.family_points.proofs.Public.{bases_long}
use Rattle.family_curve.proofs.joining.depot_path.Goals as goal

pub walk-requires-clause-some : goal.walk-requires-clause-some
walk-requires-clause-some g c =
    omega (
      arith,
      ap length c.as_slice-chains.ensures.value,
      c.in_ok-put_curves.ensures.work,
      bases_long c.args.sources.now.family.now c.args.sources.now.bases.items c.requires.sources.bases,
      c.invariant.ensures.valid.valid.frame.fewest_sites,
    )

pub walk-requires-clause-few : goal.walk-requires-clause-few
walk-requires-clause-few g c =
    omega (
      arith,
      ap length c.as_slice-chains.ensures.value,
      c.in_ok-put_curves.ensures.work,
      bases_long c.args.sources.now.family.now c.args.sources.now.bases.items c.requires.sources.bases,
      c.invariant.ensures.valid.valid.frame.most_sites,
    )

pub returns-clause-stands : goal.returns-clause-stands
returns-clause-stands g c =
    let x = c.args.sources.now.family.now in
    let below = c.args.below.now in
    let points : List Point = depot_points g.S.Score.ends x c.args.first.now.stocks in
    let all : List Point = sums_of_each (c.args.first.now ∷ []) c.as_slice-chains.result.now in
    let stand : StandFor points all =
    subst (λ (p : Point). StandFor points (sums_of_each (p ∷ []) c.as_slice-chains.result.now)) (sym c.requires.first.is)
    (subst (λ (ls : List (List Point)). StandFor points (sums_of_each (depot_point x c.args.first.now.stocks ∷ []) ls)) (sym c.as_slice-chains.ensures.value)
    (subst (λ (v : List ℕ). StandFor (depot_points g.S.Score.ends x v) (sums_of_each (depot_point x v ∷ []) c.put_curves.new.work.chains.items)) c.as_slice-depot.ensures
    c.in_ok-put_curves.ensures.stands)) in
    IfOk-weaker c.walk.result (λ path. StandFor (below ++ all) (below ++ path.items)) (λ path. StandFor (below ++ points) (below ++ path.items))
    (λ path passed. stand_trans (below ++ points) (below ++ all) (below ++ path.items) (stand_for_both below points below all (stand_self below) stand) passed) c.walk.ensures.stands

pub returns-clause-among : goal.returns-clause-among
returns-clause-among g c =
    let x = c.args.sources.now.family.now in
    let points : List Point = depot_points g.S.Score.ends x c.args.first.now.stocks in
    let all : List Point = sums_of_each (c.args.first.now ∷ []) c.as_slice-chains.result.now in
    let stand : StandFor points all =
    subst (λ (p : Point). StandFor points (sums_of_each (p ∷ []) c.as_slice-chains.result.now)) (sym c.requires.first.is)
    (subst (λ (ls : List (List Point)). StandFor points (sums_of_each (depot_point x c.args.first.now.stocks ∷ []) ls)) (sym c.as_slice-chains.ensures.value)
    (subst (λ (v : List ℕ). StandFor (depot_points g.S.Score.ends x v) (sums_of_each (depot_point x v ∷ []) c.put_curves.new.work.chains.items)) c.as_slice-depot.ensures
    c.in_ok-put_curves.ensures.stands)) in
    IfOk-weaker c.walk.result (λ path. (v : Point) → Among v path.items → Among v all) (λ path. (v : Point) → Among v path.items → Among v points)
    (λ path among v m. stand.among v (among v m)) c.walk.ensures.among

pub returns-clause-few : goal.returns-clause-few
returns-clause-few g c =
    let most : 1 + sum_by length c.as_slice-chains.result.now ≤ vertex_count c.args.sources.now.family.now =
    subst (λ (ls : List (List Point)). 1 + sum_by length ls ≤ vertex_count c.args.sources.now.family.now) (sym c.as_slice-chains.ensures.value) c.in_ok-put_curves.ensures.few in
    IfOk-weaker c.walk.result (λ path. length path.items ≤ 1 + sum_by length c.as_slice-chains.result.now) (λ path. length path.items ≤ vertex_count c.args.sources.now.family.now)
    (λ path few. omega (arith, few, most)) c.walk.ensures.few

pub put_curves-requires-clause-sources : goal.put_curves-requires-clause-sources
put_curves-requires-clause-sources g c = c.requires.sources

pub put_curves-requires-clause-depot : goal.put_curves-requires-clause-depot
put_curves-requires-clause-depot g c = subst (IsAt c.args.sources.now.family.now 0) (sym c.as_slice-depot.ensures) c.requires.first.at

pub put_curves-requires-clause-tables : goal.put_curves-requires-clause-tables
put_curves-requires-clause-tables g c =
    subst (λ (v : List ℕ). AreTables c.args.sources.now.family.now (drop 1 v) c.args.tables.now) (sym c.as_slice-depot.ensures) c.requires.tables

pub put_curves-requires-clause-work : goal.put_curves-requires-clause-work
put_curves-requires-clause-work g c = c.requires.work

pub put_curves-requires-clause-room : goal.put_curves-requires-clause-room
put_curves-requires-clause-room g c = omega (arith, c.requires.room)

pub walk-requires-clause-range : goal.walk-requires-clause-range
walk-requires-clause-range g c = c.requires.first.range

pub walk-requires-clause-ranges : goal.walk-requires-clause-ranges
walk-requires-clause-ranges g c = c.requires.ranges

pub walk-requires-clause-few_below : goal.walk-requires-clause-few_below
walk-requires-clause-few_below g c = omega (arith, c.requires.room)

pub returns-clause-some : goal.returns-clause-some
returns-clause-some g c = c.walk.ensures.some
