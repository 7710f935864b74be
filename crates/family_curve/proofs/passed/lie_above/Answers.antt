use Rattle.std.proofs.Common.{◌≡◌, IsTrue, ℕ, List, [], ◌∷◌, ◌++◌, length, ap, ◌∙◌, subst, arith}
use Rattle.std.proofs.lemmas.List.{append-nil}
use Rattle.hull.specs.declared.point.Point.{Point}
use Rattle.hull.specs.Curves.{StandFor}
use Rattle.family_points.specs.Separation.{depot_point, depot_points}
use Rattle.sum_walk.specs.Sums.{sums_of_each}
use Rattle.family_points.proofs.Public.{bases_long}
use Rattle.family_curve.specs.Under.{LieBelow}
use Rattle.family_curve.proofs.Grown.{none_of}
use Rattle.family_curve.proofs.Under.{passed_by}
use Rattle.family_curve.proofs.passed.lie_above.Goals as goal

pub walk-requires-clause-some : goal.walk-requires-clause-some
walk-requires-clause-some g c =
    omega (
      arith,
      ap length c.as_slice-chains.ensures.value,
      c.in_ok-strict.ensures.chains,
      bases_long c.args.sources.now.family.now c.args.sources.now.bases.items c.requires.sources.bases,
      c.invariant.ensures.valid.valid.frame.fewest_sites,
    )

pub walk-requires-clause-few : goal.walk-requires-clause-few
walk-requires-clause-few g c =
    omega (
      arith,
      ap length c.as_slice-chains.ensures.value,
      c.in_ok-strict.ensures.chains,
      bases_long c.args.sources.now.family.now c.args.sources.now.bases.items c.requires.sources.bases,
      c.invariant.ensures.valid.valid.frame.most_sites,
    )

pub returns-clause-passed : goal.returns-clause-passed
returns-clause-passed g c =
    let x = c.args.sources.now.family.now in
    let below : List Point = c.args.below.now in
    let stocks = c.args.first.now.stocks in
    let points : List Point = depot_points g.S.Score.ends x stocks in
    let chains : List (List Point) = c.put_low_curves.new.lows.chains.items in
    let depot : List Point = depot_point x stocks ∷ [] in
    let lows : List Point = sums_of_each depot chains in
    let handed : List Point = c.in_ok-handed.handed.items in
    let first : c.args.first.now ∷ [] ≡ depot = ap (λ (p : Point). p ∷ []) c.requires.first.is in
    let all : sums_of_each (c.args.first.now ∷ []) c.as_slice-chains.result.now ≡ lows =
    ap (λ (ps : List Point). sums_of_each ps c.as_slice-chains.result.now) first ∙ ap (sums_of_each depot) c.as_slice-chains.ensures.value in
    let known : IsTrue c.in_ok-strict.strict = c.if-not-strict.false in
    let lower : LieBelow lows points =
    subst (λ (d : List ℕ). LieBelow (sums_of_each (depot_point x d ∷ []) chains) (depot_points g.S.Score.ends x d)) c.as_slice-depot.ensures (c.in_ok-strict.ensures.below known) in
    λ is. (
    let none : handed ≡ [] = none_of handed c.in_ok-handed.handed.len c.is_empty.result c.in_ok-handed.handed.ok.0 c.is_empty.ensures is in
    let walked : StandFor (below ++ lows) below =
    subst (StandFor (below ++ lows)) (append-nil below)
    (subst (λ (l : List Point). StandFor (below ++ lows) (below ++ l)) none
    (subst (λ (l : List Point). StandFor (below ++ l) (below ++ handed)) all c.in_ok-handed.ensures.stands)) in
    passed_by below lows points walked lower)
