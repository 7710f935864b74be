use Rattle.std.proofs.Common.{◌≡◌, ℕ, ◌+◌, ◌-◌, ◌*◌, ◌<◌, List, [], ◌++◌, drop, flat_map, get_or, length, take, sym, ap, ◌∙◌, subst, arith}
use Rattle.std.proofs.lemmas.List.{append-nil, flat_map_more, get_or-drop, length-drop, take_more}
use Rattle.list_laws.proofs.Public.{room_for}
use Rattle.hull.specs.declared.point.Point.{Point}
use Rattle.hull.specs.Curves.{IsCurve}
use Rattle.family_points.specs.Inputs.{line_stocks, shop_vectors, vertex_count}
use Rattle.family_points.specs.Separation.{shop_points}
use Rattle.family_curve.specs.Numbered.{numbered_points}
use Rattle.family_curve.proofs.Grown.{curve_grows}
use Rattle.family_curve.proofs.joining.with_numbers.Goals as goal

pub with_shops-requires-clause-number : goal.with_shops-requires-clause-number
with_shops-requires-clause-number g c = omega (arith, c.loop-n-test.true, c.requires.within)

pub with_shops-requires-clause-room : goal.with_shops-requires-clause-room
with_shops-requires-clause-room g c =
    let x = c.args.sources.now.family.now in
    room_for (c.loop-n.n - c.args.from) (c.args.to - c.args.from) (length (line_stocks x 0) * vertex_count x) (length c.loop-n.curve) (length c.args.so_far) 65000000
    c.loop-n.invariant.few (omega (arith, c.loop-n-test.true, c.loop-n.invariant.begun)) c.requires.room

pub loop-n-init : goal.loop-n-init
loop-n-init g c =
    let x = c.args.sources.now.family.now in
    let none : 0 ≡ c.args.from - c.args.from = omega arith in
    record {
      begun = omega arith;
      few = omega arith;
      curve = λ ps h. subst (λ k. IsCurve (ps ++ numbered_points g.S.Score.ends x c.args.from k) c.args.so_far) none
          (subst (λ (qs : List Point). IsCurve qs c.args.so_far) (sym (append-nil ps)) h);
      work = c.requires.work;
      widths = c.requires.widths;
    }

pub loop-n-preserved : goal.loop-n-preserved
loop-n-preserved g c =
    let x = c.args.sources.now.family.now in
    let n = c.loop-n.n in
    let from = c.args.from in
    let all : List (List ℕ) = shop_vectors x 0 in
    let rest : List (List ℕ) = drop from all in
    let own : List ℕ → List Point = shop_points g.S.Score.ends x in
    let k : ℕ = n - from in
    let made : List Point = c.in_ok-curve.curve in
    let within : k < length rest = omega (arith, length-drop from all, c.loop-n-test.true, c.loop-n.invariant.begun, c.requires.within) in
    let place : from + k ≡ n = omega (arith, c.loop-n.invariant.begun) in
    let stocks : get_or all n [] ≡ get_or rest k [] = sym (get_or-drop from all k [] ∙ ap (λ i. get_or all i []) place) in
    let next : k + 1 ≡ n + 1 - from = omega (arith, c.loop-n.invariant.begun) in
    let came : IsCurve (c.loop-n.curve ++ own (get_or rest k [])) made =
    subst (λ (d : List ℕ). IsCurve (c.loop-n.curve ++ own d) made) stocks c.in_ok-curve.ensures.curve in
    record {
      begun = omega (arith, c.loop-n.invariant.begun);
      few = (let a : (k + 1) * (length (line_stocks x 0) * vertex_count x) ≡ (n + 1 - from) * (length (line_stocks x 0) * vertex_count x) =
          ap (λ i. i * (length (line_stocks x 0) * vertex_count x)) next in
          omega (arith, a, c.in_ok-curve.ensures.few, c.loop-n.invariant.few));
      curve = λ ps h.
          let so : List Point = ps ++ flat_map own (take k rest) in
          let grown : IsCurve (so ++ own (get_or rest k [])) made = curve_grows so (own (get_or rest k [])) c.loop-n.curve made (c.loop-n.invariant.curve ps h) came in
          let more : so ++ own (get_or rest k []) ≡ ps ++ flat_map own (take (k + 1) rest) =
          flat_map_more own ps (take k rest) (get_or rest k []) ∙ ap (λ (vs : List (List ℕ)). ps ++ flat_map own vs) (sym (take_more rest k [] within)) in
          subst (λ i. IsCurve (ps ++ numbered_points g.S.Score.ends x from i) made) next (subst (λ (qs : List Point). IsCurve qs made) more grown);
      work = c.in_ok-curve.ensures.work;
      widths = c.in_ok-curve.ensures.widths;
    }

pub returns-clause-curve : goal.returns-clause-curve
returns-clause-curve g c ps h =
    let x = c.args.sources.now.family.now in
    let last : c.loop-n.n - c.args.from ≡ c.args.to - c.args.from = omega (arith, c.loop-n-test.false, c.loop-n.auto.n-end) in
    subst (λ i. IsCurve (ps ++ numbered_points g.S.Score.ends x c.args.from i) c.loop-n.curve) last (c.loop-n.invariant.curve ps h)

pub returns-clause-few : goal.returns-clause-few
returns-clause-few g c =
    let x = c.args.sources.now.family.now in
    let last : c.loop-n.n - c.args.from ≡ c.args.to - c.args.from = omega (arith, c.loop-n-test.false, c.loop-n.auto.n-end) in
    let a = ap (λ i. i * (length (line_stocks x 0) * vertex_count x)) last in
    omega (arith, a, c.loop-n.invariant.few)
