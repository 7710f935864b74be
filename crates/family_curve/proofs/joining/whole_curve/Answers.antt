use Rattle.std.proofs.Common.{◌≡◌, refl, ℕ, suc, ◌+◌, ◌-◌, ◌*◌, ◌<◌, ◌≤◌, ◌∷◌, ◌++◌, List, [], append_assoc, drop, get_or, length, flat_map, mul-le-mul_right, take, sym, ap, ◌∙◌, subst, arith}
use Rattle.std.proofs.Math.Seq.{drop-cons}
use Rattle.std.proofs.lemmas.Grind.{flat_map-append}
use Rattle.std.proofs.lemmas.List.{take-append-drop, take_rest}
use Rattle.list_laws.proofs.Public.{one_of}
use Rattle.hull.specs.declared.point.Point.{Point}
use Rattle.hull.specs.Curves.{IsCurve}
use Rattle.family_points.specs.Separation.{shop_points}
use Rattle.family_points.specs.Inputs.{line_stocks, shop_vectors, vertex_count}
use Rattle.family_curve.proofs.Grown.{curve_swapped}
use Rattle.family_points.proofs.Public.{all_depots, whole_room}
use Rattle.family_curve.proofs.joining.whole_curve.Goals as goal

pub shop_count-count-requires : goal.shop_count-count-requires
shop_count-count-requires g c = let some = c.invariant.ensures.valid.valid.frame.fewest_sites in omega (arith, some)

pub with_shops-requires-clause-room : goal.with_shops-requires-clause-room
with_shops-requires-clause-room g c =
    let x = c.args.sources.now.family.now in
    let one = one_of (length (shop_vectors x 0)) (length (line_stocks x 0) * vertex_count x) 65000000 (omega (arith, c.shop_count-count.ensures.some, c.shop_count-count.ensures.count))
    (whole_room x c.invariant.ensures.valid (vertex_count x) 65000000 c.requires.room) in
    omega (arith, one)

pub with_numbers-requires-clause-room : goal.with_numbers-requires-clause-room
with_numbers-requires-clause-room g c =
    let x = c.args.sources.now.family.now in
    let each : ℕ = length (line_stocks x 0) * vertex_count x in
    let k = c.min-likely.result in
    let room = whole_room x c.invariant.ensures.valid (vertex_count x) 65000000 c.requires.room in
    let a : (k + 1) * each ≤ length (shop_vectors x 0) * each =
    mul-le-mul_right each (let b : k + 1 ≤ length (shop_vectors x 0) = omega (arith, c.min-likely.ensures, c.shop_count-count.ensures.some, c.shop_count-count.ensures.count) in b) in
    let z : (k - 0) * each ≡ k * each = ap (λ i. i * each) (let y : k - 0 ≡ k = omega arith in y) in
    omega (arith, room, a, z, c.in_ok-first.ensures.few)

pub with_numbers-requires-2-clause-room : goal.with_numbers-requires-2-clause-room
with_numbers-requires-2-clause-room g c =
    let x = c.args.sources.now.family.now in
    let each : ℕ = length (line_stocks x 0) * vertex_count x in
    let k = c.min-likely.result in
    let count = c.shop_count-count.result in
    let room = whole_room x c.invariant.ensures.valid (vertex_count x) 65000000 c.requires.room in
    let all : (count - (k + 1) + k + 1) * each ≡ length (shop_vectors x 0) * each =
    ap (λ i. i * each)
    (let b : count - (k + 1) + k + 1 ≡ length (shop_vectors x 0) = omega (arith, c.min-likely.ensures, c.shop_count-count.ensures.some, c.shop_count-count.ensures.count) in b) in
    let z : (k - 0) * each ≡ k * each = ap (λ i. i * each) (let y : k - 0 ≡ k = omega arith in y) in
    omega (arith, room, all, z, c.in_ok-first.ensures.few, c.in_ok-lower.ensures.few)

pub returns : goal.returns
returns g c =
    let x = c.args.sources.now.family.now in
    let all : List (List ℕ) = shop_vectors x 0 in
    let own : List ℕ → List Point = shop_points g.S.Score.ends x in
    let made : List Point = c.in_ok-curve.curve in
    let k : ℕ = c.min-likely.result in
    let count : ℕ = c.shop_count-count.result in
    let some : k < length all = omega (arith, c.min-likely.ensures, c.shop_count-count.ensures.some, c.shop_count-count.ensures.count) in
    let chosen : List ℕ = get_or all k [] in
    let before : List Point = flat_map own (take k all) in
    let behind : List Point = flat_map own (drop (k + 1) all) in
    let lower : IsCurve (own chosen ++ flat_map own (take (k - 0) (drop 0 all))) c.in_ok-lower.lower = c.in_ok-lower.ensures.curve (own chosen) c.in_ok-first.ensures.curve in
    let upper : IsCurve ((own chosen ++ flat_map own (take (k - 0) (drop 0 all))) ++ flat_map own (take (count - (k + 1)) (drop (k + 1) all))) made =
    c.in_ok-curve.ensures.curve (own chosen ++ flat_map own (take (k - 0) (drop 0 all))) lower in
    let first : take (k - 0) (drop 0 all) ≡ take k all = ap (λ i. take i all) (let y : k - 0 ≡ k = omega arith in y) in
    let last : take (count - (k + 1)) (drop (k + 1) all) ≡ drop (k + 1) all =
    ap (λ i. take (i - (k + 1)) (drop (k + 1) all)) c.shop_count-count.ensures.count ∙ take_rest all (k + 1) in
    let found : IsCurve ((own chosen ++ before) ++ behind) made =
    subst (λ (vs : List (List ℕ)). IsCurve ((own chosen ++ before) ++ flat_map own vs) made) last
    (subst (λ (vs : List (List ℕ)). IsCurve ((own chosen ++ flat_map own vs) ++ flat_map own (take (count - (k + 1)) (drop (k + 1) all))) made) first upper) in
    let next : drop k all ≡ chosen ∷ drop (k + 1) all = drop-cons all k [] some ∙ ap (λ i. chosen ∷ drop i all) (let y : suc k ≡ k + 1 = omega arith in y) in
    let whole : (before ++ own chosen) ++ behind ≡ flat_map own all =
    append_assoc before (own chosen) behind ∙ ap (λ (vs : List (List ℕ)). before ++ flat_map own vs) (sym next)
    ∙ sym (flat_map-append own (take k all) (drop k all)) ∙ ap (flat_map own) (take-append-drop k all) in
    all_depots x c.invariant.ensures.valid g.S.Score.ends g.met.S.Score.leaves_room 0 made refl
    (subst (λ (ps : List Point). IsCurve ps made) whole (curve_swapped (own chosen) before behind made found))
