use Rattle.std.proofs.Common.{Option, None, Some, IsSome, refl, ◌≡◌, ℕ, suc, ◌+◌, ◌-◌, ◌/◌, ◌*◌, ◌^◌, ◌<◌, ◌≤◌, List, [], ◌++◌, get_or, length, flat_map, sym, ap, ◌∙◌, subst, arith, mul-le-mul_left}
use Rattle.std.specs.List.{range_with_len}
use Rattle.std.proofs.lemmas.Nat.{mul-le}
use Rattle.list_laws.proofs.Public.{room_for}
use Rattle.hull.specs.declared.point.Point.{Point}
use Rattle.hull.specs.declared.price.Price.{Price}
use Rattle.curve_parts.specs.Cuts.{IsWindow}
use Rattle.curve_parts.specs.Parts.{IsPartOf}
use Rattle.curve_parts.specs.Beyond.{IsKnownPart}
use Rattle.curve_parts.proofs.Public.{part_some}
use Rattle.family_bases.specs.Joining.{vertices_of}
use Rattle.family_points.specs.Points.{ScoreEnds}
use Rattle.family_points.proofs.Public.{box_some, box_begins, flat_stock_behind, stocks_count, whole_room}
use Rattle.family_points.specs.Inputs.{FamilyBox, IsFamilyBox, box_points, line_stocks, shop_vectors, vector_count, vertex_count}
use Rattle.family_points.specs.Separation.{shop_points}
use Rattle.family_parts.specs.Growing.{Grows, in_turn}
use Rattle.family_parts.proofs.Grown.{grows_by_nothing, grows_members, grows_on}
use Rattle.family_parts.proofs.InTurn.{placed_back, placed_there, turned_back, turned_there}
use Rattle.family_parts.proofs.Whole.{part_of_box}
use Rattle.family_parts.proofs.joining.whole_part.Goals as goal

-- one of several numbers whose product is bounded is bounded
factor_most : (s l v m : ℕ) → 0 < l → 0 < v → s * (l * v) ≤ m → s ≤ m
factor_most s l v m h k b =
    let one : 1 * 1 ≤ l * v = mul-le 1 1 l v h k in
    let more : s * 1 ≤ s * (l * v) = mul-le-mul_left s (let i : 1 ≤ l * v = omega (arith, one) in i) in
    omega (arith, more, b)

-- the choices of the shop units' stocks at the depot are few
few_shops : (x : FamilyBox) (valid : IsFamilyBox x) → vector_count x 0 * vertex_count x ≤ 65000000 → length (shop_vectors x 0) ≤ 65000000
few_shops x valid room =
    let some = valid.valid.frame.fewest_sites in
    let order = (box_begins x valid 0 (omega (arith, some))).0 in
    let lines = stocks_count x valid 0 in
    factor_most (length (shop_vectors x 0)) (length (line_stocks x 0)) (vertex_count x) 65000000 (omega (arith, order, lines)) (omega arith) (whole_room x valid (vertex_count x) 65000000 room)

pub in_turn-number-requires-clause-small : goal.in_turn-number-requires-clause-small
in_turn-number-requires-clause-small g c = omega (arith, few_shops c.args.sources.now.family.now c.invariant.ensures.valid c.requires.room, c.shop_count-count.ensures.count)

pub loop-n-init : goal.loop-n-init
loop-n-init g c = record {
  few = omega arith;
  part = grows_by_nothing c.args.low c.args.high [] (2 ^ 128 - 1);
  work = c.requires.work;
  widths = λ v m. absurd m;
}

pub grow_with_shops-requires-clause-room : goal.grow_with_shops-requires-clause-room
grow_with_shops-requires-clause-room g c =
    let x = c.args.sources.now.family.now in
    let room = whole_room x c.invariant.ensures.valid (vertex_count x) 65000000 c.requires.room in
    room_for c.loop-n.n (length (shop_vectors x 0)) (length (line_stocks x 0) * vertex_count x) (length (vertices_of c.loop-n.part)) 0 65000000 (omega (arith, c.loop-n.invariant.few))
    (omega (arith, c.loop-n-test.true, c.shop_count-count.ensures.count)) (omega (arith, room))

pub loop-n-preserved : goal.loop-n-preserved
loop-n-preserved g c =
    let x = c.args.sources.now.family.now in
    let low = c.args.low in
    let high = c.args.high in
    let n = c.loop-n.n in
    let all : List (List ℕ) = shop_vectors x 0 in
    let middle : ℕ = (c.shop_count-count.result - 1) / 2 in
    let own : List ℕ → List Point = shop_points g.S.Score.ends x in
    let turn : ℕ → List Point = λ k. own (get_or all (in_turn middle (length all - 1) k) []) in
    let made : List Point = vertices_of c.grow_with_shops.new.part in
    let shops : get_or all c.in_turn-number.result [] ≡ get_or all (in_turn middle (length all - 1) n) [] =
    ap (λ k. get_or all k []) c.in_turn-number.ensures.is ∙ ap (λ k. get_or all (in_turn middle (k - 1) n) []) c.shop_count-count.ensures.count in
    let before : ℕ = c.loop-n.beyond in
    let after : ℕ = c.grow_with_shops.new.beyond in
    let here : Grows low high (turn n) (vertices_of c.loop-n.part) before made after =
    subst (λ (ps : List Point). Grows low high ps (vertices_of c.loop-n.part) before made after) (ap own shops) c.in_ok-grow_with_shops.ensures.part in
    let whole : flat_map turn (range_with_len 0 (n + 1)) ≡ flat_map turn (range_with_len 0 n) ++ turn n = flat_stock_behind turn 0 n n (omega arith) in
    record {
      few = omega (arith, c.in_ok-grow_with_shops.ensures.few, c.loop-n.invariant.few);
      part = subst (λ (ps : List Point). Grows low high ps [] (2 ^ 128 - 1) made after) (sym whole)
          (grows_on low high (flat_map turn (range_with_len 0 n)) (turn n) [] (vertices_of c.loop-n.part) made (2 ^ 128 - 1) before after c.loop-n.invariant.part here);
      work = c.in_ok-grow_with_shops.ensures.work;
      widths = c.in_ok-grow_with_shops.ensures.widths;
    }

-- no points have no part
no_part : (low high : Price) (beyond : ℕ) → IsKnownPart low high [] [] beyond
no_part low high beyond = record {
  is = record { rises = tt; among = λ v m. m; vertices = λ v m. absurd m; firsts = λ v w m n s. absurd m; complete = λ w m h. absurd m };
  behind = λ w m h. absurd m;
}

-- the part of the stocks of all turns is the part of the box
all_turns : (x : FamilyBox) → IsFamilyBox x → (ends : ScoreEnds) (low high : Price) (middle n : ℕ) → 0 < n → n ≡ length (shop_vectors x 0) → (part : List Point) (beyond : ℕ)
    → Grows low high (flat_map (λ k. shop_points ends x (get_or (shop_vectors x 0) (in_turn middle (length (shop_vectors x 0) - 1) k) [])) (range_with_len 0 n)) [] (2 ^ 128 - 1) part beyond
    → IsKnownPart low high (box_points ends x) part beyond
all_turns x valid ends low high middle n some whole part beyond grown =
    let all : List (List ℕ) = shop_vectors x 0 in
    let last : ℕ = length all - 1 in
    let own : List ℕ → List Point = shop_points ends x in
    let each : ℕ → List Point = λ i. own (get_or all i []) in
    let turns : n ≡ suc last = omega (arith, whole, some) in
    part_of_box x valid ends low high part beyond
    (grows_members low high (flat_map (λ k. each (in_turn middle last k)) (range_with_len 0 n)) (flat_map own all) [] part (2 ^ 128 - 1) beyond
    (λ v m. placed_there own all [] n whole v (turned_there each middle last n turns v m)) (λ v m. turned_back each middle last n turns v (placed_back own all [] n whole v m))
    grown [] (no_part low high (2 ^ 128 - 1)))

-- a list of vertices that has one is of a part
some_part : (part : Option (List Point)) → 0 < length (vertices_of part) → IsSome part
some_part None h = absurd (omega (arith, h))
some_part (Some part) h = refl

-- the part of the box has a vertex
box_part_some : (x : FamilyBox) → IsFamilyBox x → (ends : ScoreEnds) (low high : Price) → IsWindow low high → (part : List Point)
    → IsPartOf low high (box_points ends x) part → 0 < length part
box_part_some x valid ends low high window part is = part_some low high (box_points ends x) part
    (box_some x.case x.line ends x.held x.low x.high valid.ordered.low_least) window is

pub unwrap-requires : goal.unwrap-requires
unwrap-requires g c =
    let x = c.args.sources.now.family.now in
    let valid = c.invariant.ensures.valid in
    let whole : c.loop-n.n ≡ length (shop_vectors x 0) = omega (arith, c.loop-n-test.false, c.loop-n.auto.n-end, c.shop_count-count.ensures.count) in
    some_part c.loop-n.part (box_part_some x valid g.S.Score.ends c.args.low c.args.high c.requires.window (vertices_of c.loop-n.part)
    (all_turns x valid g.S.Score.ends c.args.low c.args.high ((c.shop_count-count.result - 1) / 2) c.loop-n.n (omega (arith, whole, c.shop_count-count.ensures.some, c.shop_count-count.ensures.count)) whole
    (vertices_of c.loop-n.part) c.loop-n.beyond c.loop-n.invariant.part).is)

pub returns : goal.returns
returns g c =
    let x = c.args.sources.now.family.now in
    let whole : c.loop-n.n ≡ length (shop_vectors x 0) = omega (arith, c.loop-n-test.false, c.loop-n.auto.n-end, c.shop_count-count.ensures.count) in
    subst (λ (o : Option (List Point)). IsKnownPart c.args.low c.args.high (box_points g.S.Score.ends x) (vertices_of o) c.loop-n.beyond) c.unwrap.ensures
    (all_turns x c.invariant.ensures.valid g.S.Score.ends c.args.low c.args.high ((c.shop_count-count.result - 1) / 2) c.loop-n.n
    (omega (arith, whole, c.shop_count-count.ensures.some, c.shop_count-count.ensures.count)) whole (vertices_of c.loop-n.part) c.loop-n.beyond c.loop-n.invariant.part)

pub grow_with_shops-requires-clause-sources : goal.grow_with_shops-requires-clause-sources
grow_with_shops-requires-clause-sources g c = c.requires.sources

pub grow_with_shops-requires-clause-low : goal.grow_with_shops-requires-clause-low
grow_with_shops-requires-clause-low g c = c.requires.low

pub grow_with_shops-requires-clause-high : goal.grow_with_shops-requires-clause-high
grow_with_shops-requires-clause-high g c = c.requires.high

pub grow_with_shops-requires-clause-window : goal.grow_with_shops-requires-clause-window
grow_with_shops-requires-clause-window g c = c.requires.window

pub grow_with_shops-requires-clause-work : goal.grow_with_shops-requires-clause-work
grow_with_shops-requires-clause-work g c = c.loop-n.invariant.work

pub grow_with_shops-requires-clause-widths : goal.grow_with_shops-requires-clause-widths
grow_with_shops-requires-clause-widths g c = c.loop-n.invariant.widths

pub shop_count-count-requires : goal.shop_count-count-requires
shop_count-count-requires g c = let some = c.invariant.ensures.valid.valid.frame.fewest_sites in omega (arith, some)

pub in_turn-number-requires-clause-order : goal.in_turn-number-requires-clause-order
in_turn-number-requires-clause-order g c = omega arith

pub in_turn-number-requires-clause-within : goal.in_turn-number-requires-clause-within
in_turn-number-requires-clause-within g c = omega (arith, c.loop-n-test.true)

pub grow_with_shops-requires-clause-number : goal.grow_with_shops-requires-clause-number
grow_with_shops-requires-clause-number g c = omega (arith, c.in_turn-number.ensures.within, c.shop_count-count.ensures.some, c.shop_count-count.ensures.count)
