use Rattle.std.proofs.Common.{◌≡◌, ℕ, suc, ◌+◌, ◌-◌, ◌*◌, ◌≤◌, List, ◌∷◌, ◌++◌, drop, length, set, flat_map, sym, ap, ◌∙◌, subst, refl, arith}
use Rattle.std.specs.List.{range_with_len}
use Rattle.list_laws.proofs.Public.{room_for, set_first}
use Rattle.hull.specs.declared.point.Point.{Point}
use Rattle.family_points.specs.Separation.{depot_points}
use Rattle.family_points.specs.Inputs.{IsAt, line_high, line_low, line_stocks, vertex_count}
use Rattle.family_rows.specs.Tabled.{AreTables}
use Rattle.family_points.proofs.Public.{flat_stock_behind, joined_at, stocks_count}
use Rattle.family_bases.specs.Joining.{vertices_of}
use Rattle.family_parts.specs.Growing.{Grows, in_turn, turn_points}
use Rattle.family_parts.proofs.Grown.{grows_by_nothing, grows_members, grows_on}
use Rattle.depot_lows.specs.Rough.{AreRough}
use Rattle.family_parts.proofs.InTurn.{moved_back, moved_there, turned_back, turned_there}
use Rattle.family_parts.proofs.joining.grow_with_lines.Goals as goal

pub loop-n-init : goal.loop-n-init
loop-n-init g c = record {
  few = omega arith;
  part = grows_by_nothing c.args.low c.args.high (vertices_of c.args.part.now) c.args.beyond.now;
  work = c.requires.work;
  widths = c.requires.widths;
  some = c.requires.some;
  shops = refl;
}

pub grow_with-requires-clause-depot : goal.grow_with-requires-clause-depot
grow_with-requires-clause-depot g c =
    let x = c.args.sources.now.family.now in
    let valid = c.invariant.ensures.valid in
    let some = valid.valid.frame.fewest_sites in
    let s : ℕ = c.line_stock.result in
    let made : set c.loop-n.stocks 0 s ≡ s ∷ drop 1 c.args.stocks.now =
    set_first c.loop-n.stocks s c.loop-n.invariant.some ∙ ap (λ (l : List ℕ). s ∷ l) c.loop-n.invariant.shops in
    subst (IsAt x 0) (sym made)
    (joined_at x valid 0 s (drop 1 c.args.stocks.now) (omega (arith, some)) c.requires.shops c.line_stock.ensures.least c.line_stock.ensures.most)

pub grow_with-requires-clause-tables : goal.grow_with-requires-clause-tables
grow_with-requires-clause-tables g c =
    let s : ℕ = c.line_stock.result in
    let made : drop 1 (set c.loop-n.stocks 0 s) ≡ drop 1 c.args.stocks.now =
    ap (drop 1) (set_first c.loop-n.stocks s c.loop-n.invariant.some) ∙ c.loop-n.invariant.shops in
    subst (λ (l : List ℕ). AreTables c.args.sources.now.family.now l c.args.tables.now) (sym made) c.requires.tables

pub grow_with-requires-clause-rough : goal.grow_with-requires-clause-rough
grow_with-requires-clause-rough g c =
    let s : ℕ = c.line_stock.result in
    let made : drop 1 (set c.loop-n.stocks 0 s) ≡ drop 1 c.args.stocks.now =
    ap (drop 1) (set_first c.loop-n.stocks s c.loop-n.invariant.some) ∙ c.loop-n.invariant.shops in
    subst (λ (l : List ℕ). AreRough g.S.Score.ends c.args.sources.now.family.now l c.args.low c.args.high c.args.rough.now) (sym made) c.requires.rough

pub grow_with-requires-clause-room : goal.grow_with-requires-clause-room
grow_with-requires-clause-room g c =
    let x = c.args.sources.now.family.now in
    room_for c.loop-n.n (length (line_stocks x 0)) (vertex_count x) (length (vertices_of c.loop-n.part)) (length (vertices_of c.args.part.now)) 65000000 c.loop-n.invariant.few
    (omega (arith, stocks_count x c.invariant.ensures.valid 0, c.loop-n-test.true, c.line_low.ensures, c.line_high.ensures.high, c.line_high.ensures.order)) c.requires.room

pub loop-n-preserved : goal.loop-n-preserved
loop-n-preserved g c =
    let x = c.args.sources.now.family.now in
    let low = c.args.low in
    let high = c.args.high in
    let n = c.loop-n.n in
    let at : List ℕ → List Point = depot_points g.S.Score.ends x in
    let turn : ℕ → List Point = turn_points g.S.Score.ends x (drop 1 c.args.stocks.now) c.args.begin in
    let old : List Point = vertices_of c.loop-n.part in
    let made_part : List Point = vertices_of c.grow_with.new.part in
    let so : List Point = vertices_of c.args.part.now in
    let s : ℕ = c.line_stock.result in
    let first : set c.loop-n.stocks 0 s ≡ s ∷ drop 1 c.loop-n.stocks = set_first c.loop-n.stocks s c.loop-n.invariant.some in
    let made : set c.loop-n.stocks 0 s ≡ (line_low x 0 + in_turn c.args.begin (line_high x 0 - line_low x 0) n) ∷ drop 1 c.args.stocks.now =
    first ∙ ap (λ (l : List ℕ). s ∷ l) c.loop-n.invariant.shops ∙ ap (λ k. k ∷ drop 1 c.args.stocks.now) c.line_stock.ensures.is in
    let before : ℕ = c.loop-n.beyond in
    let after : ℕ = c.grow_with.new.beyond in
    let here : Grows low high (turn n) old before made_part after =
    subst (λ (ps : List Point). Grows low high ps old before made_part after) (ap at made) c.in_ok-grow_with.ensures.part in
    let whole : flat_map turn (range_with_len 0 (n + 1)) ≡ flat_map turn (range_with_len 0 n) ++ turn n = flat_stock_behind turn 0 n n (omega arith) in
    record {
      few = omega (arith, c.in_ok-grow_with.ensures.few, c.loop-n.invariant.few);
      part = subst (λ (ps : List Point). Grows low high ps so c.args.beyond.now made_part after) (sym whole)
          (grows_on low high (flat_map turn (range_with_len 0 n)) (turn n) so old made_part c.args.beyond.now before after c.loop-n.invariant.part here);
      work = c.in_ok-grow_with.ensures.work;
      widths = c.in_ok-grow_with.ensures.widths;
      some = omega (arith, ap length first);
      shops = ap (drop 1) first ∙ c.loop-n.invariant.shops;
    }

pub returns-clause-part : goal.returns-clause-part
returns-clause-part g c =
    let x = c.args.sources.now.family.now in
    let low = c.args.low in
    let high = c.args.high in
    let n = c.loop-n.n in
    let a : ℕ = line_low x 0 in
    let last : ℕ = line_high x 0 - line_low x 0 in
    let turn : ℕ → List Point = turn_points g.S.Score.ends x (drop 1 c.args.stocks.now) c.args.begin in
    let own : ℕ → List Point = λ s. depot_points g.S.Score.ends x (s ∷ (drop 1 c.args.stocks.now)) in
    let order = c.line_high.ensures.order in
    let end : n ≤ c.line_high.result - c.line_low.result + 1 = c.loop-n.auto.n-end in
    let all : n ≡ suc last = omega (arith, c.loop-n-test.false, end, c.line_low.ensures, c.line_high.ensures.high) in
    let count : n ≡ suc (line_high x 0) - line_low x 0 = omega (arith, all, c.line_high.ensures.high, order) in
    subst (λ k. Grows low high (flat_map own (range_with_len a k)) (vertices_of c.args.part.now) c.args.beyond.now (vertices_of c.loop-n.part) c.loop-n.beyond) count
    (grows_members low high (flat_map turn (range_with_len 0 n)) (flat_map own (range_with_len a n)) (vertices_of c.args.part.now) (vertices_of c.loop-n.part) c.args.beyond.now c.loop-n.beyond
    (λ v m. moved_there own a n v (turned_there (λ i. own (a + i)) c.args.begin last n all v m)) (λ v m. turned_back (λ i. own (a + i)) c.args.begin last n all v (moved_back own a n v m))
    c.loop-n.invariant.part)

pub returns-clause-few : goal.returns-clause-few
returns-clause-few g c =
    let x = c.args.sources.now.family.now in
    let end : c.loop-n.n ≤ c.line_high.result - c.line_low.result + 1 = c.loop-n.auto.n-end in
    let last : c.loop-n.n ≡ length (line_stocks x 0) =
    omega (arith, c.loop-n-test.false, end, c.line_low.ensures, c.line_high.ensures.high, c.line_high.ensures.order, stocks_count x c.invariant.ensures.valid 0) in
    subst (λ n. length (vertices_of c.loop-n.part) ≤ length (vertices_of c.args.part.now) + n * vertex_count x) last c.loop-n.invariant.few

pub line_high-requires : goal.line_high-requires
line_high-requires g c = let some = c.invariant.ensures.valid.valid.frame.fewest_sites in omega (arith, some)

pub line_low-requires : goal.line_low-requires
line_low-requires g c = let some = c.invariant.ensures.valid.valid.frame.fewest_sites in omega (arith, some)

pub overflow_sub-last : goal.overflow_sub-last
overflow_sub-last g c = omega (arith, c.line_low.ensures, c.line_high.ensures.order)

pub overflow_add-n-end : goal.overflow_add-n-end
overflow_add-n-end g c = omega (arith, c.line_high.ensures.most)

pub line_stock-requires-clause-order : goal.line_stock-requires-clause-order
line_stock-requires-clause-order g c = c.requires.begin

pub line_stock-requires-clause-within : goal.line_stock-requires-clause-within
line_stock-requires-clause-within g c = omega (arith, c.loop-n-test.true, c.line_low.ensures, c.line_high.ensures.high)

pub bounds-stocks-0 : goal.bounds-stocks-0
bounds-stocks-0 g c = c.loop-n.invariant.some

pub grow_with-requires-clause-sources : goal.grow_with-requires-clause-sources
grow_with-requires-clause-sources g c = c.requires.sources

pub grow_with-requires-clause-widths : goal.grow_with-requires-clause-widths
grow_with-requires-clause-widths g c = c.loop-n.invariant.widths

pub grow_with-requires-clause-work : goal.grow_with-requires-clause-work
grow_with-requires-clause-work g c = c.loop-n.invariant.work

pub grow_with-requires-clause-window : goal.grow_with-requires-clause-window
grow_with-requires-clause-window g c = c.requires.window

pub returns-clause-widths : goal.returns-clause-widths
returns-clause-widths g c = c.loop-n.invariant.widths

pub returns-clause-work : goal.returns-clause-work
returns-clause-work g c = c.loop-n.invariant.work

pub grow_with-requires-clause-low : goal.grow_with-requires-clause-low
grow_with-requires-clause-low g c = c.requires.low

pub grow_with-requires-clause-high : goal.grow_with-requires-clause-high
grow_with-requires-clause-high g c = c.requires.high
