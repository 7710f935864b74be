use Rattle.std.proofs.Common.{◌≡◌, ℕ, suc, ◌+◌, ◌-◌, ◌*◌, ◌<◌, ◌≤◌, List, ◌∷◌, ◌++◌, drop, length, flat_map, sym, ap, ◌∙◌, subst, arith}
use Rattle.std.specs.List.{range_with_len}
use Rattle.std.proofs.lemmas.List.{append-nil}
use Rattle.list_laws.proofs.Public.{room_for}
use Rattle.hull.specs.declared.point.Point.{Point}
use Rattle.hull.specs.Curves.{IsCurve}
use Rattle.family_points.specs.Separation.{depot_points}
use Rattle.family_rows.specs.Tabled.{AreTables}
use Rattle.family_points.specs.Inputs.{AreShopsAt, line_high, line_low, line_stocks, vertex_count}
use Rattle.family_bases.specs.Joining.{run_start, vertices_of}
use Rattle.family_curve.proofs.Grown.{room_for_one, run_grows}
use Rattle.family_points.proofs.Public.{stocks_count}
use Rattle.family_curve.proofs.joining.with_lines.Goals as goal

pub first_point-requires-clause-least : goal.first_point-requires-clause-least
first_point-requires-clause-least g c = omega (arith, c.likely_line-start.ensures.least, c.line_low-low.ensures)

pub first_point-requires-clause-most : goal.first_point-requires-clause-most
first_point-requires-clause-most g c = omega (arith, c.likely_line-start.ensures.most, c.line_high-high.ensures.high)

pub first_point-requires-clause-shops : goal.first_point-requires-clause-shops
first_point-requires-clause-shops g c = c.requires.shops

pub with_depot-requires-clause-room : goal.with_depot-requires-clause-room
with_depot-requires-clause-room g c =
    let x = c.args.sources.now.family.now in
    room_for_one (length (line_stocks x 0)) (vertex_count x) (length (vertices_of c.args.so_far)) 65000000
    (omega (arith, stocks_count x c.invariant.ensures.valid 0, c.line_high-high.ensures.high, c.line_high-high.ensures.order)) c.requires.room

pub loop-n-init : goal.loop-n-init
loop-n-init g c =
    let x = c.args.sources.now.family.now in
    let so : List Point = vertices_of c.args.so_far in
    let at : List ℕ → List Point = depot_points g.S.Score.ends x in
    let own : ℕ → List Point = λ s. at (s ∷ c.args.shops.now) in
    let start : ℕ = c.likely_line-start.result in
    let begins : start ≡ run_start start (line_high x 0) 1 =
    omega (arith, c.line_high-high.ensures.high, c.likely_line-start.ensures.most) in
    record {
      few = omega (arith, c.in_ok-curve.ensures.few);
      curve = subst (λ k. IsCurve (so ++ flat_map own (range_with_len k 1)) c.in_ok-curve.curve) begins
          (subst (λ (ps : List Point). IsCurve (so ++ ps) c.in_ok-curve.curve) (ap at c.in_ok-first.ensures.stocks ∙ sym (append-nil (own start))) c.in_ok-curve.ensures.curve);
      work = record { exact = c.in_ok-curve.ensures.work.exact; lows = ap length c.has_begun.ensures ∙ c.in_ok-curve.ensures.work.lows };
      widths = c.in_ok-curve.ensures.widths;
      point = c.in_ok-first.ensures.point;
      some = omega (arith, ap length c.in_ok-first.ensures.stocks);
      shops = ap (drop 1) c.in_ok-first.ensures.stocks;
    }

pub with_line-first-requires-clause-least : goal.with_line-first-requires-clause-least
with_line-first-requires-clause-least g c = omega (arith, c.line_low-low.ensures, c.behind.ensures.least)

pub with_line-first-requires-clause-most : goal.with_line-first-requires-clause-most
with_line-first-requires-clause-most g c = omega (arith, c.line_high-high.ensures.high, c.behind.ensures.most)

pub with_depot-requires-in-loop-n-clause-room : goal.with_depot-requires-in-loop-n-clause-room
with_depot-requires-in-loop-n-clause-room g c =
    let x = c.args.sources.now.family.now in
    room_for c.loop-n.n (length (line_stocks x 0)) (vertex_count x) (length c.loop-n.curve) (length (vertices_of c.args.so_far)) 65000000 c.loop-n.invariant.few
    (omega (arith, stocks_count x c.invariant.ensures.valid 0, c.loop-n-test.true, c.line_low-low.ensures, c.line_high-high.ensures.high, c.line_high-high.ensures.order)) c.requires.room

pub loop-n-preserved : goal.loop-n-preserved
loop-n-preserved g c =
    let x = c.args.sources.now.family.now in
    let d = c.args.shops.now in
    let n = c.loop-n.n in
    let so : List Point = vertices_of c.args.so_far in
    let at : List ℕ → List Point = depot_points g.S.Score.ends x in
    let own : ℕ → List Point = λ s. at (s ∷ d) in
    let s : ℕ = c.behind.result in
    let start : ℕ = c.likely_line-start.result in
    let least : line_low x 0 ≤ start = omega (arith, c.likely_line-start.ensures.least, c.line_low-low.ensures) in
    let most : start ≤ line_high x 0 = omega (arith, c.likely_line-start.ensures.most, c.line_high-high.ensures.high) in
    let within : n ≤ line_high x 0 - line_low x 0 = omega (arith, c.loop-n-test.true, c.line_low-low.ensures, c.line_high-high.ensures.high) in
    let up : start + n ≤ line_high x 0 → s ≡ start + n =
    subst (λ b. start + n ≤ b → s ≡ start + n) c.line_high-high.ensures.high c.behind.ensures.up in
    let down : line_high x 0 < start + n → s ≡ line_high x 0 - n =
    subst (λ b. b < start + n → s ≡ b - n) c.line_high-high.ensures.high c.behind.ensures.down in
    let made : List Point = c.in_ok-curve-2.curve in
    let stocks = c.with_line-first.ensures.stocks ∙ ap (λ (v : List ℕ). s ∷ v) c.loop-n.invariant.shops in
    let here : IsCurve (c.loop-n.curve ++ own s) made =
    subst (λ (ps : List Point). IsCurve (c.loop-n.curve ++ ps) made) (ap at stocks) c.in_ok-curve-2.ensures.curve in
    record {
      few = omega (arith, c.in_ok-curve-2.ensures.few, c.loop-n.invariant.few);
      curve = run_grows so own start (line_low x 0) (line_high x 0) n s c.loop-n.curve made least most within up down c.loop-n.invariant.curve here;
      work = c.in_ok-curve-2.ensures.work;
      widths = c.in_ok-curve-2.ensures.widths;
      point = c.with_line-first.ensures.point;
      some = omega (arith, ap length stocks);
      shops = ap (drop 1) stocks;
    }

pub returns-clause-curve : goal.returns-clause-curve
returns-clause-curve g c =
    let x = c.args.sources.now.family.now in
    let at : List ℕ → List Point = depot_points g.S.Score.ends x in
    let own : ℕ → List Point = λ s. at (s ∷ c.args.shops.now) in
    let end : c.loop-n.n ≤ c.line_high-high.result - c.line_low-low.result + 1 = c.loop-n.auto.n-end (omega arith) in
    let last : c.loop-n.n ≡ suc (line_high x 0) - line_low x 0 =
    omega (arith, c.loop-n-test.false, end, c.line_low-low.ensures, c.line_high-high.ensures.high, c.line_high-high.ensures.order) in
    let first : run_start c.likely_line-start.result (line_high x 0) c.loop-n.n ≡ line_low x 0 =
    omega (arith, last, c.likely_line-start.ensures.least, c.line_low-low.ensures, c.line_high-high.ensures.high, c.line_high-high.ensures.order) in
    subst (λ k. IsCurve (vertices_of c.args.so_far ++ flat_map own (range_with_len (line_low x 0) k)) c.loop-n.curve) last
    (subst (λ a. IsCurve (vertices_of c.args.so_far ++ flat_map own (range_with_len a c.loop-n.n)) c.loop-n.curve) first c.loop-n.invariant.curve)

pub returns-clause-few : goal.returns-clause-few
returns-clause-few g c =
    let x = c.args.sources.now.family.now in
    let end : c.loop-n.n ≤ c.line_high-high.result - c.line_low-low.result + 1 = c.loop-n.auto.n-end (omega arith) in
    let last : c.loop-n.n ≡ length (line_stocks x 0) =
    omega (arith, c.loop-n-test.false, end, c.line_low-low.ensures, c.line_high-high.ensures.high, c.line_high-high.ensures.order, stocks_count x c.invariant.ensures.valid 0) in
    subst (λ n. length c.loop-n.curve ≤ length (vertices_of c.args.so_far) + n * vertex_count x) last c.loop-n.invariant.few

pub with_depot-requires-clause-sources : goal.with_depot-requires-clause-sources
with_depot-requires-clause-sources g c = c.requires.sources

pub with_depot-requires-clause-first : goal.with_depot-requires-clause-first
with_depot-requires-clause-first g c = c.in_ok-first.ensures.point

pub with_depot-requires-clause-tables : goal.with_depot-requires-clause-tables
with_depot-requires-clause-tables g c =
    subst (λ (v : List ℕ). AreTables c.args.sources.now.family.now v c.args.tables.now) (sym (ap (drop 1) c.in_ok-first.ensures.stocks)) c.requires.tables

pub with_depot-requires-in-loop-n-clause-sources : goal.with_depot-requires-in-loop-n-clause-sources
with_depot-requires-in-loop-n-clause-sources g c = c.requires.sources

pub with_line-first-requires-clause-point : goal.with_line-first-requires-clause-point
with_line-first-requires-clause-point g c = c.loop-n.invariant.point

pub with_line-first-requires-clause-some : goal.with_line-first-requires-clause-some
with_line-first-requires-clause-some g c = c.loop-n.invariant.some

pub with_line-first-requires-clause-shops : goal.with_line-first-requires-clause-shops
with_line-first-requires-clause-shops g c = subst (AreShopsAt c.args.sources.now.family.now 0) (sym c.loop-n.invariant.shops) c.requires.shops

pub with_depot-requires-in-loop-n-clause-first : goal.with_depot-requires-in-loop-n-clause-first
with_depot-requires-in-loop-n-clause-first g c = c.with_line-first.ensures.point

pub with_depot-requires-in-loop-n-clause-tables : goal.with_depot-requires-in-loop-n-clause-tables
with_depot-requires-in-loop-n-clause-tables g c =
    subst (λ (v : List ℕ). AreTables c.args.sources.now.family.now v c.args.tables.now) (sym (ap (drop 1) c.with_line-first.ensures.stocks ∙ c.loop-n.invariant.shops)) c.requires.tables

pub with_depot-requires-clause-widths : goal.with_depot-requires-clause-widths
with_depot-requires-clause-widths g c = c.requires.widths

pub with_depot-requires-clause-work : goal.with_depot-requires-clause-work
with_depot-requires-clause-work g c = record { exact = c.requires.work.exact; lows = ap length c.begin.ensures ∙ c.requires.work.lows }

pub with_depot-requires-in-loop-n-clause-widths : goal.with_depot-requires-in-loop-n-clause-widths
with_depot-requires-in-loop-n-clause-widths g c = c.loop-n.invariant.widths

pub with_depot-requires-in-loop-n-clause-work : goal.with_depot-requires-in-loop-n-clause-work
with_depot-requires-in-loop-n-clause-work g c = c.loop-n.invariant.work

pub line_low-low-requires : goal.line_low-low-requires
line_low-low-requires g c = let some = c.invariant.ensures.valid.valid.frame.fewest_sites in omega (arith, some)

pub line_high-high-requires : goal.line_high-high-requires
line_high-high-requires g c = let some = c.invariant.ensures.valid.valid.frame.fewest_sites in omega (arith, some)

pub likely_line-start-requires-clause-order : goal.likely_line-start-requires-clause-order
likely_line-start-requires-clause-order g c = omega (arith, c.line_low-low.ensures, c.line_high-high.ensures.order)

pub behind-requires-clause-within : goal.behind-requires-clause-within
behind-requires-clause-within g c = omega (arith, c.loop-n-test.true)

pub returns-clause-widths : goal.returns-clause-widths
returns-clause-widths g c = c.loop-n.invariant.widths

pub returns-clause-work : goal.returns-clause-work
returns-clause-work g c = c.loop-n.invariant.work
