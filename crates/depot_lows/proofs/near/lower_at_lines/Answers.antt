use Rattle.std.proofs.Common.{◌≡◌, ℕ, ◌≤◌, List, ◌∷◌, drop, length, set, sym, ap, ◌∙◌, subst, refl, arith}
use Rattle.list_laws.proofs.Public.{set_first}
use Rattle.family_points.specs.Inputs.{IsAt, line_high, line_low}
use Rattle.family_rows.specs.Tabled.{AreTables}
use Rattle.family_points.proofs.Public.{joined_at}
use Rattle.depot_lows.specs.Rough.{AreRough}
use Rattle.depot_lows.proofs.near.lower_at_lines.Goals as goal

pub lower_at_depot-least-requires-clause-depot : goal.lower_at_depot-least-requires-clause-depot
lower_at_depot-least-requires-clause-depot g c =
    let x = c.args.sources.now.family.now in
    let valid = c.invariant.ensures.valid in
    let some = valid.valid.frame.fewest_sites in
    let s : ℕ = c.loop-s.s in
    let low : line_low x 0 ≤ s = omega (arith, c.line_low-first.ensures, c.loop-s.auto.s) in
    let high : s ≤ line_high x 0 = omega (arith, c.line_high-last.ensures.high, c.loop-s-test.true) in
    let made : set c.loop-s.stocks 0 s ≡ s ∷ drop 1 c.args.stocks.now =
    set_first c.loop-s.stocks s c.loop-s.invariant.some ∙ ap (λ (l : List ℕ). s ∷ l) c.loop-s.invariant.shops in
    subst (IsAt x 0) (sym made) (joined_at x valid 0 s (drop 1 c.args.stocks.now) (omega (arith, some)) c.requires.shops low high)

pub lower_at_depot-least-requires-clause-tables : goal.lower_at_depot-least-requires-clause-tables
lower_at_depot-least-requires-clause-tables g c =
    let made : drop 1 (set c.loop-s.stocks 0 c.loop-s.s) ≡ drop 1 c.args.stocks.now =
    ap (drop 1) (set_first c.loop-s.stocks c.loop-s.s c.loop-s.invariant.some) ∙ c.loop-s.invariant.shops in
    subst (λ (l : List ℕ). AreTables c.args.sources.now.family.now l c.args.tables.now) (sym made) c.requires.tables

pub lower_at_depot-least-requires-clause-rough : goal.lower_at_depot-least-requires-clause-rough
lower_at_depot-least-requires-clause-rough g c =
    let made : drop 1 (set c.loop-s.stocks 0 c.loop-s.s) ≡ drop 1 c.args.stocks.now =
    ap (drop 1) (set_first c.loop-s.stocks c.loop-s.s c.loop-s.invariant.some) ∙ c.loop-s.invariant.shops in
    subst (λ (l : List ℕ). AreRough g.S.Score.ends c.args.sources.now.family.now l c.args.low c.args.high c.args.rough.now) (sym made) c.requires.rough

pub loop-s-preserved : goal.loop-s-preserved
loop-s-preserved g c =
    let first : set c.loop-s.stocks 0 c.loop-s.s ≡ c.loop-s.s ∷ drop 1 c.loop-s.stocks = set_first c.loop-s.stocks c.loop-s.s c.loop-s.invariant.some in
    record {
      some = omega (arith, ap length first);
      shops = ap (drop 1) first ∙ c.loop-s.invariant.shops;
    }

pub loop-s-init : goal.loop-s-init
loop-s-init g c = record { some = c.requires.some; shops = refl }

pub bounds-stocks-0 : goal.bounds-stocks-0
bounds-stocks-0 g c = c.loop-s.invariant.some

pub overflow_add-s-end : goal.overflow_add-s-end
overflow_add-s-end g c = omega (arith, c.line_high-last.ensures.most)

pub line_low-first-requires : goal.line_low-first-requires
line_low-first-requires g c = let some = c.invariant.ensures.valid.valid.frame.fewest_sites in omega (arith, some)

pub line_high-last-requires : goal.line_high-last-requires
line_high-last-requires g c = let some = c.invariant.ensures.valid.valid.frame.fewest_sites in omega (arith, some)

pub lower_at_depot-least-requires-clause-sources : goal.lower_at_depot-least-requires-clause-sources
lower_at_depot-least-requires-clause-sources g c = c.requires.sources
