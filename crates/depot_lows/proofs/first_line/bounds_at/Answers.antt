use Rattle.std.proofs.Common.{ℕ, List, drop, length, sym, ap, subst, arith}
use Rattle.list_laws.proofs.Public.{set_first}
use Rattle.family_points.specs.Inputs.{IsAt}
use Rattle.family_rows.specs.Tabled.{AreTables}
use Rattle.family_points.proofs.Public.{joined_at}
use Rattle.depot_lows.specs.Rough.{AreRough}
use Rattle.depot_lows.proofs.first_line.bounds_at.Goals as goal

pub bounds-stocks-0 : goal.bounds-stocks-0
bounds-stocks-0 g c = c.requires.some

pub lower_at_depot-lows-requires-clause-sources : goal.lower_at_depot-lows-requires-clause-sources
lower_at_depot-lows-requires-clause-sources g c = c.requires.sources

pub lower_at_depot-lows-requires-clause-depot : goal.lower_at_depot-lows-requires-clause-depot
lower_at_depot-lows-requires-clause-depot g c =
    let x = c.args.sources.now.family.now in
    let valid = c.invariant.ensures.valid in
    let some = valid.valid.frame.fewest_sites in
    subst (IsAt x 0) (sym (set_first c.args.stocks.now c.args.line c.requires.some))
    (joined_at x valid 0 c.args.line (drop 1 c.args.stocks.now) (omega (arith, some)) c.requires.shops c.requires.least c.requires.most)

pub lower_at_depot-lows-requires-clause-tables : goal.lower_at_depot-lows-requires-clause-tables
lower_at_depot-lows-requires-clause-tables g c =
    subst (λ (l : List ℕ). AreTables c.args.sources.now.family.now l c.args.tables.now) (sym (ap (drop 1) (set_first c.args.stocks.now c.args.line c.requires.some))) c.requires.tables

pub lower_at_depot-lows-requires-clause-rough : goal.lower_at_depot-lows-requires-clause-rough
lower_at_depot-lows-requires-clause-rough g c =
    subst (λ (l : List ℕ). AreRough g.S.Score.ends c.args.sources.now.family.now l c.args.low c.args.high c.args.rough.now) (sym (ap (drop 1) (set_first c.args.stocks.now c.args.line c.requires.some))) c.requires.rough

pub returns-clause-some : goal.returns-clause-some
returns-clause-some g c = omega (arith, ap length (set_first c.args.stocks.now c.args.line c.requires.some))

pub returns-clause-shops : goal.returns-clause-shops
returns-clause-shops g c = ap (drop 1) (set_first c.args.stocks.now c.args.line c.requires.some)
