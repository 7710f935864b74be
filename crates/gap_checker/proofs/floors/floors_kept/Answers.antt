use Rattle.std.proofs.Common.{◌≡◌, None, sym, refl, subst, ◌∙◌, arith}
use Rattle.spares_input.specs.First.{first}
use Rattle.gap_rules.specs.Refusals.{low_reject_at, case_family_count}
use Rattle.spares_input.proofs.Public.{first_found, first_more}
use Rattle.gap_rules.proofs.Public.{line_is, line_read_at, count_lines, tree_at, work_at}
use Rattle.gap_checker.proofs.floors.floors_kept.Goals as goal

pub loop-f-init : goal.loop-f-init
unfolding first
loop-f-init g c = refl

pub family_low-requires-clause-is_line : goal.family_low-requires-clause-is_line
family_low-requires-clause-is_line g c = line_is c.args.cert.now.case c.args.lines.now c.loop-f.f c.requires.lines c.loop-f-test.true

pub family_low-requires-clause-tree : goal.family_low-requires-clause-tree
family_low-requires-clause-tree g c =
    let n = count_lines c.args.cert.now.case c.args.lines.now c.requires.lines in
    tree_at c.args.cert.now c.args.held.now c.loop-f.f c.requires.trees (omega (arith, n, c.loop-f-test.true))

pub family_low-requires-clause-work : goal.family_low-requires-clause-work
family_low-requires-clause-work g c =
    let n = count_lines c.args.cert.now.case c.args.lines.now c.requires.lines in
    work_at c.args.cert.now c.args.held.now c.loop-f.f c.requires.work (omega (arith, n, c.loop-f-test.true))

pub returns-in-Some : goal.returns-in-Some
returns-in-Some g c =
    let n = count_lines c.args.cert.now.case c.args.lines.now c.requires.lines in
    first_found (low_reject_at g.S.Score.ends c.args.cert.now c.args.held.now) c.loop-f.f (case_family_count c.args.cert.now.case) c.in-Some.reject c.loop-f.invariant (sym c.in_ok-reject.ensures ∙ c.in-Some.is) (omega (arith, n, c.loop-f-test.true))

pub loop-f-preserved : goal.loop-f-preserved
loop-f-preserved g c =
    first_more (low_reject_at g.S.Score.ends c.args.cert.now c.args.held.now) c.loop-f.f c.loop-f.invariant (sym c.in_ok-reject.ensures ∙ c.in_default.is)

pub family_low-requires-clause-line : goal.family_low-requires-clause-line
family_low-requires-clause-line g c = line_read_at c.args.cert.now.case c.args.lines.now c.loop-f.f c.requires.lines

pub returns : goal.returns
returns g c =
    let n = count_lines c.args.cert.now.case c.args.lines.now c.requires.lines in
    let all : c.loop-f.f ≡ case_family_count c.args.cert.now.case = omega (arith, n, c.loop-f-test.false, c.loop-f.auto.f-end) in
    subst (λ k. first (low_reject_at g.S.Score.ends c.args.cert.now c.args.held.now) k ≡ None) all c.loop-f.invariant

pub family_low-requires-clause-family : goal.family_low-requires-clause-family
family_low-requires-clause-family g c = let n = count_lines c.args.cert.now.case c.args.lines.now c.requires.lines in omega (arith, n, c.loop-f-test.true)

pub family_low-requires-clause-formed : goal.family_low-requires-clause-formed
family_low-requires-clause-formed g c = c.requires.formed

pub family_low-requires-clause-held : goal.family_low-requires-clause-held
family_low-requires-clause-held g c = c.requires.held

pub family_low-requires-clause-rates : goal.family_low-requires-clause-rates
family_low-requires-clause-rates g c = c.requires.rates
