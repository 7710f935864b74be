use Rattle.std.proofs.Common.{◌≡◌, None, refl, sym, ap, subst, ◌∙◌, arith}
use Rattle.answers.specs.Counts.{count64}
use Rattle.spares_input.specs.First.{first}
use Rattle.gap_rules.specs.Refusals.{case_family_count, gap_at, tables_of_first}
use Rattle.gap_rules.proofs.Families.{line_is, line_read_at, count_lines, counted_more, counted_gap_at, gap_stops, work_stops, work_goes_on}
use Rattle.gap_rules.proofs.covers.covers_kept.Goals as goal

pub loop-f-init : goal.loop-f-init
unfolding first
loop-f-init c = record { gaps = refl; count = refl }

pub family_work-requires-clause-is_line : goal.family_work-requires-clause-is_line
family_work-requires-clause-is_line c = line_is c.args.cert.now.case c.args.lines.now c.loop-f.f c.requires.lines c.loop-f-test.true

pub returns-in-None : goal.returns-in-None
returns-in-None c =
    let n = count_lines c.args.cert.now.case c.args.lines.now c.requires.lines in
    gap_stops _ _ _ (counted_gap_at c.args.cert.now c.args.held.now c.loop-f.f (case_family_count c.args.cert.now.case) c.loop-f.invariant.gaps (sym c.in-None.is ∙ c.in_ok-tables.ensures) (omega (arith, n, c.loop-f-test.true)))

pub loop-f-preserved : goal.loop-f-preserved
loop-f-preserved c =
    let r = counted_more c.args.cert.now c.args.held.now c.loop-f.f c.loop-f.work c.in-Some.tables c.saturating_add-work.result c.loop-f.invariant.gaps c.loop-f.invariant.count
    (sym c.in-Some.is ∙ c.in_ok-tables.ensures) c.saturating_add-work.ensures in
    record { gaps = r.0; count = r.1 }

pub overflow_cast-family : goal.overflow_cast-family
overflow_cast-family c = record { fits = omega (arith, c.requires.few, c.loop-f-test.true) }

pub family_work-requires-clause-family : goal.family_work-requires-clause-family
family_work-requires-clause-family c = omega (arith, count_lines c.args.cert.now.case c.args.lines.now c.requires.lines, c.loop-f-test.true)

pub family_work-requires-clause-line : goal.family_work-requires-clause-line
family_work-requires-clause-line c = line_read_at c.args.cert.now.case c.args.lines.now c.loop-f.f c.requires.lines

pub returns-then-work-gt-MOST_TABLES : goal.returns-then-work-gt-MOST_TABLES
returns-then-work-gt-MOST_TABLES c =
    let all : c.loop-f.f ≡ case_family_count c.args.cert.now.case = omega (arith, count_lines c.args.cert.now.case c.args.lines.now c.requires.lines, c.loop-f-test.false, c.loop-f.auto.f-end) in
    work_stops _ _ _ (subst (λ n. first (gap_at c.args.cert.now c.args.held.now) n ≡ None) all c.loop-f.invariant.gaps)
    (c.loop-f.invariant.count ∙ ap (λ n. count64 (tables_of_first c.args.cert.now c.args.held.now n)) all) c.if-work-gt-MOST_TABLES.true

pub returns : goal.returns
returns c =
    let all : c.loop-f.f ≡ case_family_count c.args.cert.now.case = omega (arith, count_lines c.args.cert.now.case c.args.lines.now c.requires.lines, c.loop-f-test.false, c.loop-f.auto.f-end) in
    work_goes_on _ _ _ (subst (λ n. first (gap_at c.args.cert.now c.args.held.now) n ≡ None) all c.loop-f.invariant.gaps)
    (c.loop-f.invariant.count ∙ ap (λ n. count64 (tables_of_first c.args.cert.now c.args.held.now n)) all) c.if-work-gt-MOST_TABLES.false
