use Rattle.std.proofs.Common.{Vec, Global, ◌*◌, length, arith}
use Rattle.std.proofs.lemmas.Nat.{mul-le}
use Rattle.std.proofs.lemmas.Result.{err_from_is_err_and}
use Rattle.line_text.specs.Formats.{each}
use Rattle.line_text.specs.Texts.{numbers_from}
use Rattle.answers.specs.declared.stop.Stop.TheVariants as stop
use Rattle.spares_input.specs.declared.rows.RateRow.{RateRow}
use Rattle.case_lines.specs.Grammar.{pair_at, rate_line}
use Rattle.line_text.proofs.Public.{done, step, stops}
use Rattle.case_lines.proofs.read_rates.each_rate.Goals as goal

pub returns-in_err-rate : goal.returns-in_err-rate
returns-in_err-rate c =
    let p = err_from_is_err_and c.from_residual.result c.from_residual.ensures.1 in
    let n = length c.args.parts.now * length c.args.sites.now in
    rw (p.1, p.2) (stops (λ (v : Vec RateRow Global). v.items) (stop.Fault c.in_err-rate.field-0.0) (λ _ i. rate_line (pair_at c.args.sites.now c.args.parts.now i)) c.loop-i.found.items n c.loop-i.i c.loop-i.lines c.rate_at.new.lines ((each (numbers_from 0 n) (λ i. rate_line (pair_at c.args.sites.now c.args.parts.now i))).read c.args.lines.now)
    c.loop-i-test.true c.in_err-rate.ensures c.loop-i.invariant)

pub loop-i-preserved : goal.loop-i-preserved
loop-i-preserved c =
    let n = length c.args.parts.now * length c.args.sites.now in
    rw c.in_ok-push.ensures.items (step (λ _ i. rate_line (pair_at c.args.sites.now c.args.parts.now i)) c.loop-i.found.items n c.loop-i.i c.loop-i.lines c.rate_at.new.lines c.in_ok-rate.rate ((each (numbers_from 0 n) (λ i. rate_line (pair_at c.args.sites.now c.args.parts.now i))).read c.args.lines.now)
    c.loop-i-test.true c.in_ok-rate.ensures c.loop-i.invariant)

pub overflow_mul-pairs : goal.overflow_mul-pairs
overflow_mul-pairs c = omega (arith, mul-le (length c.args.parts.now) (length c.args.sites.now) 2000 16 c.requires.few_parts c.requires.few_sites)

pub rate_at-requires-clause-some_sites : goal.rate_at-requires-clause-some_sites
rate_at-requires-clause-some_sites c = c.requires.some_sites

pub rate_at-requires-clause-few_sites : goal.rate_at-requires-clause-few_sites
rate_at-requires-clause-few_sites c = c.requires.few_sites

pub rate_at-requires-clause-few_parts : goal.rate_at-requires-clause-few_parts
rate_at-requires-clause-few_parts c = c.requires.few_parts

pub rate_at-requires-clause-within : goal.rate_at-requires-clause-within
rate_at-requires-clause-within c = c.loop-i-test.true

pub returns : goal.returns
returns c =
    let n = length c.args.parts.now * length c.args.sites.now in
    done (λ _ i. rate_line (pair_at c.args.sites.now c.args.parts.now i)) c.loop-i.found.items n c.loop-i.i c.loop-i.lines ((each (numbers_from 0 n) (λ i. rate_line (pair_at c.args.sites.now c.args.parts.now i))).read c.args.lines.now)
    c.loop-i-test.false c.loop-i.invariant
