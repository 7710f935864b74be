use Rattle.std.proofs.Common.{Vec, Global, ℕ, ◌*◌, length, subst, sym}
use Rattle.line_text.specs.Reading.{Gathers}
use Rattle.line_text.proofs.Public.{length_numbers_from}
use Rattle.spares_input.specs.declared.rows.RateRow.{RateRow}
use Rattle.case_lines.specs.Rates.{pair_rates}
use Rattle.case_lines.proofs.read_rates.rates.Goals as goal

pub returns : goal.returns
returns c =
    let n = length c.args.parts.now * length c.args.sites.now in
    subst (λ (m : ℕ). Gathers {X = Vec RateRow Global} (λ v. v.items) c.counted_rates.result c.counted_rates.new.lines ((pair_rates m n c.args.sites.now c.args.parts.now).read c.args.lines.now))
    (sym (length_numbers_from 0 n)) c.counted_rates.ensures
