-- A case after a change of its rates.
use Rattle.std.specs.Prelude.{length, set}
use Rattle.spares_input.specs.Cases.{CaseRows, rate_place}
use Rattle.spares_input.specs.declared.rows.RateRow.{RateRow}

-- the case with its pair's row replaced by this one
abbrev pub with_rate : CaseRows → RateRow → CaseRows
with_rate c r = record { sites = c.sites; parts = c.parts; rates = set c.rates (rate_place (length c.sites) r) r }
