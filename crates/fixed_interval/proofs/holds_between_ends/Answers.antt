use Rattle.fixed_interval.proofs.holds_between_ends.Goals as goal

pub returns : goal.returns
returns c f ends x low high = record { low = low; high = high }
