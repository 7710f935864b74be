use Rattle.command_outcomes.proofs.held.copied.Goals as goal

pub of-requires-clause-fewest_sites : goal.of-requires-clause-fewest_sites
of-requires-clause-fewest_sites c = rw (c.site_count-sites.ensures.count, ← c.requires.sites) c.as_slice.ensures.valid.fewest_sites

pub of-requires-clause-most_sites : goal.of-requires-clause-most_sites
of-requires-clause-most_sites c = rw (c.site_count-sites.ensures.count, ← c.requires.sites) c.as_slice.ensures.valid.most_sites
