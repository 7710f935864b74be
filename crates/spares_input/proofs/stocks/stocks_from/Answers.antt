use Rattle.std.proofs.Common.{length}
use Rattle.std.proofs.Math.Nat.{mul-mod_left}
use Rattle.spares_input.proofs.StockFacts.{stocks_long, stocks_within}
use Rattle.spares_input.proofs.stocks.stocks_from.Goals as goal

pub invariant_of-result : goal.invariant_of-result
invariant_of-result c =
    let frame = c.site_count-sites.ensures.valid.frame in
    record {
      fewest_sites = rw c.site_count-sites.ensures.count frame.fewest_sites;
      most_sites = rw c.site_count-sites.ensures.count frame.most_sites;
      whole = rw (c.site_count-sites.ensures.count, c.in_ok-list.ensures.stocks, stocks_long c.args.case.now c.args.rows.now) (mul-mod_left (length c.args.case.now.parts) (length c.args.case.now.sites));
    }

pub returns-clause-stocks : goal.returns-clause-stocks
returns-clause-stocks c = record {
  is_for = record {
    sites = c.site_count-sites.ensures.count;
    pairs = rw c.in_ok-list.ensures.stocks (stocks_long c.args.case.now c.args.rows.now);
  };
  limits = rw c.site_count-sites.ensures.count
      (stocks_within c.args.case.now c.args.rows.now c.requires c.in_ok-list.ensures.fault c.site_count-sites.ensures.valid.frame.fewest_sites c.in_ok-list.list.items c.in_ok-list.ensures.stocks);
}
