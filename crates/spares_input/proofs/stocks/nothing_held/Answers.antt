use Rattle.std.proofs.Common.{◌≡◌, ◌≤◌, length, sym, ◌∙◌, vec_len}
use Rattle.spares_input.specs.Stocks.{nothing_held}
use Rattle.spares_input.proofs.CaseFacts.{places_fit}
use Rattle.spares_input.proofs.StockFacts.{none_held, none_whole, none_within, whole_rows}
use Rattle.spares_input.proofs.stocks.nothing_held.Goals as goal

pub of-requires-clause-whole : goal.of-requires-clause-whole
of-requires-clause-whole c =
    let l : vec_len c.in_ok-list.list ≡ length c.in_ok-list.list.items = c.in_ok-list.list.ok.0 in
    whole_rows (length c.in_ok-list.list.items) c.from.result c.from-2.result c.site_count-sites.result (sym l ∙ c.in_ok-list.ensures.len) c.from-2.ensures

pub overflow_mul-pairs : goal.overflow_mul-pairs
overflow_mul-pairs c =
    let few_parts : c.from.result ≤ 2000 = rw (c.from.ensures, c.part_count.ensures.count) c.part_count.ensures.valid.frame.most_parts in
    let few_sites : c.from-2.result ≤ 16 = rw (c.from-2.ensures, c.site_count-sites.ensures.count) c.site_count-sites.ensures.valid.frame.most_sites in
    places_fit c.from.result c.from-2.result few_parts few_sites

pub of-requires-clause-fewest_sites : goal.of-requires-clause-fewest_sites
of-requires-clause-fewest_sites c = rw c.site_count-sites.ensures.count c.site_count-sites.ensures.valid.frame.fewest_sites

pub of-requires-clause-most_sites : goal.of-requires-clause-most_sites
of-requires-clause-most_sites c = rw c.site_count-sites.ensures.count c.site_count-sites.ensures.valid.frame.most_sites

held : (c : goal.After-of) → c.of.result ≡ nothing_held c.args.case.now
held c =
    none_held c.args.case.now c.of.result c.site_count-sites.result c.from.result c.from-2.result c.in_ok-list.list.items c.of.ensures c.site_count-sites.ensures.count
    (c.in_ok-list.ensures.items_if_clones_equal (λ y same. same)) (c.from.ensures ∙ c.part_count.ensures.count) (c.from-2.ensures ∙ c.site_count-sites.ensures.count)

pub returns-clause-held : goal.returns-clause-held
returns-clause-held c = held c

pub returns-clause-stocks : goal.returns-clause-stocks
returns-clause-stocks c = record {
  is_for = none_whole c.args.case.now c.of.result (held c);
  limits = none_within c.args.case.now c.of.result (held c);
}
