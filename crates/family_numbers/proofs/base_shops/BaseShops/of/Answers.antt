use Rattle.std.proofs.Common.{◌≡◌, ◌-◌, ◌++◌, ◌∙◌, map, ap, arith}
use Rattle.std.specs.List.{range_with_len}
use Rattle.list_laws.proofs.Public.{mapped_from}
use Rattle.family_numbers.specs.BaseTables.{tables_by_shop}
use Rattle.family_numbers.proofs.base_shops.BaseShops.of.Goals as goal

pub loop-j-preserved : goal.loop-j-preserved
loop-j-preserved g c =
    mapped_from (tables_by_shop g.row.F c.args.numbers.now c.args.low.now c.args.high.now) 1 c.loop-j.j c.loop-j.tables.items c.push.new.self.items
    c.in_ok-at_base.at_base c.loop-j.auto.j c.in_ok-push.ensures.items c.loop-j.invariant c.in_ok-at_base.ensures

pub returns : goal.returns
returns g c =
    let x = c.args.numbers.now in
    let all : c.loop-j.j - 1 ≡ x.sites - 1 = omega (arith, c.loop-j-test.false, c.loop-j.auto.j-end, c.sites-j-end.ensures.sites, c.sites-j-end.ensures.valid.fewest_sites) in
    record {
      least = c.of.ensures ∙ c.in_ok-extend_from_slice.ensures.items ∙ ap (λ v. v ++ c.args.low.now) c.new-least.ensures.items;
      tables = c.of-2.ensures ∙ c.loop-j.invariant ∙ ap (λ n. map (tables_by_shop g.row.F x c.args.low.now c.args.high.now) (range_with_len 1 n)) all;
    }
