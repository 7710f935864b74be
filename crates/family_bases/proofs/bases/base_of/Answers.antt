use Rattle.std.proofs.Common.{◌-◌, ◌∙◌, get_or, ap, arith}
use Rattle.family_points.proofs.Public.{base_read, bases_long}
use Rattle.family_bases.proofs.bases.base_of.Goals as goal

pub overflow_sub-from : goal.overflow_sub-from
overflow_sub-from c = omega (arith, c.from.ensures, c.requires.base.0)

pub index-base-requires : goal.index-base-requires
index-base-requires c =
    omega (
      arith,
      bases_long c.args.sources.now.family.now c.args.sources.now.bases.items c.requires.sources.bases,
      c.args.sources.now.bases.ok.0,
      c.requires.base.0,
      c.requires.base.1,
      c.from.ensures,
    )

pub of-requires : goal.of-requires
of-requires c =
    let bases = c.args.sources.now.bases.items in
    record {
      depot = c.requires.depot;
      site = c.requires.base;
      base = base_read c.args.sources.now.family.now c.args.j bases c.index-base.result.now c.requires.sources.bases c.requires.base.0 c.requires.base.1
          (c.index-base.ensures ∙ ap (λ n. get_or bases (n - 1) c.index-base.result.now) c.from.ensures);
    }
