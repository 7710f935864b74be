use Rattle.std.proofs.Common.{◌≡◌, ◌-◌, ◌+◌, ◌<◌, ◌++◌, ◌∷◌, [], ◌∙◌, length, map, set, take, refl, sym, ap, arith}
use Rattle.std.specs.List.{range_with_len}
use Rattle.std.proofs.lemmas.List.{map-append, take_all, take_more_set}
use Rattle.std.proofs.Math.ListN.{length-set}
use Rattle.list_laws.proofs.Public.{mapped_from}
use Rattle.family_points.proofs.Public.{bases_long}
use Rattle.family_rows.specs.Tabled.{parts_at}
use Rattle.family_rows.proofs.depot.put_all_parts.Goals as goal

pub loop-j-init : goal.loop-j-init
loop-j-init c = record {
  count = omega (arith, c.in_ok-make_lists.ensures, c.len.ensures, c.args.sources.now.bases.ok.0);
  made = refl;
}

pub index_mut-requires : goal.index_mut-requires
index_mut-requires c =
    omega (
      arith,
      bases_long c.args.sources.now.family.now c.args.sources.now.bases.items c.requires.sources.bases,
      c.loop-j.invariant.count,
      c.loop-j.parts.ok.0,
      c.loop-j.auto.j,
      c.loop-j-test.true,
      c.sites-j-end.ensures.sites,
      c.from-place.ensures,
    )

pub put_parts-requires : goal.put_parts-requires
put_parts-requires c = record {
  sources = c.requires.sources;
  depot = c.requires.depot;
  site = (omega (arith, c.loop-j.auto.j), omega (arith, c.loop-j-test.true, c.sites-j-end.ensures.sites));
}

pub overflow_sub-place : goal.overflow_sub-place
overflow_sub-place c = omega (arith, c.from-place.ensures, c.loop-j.auto.j)

pub loop-j-preserved : goal.loop-j-preserved
loop-j-preserved c =
    let x = c.args.sources.now.family.now in
    let j = c.loop-j.j in
    let lists = c.loop-j.parts.items in
    let made = c.put_parts.new.parts in
    let inside : j - 1 < length lists =
    omega (
      arith,
      bases_long x c.args.sources.now.bases.items c.requires.sources.bases,
      c.loop-j.invariant.count,
      c.loop-j.auto.j,
      c.loop-j-test.true,
      c.sites-j-end.ensures.sites,
    ) in
    let next : j + 1 - 1 ≡ j - 1 + 1 = omega (arith, c.loop-j.auto.j) in
    let taken : take (j + 1 - 1) (set lists (c.from-place.result - 1) made) ≡ take (j - 1) lists ++ made ∷ [] =
    ap (λ n. take n (set lists (c.from-place.result - 1) made)) next
    ∙ ap (λ n. take (j - 1 + 1) (set lists (n - 1) made)) c.from-place.ensures ∙ take_more_set lists (j - 1) made inside in
    record {
      count = simp length-set c.loop-j.invariant.count;
      made = mapped_from (parts_at x c.args.depot.now) 1 j (map (λ r. r.items) (take (j - 1) lists)) (map (λ r. r.items) (take (j + 1 - 1) (set lists (c.from-place.result - 1) made)))
          made.items c.loop-j.auto.j (ap (map (λ r. r.items)) taken ∙ map-append (λ r. r.items) (take (j - 1) lists) (made ∷ [])) c.loop-j.invariant.made c.in_ok-put_parts.ensures;
    }

pub returns : goal.returns
returns c =
    let x = c.args.sources.now.family.now in
    let lists = c.loop-j.parts.items in
    let all : c.loop-j.j - 1 ≡ length x.case.sites - 1 =
    omega (arith, c.loop-j-test.false, c.loop-j.auto.j-end (omega (arith, c.sites-j-end.ensures.fewest)), c.sites-j-end.ensures.sites) in
    let whole : take (c.loop-j.j - 1) lists ≡ lists =
    take_all (c.loop-j.j - 1) lists (omega (arith, all, c.loop-j.invariant.count, bases_long x c.args.sources.now.bases.items c.requires.sources.bases)) in
    sym (ap (map (λ r. r.items)) whole) ∙ c.loop-j.invariant.made ∙ ap (λ n. map (parts_at x c.args.depot.now) (range_with_len 1 n)) all
