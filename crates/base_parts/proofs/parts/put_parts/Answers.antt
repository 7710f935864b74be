use Rattle.family_rows.specs.Tabled.{box_numbers}
use Rattle.std.proofs.Common.{◌≡◌, ℕ, ◌+◌, ◌-◌, ◌^◌, ◌<◌, ◌≤◌, ◌∙◌, List, [], ◌∷◌, ◌++◌, length, set, sum_by, sym, take, ap, subst, arith}
use Rattle.std.specs.List.{range_with_len}
use Rattle.std.proofs.lemmas.List.{take_all, take_more_set}
use Rattle.std.proofs.lemmas.Nat.{mul-le}
use Rattle.std.proofs.Math.ListN.{length-set}
use Rattle.hull.specs.declared.point.Point.{Point}
use Rattle.fleet_model.specs.Laws.{IsBase}
use Rattle.sum_walk.specs.Sums.{sums_of_each}
use Rattle.curve_parts.specs.Parts.{IsPartOf, StandForBetween}
use Rattle.curve_parts.specs.Beyond.{LieBeyond, no_price}
use Rattle.curve_parts.proofs.Public.{all_known, beyond_less, self_between}
use Rattle.family_points.specs.Least.{AreAtLeast}
use Rattle.family_bases.proofs.Public.{base_under_more, depot_under, lengths_one_more, moved}
use Rattle.family_points.specs.declared.order.Base.{Base}
use Rattle.family_points.specs.Separation.{base_points, depot_point, points_over}
use Rattle.family_points.specs.Inputs.{FamilyBox, vector_count}
use Rattle.family_points.specs.Choices.{AreBases}
use Rattle.family_points.proofs.Public.{bases_long, over_count_more, room_at}
use Rattle.family_rows.proofs.Public.{tables_at}
use Rattle.base_parts.proofs.Bases.{base_more, beyond_more}
use Rattle.base_parts.proofs.parts.put_parts.Goals as goal

pub loop-j-init : goal.loop-j-init
loop-j-init g c =
    let x = c.args.sources.now.family.now in
    let first : List Point = depot_point x c.args.depot.now ∷ [] in
    record {
      stands = self_between c.args.low c.args.high first;
      few = omega arith;
      least = depot_under x c.args.depot.now c.args.low.p c.args.low.q c.from-cost.result (c.from-cost.ensures ∙ c.cost.ensures.cost);
      beyond = all_known c.args.low first first _ (self_between no_price c.args.low first);
      count = c.requires.work;
    }

pub index_mut-requires : goal.index_mut-requires
index_mut-requires g c =
    omega (
      arith,
      bases_long c.args.sources.now.family.now c.args.sources.now.bases.items c.requires.sources.bases,
      c.loop-j.invariant.count,
      c.loop-j.work.parts.ok.0,
      c.loop-j.auto.j,
      c.loop-j-test.true,
      c.sites-j-end.ensures.sites,
      c.from.ensures,
    )

pub put_part-requires-clause-room : goal.put_part-requires-clause-room
put_part-requires-clause-room g c =
    let x = c.args.sources.now.family.now in
    let here = c.base_of-here.result in
    let room : vector_count x c.loop-j.j ≤ 65000000 =
    omega (arith, c.requires.room, room_at x c.loop-j.j (omega (arith, c.loop-j.auto.j)) (omega (arith, c.loop-j-test.true, c.sites-j-end.ensures.sites))) in
    subst (λ (y : FamilyBox). vector_count y here.site.0 ≤ 65000000) (sym c.base_of-here.ensures.family)
    (subst (λ k. vector_count x k ≤ 65000000) (sym c.base_of-here.ensures.site) room)

pub loop-j-preserved : goal.loop-j-preserved
loop-j-preserved g c =
    let x = c.args.sources.now.family.now in
    let d = c.args.depot.now in
    let j = c.loop-j.j in
    let ends = g.S.Score.ends in
    let low = c.args.low in
    let high = c.args.high in
    let here = c.base_of-here.result in
    let part : List Point = c.put_part.new.part in
    let parts : List (List Point) = c.loop-j.work.parts.items in
    let first : Point = depot_point x d in
    let on : IsBase x.case j = (omega (arith, c.loop-j.auto.j), omega (arith, c.loop-j-test.true, c.sites-j-end.ensures.sites)) in
    let inside : j - 1 < length parts =
    omega (arith, on.0, on.1, c.loop-j.invariant.count, bases_long x c.args.sources.now.bases.items c.requires.sources.bases) in
    let next : j + 1 - 1 ≡ j - 1 + 1 = omega (arith, on.0) in
    let put : List (List Point) = set parts (c.from.result - 1) part in
    let made : take (j + 1 - 1) put ≡ take (j - 1) parts ++ part ∷ [] =
    ap (λ n. take n put) next ∙ ap (λ n. take (j - 1 + 1) (set parts (n - 1) part)) c.from.ensures ∙ take_more_set parts (j - 1) part inside in
    let is : IsPartOf low high (base_points ends x d j) part =
    moved (λ (ps : List Point). IsPartOf low high ps part) ends here.family.now x here.depot.now d here.site.0 j c.base_of-here.ensures.family c.base_of-here.ensures.depot c.base_of-here.ensures.site
    c.in_ok-lowest.ensures.part in
    let few : length part ≤ vector_count x j =
    subst (λ k. length part ≤ vector_count x k) c.base_of-here.ensures.site
    (subst (λ (y : FamilyBox). length part ≤ vector_count y here.site.0) c.base_of-here.ensures.family c.in_ok-lowest.ensures.few) in
    let low_of : AreAtLeast low.p low.q c.in_ok-lowest.lowest.least (base_points ends x d j) =
    moved (λ (ps : List Point). AreAtLeast low.p low.q c.in_ok-lowest.lowest.least ps) ends here.family.now x here.depot.now d here.site.0 j c.base_of-here.ensures.family c.base_of-here.ensures.depot c.base_of-here.ensures.site
    c.in_ok-lowest.ensures.least in
    let own : LieBeyond low (base_points ends x d j) part (c.in_ok-lowest.lowest.least + c.in_ok-lowest.lowest.gap) =
    moved (λ (ps : List Point). LieBeyond low ps part (c.in_ok-lowest.lowest.least + c.in_ok-lowest.lowest.gap)) ends here.family.now x here.depot.now d here.site.0 j c.base_of-here.ensures.family c.base_of-here.ensures.depot c.base_of-here.ensures.site
    c.in_ok-lowest.ensures.beyond in
    let sum = c.loop-j.least + c.in_ok-lowest.lowest.least in
    let over : List Point = points_over ends x d (range_with_len 1 (j + 1 - 1)) in
    record {
      least = λ v m. (
          let l = base_under_more x ends d low.p low.q j c.loop-j.least c.in_ok-lowest.lowest.least (omega (arith, c.loop-j.auto.j)) c.loop-j.invariant.least low_of v m in
          let s = c.saturating_add-least.ensures in
          omega (arith, l, s));
      beyond = beyond_less low over (sums_of_each (first ∷ []) (take (j + 1 - 1) put)) (sum + c.min-gap.result) (c.saturating_add-least.result + c.min-gap.result)
          (omega (arith, c.saturating_add-least.ensures))
          (beyond_more x c.invariant.ensures.valid ends g.met.S.Score.leaves_room d c.requires.depot low high first j (take (j - 1) parts) (take (j + 1 - 1) put) part
          c.loop-j.least c.loop-j.gap c.in_ok-lowest.lowest.least c.in_ok-lowest.lowest.gap on c.loop-j.invariant.least low_of c.loop-j.invariant.beyond own made
          c.min-gap.result (omega (arith, c.min-gap.ensures)) (omega (arith, c.min-gap.ensures)));
      stands = base_more x c.invariant.ensures.valid ends g.met.S.Score.leaves_room d c.requires.depot low high first j (take (j - 1) parts) (take (j + 1 - 1) put) part on
          c.loop-j.invariant.stands is made;
      few = omega (arith, few, over_count_more x j c.loop-j.auto.j, c.loop-j.invariant.few, ap (sum_by length) made, lengths_one_more (take (j - 1) parts) part);
      count = simp length-set c.loop-j.invariant.count;
    }

-- the parts that were made are those of all bases
made_all : (x : FamilyBox) (parts : List (List Point)) (bases : List Base) (j : ℕ) → AreBases x bases → length parts ≡ length bases → j - 1 ≡ length x.case.sites - 1
    → take (j - 1) parts ≡ parts
made_all x parts bases j are same last = take_all (j - 1) parts (omega (arith, same, last, bases_long x bases are))

pub returns-clause-stands : goal.returns-clause-stands
returns-clause-stands g c =
    let x = c.args.sources.now.family.now in
    let d = c.args.depot.now in
    let low = c.args.low in
    let high = c.args.high in
    let over : ℕ → List Point = λ n. points_over g.S.Score.ends x d (range_with_len 1 n) in
    let parts : List (List Point) = c.loop-j.work.parts.items in
    let first : List Point = depot_point x d ∷ [] in
    let last : c.loop-j.j - 1 ≡ length x.case.sites - 1 =
    omega (arith, c.loop-j-test.false, c.loop-j.auto.j-end (omega (arith, c.sites-j-end.ensures.fewest)), c.sites-j-end.ensures.sites) in
    subst (λ n. StandForBetween low high (over n) (sums_of_each first parts)) last
    (subst (λ (ls : List (List Point)). StandForBetween low high (over (c.loop-j.j - 1)) (sums_of_each first ls))
    (made_all x parts c.args.sources.now.bases.items c.loop-j.j c.requires.sources.bases c.loop-j.invariant.count last) c.loop-j.invariant.stands)

pub returns-clause-beyond : goal.returns-clause-beyond
returns-clause-beyond g c =
    let x = c.args.sources.now.family.now in
    let d = c.args.depot.now in
    let low = c.args.low in
    let over : ℕ → List Point = λ n. points_over g.S.Score.ends x d (range_with_len 1 n) in
    let parts : List (List Point) = c.loop-j.work.parts.items in
    let first : List Point = depot_point x d ∷ [] in
    let beyond = c.saturating_add.result in
    let last : c.loop-j.j - 1 ≡ length x.case.sites - 1 =
    omega (arith, c.loop-j-test.false, c.loop-j.auto.j-end (omega (arith, c.sites-j-end.ensures.fewest)), c.sites-j-end.ensures.sites) in
    subst (λ n. LieBeyond low (over n) (sums_of_each first parts) beyond) last
    (subst (λ (ls : List (List Point)). LieBeyond low (over (c.loop-j.j - 1)) (sums_of_each first ls) beyond)
    (made_all x parts c.args.sources.now.bases.items c.loop-j.j c.requires.sources.bases c.loop-j.invariant.count last)
    (beyond_less low (over (c.loop-j.j - 1)) (sums_of_each first (take (c.loop-j.j - 1) parts)) (c.loop-j.least + c.loop-j.gap) beyond (omega (arith, c.saturating_add.ensures)) c.loop-j.invariant.beyond))

pub returns-clause-few : goal.returns-clause-few
returns-clause-few g c =
    let x = c.args.sources.now.family.now in
    let parts : List (List Point) = c.loop-j.work.parts.items in
    let last : c.loop-j.j - 1 ≡ length x.case.sites - 1 =
    omega (arith, c.loop-j-test.false, c.loop-j.auto.j-end (omega (arith, c.sites-j-end.ensures.fewest)), c.sites-j-end.ensures.sites) in
    subst (λ n. 1 + sum_by length parts ≤ 1 + sum_by (vector_count x) (range_with_len 1 n)) last
    (subst (λ (ls : List (List Point)). 1 + sum_by length ls ≤ 1 + sum_by (vector_count x) (range_with_len 1 (c.loop-j.j - 1)))
    (made_all x parts c.args.sources.now.bases.items c.loop-j.j c.requires.sources.bases c.loop-j.invariant.count last) c.loop-j.invariant.few)

pub put_part-requires-clause-here : goal.put_part-requires-clause-here
put_part-requires-clause-here g c = c.base_of-here.ensures.is

pub put_part-requires-clause-numbers : goal.put_part-requires-clause-numbers
put_part-requires-clause-numbers g c = c.requires.sources.numbers ∙ sym (ap box_numbers c.base_of-here.ensures.family)

pub put_part-requires-clause-tables : goal.put_part-requires-clause-tables
put_part-requires-clause-tables g c = tables_at _ _ _ _ _ c.base_of-here.ensures.family c.base_of-here.ensures.depot c.requires.tables

pub put_part-requires-clause-window : goal.put_part-requires-clause-window
put_part-requires-clause-window g c = c.requires.window

pub returns-clause-work : goal.returns-clause-work
returns-clause-work g c = c.loop-j.invariant.count

pub base_of-here-requires-clause-sources : goal.base_of-here-requires-clause-sources
base_of-here-requires-clause-sources g c = c.requires.sources

pub base_of-here-requires-clause-depot : goal.base_of-here-requires-clause-depot
base_of-here-requires-clause-depot g c = c.requires.depot

pub base_of-here-requires-clause-base : goal.base_of-here-requires-clause-base
base_of-here-requires-clause-base g c = (omega (arith, c.loop-j.auto.j), omega (arith, c.loop-j-test.true, c.sites-j-end.ensures.sites))

pub overflow_sub-from : goal.overflow_sub-from
overflow_sub-from g c = omega (arith, c.from.ensures, c.loop-j.auto.j)

pub cost-requires-clause-site : goal.cost-requires-clause-site
cost-requires-clause-site g c = let some = c.invariant.ensures.valid.valid.frame.fewest_sites in omega (arith, some)

pub cost-requires-clause-stocks : goal.cost-requires-clause-stocks
cost-requires-clause-stocks g c = c.requires.depot

pub overflow_mul-least : goal.overflow_mul-least
overflow_mul-least g c =
    let few : c.from-cost.result ≤ 1000000000000 = omega (arith, c.cost.ensures.most, c.from-cost.ensures) in
    omega (arith, mul-le c.args.low.p c.from-cost.result (2 ^ 74) 1000000000000 c.requires.low.p few)
