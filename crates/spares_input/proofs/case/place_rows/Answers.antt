use Rattle.std.proofs.Common.{◌≡◌, ◌≤◌, ℕ, ◌*◌, subst, arith, refl, sym, get_or, length, take, None, replicate, rules}
use Rattle.spares_input.specs.First.{first}
use Rattle.spares_input.specs.Rows.{no_rate}
use Rattle.spares_input.specs.Cases.{double_rate, rate_place}
use Rattle.std.proofs.lemmas.List.{take_all}
use Rattle.spares_input.specs.Building.{ArePlaced}
use Rattle.spares_input.proofs.CaseFacts.{places_fit}
use Rattle.spares_input.proofs.Firsts.{first_more, first_found}
use Rattle.spares_input.proofs.PlaceFacts.{kept_at, has_before, few_taken, placed_none, placed_more, taken_none, taken_more}
use Rattle.spares_input.proofs.case.place_rows.Goals as goal

ended : (i n : ℕ) → n ≤ i → i ≤ n → i ≡ n
ended i n past within = omega (arith, past, within)

pub overflow_mul-parts : goal.overflow_mul-parts
overflow_mul-parts c = places_fit c.args.parts c.args.sites c.requires.few_parts c.requires.few_sites

pub pair_place-place-requires-clause-part : goal.pair_place-place-requires-clause-part
pair_place-place-requires-clause-part c = (c.requires.pairs c.loop-k.k no_rate c.loop-k-test.true).0

pub pair_place-place-requires-clause-site : goal.pair_place-place-requires-clause-site
pair_place-place-requires-clause-site c = (c.requires.pairs c.loop-k.k no_rate c.loop-k-test.true).1

pub overflow_cast-result : goal.overflow_cast-result
overflow_cast-result c =
    let few = few_taken (rate_place c.args.sites) c.loop-k.places.items c.loop-k.k c.args.parts c.args.sites c.loop-k.invariant.taken c.loop-k.invariant.placed.whole c.requires.few_parts c.requires.few_sites in
    few.0

pub overflow_add-result : goal.overflow_add-result
overflow_add-result c =
    let few = few_taken (rate_place c.args.sites) c.loop-k.places.items c.loop-k.k c.args.parts c.args.sites c.loop-k.invariant.taken c.loop-k.invariant.placed.whole c.requires.few_parts c.requires.few_sites in
    few.1

pub loop-k-init : goal.loop-k-init
unfolding first
loop-k-init c =
    let empty : c.in_ok-places.places.items ≡ replicate (c.args.parts * c.args.sites) None = search rules in
    record {
      fault = refl;
      placed = placed_none (rate_place c.args.sites) (c.args.parts * c.args.sites) c.in_ok-places.places.items empty;
      taken = taken_none (rate_place c.args.sites) (c.args.parts * c.args.sites) c.in_ok-places.places.items empty;
    }

pub returns-then-is_some-clause-fault : goal.returns-then-is_some-clause-fault
returns-then-is_some-clause-fault c =
    let inv = c.loop-k.invariant in
    let place = rate_place c.args.sites in
    let rows = c.args.rows.now in
    let kept = kept_at place _ (take c.loop-k.k rows) c.loop-k.places.items c.pair_place-place.result c.index.result.now inv.placed c.pair_place-place.ensures.within c.index.ensures in
    let before = has_before place rows c.loop-k.k no_rate (get_or rows c.loop-k.k no_rate) c.pair_place-place.result c.index.result.now _ refl c.pair_place-place.ensures.place kept (sym c.if-is_some.ensures) in
    first_found (double_rate c.args.sites rows) c.loop-k.k (length rows) _ inv.fault (rw before refl) c.loop-k-test.true

pub loop-k-preserved : goal.loop-k-preserved
loop-k-preserved c =
    let inv = c.loop-k.invariant in
    let place = rate_place c.args.sites in
    let rows = c.args.rows.now in
    let row = get_or rows c.loop-k.k no_rate in
    let p = c.pair_place-place.result in
    let o = c.index.result.now in
    let kept = kept_at place _ (take c.loop-k.k rows) c.loop-k.places.items p o inv.placed c.pair_place-place.ensures.within c.index.ensures in
    let new = sym c.if-is_some.ensures in
    let before = has_before place rows c.loop-k.k no_rate row p o _ refl c.pair_place-place.ensures.place kept new in
    record {
      fault = first_more (double_rate c.args.sites rows) c.loop-k.k inv.fault (rw before refl);
      placed = placed_more place _ rows c.loop-k.k no_rate row c.loop-k.places.items p o c.loop-k-test.true refl
          c.pair_place-place.ensures.place c.pair_place-place.ensures.within inv.placed kept new;
      taken = taken_more place c.loop-k.places.items c.loop-k.k p row o (rw inv.placed.whole c.pair_place-place.ensures.within) c.index.ensures new inv.taken;
    }

pub index-requires : goal.index-requires
index-requires c = rw (c.loop-k.places.ok.0, c.loop-k.invariant.placed.whole) c.pair_place-place.ensures.within

pub index_mut-requires : goal.index_mut-requires
index_mut-requires c = rw (c.loop-k.places.ok.0, c.loop-k.invariant.placed.whole) c.pair_place-place.ensures.within

pub returns-clause-fault : goal.returns-clause-fault
returns-clause-fault c =
    subst (λ n. first (double_rate c.args.sites c.args.rows.now) n ≡ None) (ended c.loop-k.k (length c.args.rows.now) c.loop-k-test.false c.loop-k.auto.k-end)
    c.loop-k.invariant.fault

pub returns-clause-placed : goal.returns-clause-placed
returns-clause-placed c =
    subst (λ rows. ArePlaced (rate_place c.args.sites) (c.args.parts * c.args.sites) rows c.loop-k.places.items) (take_all c.loop-k.k c.args.rows.now c.loop-k-test.false)
    c.loop-k.invariant.placed
