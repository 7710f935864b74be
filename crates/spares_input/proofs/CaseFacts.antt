-- Rows of rates that break no rule make a case.
use Rattle.std.proofs.Common.{◌≡◌, ◌==◌, ℕ, ◌+◌, ◌*◌, ◌/◌, ◌%◌, ◌<◌, ◌≤◌, inl, inr, List, length, get_or, set, None, unwrap_or, sym, ap, ◌∙◌, subst, arith, get_or-set_other, get_or-set_same, length-set, le_trans, lt_of_lt_of_le, mul-le-mul_right}
use Rattle.std.proofs.Math.Dec.{lit≤}
use Rattle.std.specs.List.{All}
use Rattle.std.proofs.lemmas.List.Elements.{All-from_get_or, All-set}
use Rattle.std.proofs.lemmas.List.FromFn.{length-map-range_with_len}
use Rattle.std.proofs.lemmas.List.{get_or_read}
use Rattle.std.proofs.lemmas.Nat.{div_below, mod_below, mul-le, same_from_place}
use Rattle.std.proofs.lemmas.Nat.{rows as rows_fit}
use Rattle.std.proofs.lemmas.Bool.{cases_eq}
use mir.Val.{Fits}
use mir.Syntax.{w64}
use Rattle.list_laws.proofs.Public.{place_fits}
use Rattle.spares_input.specs.First.{first}
use Rattle.spares_input.specs.Rows.{is_line, no_rate, IsRateRow}
use Rattle.spares_input.specs.Frames.{FrameRows, IsFrame, part_at}
use Rattle.spares_input.specs.Pairs.{pair_place, part_of_place, row_at, rows_in_order, site_of_place}
use Rattle.spares_input.specs.Cases.{CaseRows, double_rate, frame_rows, IsCase, IsRateOf, missing_rate, pair_count, rate_at, rate_place, rates_fault}
use Rattle.spares_input.specs.Building.{missing_rate_at}
use Rattle.spares_input.specs.declared.rows.PartId.{PartId}
use Rattle.spares_input.specs.declared.rows.RateRow.{RateRow}
use Rattle.spares_input.specs.declared.rows.SiteId.{SiteId}
use Rattle.spares_input.proofs.Firsts.{or_else_none}
use Rattle.spares_input.proofs.PlaceFacts.{at_place}

module _ (f : FrameRows) (rows : List RateRow) (valid : All (IsRateOf f) rows) (none : rates_fault (length f.sites) (pair_count f) rows ≡ None) where
  -- what the case has at a place
  pair_at : (i : ℕ) → i < pair_count f
      → IsRateOf f (get_or (rows_in_order (rate_place (length f.sites)) no_rate (pair_count f) rows) i no_rate)
      × (rate_place (length f.sites) (get_or (rows_in_order (rate_place (length f.sites)) no_rate (pair_count f) rows) i no_rate) ≡ i)
  pair_at i within =
      let missing = or_else_none (first (double_rate (length f.sites) rows) (length rows)) _ none in
      let all = or_else_none (first (missing_rate (length f.sites) rows) (pair_count f)) None missing.1 in
      at_place (rate_place (length f.sites)) (missing_rate_at (length f.sites)) (IsRateOf f) rows no_rate (pair_count f) valid all.0 i within

  -- rates that break no rule, in the order of their pairs, make a valid case of a frame
  pub case_valid : (found : List RateRow) → IsFrame f → found ≡ rows_in_order (rate_place (length f.sites)) no_rate (pair_count f) rows
      → IsCase (record { sites = f.sites; parts = f.parts; rates = found })
  case_valid found frame e =
      let long : length found ≡ pair_count f = rw e (length-map-range_with_len (λ k. unwrap_or (row_at (rate_place (length f.sites)) rows k) no_rate) 0 (pair_count f)) in
      record {
        frame = frame;
        rate_count = long;
        pairs = λ p k part site.
            let within : p * length f.sites + k < pair_count f = grind (arith, rows_fit) in
            let at = pair_at (p * length f.sites + k) within in
            let r = get_or (rows_in_order (rate_place (length f.sites)) no_rate (pair_count f) rows) (p * length f.sites + k) no_rate in
            rw e (same_from_place r.part.0 r.site.0 p k (length f.sites) at.0.site site at.1);
        rate_rows = All-from_get_or (IsRateOf f) found no_rate (λ i within. rw e (pair_at i (omega (arith, within, long))).0);
      }

-- ---- a row in the place of its pair's

-- a valid case stays valid when a row of rates takes the place of its pair's
pub set_valid : (c : CaseRows) (r : RateRow) (i : ℕ) → IsCase c → IsRateOf (frame_rows c) r → i ≡ rate_place (length c.sites) r
    → IsCase (record { sites = c.sites; parts = c.parts; rates = set c.rates i r })
set_valid c r i valid row e =
    let n = length c.sites in
    let lk : r.site.0 < n = row.site in
    let fits : r.part.0 * n + r.site.0 < length c.parts * n = place_fits r.part.0 r.site.0 (length c.parts) n row.part lk in
    let room : i < length c.rates = omega (arith, e, fits, valid.rate_count) in
    record {
      frame = valid.frame;
      rate_count = rw length-set valid.rate_count;
      pairs = λ p k part site. (elim (cases_eq (p * n + k) i) [
        | inl here ↦
            let same = same_from_place p k r.part.0 r.site.0 n site lk (omega (arith, here, e)) in
            rw (here, get_or-set_same c.rates i r no_rate room) (omega (arith, same.0), omega (arith, same.1))
        | inr other ↦ rw (get_or-set_other c.rates i (p * n + k) r no_rate other) (valid.pairs p k part site)
      ]);
      rate_rows = All-set (IsRateOf (frame_rows c)) c.rates i r row valid.rate_rows;
    }

-- ---- the numbers of sites, parts and pairs

-- a case has sites
pub some_sites : (c : CaseRows) (n : ℕ) → IsCase c → n ≡ length c.sites → 0 < n
some_sites c n v e = subst (λ k. 0 < k) (sym e) (le_trans (lit≤ tt) v.frame.fewest_sites)

-- at most sixteen of them
pub few_sites : (c : CaseRows) (n : ℕ) → IsCase c → n ≡ length c.sites → n ≤ 16
few_sites c n v e = subst (λ k. k ≤ 16) (sym e) v.frame.most_sites

-- and at most 2,000 parts
pub few_parts : (c : CaseRows) (a : ℕ) → IsCase c → a ≡ length c.parts → a ≤ 2000
few_parts c a v e = subst (λ k. k ≤ 2000) (sym e) v.frame.most_parts

-- so no place of a pair is above 2,000 times the number of sites
pub place_few : (c : CaseRows) (i a n : ℕ) → IsCase c → a ≡ length c.parts → i < a * n → i < 2000 * n
place_few c i a n v e h = lt_of_lt_of_le h (mul-le-mul_right n (few_parts c a v e))

pairs_fit : (m : ℕ) → m ≤ 32000 → Fits w64 m
pairs_fit m h = omega (arith, h)

-- and the number of pairs fits 64 bits
pub places_fit : (a n : ℕ) → a ≤ 2000 → n ≤ 16 → Fits w64 (a * n)
places_fit a n few_parts few_sites = pairs_fit (a * n) (mul-le a n 2000 16 few_parts few_sites)

-- the pair at a place has a part of the case
pub part_within : (i n a m : ℕ) (part : PartId) → part ≡ part_of_place n i → a ≡ m → 0 < n → i < a * n → part.0 < m
part_within i n a m part e f some h = subst (λ (q : PartId). q.0 < m) (sym e) (subst (λ k. i / n < k) f (div_below i n a some h))

-- and a site of it
pub site_within : (i n m : ℕ) (site : SiteId) → site ≡ site_of_place n i → n ≡ m → 0 < n → site.0 < m
site_within i n m site e f some = subst (λ (q : SiteId). q.0 < m) (sym e) (subst (λ k. i % n < k) f (mod_below i n some))

-- a place within so many parts and sites is within a list of as many entries
pub place_in_list : (i a n len m p s : ℕ) → len ≡ m → m ≡ p * s → a ≡ p → n ≡ s → i < a * n → i < len
place_in_list i a n len m p s e f g h within = rw (e, f, ← g, ← h) within

-- ---- the row of a pair of the case x, which is the one that a contract sees as y

module _ (x y : CaseRows) (e : x ≡ y) (valid : IsCase x) (p k : ℕ) (lp : p < length y.parts) (lk : k < length y.sites) where
  -- the part is one of the case
  pub part_there : p < length x.parts
  part_there = subst (λ (z : CaseRows). p < length z.parts) (sym e) lp

  -- and so is the site
  pub site_there : k < length x.sites
  site_there = subst (λ (z : CaseRows). k < length z.sites) (sym e) lk

  place_there : pair_place (length x.sites) p k < length x.rates
  place_there = subst (λ n. pair_place (length x.sites) p k < n) (sym valid.rate_count) (place_fits p k (length x.parts) (length x.sites) part_there site_there)

  module _ (r : RateRow) (i n : ℕ) (sites : n ≡ length x.sites) (at : i ≡ pair_place n p k) (within : i < length x.rates) (read : r ≡ get_or x.rates i r) where
    found : r ≡ rate_at x p k
    found =
        get_or_read x.rates i r within read no_rate
        ∙ ap (λ j. get_or x.rates j no_rate) (at ∙ ap (λ m. pair_place m p k) sites)

    -- what is read at the pair's place is its row
    pub row_read : r ≡ rate_at y p k
    row_read = found ∙ ap (λ (z : CaseRows). rate_at z p k) e

    -- of that part and site
    pub pair_read : (r.part.0 ≡ p) × (r.site.0 ≡ k)
    pair_read = subst (λ (q : RateRow). (q.part.0 ≡ p) × (q.site.0 ≡ k)) (sym found) (valid.pairs p k part_there site_there)

    -- with the fields of such a pair
    pub fields_read : IsRateRow (is_line (part_at y.parts p)) (k == 0) r
    fields_read =
        let row = valid.rate_rows (pair_place (length x.sites) p k) no_rate place_there in
        let q = rate_at x p k in
        let pair = valid.pairs p k part_there site_there in
        let fields : IsRateRow (is_line (part_at x.parts q.part.0)) (q.site.0 == 0) q = row.fields in
        let of_part : IsRateRow (is_line (part_at x.parts p)) (q.site.0 == 0) q =
        subst (λ a. IsRateRow (is_line (part_at x.parts a)) (q.site.0 == 0) q) pair.0 fields in
        let of_site : IsRateRow (is_line (part_at x.parts p)) (k == 0) q = subst (λ a. IsRateRow (is_line (part_at x.parts p)) (a == 0) q) pair.1 of_part in
        subst (λ (z : CaseRows). IsRateRow (is_line (part_at z.parts p)) (k == 0) r) e
        (subst (λ (w : RateRow). IsRateRow (is_line (part_at x.parts p)) (k == 0) w) (sym found) of_site)
