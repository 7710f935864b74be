-- The places of a family are pairs of the case, and what the stocks are there.
use Rattle.std.proofs.Common.{◌≡◌, ℕ, ◌+◌, ◌*◌, ◌/◌, ◌%◌, ◌<◌, ◌≤◌, inl, inr, Bool, true, false, cond, filter, nat_lt, List, [], ◌∷◌, map, length, get_or, Some, None, refl, sym, ap, ◌∙◌, subst, arith, ltb-false}
use Rattle.std.specs.Prelude.{if◌then◌else◌}
use Rattle.std.proofs.lemmas.Nat.{div-mul-add, mod-mul-add}
use Rattle.list_laws.proofs.Public.{place_fits}
use Rattle.hull.specs.Curves.{Among}
use Rattle.hull.proofs.Public.{Mapped, among_mapped, Flattened, among_flattened, range_has}
use Rattle.spares_input.specs.First.{first}
use Rattle.spares_input.specs.Rows.{is_line}
use Rattle.spares_input.specs.Frames.{part_at, is_shop_of}
use Rattle.spares_input.specs.Cases.{CaseRows, frame_rows, pair_count}
use Rattle.spares_input.specs.Stocks.{StockList, limit_at}
use Rattle.spares_input.proofs.Public.{first_none}
use Rattle.fleet_model.specs.Rows.{all_sites, all_parts, line_units, stock}
use Rattle.fleet_model.specs.Fleet.{family}
use Rattle.gap_rules.specs.Boxes.{AtMost}
use Rattle.family_points.specs.Vectors.{Pair, places, vector_of, limits}
use Rattle.gap_rules.specs.Refusals.{over_limit, below_held}

pub record IsKept {A : Type 0} (t : A → Bool) (x : A) (xs : List A) : Type 0 where
  pub among : Among x xs
  pub passes : t x ≡ true

kept_step : {A : Type 0} (t : A → Bool) (b : Bool) (x y : A) (xs : List A) → t y ≡ b → Among x (cond b (y ∷ filter t xs) (filter t xs)) → (Among x (filter t xs) → IsKept t x xs) → IsKept t x (y ∷ xs)
kept_step t true x y xs e h further = elim h [
  | inl s ↦ record { among = inl s; passes = ap t s ∙ e }
  | inr m ↦ (let r = further m in record { among = inr r.among; passes = r.passes })
]
kept_step t false x y xs e h further = (let r = further h in record { among = inr r.among; passes = r.passes })

pub kept : {A : Type 0} (t : A → Bool) (x : A) (xs : List A) → Among x (filter t xs) → IsKept t x xs
kept t x [] h = absurd h
kept t x (y ∷ xs) h = kept_step t (t y) x y xs refl h (λ m. kept t x xs m)

-- a line unit is a part, and is one
pub line_part : (c : CaseRows) (l : ℕ) → Among l (line_units c) → (l < length c.parts) × (is_line (part_at c.parts l) ≡ true)
line_part c l h =
    let r : IsKept (λ p. is_line (part_at c.parts p)) l (all_parts c) = kept (λ p. is_line (part_at c.parts p)) l (all_parts c) h in
    let w = (range_has l 0 (length c.parts) r.among).1 in (omega (arith, w), r.passes)

pub family_part : (c : CaseRows) (l p : ℕ) → l < length c.parts → Among p (family c l) → p < length c.parts
family_part c l p b h = elim h [
  | inl e ↦ omega (arith, e)
  | inr m ↦ (
      let r : IsKept (λ q. is_shop_of (part_at c.parts l) (part_at c.parts q)) p (all_parts c) = kept (λ q. is_shop_of (part_at c.parts l) (part_at c.parts q)) p (all_parts c) m in
      let w = (range_has p 0 (length c.parts) r.among).1 in omega (arith, w)
      )
]

-- the pair is one of the case's: a part of it at a site of it
pub record IsPair (c : CaseRows) (x : Pair) : Type 0 where
  pub part : x.part < length c.parts
  pub site : x.site < length c.sites

-- each place of a family is a pair of the case
pub place_pair : (c : CaseRows) (l : ℕ) (x : Pair) → l < length c.parts → Among x (places c l) → IsPair c x
place_pair c l x b h =
    let r : Flattened (λ k. map (λ p. (let y : Pair = record { part = p; site = k } in y)) (family c l)) (all_sites c) x = among_flattened _ (all_sites c) x h in
    let s : Mapped (λ p. (let y : Pair = record { part = p; site = r.from } in y)) (family c l) x = among_mapped _ (family c l) x r.in_it in
    let w = (range_has r.from 0 (length c.sites) r.there).1 in
    let y : Pair = record { part = s.from; site = r.from } in
    let own : IsPair c y = record { part = family_part c l s.from b s.there; site = omega (arith, w) } in
    subst (λ z. IsPair c z) (sym s.is) own

-- ---- stocks at a pair

-- what would answer something but answers none had a test that failed
pub if_none : {A : Type 0} (t : Bool) (x : A) → (if t then Some x else None) ≡ None → t ≡ false
if_none true x h = absurd (cc)
if_none false x h = refl

pub stock_most : (c : CaseRows) (s : StockList) (x : Pair) → IsPair c x → first (over_limit c s) (pair_count (frame_rows c)) ≡ None → stock c s.list x.part x.site ≤ limit_at c.parts x.part x.site
stock_most c s x h none =
    let n = length c.sites in
    let i : ℕ = x.part * length c.sites + x.site in
    let e = first_none (over_limit c s) (pair_count (frame_rows c)) i none (place_fits x.part x.site (length c.parts) (length c.sites) h.part h.site) in
    let f = ltb-false _ _ (if_none (nat_lt (limit_at c.parts (i / length c.sites) (i % length c.sites)) (get_or s.list i 0)) _ e) in
    subst (λ k. stock c s.list x.part x.site ≤ limit_at c.parts x.part k) (mod-mul-add x.part (length c.sites) x.site h.site)
    (subst (λ p. stock c s.list x.part x.site ≤ limit_at c.parts p (i % length c.sites)) (div-mul-add x.part (length c.sites) x.site h.site) f)

-- where no stock is below what is held, each pair has at least what is held there
pub held_most : (c : CaseRows) (held s : StockList) (x : Pair) → IsPair c x → first (below_held c held s) (pair_count (frame_rows c)) ≡ None → stock c held.list x.part x.site ≤ stock c s.list x.part x.site
held_most c held s x h none =
    let i : ℕ = x.part * length c.sites + x.site in
    let e = first_none (below_held c held s) (pair_count (frame_rows c)) i none (place_fits x.part x.site (length c.parts) (length c.sites) h.part h.site) in
    ltb-false _ _ (if_none (nat_lt (get_or s.list i 0) (get_or held.list i 0)) _ e)

-- what is at most another for each pair is so for lists of pairs, place by place
pub at_most_maps : (f g : Pair → ℕ) (xs : List Pair) → ((x : Pair) → Among x xs → f x ≤ g x) → AtMost (map f xs) (map g xs)
at_most_maps f g [] h = tt
at_most_maps f g (x ∷ xs) h = (h x (inl refl), at_most_maps f g xs (λ y m. h y (inr m)))

-- where no stock is below what is held, each family's vector is at least what is held of it
pub vectors_ordered : (c : CaseRows) (l : ℕ) (held s : StockList) → l < length c.parts → first (below_held c held s) (pair_count (frame_rows c)) ≡ None → AtMost (vector_of c l held.list) (vector_of c l s.list)
vectors_ordered c l held s b none = at_most_maps _ _ (places c l) (λ x m. held_most c held s x (place_pair c l x b m) none)

-- where no stock is over its limit, each family's vector is within its limits
pub vector_limited : (c : CaseRows) (l : ℕ) (s : StockList) → l < length c.parts → first (over_limit c s) (pair_count (frame_rows c)) ≡ None → AtMost (vector_of c l s.list) (limits c l)
vector_limited c l s b none = at_most_maps _ _ (places c l) (λ x m. stock_most c s x (place_pair c l x b m) none)
