-- The certificate of a plan is well formed.
use Rattle.std.proofs.Common.{◌≡◌, ℕ, zero, suc, ◌<◌, ◌≤◌, ◌^◌, inl, inr, cond, List, [], ◌∷◌, length, map, get_or, All, refl, sym, ap, ◌∙◌, subst, arith, eq-eqb, ne_eqb}
use Rattle.std.proofs.lemmas.List.{get_or_past}
use Rattle.std.proofs.lemmas.List.Elements.{All-from_recursion, All-from_get_or}
use Rattle.std.proofs.lemmas.List.FromFn.{get_or-map-range_with_len, length-map-range_with_len}
use Rattle.std.proofs.lemmas.Bool.{cases_lt}
use Rattle.spares_input.specs.Stocks.{AreStocksOf, StockList, limit_at}
use Rattle.spares_input.specs.Cases.{CaseRows, IsCase}
use Rattle.fleet_model.specs.Rows.{line_units}
use Rattle.fleet_model.proofs.Public.{limit_most}
use Rattle.family_items.specs.Inputs.{IsLine}
use Rattle.family_points.specs.Vectors.{Pair, places, vector_of, limits}
use Rattle.fleet_plan.proofs.Public.{lines_are}
use Rattle.case_plan.specs.Laws.{FitsItsPlace}
use Rattle.case_plan.specs.Report.{outcome_of}
use Rattle.case_plan.specs.declared.outcome.Outcome.{Outcome}
use Rattle.case_plan.proofs.Public.{plan_fits}
use Rattle.price_certificate.specs.declared.place.Place.{Place}
use Rattle.price_certificate.specs.declared.certificate.Certificate.{Certificate}
use Rattle.price_certificate.specs.declared.certificate.Node.{Node}
use Rattle.price_certificate.specs.Covers.{no_place, corner_of_held, most_at, IsTrim, places_of, nodes_of, trimmed}
use Rattle.price_certificate.specs.Certificates.{IsNode, IsCover, IsSecond, IsWellFormed}
use Rattle.price_certificate.proofs.Public.{trim_is}
use Rattle.gap_rules.specs.Boxes.{AtMost}
use Rattle.gap_rules.proofs.Public.{few_places, held_limited, lines_counted, place_pair}
use Rattle.hull.specs.Curves.{Among}
use Rattle.hull.proofs.Public.{among_at}
use Rattle.price_certificate.specs.declared.certificate.Terms.{Terms}
use Rattle.gap_rules.specs.Scores.{ends_of, value_of}
use Rattle.certified_plan.specs.Certificates.{cover_at, covers_of, certificate_of}
use Rattle.certified_plan.specs.Inputs.{IsPlanOn}
use Rattle.certified_plan.proofs.Scores.{scores_enclose, scores_leave_room}
use Rattle.certified_plan.proofs.Families.{count_is, most_is, valid_places}
use Rattle.certified_plan.proofs.Trees.{some_nodes, few_nodes, lawful_nodes}

-- ---- limits

maps_small : (f : Pair → ℕ) (xs : List Pair) (i : ℕ) → ((x : Pair) → Among x xs → f x ≤ 63) → get_or (map f xs) i 0 ≤ 63
maps_small f [] i h = omega arith
maps_small f (x ∷ xs) zero h = h x (inl refl)
maps_small f (x ∷ xs) (suc i) h = maps_small f xs i (λ y m. h y (inr m))

module _ (c : CaseRows) (l : ℕ) (held : List ℕ) (valid : IsCase c) (line : IsLine c l) where
  pub places_small : (i : ℕ) → most_at (places_of c l held) i ≤ 63
  places_small i = elim (cases_lt i (length (places c l))) [
    | inl b ↦ (
        let e = most_is c l held i b in
        let s = maps_small (λ (x : Pair). limit_at c.parts x.part x.site) (places c l) i (λ x m. limit_most c x.part x.site valid (place_pair c l x line.is_part m).part) in
        omega (arith, e, s)
        )
    | inr b ↦ (
        let e = ap (λ (x : Place). x.most) (get_or_past (places_of c l held) i no_place (let n = count_is c l held in omega (arith, n, b))) in
        omega (arith, e)
        )
  ]

  -- a family has at most 144 places
  pub few_of : length (places_of c l held) ≤ 144
  few_of = (let n = count_is c l held in let f = few_places c l valid line in omega (arith, n, f))

  module _ (within : AtMost held (limits c l)) (p floor : ℕ) where
    -- the trimmed cover of a family is lawful, and its boxes shown by cost cost the floor
    pub trims : IsTrim p floor (places_of c l held) (trimmed p floor (places_of c l held))
    trims = trim_is p floor (places_of c l held) (valid_places c l held valid line within)

    -- the trimmed cover of a family, as a certificate has it, is a cover
    pub is_cover : IsCover (nodes_of (trimmed p floor (places_of c l held)))
    is_cover = record {
      some = some_nodes (trimmed p floor (places_of c l held));
      few = (let f = few_nodes p floor (places_of c l held) in let m = few_of in omega (arith, f, m));
      nodes = All-from_recursion IsNode (nodes_of (trimmed p floor (places_of c l held)))
          (lawful_nodes (length (places_of c l held)) (trimmed p floor (places_of c l held)) (corner_of_held (places_of c l held)) (most_at (places_of c l held)) few_of places_small trims.lawful);
    }

-- ---- the line units, by their numbers

-- the line unit at place f is a line unit of the case
pub line_is : (c : CaseRows) (f : ℕ) → IsCase c → f < length (line_units c) → IsLine c (get_or (line_units c) f 0)
line_is c f valid h = lines_are c valid (get_or (line_units c) f 0) (among_at (line_units c) f 0 h)

-- what is held is within the limits of each family
pub held_line : (c : CaseRows) (held : StockList) (l : ℕ) → IsLine c l → AreStocksOf c held → AtMost (vector_of c l held.list) (limits c l)
held_line c held l line h = held_limited c l held line.is_part h

-- the cover at place f is that of family f at its floor
pub cover_is : (c : CaseRows) (held : List ℕ) (p : ℕ) (floors : List ℕ) (f : ℕ) → f < length (line_units c) → get_or (covers_of c held p floors) f [] ≡ cover_at c held p floors f
cover_is c held p floors f h = get_or-map-range_with_len (cover_at c held p floors) 0 (length (line_units c)) f f [] h (omega arith)

-- there is a cover for each line unit
pub covers_count : (c : CaseRows) (held : List ℕ) (p : ℕ) (floors : List ℕ) → length (covers_of c held p floors) ≡ length (line_units c)
covers_count c held p floors = length-map-range_with_len (cover_at c held p floors) 0 (length (line_units c))

covers_all : (c : CaseRows) (held : StockList) (p : ℕ) (floors : List ℕ) → IsCase c → AreStocksOf c held → All IsCover (covers_of c held.list p floors)
covers_all c held p floors valid h = All-from_get_or IsCover (covers_of c held.list p floors) [] (λ f b.
    let k : f < length (line_units c) = (let n = covers_count c held.list p floors in omega (arith, n, b)) in
    let line = line_is c f valid k in
    subst IsCover (sym (cover_is c held.list p floors f k))
    (is_cover c (get_or (line_units c) f 0) (vector_of c (get_or (line_units c) f 0) held.list) valid line (held_line c held (get_or (line_units c) f 0) line h) p (get_or floors f 0)))

-- ---- the certificate

module _ (c : CaseRows) (held : StockList) (terms : Terms) (o : Outcome) (on : IsPlanOn c held terms o) where
  -- the outcome, in the numbers of its plan
  abbrev pub made : Outcome
  made = outcome_of (ends_of terms.objective) c on.request on.plan

  abbrev cert : Certificate
  cert = certificate_of c held terms made

  -- the numbers of the plan are in the ranges of a certificate's numbers
  pub fits : FitsItsPlace c on.plan
  fits = plan_fits (ends_of terms.objective) (value_of terms.objective) c held.list terms.budget on.plan on.accepted (scores_enclose terms.objective) (scores_leave_room terms.objective) on.is_plan

  -- so is the price of the outcome
  pub price_most : o.price.p ≤ 2 ^ 74
  price_most = subst (λ (z : Outcome). z.price.p ≤ 2 ^ 74) (sym on.is) fits.price

  -- the outcome has a floor for each line unit
  pub floor_each : length o.floors ≡ length (line_units c)
  floor_each = subst (λ (z : Outcome). length z.floors ≡ length (line_units c)) (sym on.is) fits.floor_count

  abbrev own : List (List Node)
  own = covers_of c held.list on.plan.numbers.price.p on.plan.floors

  second_of : cert.covers ≡ covers_of c held.list on.plan.numbers.price.p on.plan.floors → IsSecond cert
  second_of e = record {
    count = ap length e ∙ covers_count c held.list on.plan.numbers.price.p on.plan.floors ∙ lines_counted c;
    covers = subst (λ z. All IsCover z) (sym e) (covers_all c held on.plan.numbers.price.p on.plan.floors on.accepted.valid on.is_held);
  }

  -- with the numbers of its plan the certificate is well formed
  pub made_formed : IsWellFormed (certificate_of c held terms (outcome_of (ends_of terms.objective) c on.request on.plan))
  made_formed = record {
    fewest = on.are_terms.fewest;
    most = on.are_terms.most;
    case = on.accepted.valid;
    budget = on.are_terms.budget;
    price = fits.price;
    money = (fits.money, fits.most_money);
    floor_count = fits.floor_count ∙ lines_counted c;
    floors = fits.floors_most;
    first = λ e. record { objective = on.are_terms.first e; covers = ap (λ b. cond b own []) (ne_eqb terms.format 2 (λ two. omega (arith, e, two))) };
    second = λ e. second_of (ap (λ b. cond b own []) (eq-eqb terms.format 2 e));
    stocks = record { sites = refl; pairs = on.is_plan.count };
    stock_numbers = fits.stocks_most;
    upper = fits.upper;
    bound = fits.bound;
  }

  -- the certificate of a plan is well formed
  pub well_formed : IsWellFormed (certificate_of c held terms o)
  well_formed = subst (λ (z : Outcome). IsWellFormed (certificate_of c held terms z)) (sym on.is) made_formed
