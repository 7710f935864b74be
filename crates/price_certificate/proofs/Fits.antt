-- Well formed certificates are those that have lines and a case.
use Rattle.std.proofs.Common.{◌≡◌, ◌⊎◌, inl, inr, ℕ, zero, suc, ◌^◌, ◌<◌, ◌≤◌, Bool, true, false, cond, ◌&&◌, List, [], ◌∷◌, ◌++◌, length, get_or, refl, sym, ap, subst, arith}
use Rattle.std.specs.Prelude.{◌==◌}
use Rattle.std.specs.List.{All}
use Rattle.std.proofs.lemmas.Bool.{and_parts, and_from, eqb-true, eq-eqb, ne_eqb, false≢true}
use Rattle.std.proofs.lemmas.List.{nil_from_length}
use Rattle.std.proofs.lemmas.List.Elements.{All-head, All-tail}
use Rattle.line_text.specs.Formats.{Token, Format, one, fits_after}
use Rattle.line_text.specs.Files.{line}
use Rattle.line_text.specs.Texts.{in_range, count_line, numbers_from, counted, no_field}
use Rattle.spares_input.specs.Cases.{CaseRows, frame_rows, pair_count, IsCase}
use Rattle.spares_input.specs.Stocks.{StockList, IsFor}
use Rattle.case_lines.specs.Grammar.{case_format}
use Rattle.case_lines.proofs.Public.{case_fits, range_parts, in_range_holds}
use Rattle.price_certificate.specs.declared.certificate.Certificate.{Certificate}
use Rattle.price_certificate.specs.declared.certificate.Objective.{Objective}
use Rattle.price_certificate.specs.declared.certificate.Objective.TheVariants as objective
use Rattle.price_certificate.specs.declared.certificate.Node.{Node}
use Rattle.price_certificate.specs.declared.certificate.Node.TheVariants as node
use Rattle.price_certificate.specs.Grammar.{objective_fields, aims_at_backorders, objective_line, budget_line, price_line, family_count, floors, node_line, cover, is_empty, covers, stock_lines, stocks, certificate_format}
use Rattle.line_text.specs.Texts.{number_line}
use Rattle.price_certificate.specs.Certificates.{AreUpTo, IsNode, IsCover, IsFirst, IsSecond, IsWellFormed}
use lib.Chars.{codes}

-- ---- numbers

count_fits : (w : Token) (least most n : ℕ) → least ≤ n → n ≤ most → (count_line w least most).fits n ≡ true
count_fits w least most n h g = and_from _ _ refl (and_from _ _ refl (in_range_holds least most n h g))

-- a count that fits its line is within the line's range
pub count_within : (w : Token) (least most n : ℕ) → (count_line w least most).fits n ≡ true → (least ≤ n) × (n ≤ most)
count_within w least most n h =
    let r = in_range least most n in
    range_parts least most n (and_parts true r (and_parts true (true && r) h).1).1

-- ---- lists of values in one format

each_fits : {A : Type 0} (format : Format A) (P : A → Type 0) → ((a : A) → P a → format.fits a ≡ true) → (xs before : List A) (first : ℕ) → All P xs → fits_after (λ _ _. format) before (numbers_from first (length xs)) xs ≡ true
each_fits format P f [] before first h = refl
each_fits format P f (x ∷ xs) before first h = and_from _ _ (f x (All-head P x xs h)) (each_fits format P f xs (before ++ x ∷ []) (suc first) (All-tail P x xs h))

counted_fits : {A : Type 0} (w : Token) (least most : ℕ) (format : Format A) (P : A → Type 0) → ((a : A) → P a → format.fits a ≡ true) → (xs : List A) → least ≤ length xs → length xs ≤ most → All P xs → (counted w least most (λ _. format)).fits xs ≡ true
counted_fits w least most format P f xs h g all =
    and_from _ _ refl (and_from _ _ (count_fits w least most (length xs) h g) (each_fits format P f xs [] 0 all))

each_at : {A : Type 0} (format : Format A) (before : List A) (keys : List ℕ) (xs : List A) (d : A) → fits_after (λ _ _. format) before keys xs ≡ true → (i : ℕ) → i < length xs → format.fits (get_or xs i d) ≡ true
each_at format before keys [] d h i lt = absurd (omega (arith, lt))
each_at format before [] (x ∷ xs) d h i lt = absurd (false≢true h)
each_at format before (k ∷ ks) (x ∷ xs) d h zero lt = (and_parts (format.fits x) (fits_after (λ _ _. format) (before ++ x ∷ []) ks xs) h).0
each_at format before (k ∷ ks) (x ∷ xs) d h (suc i) lt = each_at format (before ++ x ∷ []) ks xs d (and_parts (format.fits x) (fits_after (λ _ _. format) (before ++ x ∷ []) ks xs) h).1 i (omega (arith, lt))

pub counted_parts : {A : Type 0} (w : Token) (least most : ℕ) (format : Format A) (xs : List A) → (counted w least most (λ _. format)).fits xs ≡ true → ((least ≤ length xs) × (length xs ≤ most)) × ((i : ℕ) (d : A) → i < length xs → format.fits (get_or xs i d) ≡ true)
counted_parts w least most format xs h =
    let n = (count_line w least most).fits (length xs) in
    let rows = fits_after (λ _ _. format) [] (numbers_from 0 (length xs)) xs in
    let p = and_parts n rows (and_parts true (n && rows) h).1 in
    (count_within w least most (length xs) p.0, λ i d lt. each_at format [] (numbers_from 0 (length xs)) xs d p.1 i lt)

-- ---- nodes and covers

node_fits : (n : Node) → IsNode n → node_line.fits n ≡ true
node_fits (node.Split at from) h = and_from _ _ refl (and_from _ _ refl (and_from _ _ refl (and_from _ _ (in_range_holds 0 143 at (omega arith) h.0) (in_range_holds 1 63 from h.1.0 h.1.1))))
node_fits node.Cost h = refl
node_fits node.Whole h = refl

cover_fits : (nodes : List Node) → IsCover nodes → cover.fits nodes ≡ true
cover_fits nodes h = counted_fits (codes "cover") 1 100000 node_line IsNode node_fits nodes h.some h.few h.nodes

numbers_fit : (w : Token) (n most : ℕ) (xs : List ℕ) → length xs ≡ n → AreUpTo most xs → (counted w n n (λ _. number_line most)).fits xs ≡ true
numbers_fit w n most xs e h = counted_fits w n n (number_line most) (λ k. k ≤ most) (λ k le. in_range_holds 0 most k (omega arith) le) xs (omega (arith, e)) (omega (arith, e)) h

stocks_fit : (c : CaseRows) (s : StockList) → IsFor c s → AreUpTo 63 s.list → (stocks c).fits s ≡ true
stocks_fit c s h g = and_from _ _ (eq-eqb s.sites (length c.sites) h.sites) (numbers_fit (codes "stocks") (pair_count (frame_rows c)) 63 s.list h.pairs g)

-- ---- the two formats

format_is : (n : ℕ) → 1 ≤ n → n ≤ 2 → (n ≡ 1) ⊎ (n ≡ 2)
format_is n h g = grind arith

-- the line of the aim, where the format has one
abbrev pub objective_at : Bool → Format Objective
objective_at b = cond b (one (line objective_fields)) (no_field objective.Backorders aims_at_backorders)

-- the lines of n covers, where the format has them
abbrev pub covers_at : Bool → ℕ → Format (List (List Node))
covers_at b n = cond b (counted (codes "covers") n n (λ _. cover)) (no_field [] is_empty)

parts_fit : (c : Certificate) → IsWellFormed c → ((objective_line c.format).fits c.objective ≡ true) × ((covers c.format (family_count c.case.parts)).fits c.covers ≡ true)
parts_fit c w =
    elim (format_is c.format w.fewest w.most) [
      | inl e ↦
          let f = w.first e in
          let not_two : (c.format == 2) ≡ false = ne_eqb c.format 2 (λ t. omega (arith, e, t)) in (
            subst (λ (b : Bool). (objective_at b).fits c.objective ≡ true) (sym not_two) (and_from _ _ (ap aims_at_backorders f.objective) refl),
            subst (λ (b : Bool). (covers_at b (family_count c.case.parts)).fits c.covers ≡ true) (sym not_two) (and_from _ _ (ap is_empty f.covers) refl),
          )
      | inr e ↦
          let s = w.second e in
          let two : (c.format == 2) ≡ true = eq-eqb c.format 2 e in (
            subst (λ (b : Bool). (objective_at b).fits c.objective ≡ true) (sym two) refl,
            subst (λ (b : Bool). (covers_at b (family_count c.case.parts)).fits c.covers ≡ true) (sym two)
                (counted_fits (codes "covers") (family_count c.case.parts) (family_count c.case.parts) cover IsCover cover_fits c.covers (omega (arith, s.count)) (omega (arith, s.count)) s.covers),
          )
    ]

-- a well formed certificate is one that the grammar can write
pub well_formed_fits : (c : Certificate) → IsWellFormed c → (certificate_format 1).fits c ≡ true
well_formed_fits c w =
    let p = parts_fit c w in
    and_from _ _ refl
    (and_from _ _ (count_fits (codes "spares-certificate") 1 2 c.format w.fewest w.most)
    (and_from _ _ p.0
    (and_from _ _ (case_fits c.case w.case)
    (and_from _ _ (count_fits (codes "budget") 0 (10 ^ 15) c.budget (omega arith) w.budget)
    (and_from _ _ (and_from _ _ refl (and_from _ _ refl (and_from _ _ (in_range_holds 0 (2 ^ 74) c.price.p (omega arith) w.price) (in_range_holds 1 (10 ^ 12) c.price.q w.money.0 w.money.1))))
    (and_from _ _ (numbers_fit (codes "floors") (family_count c.case.parts) (2 ^ 115) c.floors w.floor_count w.floors)
    (and_from _ _ p.1
    (and_from _ _ (stocks_fit c.case c.stocks w.stocks w.stock_numbers)
    (and_from _ _ (count_fits (codes "upper") 0 (2 ^ 85) c.upper (omega arith) w.upper)
    (and_from _ _ (count_fits (codes "bound") 0 (2 ^ 85) c.bound (omega arith) w.bound) refl))))))))))

-- ---- from lines to well formed

node_is : (n : Node) → node_line.fits n ≡ true → IsNode n
node_is (node.Split at from) h =
    let a = in_range 0 143 at in
    let b = in_range 1 63 from in
    let p = and_parts a b (and_parts true (a && b) (and_parts true (true && (a && b)) (and_parts true (true && (true && (a && b))) h).1).1).1 in
    ((range_parts 0 143 at p.0).1, range_parts 1 63 from p.1)
node_is node.Cost h = tt
node_is node.Whole h = tt

cover_is : (nodes : List Node) → cover.fits nodes ≡ true → IsCover nodes
cover_is nodes h =
    let p = counted_parts (codes "cover") 1 100000 node_line nodes h in
    record { some = p.0.0; few = p.0.1; nodes = λ k d lt. node_is (get_or nodes k d) (p.1 k d lt) }

numbers_are : (w : Token) (n most : ℕ) (xs : List ℕ) → (counted w n n (λ _. number_line most)).fits xs ≡ true → (length xs ≡ n) × AreUpTo most xs
numbers_are w n most xs h =
    let p = counted_parts w n n (number_line most) xs h in
    (omega (arith, p.0.0, p.0.1), λ k d lt. (range_parts 0 most (get_or xs k d) (p.1 k d lt)).1)

first_is : (c : Certificate) (b : Bool) → b ≡ false → (objective_at b).fits c.objective ≡ true → (covers_at b (family_count c.case.parts)).fits c.covers ≡ true → IsFirst c
first_is c true e h g = absurd (false≢true (sym e))
first_is c false e h g = record {
  objective = aims c.objective (and_parts (aims_at_backorders c.objective) true h).0;
  covers = nil_from_length c.covers (eqb-true (length c.covers) 0 (and_parts (is_empty c.covers) true g).0);
}
  where
    aims : (o : Objective) → aims_at_backorders o ≡ true → o ≡ objective.Backorders
    aims objective.Backorders k = refl
    aims objective.LogAvailability k = absurd (false≢true k)

second_is : (c : Certificate) (b : Bool) → b ≡ true → (covers_at b (family_count c.case.parts)).fits c.covers ≡ true → IsSecond c
second_is c false e g = absurd (false≢true e)
second_is c true e g =
    let n = family_count c.case.parts in
    let p = counted_parts (codes "covers") n n cover c.covers g in
    record { count = omega (arith, p.0.0, p.0.1); covers = λ k d lt. cover_is (get_or c.covers k d) (p.1 k d lt) }

stocks_are : (c : CaseRows) (s : StockList) → (stocks c).fits s ≡ true → IsFor c s × AreUpTo 63 s.list
stocks_are c s h =
    let list = (stock_lines (pair_count (frame_rows c))).fits s.list in
    let p = and_parts (s.sites == length c.sites) list h in
    let q = numbers_are (codes "stocks") (pair_count (frame_rows c)) 63 s.list p.1 in
    (record { sites = eqb-true s.sites (length c.sites) p.0; pairs = q.0 }, q.1)

module _ (c : Certificate) (h : (certificate_format 1).fits c ≡ true) where
  abbrev n : ℕ
  n = family_count c.case.parts

  abbrev head : Bool
  head = (count_line (codes "spares-certificate") 1 2).fits c.format

  abbrev aim : Bool
  aim = (objective_line c.format).fits c.objective

  abbrev rows : Bool
  rows = case_format.fits c.case

  abbrev budget : Bool
  budget = budget_line.fits c.budget

  abbrev price : Bool
  price = price_line.fits c.price

  abbrev floor : Bool
  floor = (floors n).fits c.floors

  abbrev cover_part : Bool
  cover_part = (covers c.format n).fits c.covers

  abbrev stock : Bool
  stock = (stocks c.case).fits c.stocks

  abbrev upper : Bool
  upper = (count_line (codes "upper") 0 (2 ^ 85)).fits c.upper

  abbrev bound : Bool
  bound = (count_line (codes "bound") 0 (2 ^ 85)).fits c.bound

  record Parts : Type 0 where
    of_format : head ≡ true
    of_aim : aim ≡ true
    of_case : rows ≡ true
    of_budget : budget ≡ true
    of_price : price ≡ true
    of_floors : floor ≡ true
    of_covers : cover_part ≡ true
    of_stocks : stock ≡ true
    of_upper : upper ≡ true
    of_bound : bound ≡ true

  parts : Parts
  parts =
      let t9 = bound && true in
      let t8 = upper && t9 in
      let t7 = stock && t8 in
      let t6 = cover_part && t7 in
      let t5 = floor && t6 in
      let t4 = price && t5 in
      let t3 = budget && t4 in
      let t2 = rows && t3 in
      let t1 = aim && t2 in
      let p0 = and_parts head t1 (and_parts true (head && t1) h).1 in
      let p1 = and_parts aim t2 p0.1 in
      let p2 = and_parts rows t3 p1.1 in
      let p3 = and_parts budget t4 p2.1 in
      let p4 = and_parts price t5 p3.1 in
      let p5 = and_parts floor t6 p4.1 in
      let p6 = and_parts cover_part t7 p5.1 in
      let p7 = and_parts stock t8 p6.1 in
      let p8 = and_parts upper t9 p7.1 in
      let p9 = and_parts bound true p8.1 in
      record { of_format = p0.0; of_aim = p1.0; of_case = p2.0; of_budget = p3.0; of_price = p4.0; of_floors = p5.0; of_covers = p6.0; of_stocks = p7.0; of_upper = p8.0; of_bound = p9.0 }

  -- where a certificate fits its lines, so does its case
  pub fits_case : case_format.fits c.case ≡ true
  fits_case = parts.of_case

  -- a certificate that fits its lines has a stock for each pair of its case, each at most 63
  pub fits_stocks : IsFor c.case c.stocks × AreUpTo 63 c.stocks.list
  fits_stocks = stocks_are c.case c.stocks parts.of_stocks

  -- a certificate that fits its lines and has a valid case is well formed
  pub fits_well_formed : IsCase c.case → IsWellFormed c
  fits_well_formed valid =
      let f = count_within (codes "spares-certificate") 1 2 c.format parts.of_format in
      let p = in_range 0 (2 ^ 74) c.price.p in
      let q = in_range 1 (10 ^ 12) c.price.q in
      let money = and_parts p q (and_parts true (p && q) (and_parts true (true && (p && q)) parts.of_price).1).1 in
      let fl = numbers_are (codes "floors") n (2 ^ 115) c.floors parts.of_floors in
      record {
        fewest = f.0;
        most = f.1;
        case = valid;
        budget = (count_within (codes "budget") 0 (10 ^ 15) c.budget parts.of_budget).1;
        price = (range_parts 0 (2 ^ 74) c.price.p money.0).1;
        money = range_parts 1 (10 ^ 12) c.price.q money.1;
        floor_count = fl.0;
        floors = fl.1;
        first = λ e. first_is c (c.format == 2) (ne_eqb c.format 2 (λ t. omega (arith, e, t))) parts.of_aim parts.of_covers;
        second = λ e. second_is c (c.format == 2) (eq-eqb c.format 2 e) parts.of_covers;
        stocks = fits_stocks.0;
        stock_numbers = fits_stocks.1;
        upper = (count_within (codes "upper") 0 (2 ^ 85) c.upper parts.of_upper).1;
        bound = (count_within (codes "bound") 0 (2 ^ 85) c.bound parts.of_bound).1;
      }

-- format 2 is one of the two formats
pub later_fits : (c : Certificate) → (certificate_format 2).fits c ≡ true → (certificate_format 1).fits c ≡ true
later_fits c h =
    let rest = (objective_line c.format).fits c.objective && (case_format.fits c.case && (budget_line.fits c.budget && (price_line.fits c.price && ((floors (family_count c.case.parts)).fits c.floors && ((covers c.format (family_count c.case.parts)).fits c.covers && ((stocks c.case).fits c.stocks && ((count_line (codes "upper") 0 (2 ^ 85)).fits c.upper && ((count_line (codes "bound") 0 (2 ^ 85)).fits c.bound && true)))))))) in
    let p = and_parts ((count_line (codes "spares-certificate") 2 2).fits c.format) rest (and_parts true ((count_line (codes "spares-certificate") 2 2).fits c.format && rest) h).1 in
    let f = count_within (codes "spares-certificate") 2 2 c.format p.0 in
    and_from _ _ refl (and_from _ _ (count_fits (codes "spares-certificate") 1 2 c.format (omega (arith, f.0)) f.1) p.1)

-- a certificate of format 2 that the grammar can write is one of the grammar of format 2 alone
pub format_fits : (c : Certificate) → c.format ≡ 2 → (certificate_format 1).fits c ≡ true → (certificate_format 2).fits c ≡ true
format_fits c e h =
    let rest = (objective_line c.format).fits c.objective && (case_format.fits c.case && (budget_line.fits c.budget && (price_line.fits c.price && ((floors (family_count c.case.parts)).fits c.floors && ((covers c.format (family_count c.case.parts)).fits c.covers && ((stocks c.case).fits c.stocks && ((count_line (codes "upper") 0 (2 ^ 85)).fits c.upper && ((count_line (codes "bound") 0 (2 ^ 85)).fits c.bound && true)))))))) in
    let p = and_parts ((count_line (codes "spares-certificate") 1 2).fits c.format) rest (and_parts true ((count_line (codes "spares-certificate") 1 2).fits c.format && rest) h).1 in
    and_from _ _ refl (and_from _ _ (count_fits (codes "spares-certificate") 2 2 c.format (omega (arith, e)) (omega (arith, e))) p.1)
