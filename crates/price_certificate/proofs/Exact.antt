-- The lines of a certificate are exact.
use Rattle.std.proofs.Common.{◌≡◌, ℕ, ◌^◌, ◌≤◌, Bool, true, false, cond, List, [], length, refl, sym, ap, ◌∙◌, get_or, arith}
use Rattle.std.specs.Prelude.{◌==◌}
use Rattle.std.proofs.lemmas.Bool.{eqb-true, eq-eqb}
use Rattle.std.proofs.lemmas.List.{nil_from_length}
use Rattle.line_text.specs.Formats.{one, and_then}
use Rattle.line_text.specs.Files.{line}
use Rattle.line_text.specs.Texts.{number, word, no_field, count_line, counted, Either, Left, Right, either}
use Rattle.line_text.specs.Exact.{IsExactText, IsExact, IsField, IsLine}
use Rattle.line_text.proofs.Public.{one_is_exact, both_are_exact, as_shape_is_exact, spelled_is_exact, line_is_exact, number_line_is_exact, a_field, word_is_exact, word_line_is_exact, count_line_is_exact, counted_is_exact, no_field_is_exact, either_is_exact}
use Rattle.spares_input.specs.Cases.{CaseRows, frame_rows, pair_count}
use Rattle.case_lines.specs.Grammar.{case_format}
use Rattle.case_lines.proofs.Public.{case_is_exact, few_pairs, number_field}
use Rattle.price_certificate.specs.declared.certificate.Objective.{Objective}
use Rattle.price_certificate.specs.declared.certificate.Objective.TheVariants as objective
use Rattle.price_certificate.specs.declared.certificate.Node.{Node}
use Rattle.price_certificate.specs.declared.certificate.Node.TheVariants as node
use Rattle.price_certificate.specs.Grammar.{objective_name, objective_named, objective_word, objective_fields, aims_at_backorders, objective_line, budget_line, price_fields, price_line, family_count, floors, split_fields, node_text, node_of, node_parts, node_line, cover, is_empty, stock_lines, stocks, lists, certificate_format}
use Rattle.line_text.specs.Texts.{number_line}
use Rattle.price_certificate.proofs.Few.{few_families}
use Rattle.price_certificate.proofs.Sequences.{with_sites}
use lib.Chars.{codes}

-- ---- what is aimed at

name_again : (o : Objective) → objective_named (objective_name o) ≡ o
name_again objective.Backorders = refl
name_again objective.LogAvailability = refl

name_is_field : (o : Objective) → IsField (objective_name o)
name_is_field objective.Backorders = a_field (codes "backorders") refl
name_is_field objective.LogAvailability = a_field (codes "log-availability") refl

objective_is_exact : IsExact IsField objective_fields
objective_is_exact =
    as_shape_is_exact IsField (and_then (word (codes "objective")) (λ _. one objective_word)) (λ x. x.1) (λ o. (tt, o)) (λ _. true)
    (both_are_exact IsField _ _ (word_is_exact (codes "objective") (a_field (codes "objective") refl))
    (λ _ _. one_is_exact IsField _ (spelled_is_exact IsField objective_name objective_named (λ _. true) objective.Backorders refl (λ o f. name_again o) (λ o f. name_is_field o))))
    (λ a f. (refl, refl)) (λ b f g. refl)

backorders_is : (o : Objective) → aims_at_backorders o ≡ true → objective.Backorders ≡ o
backorders_is objective.Backorders h = refl
backorders_is objective.LogAvailability h = absurd cc

objective_case : (c : Bool) → IsExact IsLine (cond c (one (line objective_fields)) (no_field objective.Backorders aims_at_backorders))
objective_case true = one_is_exact IsLine _ (line_is_exact objective_fields objective_is_exact (λ a. omega arith))
objective_case false = no_field_is_exact IsLine objective.Backorders aims_at_backorders refl backorders_is

-- ---- numbers

price_is_exact : IsExact IsLine price_line
price_is_exact = one_is_exact IsLine _ (line_is_exact price_fields
    (as_shape_is_exact IsField (and_then (word (codes "price")) (λ _. and_then (one (number 0 (2 ^ 74))) (λ _. one (number 1 (10 ^ 12)))))
    (λ x. record { p = x.1.0; q = x.1.1 }) (λ price. (tt, (price.p, price.q))) (λ _. true)
    (both_are_exact IsField _ _ (word_is_exact (codes "price") (a_field (codes "price") refl)) (λ _ _. both_are_exact IsField _ _ (number_field 0 (2 ^ 74) (omega arith) (omega arith)) (λ _ _. number_field 1 (10 ^ 12) (omega arith) (omega arith))))
    (λ a f. (refl, refl)) (λ s h f. refl)) (λ a. omega arith))

floors_are_exact : (n : ℕ) → n ≤ 2000 → IsExact IsLine (floors n)
floors_are_exact n h = counted_is_exact (codes "floors") n n (λ _. number_line (2 ^ 115)) (a_field (codes "floors") refl) (omega arith) (omega (arith, h)) (λ _. number_line_is_exact (2 ^ 115) (omega arith))

-- ---- covers

split_is_exact : IsExact IsField split_fields
split_is_exact =
    as_shape_is_exact IsField (and_then (word (codes "split")) (λ _. and_then (one (number 0 143)) (λ _. one (number 1 63)))) (λ x. x.1) (λ x. (tt, x)) (λ _. true)
    (both_are_exact IsField _ _ (word_is_exact (codes "split") (a_field (codes "split") refl)) (λ _ _. both_are_exact IsField _ _ (number_field 0 143 (omega arith) (omega arith)) (λ _ _. number_field 1 63 (omega arith) (omega arith))))
    (λ a f. (refl, refl)) (λ b f g. refl)

differ : (m n : ℕ) → (m ≡ n → ⊥) → (s t : List ℕ) → get_or s 0 0 ≡ m → get_or t 0 0 ≡ n → s ≡ t → ⊥
differ m n h s t a b e = h (sym a ∙ ap (λ (x : List ℕ). get_or x 0 0) e ∙ b)

split_apart : (a : ℕ × ℕ) (b : Either (Unit {0}) (Unit {0})) → (line split_fields).print a ≡ (either (line (word (codes "cost"))) (line (word (codes "whole")))).print b → ⊥
split_apart a (Left x) = differ 115 99 (λ h. omega (arith, h)) _ _ refl refl
split_apart a (Right x) = differ 115 119 (λ h. omega (arith, h)) _ _ refl refl

cost_apart : (a b : Unit {0}) → (line (word (codes "cost"))).print a ≡ (line (word (codes "whole"))).print b → ⊥
cost_apart a b = differ 99 119 (λ h. omega (arith, h)) _ _ refl refl

node_text_is_exact : IsExactText IsLine node_text
node_text_is_exact =
    either_is_exact IsLine (line split_fields) (either (line (word (codes "cost"))) (line (word (codes "whole"))))
    (line_is_exact split_fields split_is_exact (λ a. omega arith))
    (either_is_exact IsLine (line (word (codes "cost"))) (line (word (codes "whole")))
    (line_is_exact (word (codes "cost")) (word_is_exact (codes "cost") (a_field (codes "cost") refl)) (λ a. omega arith))
    (line_is_exact (word (codes "whole")) (word_is_exact (codes "whole") (a_field (codes "whole") refl)) (λ a. omega arith))
    (λ a b f g e. cost_apart a b e))
    (λ a b f g e. split_apart a b e)

parts_again : (x : Either (ℕ × ℕ) (Either (Unit {0}) (Unit {0}))) → node_parts (node_of x) ≡ x
parts_again (Left x) = refl
parts_again (Right (Left x)) = refl
parts_again (Right (Right x)) = refl

node_again : (n : Node) → node_of (node_parts n) ≡ n
node_again (node.Split at from) = refl
node_again node.Cost = refl
node_again node.Whole = refl

node_is_exact : IsExact IsLine node_line
node_is_exact =
    as_shape_is_exact IsLine (one node_text) node_of node_parts (λ _. true) (one_is_exact IsLine node_text node_text_is_exact)
    (λ a f. (parts_again a, refl)) (λ b h f. node_again b)

pub cover_is_exact : IsExact IsLine cover
cover_is_exact = counted_is_exact (codes "cover") 1 100000 (λ _. node_line) (a_field (codes "cover") refl) (omega arith) (omega arith) (λ _. node_is_exact)

no_covers : (cs : List (List Node)) → is_empty cs ≡ true → [] ≡ cs
no_covers cs h = sym (nil_from_length cs (eqb-true (length cs) 0 h))

covers_case : (c : Bool) (n : ℕ) → n ≤ 2000 → IsExact IsLine (cond c (counted (codes "covers") n n (λ _. cover)) (no_field [] is_empty))
covers_case true n h = counted_is_exact (codes "covers") n n (λ _. cover) (a_field (codes "covers") refl) (omega arith) (omega (arith, h)) (λ _. cover_is_exact)
covers_case false n h = no_field_is_exact IsLine [] is_empty refl no_covers

-- ---- stocks

stock_lines_are_exact : (n : ℕ) → n ≤ 32000 → IsExact IsLine (stock_lines n)
stock_lines_are_exact n h = counted_is_exact (codes "stocks") n n (λ _. number_line 63) (a_field (codes "stocks") refl) (omega arith) (omega (arith, h)) (λ _. number_line_is_exact 63 (omega arith))

stocks_are_exact : (c : CaseRows) → pair_count (frame_rows c) ≤ 32000 → IsExact IsLine (stocks c)
stocks_are_exact c h =
    as_shape_is_exact IsLine (stock_lines (pair_count (frame_rows c))) (λ list. record { sites = length c.sites; list = list }) (λ s. s.list) (λ s. s.sites == length c.sites)
    (stock_lines_are_exact (pair_count (frame_rows c)) h)
    (λ a f. (refl, eq-eqb (length c.sites) (length c.sites) refl))
    (λ s h f. ap (λ (n : ℕ). with_sites n s.list) (sym (eqb-true s.sites (length c.sites) h)))

-- ---- a certificate

-- the lines of a certificate, of any format or from format 2 on, are an exact format
pub certificate_is_exact : (least : ℕ) → least ≤ 2 → IsExact IsLine (certificate_format least)
certificate_is_exact least l =
    as_shape_is_exact IsLine
    (and_then (count_line (codes "spares-certificate") least 2) (λ format. and_then (objective_line format) (λ _. and_then case_format (λ c. and_then budget_line (λ _. and_then price_line (λ _. lists format c))))))
    (λ x. record { format = x.0; objective = x.1.0; case = x.1.1.0; budget = x.1.1.1.0; price = x.1.1.1.1.0; floors = x.1.1.1.1.1.0; covers = x.1.1.1.1.1.1.0; stocks = x.1.1.1.1.1.1.1.0; upper = x.1.1.1.1.1.1.1.1.0; bound = x.1.1.1.1.1.1.1.1.1.0 })
    (λ c. (c.format, (c.objective, (c.case, (c.budget, (c.price, (c.floors, (c.covers, (c.stocks, (c.upper, (c.bound, tt)))))))))))
    (λ _. true)
    (both_are_exact IsLine _ _ (count_line_is_exact (codes "spares-certificate") least 2 (a_field (codes "spares-certificate") refl) l (omega arith))
    (λ format _. both_are_exact IsLine _ _ (objective_case (format == 2))
    (λ _ _. both_are_exact IsLine _ _ case_is_exact
    (λ c h. both_are_exact IsLine _ _ (count_line_is_exact (codes "budget") 0 (10 ^ 15) (a_field (codes "budget") refl) (omega arith) (omega arith))
    (λ _ _. both_are_exact IsLine _ _ price_is_exact
    (λ _ _. both_are_exact IsLine _ _ (floors_are_exact (family_count c.parts) (few_families c h))
    (λ _ _. both_are_exact IsLine _ _ (covers_case (format == 2) (family_count c.parts) (few_families c h))
    (λ _ _. both_are_exact IsLine _ _ (stocks_are_exact c (few_pairs c h))
    (λ _ _. both_are_exact IsLine _ _ (count_line_is_exact (codes "upper") 0 (2 ^ 85) (a_field (codes "upper") refl) (omega arith) (omega arith))
    (λ _ _. both_are_exact IsLine _ _ (count_line_is_exact (codes "bound") 0 (2 ^ 85) (a_field (codes "bound") refl) (omega arith) (omega arith))
    (λ _ _. word_line_is_exact (codes "end") (a_field (codes "end") refl))))))))))))
    (λ a f. (refl, refl)) (λ d h f. refl)
