-- What is written is the text of the format.
use Rattle.std.proofs.Common.{◌≡◌, ℕ, ◌^◌, List, ◌++◌, length, append_assoc, refl, sym, ap, ◌∙◌}
use Rattle.std.specs.List.{concat}
use Rattle.std.proofs.lemmas.List.Folds.{concat-append}
use Rattle.line_text.specs.Formats.{Token, Format, each}
use Rattle.line_text.specs.Files.{file_text}
use Rattle.line_text.specs.Texts.{count_line, counted, numbers_from, word_line}
use Rattle.case_lines.specs.Grammar.{case_format}
use Rattle.price_certificate.specs.declared.certificate.Certificate.{Certificate}
use Rattle.price_certificate.specs.Grammar.{objective_line, budget_line, price_line, family_count, floors, covers, stocks}
use Rattle.price_certificate.specs.Certificates.{cert_text}
use lib.Chars.{codes}
use Rattle.list_laws.proofs.Public.{joined_more}

-- a line with their number, and then each
pub counted_written : {A : Type 0} (w : Token) (least most : ℕ) (format : Format A) (xs : List A) (out o new : List ℕ) (n : ℕ) → n ≡ length xs → o ≡ out ++ file_text (count_line w least most) n
    → new ≡ o ++ concat ((each (numbers_from 0 (length xs)) (λ _. format)).print xs) → new ≡ out ++ concat ((counted w least most (λ _. format)).print xs)
counted_written w least most format xs out o new n e h g =
    let head = count_line w least most in
    let lines = (each (numbers_from 0 (length xs)) (λ _. format)).print xs in
    joined_more out (file_text head n) (concat lines) o new h g
    ∙ ap (λ (m : ℕ). out ++ (file_text head m ++ concat lines)) e
    ∙ ap (λ (z : List ℕ). out ++ z) (sym (concat-append (head.print (length xs)) lines))

-- three texts, each written after the one before
pub three_written : (out a b new x y z : List ℕ) → a ≡ out ++ x → b ≡ a ++ y → new ≡ b ++ z → new ≡ out ++ (x ++ (y ++ z))
three_written out a b new x y z h g k = rw (k, g, h) (simp append_assoc)

-- the text of some lines and then others
pub joined : (a b : List Token) (z : List ℕ) → concat b ≡ z → concat (a ++ b) ≡ concat a ++ z
joined a b z h = concat-append a b ∙ ap (λ (x : List ℕ). concat a ++ x) h

-- the parts of a certificate's text
parts_of_text : (c : Certificate) → cert_text c ≡ file_text (count_line (codes "spares-certificate") 1 2) c.format ++ (concat ((objective_line c.format).print c.objective) ++ (file_text case_format c.case ++ (file_text budget_line c.budget
    ++ (concat (price_line.print c.price) ++ (concat ((floors (family_count c.case.parts)).print c.floors) ++ (concat ((covers c.format (family_count c.case.parts)).print c.covers) ++ (concat ((stocks c.case).print c.stocks)
    ++ (file_text (count_line (codes "upper") 0 (2 ^ 85)) c.upper ++ (file_text (count_line (codes "bound") 0 (2 ^ 85)) c.bound ++ codes "end\n")))))))))
parts_of_text c =
    let n = family_count c.case.parts in
    let head = (count_line (codes "spares-certificate") 1 2).print c.format in
    let aim = (objective_line c.format).print c.objective in
    let rows = case_format.print c.case in
    let budget = budget_line.print c.budget in
    let price = price_line.print c.price in
    let floor = (floors n).print c.floors in
    let cover = (covers c.format n).print c.covers in
    let stock = (stocks c.case).print c.stocks in
    let upper = (count_line (codes "upper") 0 (2 ^ 85)).print c.upper in
    let bound = (count_line (codes "bound") 0 (2 ^ 85)).print c.bound in
    let end = (word_line (codes "end")).print tt in
    let after_upper = bound ++ end in
    let after_stock = upper ++ after_upper in
    let after_cover = stock ++ after_stock in
    let after_floor = cover ++ after_cover in
    let after_price = floor ++ after_floor in
    let after_budget = price ++ after_price in
    let after_rows = budget ++ after_budget in
    let after_aim = rows ++ after_rows in
    let after_head = aim ++ after_aim in
    joined head after_head _ (joined aim after_aim _ (joined rows after_rows _ (joined budget after_budget _ (joined price after_price _ (joined floor after_floor _ (joined cover after_cover _ (joined stock after_stock _ (joined upper after_upper _ (joined bound end (codes "end\n") refl)))))))))

-- each part written after the ones before it
pub text_written : (c : Certificate) (out o1 o2 o3 o4 o5 o6 o7 o8 o9 o10 new : List ℕ)
    → o1 ≡ out ++ file_text (count_line (codes "spares-certificate") 1 2) c.format
    → o2 ≡ o1 ++ concat ((objective_line c.format).print c.objective)
    → o3 ≡ o2 ++ file_text case_format c.case
    → o4 ≡ o3 ++ file_text budget_line c.budget
    → o5 ≡ o4 ++ concat (price_line.print c.price)
    → o6 ≡ o5 ++ concat ((floors (family_count c.case.parts)).print c.floors)
    → o7 ≡ o6 ++ concat ((covers c.format (family_count c.case.parts)).print c.covers)
    → o8 ≡ o7 ++ concat ((stocks c.case).print c.stocks)
    → o9 ≡ o8 ++ file_text (count_line (codes "upper") 0 (2 ^ 85)) c.upper
    → o10 ≡ o9 ++ file_text (count_line (codes "bound") 0 (2 ^ 85)) c.bound
    → new ≡ o10 ++ codes "end\n"
    → new ≡ out ++ cert_text c
text_written c out o1 o2 o3 o4 o5 o6 o7 o8 o9 o10 new h1 h2 h3 h4 h5 h6 h7 h8 h9 h10 h11 =
    let e10 = joined_more o9 _ _ o10 new h10 h11 in
    let e9 = joined_more o8 _ _ o9 new h9 e10 in
    let e8 = joined_more o7 _ _ o8 new h8 e9 in
    let e7 = joined_more o6 _ _ o7 new h7 e8 in
    let e6 = joined_more o5 _ _ o6 new h6 e7 in
    let e5 = joined_more o4 _ _ o5 new h5 e6 in
    let e4 = joined_more o3 _ _ o4 new h4 e5 in
    let e3 = joined_more o2 _ _ o3 new h3 e4 in
    let e2 = joined_more o1 _ _ o2 new h2 e3 in
    joined_more out _ _ o1 new h1 e2 ∙ ap (λ (z : List ℕ). out ++ z) (sym (parts_of_text c))
