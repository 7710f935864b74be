-- What is written is the text of the format.
use Rattle.std.specs.Prelude.{not, is_some, is_none}
use Rattle.std.proofs.Common.{◌≡◌, ℕ, Bool, true, false, List, [], ◌∷◌, ◌++◌, length, Option, Some, None, refl, sym, ap, ◌∙◌, append_assoc}
use Rattle.std.proofs.lemmas.List.{append-nil}
use Rattle.std.proofs.lemmas.List.Folds.{concat-append}
use Rattle.std.specs.Fmt.{decimal}
use Rattle.std.specs.List.{concat}
use Rattle.list_laws.proofs.Public.{joined_more}
use Rattle.line_text.specs.Files.{line, file_text}
use Rattle.fixed_interval.specs.Text.{fixed_text}
use Rattle.spares_input.specs.declared.rows.SiteRow.{SiteRow}
use Rattle.spares_input.specs.declared.rows.PartRow.{PartRow}
use Rattle.spares_input.specs.declared.rows.RateRow.{RateRow}
use Rattle.case_lines.specs.Grammar.{part_fields, part_lines, parts, parts_line, are_weighted, header, header_of, weights_in, count_in, Pair, pair_of, rate_fields}
use Rattle.case_lines.specs.Fields.{part_text, rate_text}

-- what ends a line goes after what stands behind a comma
over : (a rest whole end : List ℕ) → rest ++ end ≡ whole → (a ++ 44 ∷ rest) ++ end ≡ a ++ 44 ∷ whole
over a rest whole end h = append_assoc a (44 ∷ rest) end ∙ ap (λ (z : List ℕ). a ++ 44 ∷ z) h

lay : (a b c d e f g end : List ℕ) → f ++ end ≡ g → (a ++ 44 ∷ (b ++ 44 ∷ (c ++ 44 ∷ (d ++ 44 ∷ (e ++ 44 ∷ f))))) ++ end ≡ a ++ 44 ∷ (b ++ 44 ∷ (c ++ 44 ∷ (d ++ 44 ∷ (e ++ 44 ∷ g))))
lay a b c d e f g end h =
    let e5 = over e f g end h in
    let e4 = over d (e ++ 44 ∷ f) (e ++ 44 ∷ g) end e5 in
    let e3 = over c (d ++ 44 ∷ (e ++ 44 ∷ f)) (d ++ 44 ∷ (e ++ 44 ∷ g)) end e4 in
    let e2 = over b (c ++ 44 ∷ (d ++ 44 ∷ (e ++ 44 ∷ f))) (c ++ 44 ∷ (d ++ 44 ∷ (e ++ 44 ∷ g))) end e3 in
    over a (b ++ 44 ∷ (c ++ 44 ∷ (d ++ 44 ∷ (e ++ 44 ∷ f)))) (b ++ 44 ∷ (c ++ 44 ∷ (d ++ 44 ∷ (e ++ 44 ∷ g)))) end e2

abbrev row_of : List ℕ → Option (List ℕ) → ℕ → ℕ → ℕ → ℕ → ℕ → PartRow
row_of name parent cost per_system max_depot max_base weight = record { name = name; parent = parent; cost = cost; per_system = per_system; max_depot = max_depot; max_base = max_base; weight = weight }

part_is : (weighted : Bool) (name : List ℕ) (parent : Option (List ℕ)) (cost per_system max_depot max_base weight : ℕ)
    → (line (part_fields weighted)).print (row_of name parent cost per_system max_depot max_base weight) ≡ part_text (is_none parent) weighted (row_of name parent cost per_system max_depot max_base weight)
part_is true name None cost per d b w =
    lay name [] (decimal cost) (decimal per) (decimal d) (decimal b ++ 44 ∷ decimal w) (decimal b ++ 44 ∷ (decimal w ++ 10 ∷ [])) (10 ∷ []) (append_assoc (decimal b) (44 ∷ decimal w) (10 ∷ []))
part_is true name (Some p) cost per d b w =
    lay name p (decimal cost) [] (decimal d) (decimal b ++ 44 ∷ []) (decimal b ++ 44 ∷ 10 ∷ []) (10 ∷ []) (append_assoc (decimal b) (44 ∷ []) (10 ∷ []))
part_is false name None cost per d b w =
    lay name [] (decimal cost) (decimal per) (decimal d) (decimal b) (decimal b ++ 10 ∷ []) (10 ∷ []) refl
part_is false name (Some p) cost per d b w =
    lay name p (decimal cost) [] (decimal d) (decimal b) (decimal b ++ 10 ∷ []) (10 ∷ []) refl

-- the line of a part is its fields with commas between them, empty where the part has none
pub part_printed : (weighted : Bool) (r : PartRow) → (line (part_fields weighted)).print r ≡ part_text (is_none r.parent) weighted r
part_printed weighted r = part_is weighted r.name r.parent r.cost r.per_system r.max_depot r.max_base r.weight

-- ---- all parts

parts_at : (weighted : Bool) (n : ℕ) (rows : List PartRow)
    → concat (parts_line.print (header weighted n) ++ (part_lines (weights_in (header weighted n)) (count_in (header weighted n))).print rows) ≡ file_text parts_line (header weighted n) ++ concat ((part_lines weighted n).print rows)
parts_at true n rows = concat-append (parts_line.print (header true n)) ((part_lines true n).print rows)
parts_at false n rows = concat-append (parts_line.print (header false n)) ((part_lines false n).print rows)

-- the line before the parts, and then a line for each
pub parts_printed : (rows : List PartRow) → file_text parts rows ≡ file_text parts_line (header_of rows) ++ concat ((part_lines (are_weighted rows) (length rows)).print rows)
parts_printed rows = parts_at (are_weighted rows) (length rows) rows

-- ---- one write after the other

-- seven fields and a line feed, written one after the other
pub seven_steps : (out o1 o2 o3 o4 o5 o6 o7 o8 o9 o10 o11 o12 o13 a b c d e f g : List ℕ)
    → o1 ≡ out ++ a → o2 ≡ o1 ++ 44 ∷ [] → o3 ≡ o2 ++ b → o4 ≡ o3 ++ 44 ∷ [] → o5 ≡ o4 ++ c → o6 ≡ o5 ++ 44 ∷ [] → o7 ≡ o6 ++ d → o8 ≡ o7 ++ 44 ∷ [] → o9 ≡ o8 ++ e → o10 ≡ o9 ++ 44 ∷ []
    → o11 ≡ o10 ++ f → o12 ≡ o11 ++ g → o13 ≡ o12 ++ 10 ∷ []
    → o13 ≡ out ++ (a ++ 44 ∷ (b ++ 44 ∷ (c ++ 44 ∷ (d ++ 44 ∷ (e ++ 44 ∷ (f ++ (g ++ 10 ∷ [])))))))
seven_steps out o1 o2 o3 o4 o5 o6 o7 o8 o9 o10 o11 o12 o13 a b c d e f g h1 h2 h3 h4 h5 h6 h7 h8 h9 h10 h11 h12 h13 =
    let comma = 44 ∷ [] in
    let s12 = g ++ 10 ∷ [] in
    let s11 = f ++ s12 in
    let s10 = 44 ∷ s11 in
    let s9 = e ++ s10 in
    let s8 = 44 ∷ s9 in
    let s7 = d ++ s8 in
    let s6 = 44 ∷ s7 in
    let s5 = c ++ s6 in
    let s4 = 44 ∷ s5 in
    let s3 = b ++ s4 in
    let s2 = 44 ∷ s3 in
    let e12 = joined_more o11 g (10 ∷ []) o12 o13 h12 h13 in
    let e11 = joined_more o10 f s12 o11 o13 h11 e12 in
    let e10 = joined_more o9 comma s11 o10 o13 h10 e11 in
    let e9 = joined_more o8 e s10 o9 o13 h9 e10 in
    let e8 = joined_more o7 comma s9 o8 o13 h8 e9 in
    let e7 = joined_more o6 d s8 o7 o13 h7 e8 in
    let e6 = joined_more o5 comma s7 o6 o13 h6 e7 in
    let e5 = joined_more o4 c s6 o5 o13 h5 e6 in
    let e4 = joined_more o3 comma s5 o4 o13 h4 e5 in
    let e3 = joined_more o2 b s4 o3 o13 h3 e4 in
    let e2 = joined_more o1 comma s3 o2 o13 h2 e3 in
    joined_more out a s2 o1 o13 h1 e2

-- what is false exactly where there is a value says that there is none
pub is_none_of : {A : Type 0} (o : Option A) (b : Bool) → is_some o ≡ not b → b ≡ is_none o
is_none_of None true h = refl
is_none_of None false h = absurd cc
is_none_of (Some x) true h = absurd cc
is_none_of (Some x) false h = refl

-- ---- rates

abbrev pair_at : Bool → Bool → ℕ → ℕ → List ℕ → List ℕ → Pair
pair_at line depot i j part site = record { part = i; site = j; part_name = part; site_name = site; line = line; depot = depot }

rate_is : (line_unit depot : Bool) (i j : ℕ) (part site : List ℕ) (r : RateRow) → (line (rate_fields (pair_at line_unit depot i j part site))).print r ≡ rate_text line_unit depot part site r
rate_is true true i j part site r =
    lay part site [] [] [] (fixed_text 2 r.repair_days) (fixed_text 2 r.repair_days ++ 10 ∷ []) (10 ∷ []) refl
rate_is true false i j part site r =
    lay part site (fixed_text 4 r.demand) (fixed_text 4 r.repair_here) [] (fixed_text 2 r.repair_days) (fixed_text 2 r.repair_days ++ 10 ∷ []) (10 ∷ []) refl
rate_is false true i j part site r =
    lay part site [] [] (fixed_text 4 r.share) (fixed_text 2 r.repair_days) (fixed_text 2 r.repair_days ++ 10 ∷ []) (10 ∷ []) refl
rate_is false false i j part site r =
    lay part site [] (fixed_text 4 r.repair_here) (fixed_text 4 r.share) (fixed_text 2 r.repair_days) (fixed_text 2 r.repair_days ++ 10 ∷ []) (10 ∷ []) refl

-- the line of rates is its fields with commas between them, empty where the pair has none
pub rate_printed : (i : ℕ) (p : PartRow) (j : ℕ) (s : SiteRow) (r : RateRow) → (line (rate_fields (pair_of i p j s))).print r ≡ rate_text (is_none p.parent) s.depot p.name s.name r
rate_printed i p j s r = rate_is (is_none p.parent) s.depot i j p.name s.name r

-- bytes with none appended are the same bytes
pub nothing_more : (o : List ℕ) → o ≡ o ++ []
nothing_more o = sym (append-nil o)
