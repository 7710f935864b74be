-- A valid frame has families: each shop unit's line unit is one part.
use Rattle.std.proofs.Common.{◌≡◌, ℕ, ◌<◌, true, false, List, [], length, get_or, bytes_eq, Option, Some, None, is_none, IfSome, inl, inr, refl, sym, ap, ◌∙◌, subst, arith, Bool, ◌≤◌}
use Rattle.std.specs.Option.{option_map_or, option_and_then}
use Rattle.std.proofs.lemmas.Bool.{false≢true, cases_order}
use Rattle.std.proofs.lemmas.List.{get_or-map, length-map}
use Rattle.std.proofs.lemmas.List.Quantifiers.{position-Some}
use Rattle.std.proofs.lemmas.Map.Made.{AllPairs-from_IsDistinct}
use Rattle.std.proofs.lemmas.Slice.Eq.{bytes_eq-Decides}
use Rattle.std.proofs.lemmas.List.Sums.{length-filter, count_by-le-length}
use Rattle.std.proofs.lemmas.List.FromFn.{length-range_with_len}
use Rattle.list_laws.proofs.Public.{none_of}
use Rattle.spares_input.specs.Rows.{is_line, no_part}
use Rattle.spares_input.specs.Frames.{IsFrame, part_at, part_names, place_of}
use Rattle.spares_input.specs.Cases.{CaseRows, IsCase, frame_rows}
use Rattle.fleet_model.proofs.FamilyLaws.{HasLine, HasFamilies}
use Rattle.fleet_model.specs.Rows.{all_parts, line_units}

length_names : (c : CaseRows) → length (part_names c.parts) ≡ length c.parts
length_names c = length-map c.parts (λ r. r.name)

-- parts of one name are one part
pub same_part : (c : CaseRows) (p i : ℕ) → IsFrame (frame_rows c) → p < length c.parts → i < length c.parts
    → (part_at c.parts p).name ≡ (part_at c.parts i).name → p ≡ i
same_part c p i f lp li e = elim (cases_order p i) [
  | inl q ↦ q
  | inr (inl l) ↦ absurd (apart p i l li (name_of p lp ∙ e ∙ sym (name_of i li)))
  | inr (inr l) ↦ absurd (apart i p l lp (name_of i li ∙ sym e ∙ sym (name_of p lp)))
]
  where
    name_of : (k : ℕ) → k < length c.parts → get_or (part_names c.parts) k [] ≡ (part_at c.parts k).name
    name_of k h = get_or-map (λ r. r.name) c.parts k no_part [] h

    apart : (a b : ℕ) → a < b → b < length c.parts → get_or (part_names c.parts) a [] ≡ get_or (part_names c.parts) b [] → ⊥
    apart a b l m h = AllPairs-from_IsDistinct {eq = bytes_eq} bytes_eq-Decides (part_names c.parts) f.distinct_parts a b [] l (omega (arith, length_names c)) h

line_at : (c : CaseRows) (name : List ℕ) (o : Option ℕ) → IsFrame (frame_rows c) → place_of name (part_names c.parts) ≡ o
    → option_map_or (λ l. is_line (part_at c.parts l)) o false ≡ true → HasLine c name
line_at c name None f e h = absurd (false≢true h)
line_at c name (Some i) f e h =
    let found = position-Some (bytes_eq name) (part_names c.parts) i [] e in
    let within : i < length c.parts = omega (arith, found.0, length_names c) in
    let named : name ≡ (part_at c.parts i).name =
    (bytes_eq-Decides name (get_or (part_names c.parts) i [])).0 found.1 ∙ get_or-map (λ r. r.name) c.parts i no_part [] within in
    record {
      line = i;
      is_part = within;
      no_parent = none_of (part_at c.parts i).parent h;
      named = (bytes_eq-Decides (part_at c.parts i).name name).1 (sym named);
      alone = λ q l t. same_part c q i f l within ((bytes_eq-Decides (part_at c.parts q).name name).0 t ∙ named);
    }

parent_at : (c : CaseRows) (p : ℕ) (o : Option (List ℕ)) → IsFrame (frame_rows c) → p < length c.parts → (part_at c.parts p).parent ≡ o
    → IfSome o (λ name. HasLine c name)
parent_at c p None f l e = tt
parent_at c p (Some name) f l e =
    line_at c name (place_of name (part_names c.parts)) f refl
    (subst (λ o. option_map_or (λ i. is_line (part_at c.parts i)) (option_and_then (λ n. place_of n (part_names c.parts)) o) false ≡ true) e
    (f.parents p l (ap is_none e)))

-- in a valid case each shop unit has its line unit
pub has_families : (c : CaseRows) → IsCase c → HasFamilies c
has_families c h = record { parent_of = λ p l. parent_at c p (part_at c.parts p).parent h.frame l refl }

-- a valid case has at most 2,000 line units
pub few_lines : (c : CaseRows) → IsCase c → length (line_units c) ≤ 2000
few_lines c valid =
    let test : ℕ → Bool = λ p. is_line (part_at c.parts p) in
    omega (arith, length-filter test (all_parts c), count_by-le-length test (all_parts c), length-range_with_len 0 (length c.parts), valid.frame.most_parts)
