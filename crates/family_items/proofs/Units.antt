-- The shop units of a line unit.
use Rattle.std.proofs.Common.{◌≡◌, ℕ, zero, suc, ◌<◌, ◌≤◌, true, false, inl, inr, List, [], ◌∷◌, length, get_or, bytes_eq, Option, Some, None, refl, sym, ap, ◌∙◌, arith}
use Rattle.std.specs.List.{AllByRecursion}
use Rattle.std.specs.Option.{option_and_then, option_map_or}
use Rattle.std.proofs.lemmas.Bool.{cases_Bool, false≢true, cases_eq}
use Rattle.std.proofs.lemmas.List.{length-map}
use Rattle.std.proofs.lemmas.List.Quantifiers.{position-Some}
use Rattle.list_laws.proofs.Public.{all_follow, passed}
use Rattle.spares_input.specs.Rows.{is_line}
use Rattle.spares_input.specs.Frames.{is_shop_of, line_of, part_at, part_names, place_of}
use Rattle.spares_input.specs.Cases.{CaseRows, IsCase}
use Rattle.spares_input.specs.declared.rows.PartRow.{PartRow}
use Rattle.fleet_model.specs.Rows.{shop_units}
use Rattle.demand_rates.proofs.Public.{line_of_none, other_shop}
use Rattle.family_items.specs.Inputs.{IsLine, IsShop}

line_within : (c : CaseRows) (o : Option (List ℕ)) (l : ℕ) → option_and_then (λ name. place_of name (part_names c.parts)) o ≡ Some l → l < length c.parts
line_within c None l h = cc
line_within c (Some name) l h =
    let found = position-Some (bytes_eq name) (part_names c.parts) l [] h in
    omega (arith, found.0, length-map c.parts (λ (r : PartRow). r.name))

not_line : (line r : PartRow) → is_shop_of line r ≡ true → is_line r ≡ false
not_line line r h = elim (cases_Bool (is_line r)) [
  | inl t ↦ absurd (false≢true (sym (line_of_none line r t) ∙ h))
  | inr f ↦ f
]

module _ (c : CaseRows) (valid : IsCase c) (l i : ℕ) (wl : l < length c.parts) (wi : i < length c.parts) (own : is_shop_of (part_at c.parts l) (part_at c.parts i) ≡ true) where
  owner : (o : Option ℕ) → line_of c.parts i ≡ o → o ≡ Some l
  owner None e =
      absurd (false≢true (sym (ap (λ o. option_map_or (λ m. is_line (part_at c.parts m)) o false) e)
      ∙ valid.frame.parents i wi (not_line (part_at c.parts l) (part_at c.parts i) own)))
  owner (Some m) e = elim (cases_eq l m) [
    | inl s ↦ ap (λ n. Some n) (sym s)
    | inr ne ↦ absurd (false≢true (sym (other_shop c i m l valid e (line_within c (part_at c.parts i).parent m e) wl ne) ∙ own))
  ]

  pub owner_is : line_of c.parts i ≡ Some l
  owner_is = owner (line_of c.parts i) refl

-- what holds of all elements of a list holds of each
pub all_at : (P : ℕ → Type 0) (xs : List ℕ) (k : ℕ) → AllByRecursion P xs → k < length xs → P (get_or xs k 0)
all_at P [] k a h = absurd (omega arith)
all_at P (x ∷ xs) zero a h = a.0
all_at P (x ∷ xs) (suc k) a h = all_at P xs k a.1 (omega arith)

-- each of a line unit's shop units is one
pub shops_all : (c : CaseRows) (l : ℕ) → IsCase c → IsLine c l → AllByRecursion (IsShop c l) (shop_units c l)
shops_all c l valid line =
    all_follow (λ i. (i < length c.parts) × (is_shop_of (part_at c.parts l) (part_at c.parts i) ≡ true)) (IsShop c l) (shop_units c l)
    (λ i p. record { is_part = p.0; line_is = owner_is c valid l i line.is_part p.0 p.1 })
    (passed (λ i. is_shop_of (part_at c.parts l) (part_at c.parts i)) (length c.parts) (length c.parts) 0 (omega arith))

-- each entry of a line unit's shop units is a shop unit of it
pub shop_at : (c : CaseRows) (l k : ℕ) → IsCase c → IsLine c l → k < length (shop_units c l) → IsShop c l (get_or (shop_units c l) k 0)
shop_at c l k valid line h = all_at (IsShop c l) (shop_units c l) k (shops_all c l valid line) h

-- a line unit has at most 8 shop units
pub few_shops : (c : CaseRows) (l : ℕ) → IsCase c → IsLine c l → length (shop_units c l) ≤ 8
few_shops c l valid line = valid.frame.few_shop_units l line.is_part

-- a part without a line unit is one
pub line_at : (c : CaseRows) (p : ℕ) → IsCase c → p < length c.parts → line_of c.parts p ≡ None → IsLine c p
line_at c p valid w e = record {
  is_part = w;
  no_parent = elim (cases_Bool (is_line (part_at c.parts p))) [
    | inl t ↦ t
    | inr n ↦ absurd (false≢true (sym (ap (λ o. option_map_or (λ m. is_line (part_at c.parts m)) o false) e) ∙ valid.frame.parents p w n))
  ];
}
