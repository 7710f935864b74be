-- A pass over the parts puts each shop unit to the family of its line unit.
use Rattle.std.proofs.Common.{◌≡◌, ◌≢◌, ◌==◌, inl, inr, ℕ, ◌+◌, ◌<◌, true, false, cond, List, [], ◌∷◌, ◌++◌, length, map, get_or, set, Option, None, Some, bytes_eq, sym, ap, ap₂, ◌∙◌, subst, arith, append-nil, length-set, get_or-set_other, get_or-set_same}
use Rattle.std.specs.List.{IsDistinct}
use Rattle.std.specs.Option.{option_and_then}
use Rattle.std.proofs.Math.ListN.{get_or-append}
use Rattle.std.proofs.Math.Seq.{get_or-append_seam}
use Rattle.std.proofs.lemmas.Bool.{cases_eq}
use Rattle.std.proofs.lemmas.List.{get_or-map, length-map, map-set, map_push}
use Rattle.list_laws.proofs.Public.{filter_next}
use Rattle.spares_input.specs.Rows.{is_line}
use Rattle.spares_input.specs.Frames.{is_shop_of, line_of, lines_below, part_at, part_names, place_of, shops_below}
use Rattle.spares_input.specs.Building.{AreFamiliesBelow, ids}
use Rattle.spares_input.specs.declared.rows.PartId.{PartId}
use Rattle.spares_input.specs.declared.rows.PartRow.{PartRow}
use Rattle.spares_input.proofs.PartFacts.{part_named}
use Rattle.spares_input.proofs.Standing.{shop_of_line, no_shop_unplaced}

module _ (parts : List PartRow) (p : ℕ) (xs : List PartId) (below : ids xs ≡ lines_below parts p) where
  -- the line units up to a part that is one
  pub line_put : (ys : List PartId) (line : PartId) → line.0 ≡ p → is_line (part_at parts p) ≡ true → ys ≡ xs ++ line ∷ [] → ids ys ≡ lines_below parts (p + 1)
  line_put ys line same h more =
      ap ids more ∙ map_push (λ (q : PartId). q.0) xs line ∙ ap₂ (λ (zs : List ℕ) (q : ℕ). zs ++ q ∷ []) below same
      ∙ sym (filter_next (λ q. is_line (part_at parts q)) p ∙ ap (λ b. lines_below parts p ++ cond b (p ∷ []) []) h)

  -- and up to one that isn't
  pub shop_passed : is_line (part_at parts p) ≡ false → ids xs ≡ lines_below parts (p + 1)
  shop_passed h =
      below ∙ sym (filter_next (λ q. is_line (part_at parts q)) p ∙ ap (λ b. lines_below parts p ++ cond b (p ∷ []) []) h ∙ append-nil (lines_below parts p))

-- the shop units below the next part, if that is one of l
one_more : (parts : List PartRow) (l p : ℕ) → is_shop_of (part_at parts l) (part_at parts p) ≡ true → shops_below parts l (p + 1) ≡ shops_below parts l p ++ p ∷ []
one_more parts l p h = filter_next (λ q. is_shop_of (part_at parts l) (part_at parts q)) p ∙ ap (λ b. shops_below parts l p ++ cond b (p ∷ []) []) h

-- and if it isn't
none_more : (parts : List PartRow) (l p : ℕ) → is_shop_of (part_at parts l) (part_at parts p) ≡ false → shops_below parts l (p + 1) ≡ shops_below parts l p
none_more parts l p h =
    filter_next (λ q. is_shop_of (part_at parts l) (part_at parts q)) p ∙ ap (λ b. shops_below parts l p ++ cond b (p ∷ []) []) h ∙ append-nil (shops_below parts l p)

-- a line unit is put to no other family
pub line_passed : (parts : List PartRow) (p : ℕ) (rows : List (List ℕ)) → line_of parts p ≡ None → AreFamiliesBelow parts p rows → AreFamiliesBelow parts (p + 1) rows
line_passed parts p rows h i = record {
  whole = i.whole;
  each = λ l b. i.each l b ∙ ap (λ xs. l ∷ xs) (sym (none_more parts l p (no_shop_unplaced parts p l b h)));
}

place_within : (parts : List PartRow) (o : Option (List ℕ)) (m : ℕ) → option_and_then (λ name. place_of name (part_names parts)) o ≡ Some m → m < length parts
place_within parts None m h = absurd cc
place_within parts (Some name) m h = (part_named parts name m h).0

-- the line unit of a shop unit is one of the parts
pub line_within : (parts : List PartRow) (p m : ℕ) → line_of parts p ≡ Some m → m < length parts
line_within parts p m h = place_within parts (part_at parts p).parent m h

module _ (parts : List PartRow) (distinct : IsDistinct bytes_eq (part_names parts)) (p m : ℕ) (line : line_of parts p ≡ Some m) where
  put : (rows : List (List ℕ)) → m < length parts → AreFamiliesBelow parts p rows → AreFamiliesBelow parts (p + 1) (set rows m (get_or rows m [] ++ p ∷ []))
  put rows within i = record {
    whole = length-set rows m (get_or rows m [] ++ p ∷ []) ∙ i.whole;
    each = λ l b. elim (cases_eq l m) [
      | inl e ↦ subst (λ z. get_or (set rows m (get_or rows m [] ++ p ∷ [])) z [] ≡ z ∷ shops_below parts z (p + 1)) (sym e) own
      | inr n ↦ get_or-set_other rows m l (get_or rows m [] ++ p ∷ []) [] n ∙ i.each l b ∙ ap (λ xs. l ∷ xs) (sym (none_more parts l p (other l b n)))
    ];
  }
    where
      own : get_or (set rows m (get_or rows m [] ++ p ∷ [])) m [] ≡ m ∷ shops_below parts m (p + 1)
      own =
          let count = i.whole in
          let shop : is_shop_of (part_at parts m) (part_at parts p) ≡ true = shop_of_line parts distinct p m m within line ∙ grind arith in
          get_or-set_same rows m (get_or rows m [] ++ p ∷ []) [] (omega (arith, count, within)) ∙ ap (λ xs. xs ++ p ∷ []) (i.each m within) ∙ ap (λ xs. m ∷ xs) (sym (one_more parts m p shop))

      other : (l : ℕ) → l < length parts → l ≢ m → is_shop_of (part_at parts l) (part_at parts p) ≡ false
      other l b n = shop_of_line parts distinct p l m b line ∙ apart l n
        where
          apart : (l : ℕ) → l ≢ m → (m == l) ≡ false
          apart l n = grind arith

  -- a shop unit is put to the family of its line unit
  pub shop_put : {X : Type 0} (parts_of : X → List PartId) (rows : List X) (old new : X) (shop : PartId) → m < length parts → shop.0 ≡ p → old ≡ get_or rows m old → parts_of new ≡ parts_of old ++ shop ∷ []
      → AreFamiliesBelow parts p (map (λ v. ids (parts_of v)) rows) → AreFamiliesBelow parts (p + 1) (map (λ v. ids (parts_of v)) (set rows m new))
  shop_put {X} parts_of rows old new shop within same is more i =
      subst (AreFamiliesBelow parts (p + 1)) (sym (map-set f rows m new ∙ ap (λ z. set (map f rows) m z) whole)) (put (map f rows) within i)
    where
      f : X → List ℕ
      f v = ids (parts_of v)

      whole : ids (parts_of new) ≡ get_or (map (λ v. ids (parts_of v)) rows) m [] ++ p ∷ []
      whole =
          let count = i.whole in
          ap ids more ∙ map_push (λ (q : PartId). q.0) (parts_of old) shop
          ∙ ap₂ (λ (xs : List ℕ) (q : ℕ). xs ++ q ∷ []) (sym (get_or-map (λ v. ids (parts_of v)) rows m old [] (let n = length-map rows (λ v. ids (parts_of v)) in omega (arith, count, within, n)) ∙ ap (λ v. ids (parts_of v)) (sym is))) same

-- one part alone more
pub row_more : {X : Type 0} (f : X → List ℕ) (rows : List X) (row : X) (p : ℕ) → length rows ≡ p → ((q : ℕ) → q < p → get_or (map f rows) q [] ≡ q ∷ []) → f row ≡ p ∷ []
    → (q : ℕ) → q < p + 1 → get_or (map f (rows ++ row ∷ [])) q [] ≡ q ∷ []
row_more f rows row p n each own q b =
    let m : length (map f rows) ≡ length rows = length-map rows f in
    let last : get_or (map f rows ++ f row ∷ []) p [] ≡ f row = subst (λ z. get_or (map f rows ++ f row ∷ []) z [] ≡ f row) (m ∙ n) (get_or-append_seam (map f rows) (f row) [] []) in
    ap (λ z. get_or z q []) (map_push f rows row) ∙ elim (cases_eq q p) [
      | inl e ↦ ap (λ z. get_or (map f rows ++ f row ∷ []) z []) e ∙ last ∙ own ∙ ap (λ z. z ∷ []) (sym e)
      | inr o ↦ get_or-append (map f rows) (f row ∷ []) [] q (omega (arith, m, n, b, o)) ∙ each q (omega (arith, b, o))
    ]
