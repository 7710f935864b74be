-- The rows of backorders at a base, as the code keeps them: each row stands for its list. And the shop units' parts.
use Rattle.std.proofs.Common.{◌≡◌, ℕ, zero, suc, ◌+◌, ◌<◌, List, [], ◌∷◌, ◌++◌, length, get_or, map, set, take, sym, ap, ◌∙◌, subst, arith}
use Rattle.std.specs.List.{AllZip}
use Rattle.std.proofs.lemmas.List.{get_or-map, map-append, take_more_set}
use Rattle.list_laws.proofs.Public.{take_on, zip_push}
use Rattle.fixed_interval.specs.Ends.{Ends}
use Rattle.depot_pipeline.specs.declared.Moments.{Moments}
use Rattle.family_numbers.specs.Numbers.{shop_part}
use Rattle.family_points.specs.Inputs.{FamilyBox, shop_vectors}
use Rattle.family_rows.specs.declared.base_at.BaseAt.{BaseAt}
use Rattle.family_rows.specs.Spots.{AreRows}
use Rattle.family_rows.specs.Tabled.{box_numbers, parts_at}

-- what stands for an entry at the place of another is related to that other
pub row_read : {X Y V : Type 0} (f : V → Y) (R : X → Y → Type 0) (xs : List X) (rows : List V) (n : ℕ) (row : V) (d : X) → AllZip R xs (map f rows) → n < length xs
    → row ≡ get_or rows n row → R (get_or xs n d) (f row)
row_read f R [] rows n row d a h e = absurd (omega (arith, h))
row_read f R (x ∷ xs) [] n row d a h e = absurd a
row_read f R (x ∷ xs) (y ∷ rows) zero row d a h e = subst (λ r. R x (f r)) (sym e) a.0
row_read f R (x ∷ xs) (y ∷ rows) (suc n) row d a h e = row_read f R xs rows n row d a.1 (omega (arith, h)) e

-- one more pair of related entries, where an entry takes its place in a list
pub row_put : {X Y V : Type 0} (f : V → Y) (R : X → Y → Type 0) (xs : List X) (rows made : List V) (n : ℕ) (x : X) (row : V) → AllZip R (take n xs) (map f (take n rows))
    → n < length xs → n < length rows → x ≡ get_or xs n x → made ≡ set rows n row → R x (f row) → AllZip R (take (n + 1) xs) (map f (take (n + 1) made))
row_put {X} {Y} {V} f R xs rows made n x row a h k e g r =
    let more : take (n + 1) made ≡ take n rows ++ row ∷ [] = ap (λ (l : List V). take (n + 1) l) g ∙ take_more_set rows n row k in
    let image : map f (take (n + 1) made) ≡ map f (take n rows) ++ f row ∷ [] = ap (map f) more ∙ map-append f (take n rows) (row ∷ []) in
    subst (λ (l : List X). AllZip R l (map f (take (n + 1) made))) (sym (take_on xs n x h e))
    (subst (AllZip R (take n xs ++ x ∷ [])) (sym image) (zip_push R (take n xs) (map f (take n rows)) x (f row) a r))

-- the rows of a list that is another one
pub rows_taken : {V : Type 0} (f : V → List Ends) (b : BaseAt) (rows whole : List V) (n m : ℕ) → n ≡ m → rows ≡ whole → AreRows b (map f (take m whole)) → AreRows b (map f (take n rows))
rows_taken {V} f b rows whole n m e g h =
    subst (λ k. AreRows b (map f (take k rows))) (sym e) (subst (λ (l : List V). AreRows b (map f (take m l))) (sym g) h)

-- what is read of the parts at a base is that of the vector at the same place
pub part_read : (x : FamilyBox) (d : List ℕ) (j n : ℕ) (parts : List (Moments 48)) (part : Moments 48) → parts ≡ parts_at x d j → n < length (shop_vectors x j) → part ≡ get_or parts n part
    → part ≡ shop_part 48 (box_numbers x) j d (get_or (shop_vectors x j) n [])
part_read x d j n parts part e h r =
    r ∙ ap (λ (l : List (Moments 48)). get_or l n part) e ∙ get_or-map (shop_part 48 (box_numbers x) j d) (shop_vectors x j) n [] part h
