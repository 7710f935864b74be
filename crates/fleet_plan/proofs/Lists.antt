-- Lists by what stands in them.
use Rattle.std.proofs.Common.{◌≡◌, ℕ, suc, ◌-◌, inl, inr, List, [], ◌∷◌, map, refl, sym, ap, ap₂, ◌∙◌, subst, arith}
use Rattle.std.specs.List.{AllByRecursion, AllZip}
use Rattle.hull.specs.Curves.{Among}
use Rattle.hull.proofs.Public.{among_map, among_mapped, among_flat, among_flattened, in_range, range_has}
use Rattle.family_points.specs.Vectors.{between, vectors, IsBetween}

-- what is true of each that is among a list is true of all of it
pub all_from_among : {X : Type 0} (P : X → Type 0) (xs : List X) → ((x : X) → Among x xs → P x) → AllByRecursion P xs
all_from_among P [] h = tt
all_from_among P (x ∷ xs) h = (h x (inl refl), all_from_among P xs (λ y a. h y (inr a)))

-- what is true of all of a list is true of each that is among it
pub among_all : {X : Type 0} (P : X → Type 0) (xs : List X) (x : X) → AllByRecursion P xs → Among x xs → P x
among_all P [] x h a = absurd a
among_all P (y ∷ ys) x h (inl e) = subst P (sym e) h.0
among_all P (y ∷ ys) x h (inr a) = among_all P ys x h.1 a

abbrev rest_of : {X : Type 0} → List X → List X
rest_of [] = []
rest_of (x ∷ xs) = xs

abbrev first_or : {X : Type 0} → X → List X → X
first_or d [] = d
first_or d (x ∷ xs) = x

-- lists that are the same begin with the same
pub same_first : {X : Type 0} (x y : X) (xs ys : List X) → x ∷ xs ≡ y ∷ ys → x ≡ y
same_first x y xs ys e = ap (first_or x) e

-- and go on with the same
pub same_rest : {X : Type 0} (x y : X) (xs ys : List X) → x ∷ xs ≡ y ∷ ys → xs ≡ ys
same_rest x y xs ys e = ap rest_of e

-- two maps that give the same list give the same for each member
pub maps_agree : {X Y : Type 0} (f g : X → Y) (xs : List X) → map f xs ≡ map g xs → (x : X) → Among x xs → f x ≡ g x
maps_agree f g [] e x a = absurd a
maps_agree f g (y ∷ ys) e x (inl i) = ap f i ∙ same_first _ _ _ _ e ∙ ap g (sym i)
maps_agree f g (y ∷ ys) e x (inr a) = maps_agree f g ys (same_rest _ _ _ _ e) x a

-- two maps that give the same for each member give the same list
pub map_among : {X Y : Type 0} (f g : X → Y) (xs : List X) → ((x : X) → Among x xs → f x ≡ g x) → map f xs ≡ map g xs
map_among f g [] h = refl
map_among f g (x ∷ xs) h = ap₂ (λ a b. a ∷ b) (h x (inl refl)) (map_among f g xs (λ y a. h y (inr a)))

-- two maps whose results are related for each member give lists that are so, place by place
pub zip_maps : {X A B : Type 0} (R : A → B → Type 0) (f : X → A) (g : X → B) (xs : List X) → ((x : X) → Among x xs → R (f x) (g x)) → AllZip R (map f xs) (map g xs)
zip_maps R f g [] h = tt
zip_maps R f g (x ∷ xs) h = (h x (inl refl), zip_maps R f g xs (λ y a. h y (inr a)))

-- and from such lists the results for each member are related
pub zipped_maps : {X A B : Type 0} (R : A → B → Type 0) (f : X → A) (g : X → B) (xs : List X) → AllZip R (map f xs) (map g xs) → (x : X) → Among x xs → R (f x) (g x)
zipped_maps R f g [] h x a = absurd a
zipped_maps R f g (y ∷ ys) h x (inl e) = subst (λ z. R (f z) (g z)) (sym e) h.0
zipped_maps R f g (y ∷ ys) h x (inr a) = zipped_maps R f g ys h.1 x a

-- ---- boxes

-- a vector that lies between two is among the vectors from the one to the other
pub is_among : (low high v : List ℕ) → IsBetween low high v → Among v (vectors low high)
is_among [] [] [] b = inl refl
is_among [] (h ∷ high) [] b = absurd b.most
is_among [] high (x ∷ v) b = absurd b.least
is_among (l ∷ low) high [] b = absurd b.least
is_among (l ∷ low) [] (x ∷ v) b = absurd b.most
is_among (l ∷ low) (h ∷ high) (x ∷ v) b =
    among_flat (λ y. map (λ w. y ∷ w) (vectors low high)) (between l h) x (x ∷ v)
    (in_range x l (suc h - l) b.least.0 (let m = b.most.0 in omega (arith, m)))
    (among_map (λ w. x ∷ w) (vectors low high) v (is_among low high v (record { least = b.least.1; most = b.most.1 })))

-- a vector among those from one to another lies between these
pub is_between : (low high v : List ℕ) → Among v (vectors low high) → IsBetween low high v
is_between [] [] v (inl i) = subst (λ w. IsBetween [] [] w) (sym i) (record { least = tt; most = tt })
is_between [] [] v (inr a) = absurd a
is_between [] (h ∷ high) v a = absurd a
is_between (l ∷ low) [] v a = absurd a
is_between (l ∷ low) (h ∷ high) v a =
    let m = among_flattened (λ y. map (λ w. y ∷ w) (vectors low high)) (between l h) v a in
    let r = range_has m.from l (suc h - l) m.there in
    let w = among_mapped (λ z. m.from ∷ z) (vectors low high) v m.in_it in
    let b = is_between low high w.from w.there in
    subst (IsBetween (l ∷ low) (h ∷ high)) (sym w.is)
    (record { least = (r.0, b.least); most = (omega (arith, r.0, r.1), b.most) })
