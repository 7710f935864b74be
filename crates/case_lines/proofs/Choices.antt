-- Which of two texts stands there.
use Rattle.std.proofs.Common.{◌≡◌, List, [], ◌∷◌, Option, Some, None, Ok, Err, refl, sym, ap, ◌∙◌}
use Rattle.line_text.specs.Formats.{Token, Text, one, taken}
use Rattle.line_text.specs.Texts.{either, Left, Right}
use Rattle.line_text.proofs.Public.{bad}

refused_at : {A : Type 0} (t : Token) (ts left : List Token) (o : Option A) → taken t ts o ≡ bad left → (o ≡ None) × (t ∷ ts ≡ left)
refused_at t ts left None h = (refl, cc)
refused_at t ts left (Some a) h = absurd cc

nothing_there : {A : Type 0} (text : Text A) (left : List Token) → (one text).read [] ≡ bad left → [] ≡ left
nothing_there text left h = cc

one_refused : {A : Type 0} (text : Text A) (ts left : List Token) → (one text).read ts ≡ bad left → ts ≡ left
one_refused text [] left h = nothing_there text left h
one_refused text (t ∷ ts) left h = (refused_at t ts left (text.read t) h).1

both_refused : {A B : Type 0} (first : Text A) (second : Text B) (ts left : List Token) → (one first).read ts ≡ bad left → (one second).read ts ≡ bad left → (one (either first second)).read ts ≡ bad left
both_refused first second [] left h g = ap (λ (l : List Token). bad l) (nothing_there first left h)
both_refused first second (t ∷ ts) left h g =
    let p = refused_at t ts left (first.read t) h in
    let q = refused_at t ts left (second.read t) g in
    rw (p.0, q.0) (ap (λ (l : List Token). bad l) p.1)

-- a line that neither text reads is the first bad one for the choice between them
pub neither : {A B : Type 0} (first : Text A) (second : Text B) (ts middle left : List Token) → (one first).read ts ≡ Err middle → (one second).read middle ≡ Err left → (one (either first second)).read ts ≡ Err left
neither first second ts middle left h g =
    let same = one_refused first ts middle h in
    let there = one_refused second middle left g in
    both_refused first second ts left (h ∙ ap (λ (l : List Token). bad l) there) (ap (one second).read same ∙ g)

taken_at : (A : Type 0) (t : Token) (ts left : List Token) (o : Option A) (a : A) → taken t ts o ≡ Ok (a, left) → (o ≡ Some a) × (ts ≡ left)
taken_at A t ts left None a h = absurd cc
taken_at A t ts left (Some b) a h =
    let e : (b, ts) ≡ (a, left) = cc in
    (ap (λ (z : A × List Token). Some z.0) e, ap (λ (z : A × List Token). z.1) e)

-- a line that the first text reads is the first one's
pub first_there : {A B : Type 0} (first : Text A) (second : Text B) (ts left : List Token) (a : A) → (one first).read ts ≡ Ok (a, left) → (one (either first second)).read ts ≡ Ok (Left a, left)
first_there first second [] left a h = absurd cc
first_there first second (t ∷ ts) left a h =
    let p = taken_at _ t ts left (first.read t) a h in
    rw (p.0, p.1) refl

second_read : {A B : Type 0} (first : Text A) (second : Text B) (ts left : List Token) (b : B) → (one first).read ts ≡ bad ts → (one second).read ts ≡ Ok (b, left) → (one (either first second)).read ts ≡ Ok (Right b, left)
second_read first second [] left b h g = absurd cc
second_read first second (t ∷ ts) left b h g =
    let p = refused_at t ts (t ∷ ts) (first.read t) h in
    let q = taken_at _ t ts left (second.read t) b g in
    rw (p.0, q.0, q.1) refl

-- a line that only the second text reads is the second one's
pub second_there : {A B : Type 0} (first : Text A) (second : Text B) (ts middle left : List Token) (b : B) → (one first).read ts ≡ Err middle → (one second).read middle ≡ Ok (b, left) → (one (either first second)).read ts ≡ Ok (Right b, left)
second_there first second ts middle left b h g =
    let same = one_refused first ts middle h in
    second_read first second ts left b (h ∙ ap (λ (l : List Token). bad l) (sym same)) (ap (one second).read same ∙ g)
