-- Options and results.
use Rattle.std.proofs.Common.{◌≡◌, ℕ, ◌≤◌, true, nat_lt, Option, Some, Result, None, option_map, Ok, refl, is_none, OnOk, Err, ap, if◌then◌else◌, le-ltb}
use Rattle.std.proofs.lemmas.Bool.{false≢true}

-- an option that is no Some is None
pub not_some : {A : Type 0} (o : Option A) → ((x : A) → o ≡ Some x → ⊥) → o ≡ None
not_some None h = refl
not_some (Some x) h = absurd (h x refl)

-- where one thing follows from another, a success that promises the one promises the other
pub after_ok : {T E : Type 0} {P Q : Type 0} (r : Result T E) → (P → Q) → OnOk r P → OnOk r Q
after_ok (Ok v) f h = f h
after_ok (Err e) f h = h

-- what is mapped to none was none
pub map_none : {A B : Type 0} (f : A → B) (o : Option A) → option_map f o ≡ None → o ≡ None
map_none f None h = refl
map_none f (Some x) h = absurd (cc)

-- no fault is answered where the second number is at most the first
pub else_none : {A : Type 0} (a b : ℕ) (x : A) → b ≤ a → (if nat_lt a b then Some x else None) ≡ None
else_none a b x h = ap (λ t. if t then Some x else None) (le-ltb a b h)

-- an option with nothing is None
pub none_of : {A : Type 0} (o : Option A) → is_none o ≡ true → o ≡ None
none_of None h = refl
none_of (Some x) h = absurd (false≢true h)
