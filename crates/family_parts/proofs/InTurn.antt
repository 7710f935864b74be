-- Numbers in turn, from a first one on.
use Rattle.std.proofs.Common.{◌≡◌, ℕ, suc, ◌+◌, ◌-◌, ◌<◌, ◌≤◌, inl, inr, cond, List, [], ◌∷◌, length, get_or, flat_map, sym, ap, subst, arith}
use Rattle.std.specs.List.{range_with_len}
use Rattle.std.proofs.lemmas.Bool.{cases_lt, le-leb, lt-leb}
use Rattle.hull.specs.declared.point.Point.{Point}
use Rattle.hull.specs.Curves.{Among}
use Rattle.hull.proofs.Public.{Flattened, among_flat, among_flattened, in_range, range_has, among_at}
use Rattle.family_parts.specs.Growing.{in_turn}

-- a number from the first one on is the first and as many more
pub turn_up : (first last n : ℕ) → first + n ≤ last → in_turn first last n ≡ first + n
turn_up first last n h = ap (λ b. cond b (first + n) (last - n)) (le-leb (first + n) last h)

-- and a number below it is as many less than the last
pub turn_down : (first last n : ℕ) → last < first + n → in_turn first last n ≡ last - n
turn_down first last n h = ap (λ b. cond b (first + n) (last - n)) (lt-leb (first + n) last h)

-- each is at most the last
pub turn_within : (first last n : ℕ) → in_turn first last n ≤ last
turn_within first last n = elim (cases_lt last (first + n)) [
  | inl l ↦ (let e = turn_down first last n l in omega (arith, e))
  | inr l ↦ (let e = turn_up first last n l in omega (arith, e, l))
]

-- each number up to the last comes at some turn
pub record Turn (first last i : ℕ) : Type 0 where
  pub at : ℕ
  pub within : at ≤ last
  pub is : in_turn first last at ≡ i

pub turn_of : (first last i : ℕ) → i ≤ last → Turn first last i
turn_of first last i h = elim (cases_lt i first) [
  | inl l ↦ record {
    at = last - i;
    within = omega arith;
    is = (let e = turn_down first last (last - i) (let k : last < first + (last - i) = omega (arith, l, h) in k) in omega (arith, e, h));
  }
  | inr l ↦ record {
    at = i - first;
    within = omega (arith, h);
    is = (let e = turn_up first last (i - first) (let k : first + (i - first) ≤ last = omega (arith, l, h) in k) in omega (arith, e, l));
  }
]

-- the rows of numbers in turn are those of the numbers in order
module _ (f : ℕ → List Point) (first last n : ℕ) (all : n ≡ suc last) (v : Point) where
  -- one way
  pub turned_there : Among v (flat_map (λ k. f (in_turn first last k)) (range_with_len 0 n)) → Among v (flat_map f (range_with_len 0 n))
  turned_there m =
      let r : Flattened (λ k. f (in_turn first last k)) (range_with_len 0 n) v = among_flattened (λ k. f (in_turn first last k)) (range_with_len 0 n) v m in
      let top = turn_within first last r.from in
      among_flat f (range_with_len 0 n) (in_turn first last r.from) v (in_range (in_turn first last r.from) 0 n (omega arith) (omega (arith, top, all))) r.in_it

  -- the other way
  pub turned_back : Among v (flat_map f (range_with_len 0 n)) → Among v (flat_map (λ k. f (in_turn first last k)) (range_with_len 0 n))
  turned_back m =
      let r : Flattened f (range_with_len 0 n) v = among_flattened f (range_with_len 0 n) v m in
      let top = range_has r.from 0 n r.there in
      let t : Turn first last r.from = turn_of first last r.from (let k : r.from ≤ last = omega (arith, top.1, all) in k) in
      among_flat (λ k. f (in_turn first last k)) (range_with_len 0 n) t.at v (in_range t.at 0 n (omega arith) (let w = t.within in omega (arith, w, all)))
      (subst (λ i. Among v (f i)) (sym t.is) r.in_it)

-- the rows of the n numbers from a on, by how far they are from a
module _ (f : ℕ → List Point) (a n : ℕ) (v : Point) where
  -- one way
  pub moved_there : Among v (flat_map (λ i. f (a + i)) (range_with_len 0 n)) → Among v (flat_map f (range_with_len a n))
  moved_there m =
      let r : Flattened (λ i. f (a + i)) (range_with_len 0 n) v = among_flattened (λ i. f (a + i)) (range_with_len 0 n) v m in
      let top = range_has r.from 0 n r.there in
      among_flat f (range_with_len a n) (a + r.from) v (in_range (a + r.from) a n (omega arith) (omega (arith, top.1))) r.in_it

  -- the other way
  pub moved_back : Among v (flat_map f (range_with_len a n)) → Among v (flat_map (λ i. f (a + i)) (range_with_len 0 n))
  moved_back m =
      let r : Flattened f (range_with_len a n) v = among_flattened f (range_with_len a n) v m in
      let top = range_has r.from a n r.there in
      let from : r.from ≡ a + (r.from - a) = omega (arith, top.0) in
      among_flat (λ i. f (a + i)) (range_with_len 0 n) (r.from - a) v (in_range (r.from - a) 0 n (omega arith) (omega (arith, top.0, top.1)))
      (subst (λ i. Among v (f i)) from r.in_it)

-- where a member of a list stands
record Place {X : Type 0} (xs : List X) (x d : X) : Type 0 where
  at : ℕ
  within : at < length xs
  is : get_or xs at d ≡ x

place_of : {X : Type 0} (xs : List X) (x d : X) → Among x xs → Place xs x d
place_of [] x d m = absurd m
place_of (y ∷ ys) x d (inl e) = record { at = 0; within = omega arith; is = sym e }
place_of (y ∷ ys) x d (inr m) = (let p = place_of ys x d m in record { at = suc p.at; within = (let w = p.within in omega (arith, w)); is = p.is })

-- the rows of a list, by the places of its members
module _ {X : Type 0} (f : X → List Point) (xs : List X) (d : X) (n : ℕ) (all : n ≡ length xs) (v : Point) where
  -- one way
  pub placed_there : Among v (flat_map (λ i. f (get_or xs i d)) (range_with_len 0 n)) → Among v (flat_map f xs)
  placed_there m =
      let r : Flattened (λ i. f (get_or xs i d)) (range_with_len 0 n) v = among_flattened (λ i. f (get_or xs i d)) (range_with_len 0 n) v m in
      let top = range_has r.from 0 n r.there in
      among_flat f xs (get_or xs r.from d) v (among_at xs r.from d (omega (arith, top.1, all))) r.in_it

  -- the other way
  pub placed_back : Among v (flat_map f xs) → Among v (flat_map (λ i. f (get_or xs i d)) (range_with_len 0 n))
  placed_back m =
      let r : Flattened f xs v = among_flattened f xs v m in
      let p : Place xs r.from d = place_of xs r.from d r.there in
      among_flat (λ i. f (get_or xs i d)) (range_with_len 0 n) p.at v (in_range p.at 0 n (omega arith) (let w = p.within in omega (arith, w, all)))
      (subst (λ (x : X). Among v (f x)) (sym p.is) r.in_it)
