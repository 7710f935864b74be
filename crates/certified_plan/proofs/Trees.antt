-- What the trees of covers have: nodes within their ranges, few of them, and one leaf that is shown whole.
use Rattle.std.proofs.Common.{◌≡◌, ℕ, suc, ◌+◌, ◌-◌, ◌*◌, ◌≤◌, Bool, true, false, cond, List, [], ◌∷◌, length, refl, arith}
use Rattle.std.specs.Prelude.{⊤, ◌==◌, nat_le}
use Rattle.std.specs.List.{AllByRecursion}
use Rattle.std.proofs.lemmas.List.{length-append}
use Rattle.list_laws.proofs.Public.{each_append}
use Rattle.price_certificate.specs.declared.place.Place.{Place}
use Rattle.price_certificate.specs.Certificates.{IsNode}
use Rattle.price_certificate.specs.Covers.{Tree, Whole, Cost, Cut, Corner, put, IsLawful, nodes_of, reach, trimmed_from, trimmed}

-- ---- one leaf is shown whole

-- of the leaves of the tree one is a whole one, and all that it cuts off are left to cost
abbrev pub HasOneWhole : Tree → Type 0
HasOneWhole Whole = ⊤
HasOneWhole Cost = ⊥
HasOneWhole (Cut at from one other) = HasOneWhole one × (other ≡ Cost)

whole_step : (p floor at : ℕ) (x : Place) (xs : List Place) (b : Bool) → HasOneWhole (trimmed_from p floor (suc at) xs)
    → HasOneWhole (cond b (Cut at (reach p floor x) (trimmed_from p floor (suc at) xs) Cost) (trimmed_from p floor (suc at) xs))
whole_step p floor at x xs true h = (h, refl)
whole_step p floor at x xs false h = h

whole_from : (p floor at : ℕ) (xs : List Place) → HasOneWhole (trimmed_from p floor at xs)
whole_from p floor at [] = tt
whole_from p floor at (x ∷ xs) = whole_step p floor at x xs (nat_le (reach p floor x) x.most) (whole_from p floor (suc at) xs)

whole_at : (p floor : ℕ) (xs : List Place) (b : Bool) → HasOneWhole (cond b Whole (trimmed_from p floor 0 xs))
whole_at p floor xs true = tt
whole_at p floor xs false = whole_from p floor 0 xs

-- a trimmed cover has one whole leaf
pub trimmed_whole : (p floor : ℕ) (xs : List Place) → HasOneWhole (trimmed p floor xs)
trimmed_whole p floor xs = whole_at p floor xs (p == 0)

-- ---- how many nodes

-- each tree has a node at least
pub some_nodes : (tree : Tree) → 1 ≤ length (nodes_of tree)
some_nodes Whole = omega arith
some_nodes Cost = omega arith
some_nodes (Cut at from one other) = omega arith

few_step : (p floor at : ℕ) (x : Place) (xs : List Place) (b : Bool) → length (nodes_of (trimmed_from p floor (suc at) xs)) ≤ 2 * length xs + 1
    → length (nodes_of (cond b (Cut at (reach p floor x) (trimmed_from p floor (suc at) xs) Cost) (trimmed_from p floor (suc at) xs))) ≤ 2 * suc (length xs) + 1
few_step p floor at x xs true h =
    let e = length-append (nodes_of (trimmed_from p floor (suc at) xs)) (nodes_of Cost) in
    omega (arith, h, e)
few_step p floor at x xs false h = omega (arith, h)

few_from : (p floor at : ℕ) (xs : List Place) → length (nodes_of (trimmed_from p floor at xs)) ≤ 2 * length xs + 1
few_from p floor at [] = omega arith
few_from p floor at (x ∷ xs) = few_step p floor at x xs (nat_le (reach p floor x) x.most) (few_from p floor (suc at) xs)

few_at : (p floor : ℕ) (xs : List Place) (b : Bool) → length (nodes_of (cond b Whole (trimmed_from p floor 0 xs))) ≤ 2 * length xs + 1
few_at p floor xs true = omega arith
few_at p floor xs false = few_from p floor 0 xs

-- a trimmed cover has at most two nodes for each place, and one
pub few_nodes : (p floor : ℕ) (xs : List Place) → length (nodes_of (trimmed p floor xs)) ≤ 2 * length xs + 1
few_nodes p floor xs = few_at p floor xs (p == 0)

-- ---- nodes within their ranges

-- the nodes of a lawful tree over at most 144 places have numbers in a certificate's range
pub lawful_nodes : (n : ℕ) (tree : Tree) (low high : Corner) → n ≤ 144 → ((i : ℕ) → high i ≤ 63) → IsLawful n tree low high → AllByRecursion IsNode (nodes_of tree)
lawful_nodes n Whole low high few most h = (tt, tt)
lawful_nodes n Cost low high few most h = (tt, tt)
lawful_nodes n (Cut at from one other) low high few most h =
    let at_in = h.0.0 in
    let more = h.0.1.0 in
    let no_more = h.0.1.1 in
    let top = most at in (
      (omega (arith, at_in, few), (omega (arith, more), omega (arith, no_more, top))),
      each_append IsNode (nodes_of one) (nodes_of other)
          (lawful_nodes n one low (put at (from - 1) high) few (λ i. below (i == at) i) h.1.0)
          (lawful_nodes n other (put at from low) high few most h.1.1),
    )
  where
    below : (b : Bool) (i : ℕ) → cond b (from - 1) (high i) ≤ 63
    below true i = (let t = most at in let u = h.0.1.1 in omega (arith, t, u))
    below false i = most i
