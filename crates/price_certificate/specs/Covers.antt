-- Covers: trees of boxes of stocks, and the trimmed cover of a family.
use Rattle.std.specs.Prelude.{◌≡◌, ⊤, ℕ, suc, ◌+◌, ◌-◌, ◌*◌, ◌/◌, ◌%◌, ◌<◌, ◌≤◌, max, true, false, ◌==◌, nat_le, List, [], ◌∷◌, ◌++◌, length, map, get_or, if◌then◌else◌}
use Rattle.std.proofs.Common.{◌⊎◌}
use Rattle.std.specs.Int.{div_ceil}
use Rattle.std.specs.List.{range_with_len}
use Rattle.spares_input.specs.Frames.{part_at, shop_units_among}
use Rattle.spares_input.specs.Stocks.{limit_at}
use Rattle.spares_input.specs.Cases.{CaseRows}
use Rattle.price_certificate.specs.declared.place.Place.{Place}
use Rattle.price_certificate.specs.declared.certificate.Node.{Node}
use Rattle.price_certificate.specs.declared.certificate.Node.TheVariants as node

-- ---- trees

-- A tree of boxes: a leaf is shown by all of its vectors or by the cost of its lowest corner, and every other box is
-- cut in two.
pub data Tree : Type 0 where
  Whole : Tree
  Cost : Tree
  Cut : ℕ → ℕ → Tree → Tree → Tree

-- its nodes in preorder
abbrev pub nodes_of : Tree → List Node
nodes_of Whole = node.Whole ∷ []
nodes_of Cost = node.Cost ∷ []
nodes_of (Cut at from first second) = node.Split at from ∷ (nodes_of first ++ nodes_of second)

-- a corner of a box has a stock at each place
abbrev pub Corner : Type 0
Corner = ℕ → ℕ

-- the corner with this stock at one place
abbrev pub put : ℕ → ℕ → Corner → Corner
put at stock corner i = if i == at then stock else corner i

-- each cut is at one of these places and leaves stocks on both sides; the first part has fewer than `from` there
abbrev pub IsLawful : ℕ → Tree → Corner → Corner → Type 0
IsLawful places Whole low high = ⊤
IsLawful places Cost low high = ⊤
IsLawful places (Cut at from first second) low high =
    ((at < places) × ((low at < from) × (from ≤ high at)))
    × (IsLawful places first low (put at (from - 1) high) × IsLawful places second (put at from low) high)

-- P holds for the boxes of all leaves that are shown by their cost
abbrev pub AllCostLeaves : (Corner → Corner → Type 0) → Tree → Corner → Corner → Type 0
AllCostLeaves P Whole low high = ⊤
AllCostLeaves P Cost low high = P low high
AllCostLeaves P (Cut at from first second) low high = AllCostLeaves P first low (put at (from - 1) high)
    × AllCostLeaves P second (put at from low) high

-- P holds for the boxes of all leaves that are shown whole
abbrev pub AllWholeLeaves : (Corner → Corner → Type 0) → Tree → Corner → Corner → Type 0
AllWholeLeaves P Whole low high = P low high
AllWholeLeaves P Cost low high = ⊤
AllWholeLeaves P (Cut at from first second) low high = AllWholeLeaves P first low (put at (from - 1) high)
    × AllWholeLeaves P second (put at from low) high

-- ---- the places of a family

-- a place of zeros, the result of a look-up past the last place
abbrev pub no_place : Place
no_place = record { held = 0; most = 0; cost = 0 }

-- the corner of the held stock at each place
abbrev pub corner_of_held : List Place → Corner
corner_of_held places i = (get_or places i no_place).held

-- the corner of the largest stock allowed at each place
abbrev pub most_at : List Place → Corner
most_at places i = (get_or places i no_place).most

-- the held stock is at most the largest allowed, and one unit costs something
pub record IsPlace (x : Place) : Type 0 where
  pub within : x.held ≤ x.most
  pub cost : 1 ≤ x.cost

-- the cost of a corner above the held stocks, if the first of the places is place i
abbrev pub added_from : ℕ → List Place → Corner → ℕ
added_from i [] corner = 0
added_from i (x ∷ xs) corner = (corner i - x.held) * x.cost + added_from (suc i) xs corner

-- the cost of a corner above the held stocks
abbrev pub added : List Place → Corner → ℕ
added places corner = added_from 0 places corner

-- ---- the trimmed cover

-- the least stock above the held one whose cost at this place alone reaches the floor, at p per unit of money
abbrev pub reach : ℕ → ℕ → Place → ℕ
reach p floor x = x.held + max 1 (div_ceil floor (p * x.cost))

-- a cut at each place that may have such a stock, with the second part shown by its cost; the rest is shown whole
abbrev pub trimmed_from : ℕ → ℕ → ℕ → List Place → Tree
trimmed_from p floor at [] = Whole
trimmed_from p floor at (x ∷ xs) =
    if nat_le (reach p floor x) x.most then Cut at (reach p floor x) (trimmed_from p floor (suc at) xs) Cost
    else trimmed_from p floor (suc at) xs

-- the trimmed cover, which has no cuts at the price 0
abbrev pub trimmed : ℕ → ℕ → List Place → Tree
trimmed p floor places = if p == 0 then Whole else trimmed_from p floor 0 places

-- The tree is lawful, each box shown by its cost costs at least the floor, and the others begin at the held stocks and
-- are within the largest stocks allowed.
pub record IsTrim (p floor : ℕ) (places : List Place) (tree : Tree) : Type 0 where
  pub lawful : IsLawful (length places) tree (corner_of_held places)
      (most_at places)
  pub cost : AllCostLeaves (λ low high. floor ≤ p * added places low) tree (corner_of_held places)
      (most_at places)
  pub whole : AllWholeLeaves (λ low high. (i : ℕ) → (low i ≡ corner_of_held places i) × (high i ≤ most_at places i))
      tree
      (corner_of_held places) (most_at places)

-- the nodes after place `at`: one cut is added, or none because the place may not have the stock
abbrev pub CutsAt : ℕ → ℕ → ℕ → Place → List Node → List Node → ℕ → Type 0
CutsAt p floor at x before after n =
    ((n ≡ 1) × ((nat_le (reach p floor x) x.most ≡ true) × (after ≡ before ++ node.Split at (reach p floor x) ∷ [])))
    ⊎ ((n ≡ 0) × ((nat_le (reach p floor x) x.most ≡ false) × (after ≡ before)))

-- ---- the places of a case's family

-- a line unit and its shop units
abbrev pub parts_of_family : CaseRows → ℕ → List ℕ
parts_of_family c l = l ∷ shop_units_among c.parts l

-- the count of places in a vector of the family
abbrev pub place_count : CaseRows → ℕ → ℕ
place_count c l = length c.sites * length (parts_of_family c l)

-- part p at site k with this held stock
abbrev pub place_for : CaseRows → ℕ → ℕ → ℕ → Place
place_for c p k held = record { held = held; most = limit_at c.parts p k; cost = (part_at c.parts p).cost }

-- place m of the vectors: site by site the line unit and its shop units
abbrev pub place_at : CaseRows → ℕ → List ℕ → ℕ → Place
place_at c l held m =
    place_for c (get_or (parts_of_family c l) (m % length (parts_of_family c l)) 0) (m / length (parts_of_family c l))
    (get_or held m 0)

-- the places of the vectors of a case's family, with these held stocks
abbrev pub places_of : CaseRows → ℕ → List ℕ → List Place
places_of c l held = map (place_at c l held) (range_with_len 0 (place_count c l))

-- no place holds more than its largest stock allowed
abbrev pub AreWithinMost : CaseRows → ℕ → List ℕ → Type 0
AreWithinMost c l held = (m : ℕ) → m < place_count c l → (place_at c l held m).held ≤ (place_at c l held m).most
