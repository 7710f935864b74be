-- Corners of boxes as functions of places, and as lists of stocks.
use Rattle.std.proofs.Common.{◌≡◌, ℕ, ◌-◌, ◌<◌, ◌≤◌, inl, inr, true, ◌&&◌, List, length, get_or, set, sym, ap₂, ◌∙◌, subst, arith, lt-ltb, le-leb}
use Rattle.std.proofs.lemmas.List.{get_or-set_same, get_or-set_other, length-set}
use Rattle.std.proofs.lemmas.Bool.{cases_eq}
use Rattle.family_points.specs.declared.bounds.Bounds.{Bounds}
use Rattle.price_certificate.specs.Covers as cover
use Rattle.price_certificate.specs.Covers.{Tree, Corner, put}
use Rattle.price_certificate.proofs.Public.{put_here, put_there}
use Rattle.gap_rules.specs.Boxes.{AtMost}
use Rattle.gap_rules.specs.Covers.{fewer, as_many, has_parts}
use Rattle.gap_rules.specs.Trees.{HasBothParts}
use Rattle.gap_rules.proofs.Public.{at_most_set_high, at_most_set_low}

-- the list has what the corner has at the first n places, and no more
pub record Lists (n : ℕ) (corner : Corner) (xs : List ℕ) : Type 0 where
  pub long : length xs ≡ n
  pub same : (i : ℕ) → i < n → corner i ≡ get_or xs i 0

pub put_lists : (n at v : ℕ) (corner : Corner) (xs : List ℕ) → at < n → Lists n corner xs → Lists n (put at v corner) (set xs at v)
put_lists n at v corner xs there h = record {
  long = length-set xs at v ∙ h.long;
  same = λ i b. elim (cases_eq i at) [
    | inl e ↦ subst (λ k. put at v corner k ≡ get_or (set xs at v) k 0) (sym e)
        (put_here at v corner ∙ sym (get_or-set_same xs at v 0 (let w = h.long in omega (arith, w, there))))
    | inr o ↦ put_there at v corner i o ∙ h.same i b ∙ sym (get_or-set_other xs at i v 0 o)
  ];
}

-- a box between two corners, with both as lists
pub record Boxed (n : ℕ) (low high : Corner) (box : Bounds) : Type 0 where
  pub low_is : Lists n low box.low
  pub high_is : Lists n high box.high
  pub order : AtMost box.low box.high

-- a place at which the box is cut
pub record IsCutAt (n : ℕ) (low high : Corner) (at from : ℕ) : Type 0 where
  pub there : at < n
  pub more : low at < from
  pub most : from ≤ high at

module _ (n : ℕ) (low high : Corner) (box : Bounds) (at from : ℕ) (b : Boxed n low high box) (cut : IsCutAt n low high at from) where
  low_less : get_or box.low at 0 < from
  low_less = (let s = b.low_is.same at cut.there in let m = cut.more in omega (arith, s, m))

  high_more : from ≤ get_or box.high at 0
  high_more = (let s = b.high_is.same at cut.there in let m = cut.most in omega (arith, s, m))

  pub has_both : has_parts box at from ≡ true
  has_both = ap₂ (λ x y. x && y) (lt-ltb (get_or box.low at 0) from low_less) (le-leb from (get_or box.high at 0) high_more)

  -- the number before the cut is at most the box's high side
  pub below_high : from - 1 ≤ get_or box.high at 0
  below_high = (let m = high_more in omega (arith, m))

  -- the part of a box below a cut lies between the low corner and the high one, lowered to the number before the cut
  pub fewer_boxed : Boxed n low (put at (from - 1) high) (fewer box at from)
  fewer_boxed = record {
    low_is = b.low_is;
    high_is = put_lists n at (from - 1) high box.high cut.there b.high_is;
    order = at_most_set_high box.low box.high at (from - 1) b.order (let m = low_less in omega (arith, m));
  }

  -- the part of a box from a cut on lies between the low corner, raised to the cut, and the high one
  pub as_many_boxed : Boxed n (put at from low) high (as_many box at from)
  as_many_boxed = record {
    low_is = put_lists n at from low box.low cut.there b.low_is;
    high_is = b.high_is;
    order = at_most_set_low box.low box.high at from b.order high_more;
  }

-- a place among the n, with a number above its least and at most its most, cuts the box there
pub cut_of : (n : ℕ) (low high : Corner) (at from : ℕ) → (at < n) × ((low at < from) × (from ≤ high at)) → IsCutAt n low high at from
cut_of n low high at from h = record { there = h.0; more = h.1.0; most = h.1.1 }

-- a tree that is lawful for the corners is lawful for the box
pub lawful_box : (n : ℕ) (tree : Tree) (low high : Corner) (box : Bounds) → Boxed n low high box → cover.IsLawful n tree low high → HasBothParts tree box
unfolding HasBothParts
lawful_box n cover.Whole low high box b h = tt
lawful_box n cover.Cost low high box b h = tt
lawful_box n (cover.Cut at from one other) low high box b h =
    let cut = cut_of n low high at from h.0 in (
      has_both n low high box at from b cut,
      lawful_box n one low (put at (from - 1) high) (fewer box at from) (fewer_boxed n low high box at from b cut) h.1.0,
      lawful_box n other (put at from low) high (as_many box at from) (as_many_boxed n low high box at from b cut) h.1.1,
    )
