-- The definitions of the ends enclose the exact pipelines.
use Rattle.std.proofs.Common.{ℕ, zero, suc, ◌+◌, ◌*◌, ◌^◌, ◌<◌, ◌≤◌, ◌≡◌, arith, add-one, refl, mul-le-mul_right}
use Rattle.std.specs.Int.{div_ceil}
use Rattle.std.proofs.Math.Nat.{lt_of_mul-lt-mul_right}
use Rattle.std.proofs.lemmas.Nat.{pow_pos}
use Rattle.std.proofs.lemmas.Grind.{div_ceil_times}
use Rattle.exact_model.specs.Fraction.{Fraction, whole, sum_below, ◌+ℚ◌, ◌-ℚ◌, ◌*ℚ◌}
use Rattle.exact_model.proofs.Public.{turned, contains_same, nothing_more, plus_assoc}
use Rattle.fixed_interval.specs.Ends.{Ends, In, ends_exact, ends_add, ends_less, ends_mul}
use Rattle.fixed_interval.proofs.Public.{add_encloses, less_encloses, exact_encloses, mul_encloses}
use Rattle.depot_pipeline.specs.declared.Feed.{Feed}
use Rattle.depot_pipeline.specs.Profile.{mean_part, variance_part, added}
use Rattle.exact_model.specs.Shares.{shared}
use Rattle.depot_pipeline.specs.Exact.{FeedIn}

-- the interval of a share's mean part contains f e
pub mean_part_in : (b : ℕ) (feed : Feed b) (f e v : Fraction) → FeedIn b feed f e v → In b (mean_part b feed) (f *ℚ e)
unfolding mean_part
mean_part_in b feed f e v h = mul_encloses b feed.share feed.backorders f e h.share h.backorders

-- the interval of a share's variance part contains the variance of the share
pub variance_part_in : (b : ℕ) (feed : Feed b) (f e v : Fraction) → FeedIn b feed f e v → In b (variance_part b feed) (shared f e v)
unfolding variance_part shared
variance_part_in b feed f e v h =
    let in_rest = less_encloses b (ends_exact b 1) feed.share (whole 1) f (exact_encloses b 1) h.share in
    let kept = mul_encloses b feed.share (ends_less (ends_exact b 1) feed.share) f (whole 1 -ℚ f) h.share in_rest in
    let once = mul_encloses b (ends_mul b feed.share (ends_less (ends_exact b 1) feed.share)) feed.backorders (f *ℚ (whole 1 -ℚ f)) e kept h.backorders in
    let square = mul_encloses b feed.share feed.share f f h.share h.share in
    let twice = mul_encloses b (ends_mul b feed.share feed.share) feed.spread (f *ℚ f) v square h.spread in
    add_encloses b (ends_mul b (ends_mul b feed.share (ends_less (ends_exact b 1) feed.share)) feed.backorders)
    (ends_mul b (ends_mul b feed.share feed.share) feed.spread)
    (f *ℚ (whole 1 -ℚ f) *ℚ e) (f *ℚ f *ℚ v) once twice

-- the sum of a first interval and n parts contains the sum of what these contain
pub added_in : (b : ℕ) (first : Ends) (part : ℕ → Ends) (d : Fraction) (q : ℕ → Fraction) (n : ℕ) → In b first d
    → ((k : ℕ) → k < n → In b (part k) (q k)) → In b (added first part n) (d +ℚ sum_below q n)
unfolding added sum_below
added_in b first part d q zero h a = contains_same (turned (nothing_more d)) h
added_in b first part d q (suc n) h a =
    contains_same (plus_assoc d (sum_below q n) (q n))
    (add_encloses b (added first part n) (part n) (d +ℚ sum_below q n) (q n)
    (added_in b first part d q n h (λ k l. a k (omega arith))) (a n (omega arith)))

-- with no part the sum is the first interval
pub added_none : (first : Ends) (part : ℕ → Ends) → first ≡ added first part 0
unfolding added
added_none first part = refl

-- the sum with the next part is that of one part more
pub added_next : (first : Ends) (part : ℕ → Ends) (n : ℕ) → ends_add (added first part n) (part n) ≡ added first part (n + 1)
unfolding added
added_next first part n = rw add-one refl

-- ---- the steps of a variance part, whatever the code calls them

-- a share of a number is at most the number
pub part_most : (b : ℕ) (share number part : Ends) → share.hi ≤ 2 ^ b → part ≡ ends_mul b share number → part.hi ≤ number.hi
part_most b share number part h e = rw e (least (2 ^ b) share.hi number.hi (pow_pos b) h)
  where
    least : (o x y : ℕ) → 0 < o → x ≤ o → div_ceil (x * y) o ≤ y
    least o x y p h =
        let t = div_ceil_times (x * y) o p in
        let k : div_ceil (x * y) o < y + 1 = lt_of_mul-lt-mul_right o (omega (arith, t.1, mul-le-mul_right y h)) in
        omega arith

-- the products of share, its rest, backorders and their variance come to the variance part
pub variance_part_is : (b : ℕ) (feed : Feed b) (one rest kept once square twice sum : Ends) → one ≡ ends_exact b 1 → rest ≡ ends_less one feed.share
    → kept ≡ ends_mul b feed.share rest → once ≡ ends_mul b kept feed.backorders → square ≡ ends_mul b feed.share feed.share
    → twice ≡ ends_mul b square feed.spread → sum ≡ ends_add once twice → sum ≡ variance_part b feed
unfolding variance_part
variance_part_is b feed one rest kept once square twice sum h0 h1 h2 h3 h4 h5 h6 = rw (h6, h5, h4, h3, h2, h1, h0) refl

-- the product of share and backorders is the mean part
pub mean_part_is : (b : ℕ) (feed : Feed b) (product : Ends) → product ≡ ends_mul b feed.share feed.backorders → product ≡ mean_part b feed
unfolding mean_part
mean_part_is b feed product h = h
