-- A line unit at a base: what it has without its shop units there is small, and what these add is as listed.
use Rattle.std.proofs.Common.{◌≡◌, ℕ, zero, suc, ◌+◌, ◌-◌, ◌*◌, ◌^◌, ◌<◌, ◌≤◌, ◌∙◌, List, length, refl, ap, ap₂, subst, sym, arith, le_trans, lit<, mul-le-mul_right}
use Rattle.std.proofs.Math.Nat.{pow-le-pow_right}
use Rattle.std.specs.List.{All}
use Rattle.std.proofs.lemmas.List.FromFn.{get_or-map-range_with_len, length-map-range_with_len}
use Rattle.fixed_interval.specs.Ends.{Ends, ends_add, ends_exact, ends_less, ends_mul}
use Rattle.moment_table.specs.declared.kinds.Row.{Row}
use Rattle.moment_table.specs.Rows.{TableRows, at_stock}
use Rattle.depot_pipeline.specs.declared.Feed.{Feed}
use Rattle.depot_pipeline.specs.declared.Moments.{Moments}
use Rattle.depot_pipeline.specs.Exact.{IsSmallFeed}
use Rattle.depot_pipeline.specs.Profile.{added, capped_at, mean_part, variance_part}
use Rattle.depot_pipeline.proofs.Public.{part_most}
use Rattle.base_pipeline.specs.declared.Held.{Held}
use Rattle.base_pipeline.specs.Profile.{delay_at}
use Rattle.family_numbers.specs.declared.own_part.OwnPart.{OwnPart}
use Rattle.family_numbers.specs.Numbers.{AreNumbers, FamilyNumbers, base_delays, base_line_moments, base_shop_row, base_shop_table, depot_line_row, feed_from, delay_from, nth_stock, own_part, pair_at, shop_part}
use Rattle.family_numbers.proofs.Served.{IsSmallRow, base_shop_small, depot_line_small, feed_is_small}

part_least : (b : ℕ) (share number : Ends) → share.hi ≤ 2 ^ b → (ends_mul b share number).hi ≤ number.hi
part_least b share number h = part_most b share number (ends_mul b share number) h refl

mean_most : (b : ℕ) (feed : Feed b) → IsSmallFeed b feed → (mean_part b feed).hi ≤ 256 * 2 ^ b
unfolding mean_part
mean_most b feed small = le_trans (part_least b feed.share feed.backorders small.share) small.backorders

variance_most : (b : ℕ) (feed : Feed b) → IsSmallFeed b feed → (variance_part b feed).hi ≤ 512 * 2 ^ b
unfolding variance_part
variance_most b feed small =
    let rest = ends_less (ends_exact b 1) feed.share in
    let kept : (ends_mul b feed.share rest).hi ≤ 2 ^ b = le_trans (part_least b feed.share rest small.share) (omega arith) in
    let square : (ends_mul b feed.share feed.share).hi ≤ 2 ^ b = le_trans (part_least b feed.share feed.share small.share) small.share in
    let once = le_trans (part_least b (ends_mul b feed.share rest) feed.backorders kept) small.backorders in
    let twice = le_trans (part_least b (ends_mul b feed.share feed.share) feed.spread square) small.spread in
    omega (arith, once, twice)

pub record IsSmallOwn (f : ℕ) (mean variance : Ends) : Type 0 where
  pub mean_most : mean.hi ≤ 768 * 2 ^ f
  pub variance_most : variance.hi ≤ 768 * 2 ^ f

module _ (f : ℕ) (x : FamilyNumbers f) (are : AreNumbers f x) (k : ℕ) (inside : k < x.sites) where
  pub line_feed_small : (o : ℕ) (d : List ℕ) → o ≤ 63 → IsSmallFeed f (feed_from f (pair_at x 0 k).share (depot_line_row f x d o))
  line_feed_small o d few =
      feed_is_small f (pair_at x 0 k).share (depot_line_row f x d o) _ refl (are.pairs 0 k are.some inside).share_most (depot_line_small f x are d o few)

  -- mean and variance of the line unit's own part at a site are at most 768 units
  pub own_small : (o : ℕ) (d : List ℕ) → o ≤ 63 → IsSmallOwn f (own_part f x k o d).moments.mean (own_part f x k o d).moments.variance
  own_small o d few =
      let direct = (are.pairs 0 k are.some inside).direct_most in
      let feed = feed_from f (pair_at x 0 k).share (depot_line_row f x d o) in
      let small = line_feed_small o d few in
      record {
        mean_most = (let m = mean_most f feed small in omega (arith, direct, m));
        variance_most = (let v = variance_most f feed small in omega (arith, direct, v));
      }

-- the shop unit i among those that hold back repairs
pub delay_of_shop : (f : ℕ) (x : FamilyNumbers f) (k : ℕ) (d b : List ℕ) (i : ℕ) → i < length x.parts - 1
    → delay_at (base_delays f x k d b) i ≡ delay_from f (base_shop_row f x i k (nth_stock d i) (nth_stock b i))
delay_of_shop f x k d b i h = get_or-map-range_with_len _ 0 (length x.parts - 1) i i _ h (omega arith)

pub delays_count : (f : ℕ) (x : FamilyNumbers f) (k : ℕ) (d b : List ℕ) → length (base_delays f x k d b) ≡ length x.parts - 1
delays_count f x k d b = length-map-range_with_len _ 0 (length x.parts - 1)

-- what is read of its table
pub shop_read : (f : ℕ) (x : FamilyNumbers f) (k : ℕ) (d b : List ℕ) (i : ℕ) (table : TableRows f) (s : ℕ) → table ≡ base_shop_table f x i k (nth_stock d i) → s ≡ nth_stock b i
    → at_stock table.rows s ≡ base_shop_row f x i k (nth_stock d i) (nth_stock b i)
shop_read f x k d b i table s e t = ap₂ (λ (t : TableRows f) (n : ℕ). at_stock t.rows n) e t

-- what a shop unit's table has at a stock is small
pub shop_small : (f : ℕ) (x : FamilyNumbers f) (are : AreNumbers f x) (k : ℕ) (d b : List ℕ) (i : ℕ) (row : Row f) → k < x.sites → i < length x.parts - 1
    → length b ≡ length x.parts - 1 → All (λ n. n ≤ 63) b → row ≡ base_shop_row f x i k (nth_stock d i) (nth_stock b i) → IsSmallRow f row
shop_small f x are k d b i row m h same few e =
    subst (IsSmallRow f) (sym e) (base_shop_small f x are i k (nth_stock d i) (nth_stock b i) h m (few i 0 (omega (arith, h, same))))

-- one more of the sums has room
pub room_for : (b i sum term : ℕ) → b ≤ 52 → i < 8 → sum ≤ (i + 1) * (768 * 2 ^ b) → term ≤ 256 * 2 ^ b → sum + term < 2 ^ 127
room_for b i sum term few h s t =
    let unit : 2 ^ b ≤ 2 ^ 52 = pow-le-pow_right (lit< tt) few in
    let more : (i + 1) * (768 * 2 ^ b) ≤ 8 * (768 * 2 ^ b) = mul-le-mul_right (768 * 2 ^ b) (omega (arith, h)) in
    omega (arith, unit, more, s, t)

-- ---- the parts together

same_ends : (a b : Ends) → a.lo ≡ b.lo → a.hi ≡ b.hi → a ≡ b
same_ends a b e g = ap₂ (λ l h. record { lo = l; hi = h }) e g

-- a sum from a first interval on is that interval and the sum of the parts alone
added_apart : (f : ℕ) (first : Ends) (part : ℕ → Ends) (n : ℕ) → added first part n ≡ ends_add first (added (ends_exact f 0) part n)
unfolding added
added_apart f first part zero = same_ends first (ends_add first (ends_exact f 0)) (omega arith) (omega arith)
added_apart f first part (suc n) =
    let rest = added_apart f first part n in
    same_ends (ends_add (added first part n) (part n)) (ends_add first (ends_add (added (ends_exact f 0) part n) (part n)))
    (omega (arith, ap (λ (e : Ends). e.lo) rest)) (omega (arith, ap (λ (e : Ends). e.hi) rest))

-- a sum of n parts, each at most `most`, is at most n times that
added_most : (f : ℕ) (part : ℕ → Ends) (most n : ℕ) → ((k : ℕ) → k < n → (part k).hi ≤ most) → (added (ends_exact f 0) part n).hi ≤ n * most
unfolding added
added_most f part most zero h = omega arith
added_most f part most (suc n) h = omega (arith, added_most f part most n (λ k l. h k (omega (arith, l))), h n (omega arith))

-- the line unit's pipeline at a site is its own part and the shop units', cut at the cap
pub line_is : (f : ℕ) (x : FamilyNumbers f) (k o : ℕ) (d b : List ℕ) (own : OwnPart f) (shops : Moments f) → own ≡ own_part f x k o d → shops ≡ shop_part f x k d b
    → capped_at f own.cap (ends_add own.moments.mean shops.mean) (ends_add own.moments.variance shops.variance) ≡ base_line_moments f x k o d b
line_is f x k o d b own shops e g =
    let delays = base_delays f x k d b in
    let part = own_part f x k o d in
    ap₂ (λ (p : OwnPart f) (s : Moments f). capped_at f p.cap (ends_add p.moments.mean s.mean) (ends_add p.moments.variance s.variance)) e g
    ∙ ap₂ (λ (y z : Ends). capped_at f part.cap y z) (sym (added_apart f part.moments.mean (λ n. (delay_at delays n).backorders) (length delays)))
    (sym (added_apart f part.moments.variance (λ n. (delay_at delays n).spread) (length delays)))

pub record HasRoom (f : ℕ) (own shops : Moments f) : Type 0 where
  pub mean : own.mean.hi + shops.mean.hi < 2 ^ 127
  pub variance : own.variance.hi + shops.variance.hi < 2 ^ 127

sum_room : (b n own sum : ℕ) → b ≤ 52 → n ≤ 8 → own ≤ 768 * 2 ^ b → sum ≤ n * (256 * 2 ^ b) → own + sum < 2 ^ 127
sum_room b n own sum few h s t =
    let unit : 2 ^ b ≤ 2 ^ 52 = pow-le-pow_right (lit< tt) few in
    let more : n * (256 * 2 ^ b) ≤ 8 * (256 * 2 ^ b) = mul-le-mul_right (256 * 2 ^ b) h in
    omega (arith, unit, more, s, t)

module _ (f : ℕ) (x : FamilyNumbers f) (are : AreNumbers f x) (k : ℕ) (d b : List ℕ) (inside : k < x.sites) (same : length b ≡ length x.parts - 1) (few : All (λ n. n ≤ 63) b) where
  delay_small : (i : ℕ) → i < length (base_delays f x k d b) → IsSmallRow f (base_shop_row f x i k (nth_stock d i) (nth_stock b i))
  delay_small i h = shop_small f x are k d b i _ inside (omega (arith, h, delays_count f x k d b)) same few refl

  delay_here : (i : ℕ) → i < length (base_delays f x k d b) → delay_at (base_delays f x k d b) i ≡ delay_from f (base_shop_row f x i k (nth_stock d i) (nth_stock b i))
  delay_here i h = delay_of_shop f x k d b i (omega (arith, h, delays_count f x k d b))

  -- the sums of both parts have room
  pub line_room : (o : ℕ) (own : OwnPart f) (shops : Moments f) → f ≤ 52 → o ≤ 63 → own ≡ own_part f x k o d → shops ≡ shop_part f x k d b → HasRoom f own.moments shops
  line_room o own shops scale small e g =
      let delays = base_delays f x k d b in
      let part = own_part f x k o d in
      let first = own_small f x are k inside o d small in
      let count : length delays ≤ 8 = omega (arith, delays_count f x k d b, are.few) in
      subst (λ (s : Moments f). HasRoom f own.moments s) (sym g)
      (subst (λ (p : OwnPart f). HasRoom f p.moments (shop_part f x k d b)) (sym e) (record {
        mean = sum_room f (length delays) part.moments.mean.hi (shop_part f x k d b).mean.hi scale count first.mean_most
            (added_most f (λ n. (delay_at delays n).backorders) (256 * 2 ^ f) (length delays) (λ i h. subst (λ (y : Held f). y.backorders.hi ≤ 256 * 2 ^ f) (sym (delay_here i h)) (delay_small i h).ebo));
        variance = sum_room f (length delays) part.moments.variance.hi (shop_part f x k d b).variance.hi scale count first.variance_most
            (added_most f (λ n. (delay_at delays n).spread) (256 * 2 ^ f) (length delays) (λ i h. subst (λ (y : Held f). y.spread.hi ≤ 256 * 2 ^ f) (sym (delay_here i h)) (delay_small i h).vbo));
      }))

-- the sums over all shop units are their part
pub shops_made : (f : ℕ) (x : FamilyNumbers f) (k : ℕ) (d b : List ℕ) (mean variance : Ends)
    → mean ≡ added (ends_exact f 0) (λ n. (delay_at (base_delays f x k d b) n).backorders) (length x.parts - 1)
    → variance ≡ added (ends_exact f 0) (λ n. (delay_at (base_delays f x k d b) n).spread) (length x.parts - 1)
    → record { mean = mean; variance = variance } ≡ shop_part f x k d b
shops_made f x k d b mean variance m v =
    let delays = base_delays f x k d b in
    ap₂ (λ (y z : Ends). record { mean = y; variance = z }) m v
    ∙ ap (λ n. record { mean = added (ends_exact f 0) (λ i. (delay_at delays i).backorders) n; variance = added (ends_exact f 0) (λ i. (delay_at delays i).spread) n })
    (sym (delays_count f x k d b))
