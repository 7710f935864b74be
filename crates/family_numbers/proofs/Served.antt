-- Tables that serve many stocks: what is read of them, and that what is passed on is small.
use Rattle.std.proofs.Common.{◌≡◌, ℕ, ◌+◌, ◌-◌, ◌*◌, ◌^◌, ◌<◌, ◌≤◌, List, length, get_or, map, sym, ap, ◌∙◌, subst, arith, le_trans, refl}
use Rattle.std.proofs.Math.Nat.{le_refl}
use Rattle.std.specs.List.{range_with_len, All}
use Rattle.std.proofs.lemmas.List.{get_or_default}
use Rattle.std.proofs.lemmas.List.FromFn.{get_or-map-range_with_len, length-map-range_with_len}
use Rattle.list_laws.proofs.Public.{all_numbered}
use Rattle.fixed_interval.specs.Ends.{Ends, ends_add, ends_max}
use Rattle.moment_table.specs.declared.kinds.Row.{Row}
use Rattle.moment_table.specs.Profile.{table_rows}
use Rattle.moment_table.specs.Rows.{at_stock}
use Rattle.moment_table.proofs.Public.{rows_below}
use Rattle.depot_pipeline.specs.declared.Moments.{Moments}
use Rattle.depot_pipeline.specs.declared.Feed.{Feed}
use Rattle.depot_pipeline.specs.Exact.{IsSmallFeed}
use Rattle.depot_pipeline.specs.Profile.{feed_at, mean_part}
use Rattle.base_pipeline.specs.Profile.{delay_at}
use Rattle.family_items.specs.Inputs.{HasTable}
use Rattle.family_numbers.specs.Numbers.{AreBaseBackorders, AreNumbers, ArePairNumbers, FamilyNumbers, nth_stock, base_backorders, base_delays, base_line_moments, base_shop_moments, base_shop_row, depot_feeds, depot_line_moments, depot_line_row, depot_shop_moments, depot_shop_row, feed_from, pair_at, rows_of}
use Rattle.family_numbers.proofs.FromNumbers.{can_rows}
use Rattle.family_items.proofs.Public.{added_least}

-- ---- lists by number

-- where there is an entry for each number below n, there is one at each such place
pub count_of : {X : Type 0} (h : ℕ → X) (n i : ℕ) (xs : List X) → xs ≡ map h (range_with_len 0 n) → i < n → i < length xs
count_of h n i xs e l = omega (arith, l, ap (λ (ys : List _). length ys) e, length-map-range_with_len h 0 n)

-- the entry at such a place is that of its number
pub read_of : {X : Type 0} (h : ℕ → X) (n i : ℕ) (xs : List X) (x : X) → xs ≡ map h (range_with_len 0 n) → i < n → x ≡ get_or xs i x → x ≡ h i
read_of h n i xs x e l r = r ∙ ap (λ ys. get_or ys i x) e ∙ get_or-map-range_with_len h 0 n i i x l (omega arith)

-- ---- what is passed on is small

-- backorders and their variance are at most 256 units
pub record IsSmallRow (f : ℕ) (row : Row f) : Type 0 where
  pub ebo : row.ebo.hi ≤ 256 * 2 ^ f
  pub vbo : row.vbo.hi ≤ 256 * 2 ^ f

either_most : (v m : Ends) (c : ℕ) → v.hi ≤ c → m.hi ≤ c → (ends_max v m).hi ≤ c
either_most v m c h k = omega (arith, h, k)

rows_small : (f : ℕ) (m : Moments f) → HasTable f m → (s : ℕ) → s ≤ 63 → IsSmallRow f (at_stock (rows_of f m) s)
rows_small f m can s few =
    let r = rows_below f m.mean m.variance (table_rows f m.mean m.variance) refl s (omega (arith, few)) in
    record {
      ebo = le_trans r.ebo can.mean_top;
      vbo = le_trans r.vbo (either_most m.variance m.mean (256 * 2 ^ f) can.variance_top can.mean_top);
    }

-- a small row fed by a share of at most 1 is a small feed
pub feed_is_small : (f : ℕ) (share : Ends) (row : Row f) (feed : Feed f) → feed ≡ feed_from f share row → share.hi ≤ 2 ^ f → IsSmallRow f row → IsSmallFeed f feed
feed_is_small f share row feed e h small = subst (IsSmallFeed f) (sym e) (record { share = h; backorders = small.ebo; spread = small.vbo })

module _ (f : ℕ) (x : FamilyNumbers f) (are : AreNumbers f x) where
  place_of_shop : (i : ℕ) → i < length x.parts - 1 → i + 1 < length x.parts
  place_of_shop i h = omega (arith, h)

  depot : (i : ℕ) → i < length x.parts - 1 → ArePairNumbers f (pair_at x (i + 1) 0)
  depot i h = are.pairs (i + 1) 0 (place_of_shop i h) (omega (arith, are.fewest_sites))

  -- the pipeline of a shop unit at the depot has a table
  pub depot_shop_can : (i : ℕ) → i < length x.parts - 1 → HasTable f (depot_shop_moments f x i)
  depot_shop_can i h = can_rows f (pair_at x (i + 1) 0) (pair_at x (i + 1) 0).direct (pair_at x (i + 1) 0).direct (depot i h) (le_refl _)

  -- its rows are small
  pub depot_shop_small : (i s : ℕ) → i < length x.parts - 1 → s ≤ 63 → IsSmallRow f (depot_shop_row f x i s)
  depot_shop_small i s h few = rows_small f (depot_shop_moments f x i) (depot_shop_can i h) s few

  -- what each shop unit feeds to the line unit at the depot is small
  pub depot_feeds_small : (d : List ℕ) → All (λ n. n ≤ 63) d → length d ≡ length x.parts - 1 → All (IsSmallFeed f) (depot_feeds f x d)
  depot_feeds_small d few same =
      all_numbered (IsSmallFeed f) _ (length x.parts - 1)
      (λ k h. feed_is_small f (pair_at x (k + 1) 0).share (depot_shop_row f x k (nth_stock d k)) _ refl (depot k h).share_most
      (depot_shop_small k (nth_stock d k) h (few k 0 (omega (arith, h, same)))))

  -- the pipeline of the line unit at the depot has a table
  pub depot_line_can : (d : List ℕ) → HasTable f (depot_line_moments f x d)
  depot_line_can d =
      can_rows f (pair_at x 0 0) _ _ (are.pairs 0 0 are.some (omega (arith, are.fewest_sites)))
      (added_least (pair_at x 0 0).direct (λ k. mean_part f (feed_at (depot_feeds f x d) k)) (length (depot_feeds f x d)))

  -- its rows are small
  pub depot_line_small : (d : List ℕ) (s : ℕ) → s ≤ 63 → IsSmallRow f (depot_line_row f x d s)
  depot_line_small d s few = rows_small f (depot_line_moments f x d) (depot_line_can d) s few

  -- the pipeline of a shop unit at a site has a table
  pub base_shop_can : (i k n : ℕ) → i < length x.parts - 1 → k < x.sites → HasTable f (base_shop_moments f x i k n)
  base_shop_can i k n h m = can_rows f (pair_at x (i + 1) k) _ _ (are.pairs (i + 1) k (place_of_shop i h) m) (omega arith)

  -- its rows are small
  pub base_shop_small : (i k n s : ℕ) → i < length x.parts - 1 → k < x.sites → s ≤ 63 → IsSmallRow f (base_shop_row f x i k n s)
  base_shop_small i k n s h m few = rows_small f (base_shop_moments f x i k n) (base_shop_can i k n h m) s few

  -- the pipeline of the line unit at a site has a table
  pub base_line_table : (k o : ℕ) (d b : List ℕ) → k < x.sites → HasTable f (base_line_moments f x k o d b)
  base_line_table k o d b m =
      can_rows f (pair_at x 0 k) _ _ (are.pairs 0 k are.some m)
      (omega (
        arith,
        added_least (ends_add (pair_at x 0 k).direct (mean_part f (feed_from f (pair_at x 0 k).share (depot_line_row f x d o))))
            (λ n. (delay_at (base_delays f x k d b) n).backorders) (length (base_delays f x k d b)),
      ))

  pub base_line_small : (k o : ℕ) (d b : List ℕ) (s : ℕ) → k < x.sites → s ≤ 63 → (base_backorders f x k o d b s).hi ≤ 256 * 2 ^ f
  base_line_small k o d b s m few = (rows_small f (base_line_moments f x k o d b) (base_line_table k o d b m) s few).ebo

  -- the backorders of the line unit at a site, for all its stocks there, are at most 256 units
  pub all_backorders_small : (k o : ℕ) (d b : List ℕ) (list : List Ends) → k < x.sites → AreBaseBackorders f x k o d b list
      → All (λ (y : Ends). y.hi ≤ 256 * 2 ^ f) list
  all_backorders_small k o d b list m has s e l =
      let few : s ≤ (pair_at x 0 k).limit = omega (arith, l, has.count) in
      subst (λ (y : Ends). y.hi ≤ 256 * 2 ^ f) (sym (get_or_default list s e (record { lo = 0; hi = 0 }) l ∙ has.ends s few))
      (base_line_small k o d b s m (omega (arith, few, (are.pairs 0 k are.some m).limit_most)))
