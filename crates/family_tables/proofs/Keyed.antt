-- The keys of stocks.
use Rattle.std.proofs.Common.{◌≡◌, ℕ, zero, suc, ◌+◌, ◌-◌, ◌<◌, ◌≤◌, List, [], ◌∷◌, ◌++◌, length, map, flat_map, sym, ap, ap₂, ◌∙◌, refl, arith, add-one, append-nil, append_assoc, subst}
use Rattle.std.specs.List.{All, range_with_len}
use Rattle.std.proofs.lemmas.List.Elements.{All-append}
use Rattle.list_laws.proofs.Public.{all_numbered}
use Rattle.depot_pipeline.specs.declared.Feed.{Feed}
use Rattle.base_pipeline.specs.Profile.{base_shop_ends}
use Rattle.family_numbers.specs.declared.numbers.PairNumbers.{PairNumbers}
use Rattle.family_items.specs.Inputs.{HasTable}
use Rattle.family_tables.specs.Kept.{IsKey, key_at, keys_of, moments_at, shop_key}
use Rattle.family_numbers.proofs.Public.{base_shop_can, depot_line_can, depot_shop_can}
use Rattle.family_numbers.specs.Numbers.{AreNumbers, FamilyNumbers, depot_shop_row, feed_from, nth_stock, pair_at, shop_numbers}

flat_more : {X : Type 0} (h : ℕ → List X) (a n : ℕ) → flat_map h (range_with_len a (suc n)) ≡ flat_map h (range_with_len a n) ++ h (a + n)
flat_more h a zero = let same : a ≡ a + 0 = omega arith in append-nil (h a) ∙ ap h same
flat_more h a (suc n) =
    let next : a + 1 + n ≡ a + suc n = omega arith in
    ap (λ v. h a ++ v) (flat_more h (a + 1) n) ∙ sym (append_assoc (h a) (flat_map h (range_with_len (a + 1) n)) (h (a + 1 + n)))
    ∙ ap (λ m. (h a ++ flat_map h (range_with_len (a + 1) n)) ++ h m) next

-- the lists of one number more, one after the other, have its list at the end
pub flat_next : {X : Type 0} (h : ℕ → List X) (n : ℕ) → flat_map h (range_with_len 0 (n + 1)) ≡ flat_map h (range_with_len 0 n) ++ h n
flat_next h n =
    let same : 0 + n ≡ n = omega arith in
    ap (λ m. flat_map h (range_with_len 0 m)) (add-one n) ∙ flat_more h 0 n ∙ ap (λ m. flat_map h (range_with_len 0 n) ++ h m) same

all_one : {X : Type 0} (P : X → Type 0) (y : X) → P y → All P (y ∷ [])
all_one P y p zero d l = p
all_one P y p (suc k) d l = absurd (omega arith)

all_flat : {X : Type 0} (P : X → Type 0) (h : ℕ → List X) (a n : ℕ) → ((k : ℕ) → k < n → All P (h (a + k))) → All P (flat_map h (range_with_len a n))
all_flat P h a zero e = λ k d l. absurd (omega arith)
all_flat P h a (suc n) e =
    let first : a + 0 ≡ a = omega arith in
    All-append P (h a) (flat_map h (range_with_len (a + 1) n)) (subst (λ m. All P (h m)) first (e 0 (omega arith)))
    (all_flat P h (a + 1) n (λ k l. let next : a + suc k ≡ a + 1 + k = omega arith in subst (λ m. All P (h m)) next (e (suc k) (omega (arith, l)))))

module _ (f : ℕ) (x : FamilyNumbers f) (d : List ℕ) (are : AreNumbers f x) (same : length d ≡ length x.parts - 1) (few : All (λ n. n ≤ 63) d) where
  shop_valid : (i k : ℕ) → i < length x.parts - 1 → k < x.sites → IsKey x (shop_key d i k)
  shop_valid i zero l m = record {
    place = omega (arith, l);
    site = m;
    depot = λ e. absurd (omega (arith, e));
    base = λ p q. absurd (omega (arith, q));
    stocks = λ k e m. absurd (omega (arith, m));
  }
  shop_valid i (suc k) l m = record {
    place = omega (arith, l);
    site = m;
    depot = λ e. absurd (omega (arith, e));
    base = λ p q. refl;
    stocks = all_one (λ n. n ≤ 63) (nth_stock d i) (few i 0 (omega (arith, l, same)));
  }

  -- the keys that belong to stocks of at most 63 of the shop units at the depot are keys of the family
  pub keys_valid : All (IsKey x) (keys_of x d)
  keys_valid =
      All-append (IsKey x) (flat_map (λ i. map (shop_key d i) (range_with_len 0 x.sites)) (shop_numbers x)) (key_at 0 0 d ∷ [])
      (all_flat (IsKey x) (λ i. map (shop_key d i) (range_with_len 0 x.sites)) 0 (length x.parts - 1)
      (λ i l. all_numbered (IsKey x) (shop_key d (0 + i)) x.sites (λ k m. shop_valid (0 + i) k (omega (arith, l)) m)))
      (all_one (IsKey x) (key_at 0 0 d) (record {
        place = are.some;
        site = omega (arith, are.fewest_sites);
        depot = λ e. (refl, same);
        base = λ p q. absurd (omega (arith, p));
        stocks = few;
      }))

-- the pipeline of a shop unit at a base, fed by the depot, is that of its key
pub base_keyed : (f : ℕ) (x : FamilyNumbers f) (p k : ℕ) (s : List ℕ) (pair : PairNumbers f) (feed : Feed f) (n : ℕ) → 0 < p → 0 < k → pair ≡ pair_at x p k
    → feed ≡ feed_from f (pair_at x (p - 1 + 1) k).share (depot_shop_row f x (p - 1) n) → n ≡ nth_stock s 0
    → base_shop_ends f pair.direct pair.cap feed ≡ moments_at f x p k s
base_keyed f x zero k s pair feed n a b e h m = absurd (omega (arith, a))
base_keyed f x (suc i) zero s pair feed n a b e h m = absurd (omega (arith, b))
base_keyed f x (suc i) (suc k) s pair feed n a b e h m =
    let one : suc i ≡ i + 1 = omega arith in
    let shop : suc i - 1 ≡ i = omega arith in
    ap₂ (λ (w : PairNumbers f) (z : Feed f). base_shop_ends f w.direct w.cap z) e
    (h ∙ ap₂ (λ (q r : ℕ). feed_from f (pair_at x (q + 1) (suc k)).share (depot_shop_row f x q r)) shop m)
    ∙ ap (λ q. base_shop_ends f (pair_at x q (suc k)).direct (pair_at x q (suc k)).cap
    (feed_from f (pair_at x (i + 1) (suc k)).share (depot_shop_row f x i (nth_stock s 0)))) one

-- the pipeline of a key has a table
pub key_can : (f : ℕ) (x : FamilyNumbers f) → AreNumbers f x → (p k : ℕ) (s : List ℕ) → p < length x.parts → k < x.sites → HasTable f (moments_at f x p k s)
key_can f x are zero k s l m = depot_line_can f x are s
key_can f x are (suc i) zero s l m = depot_shop_can f x are i (omega (arith, l))
key_can f x are (suc i) (suc k) s l m = base_shop_can f x are i (suc k) (nth_stock s 0) (omega (arith, l)) m
