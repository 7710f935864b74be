-- Weights cleared of denominators: whole numbers in the proportions of the model's weights.
use Rattle.std.proofs.Common.{◌≡◌, ℕ, zero, suc, ◌+◌, ◌-◌, ◌*◌, ◌<◌, ◌≤◌, refl, sym, ap, ◌∙◌, arith, mul-le-mul_left, mul-le-mul_right, le_of_mul-le-mul_right, le_of_eq, le_trans, ap₂}
use Rattle.list_laws.proofs.Public.{total}

-- c(0) .. c(n) stand in the proportions of the weights of mean a / b and excess e / b
abbrev pub InProportion : ℕ → ℕ → ℕ → (ℕ → ℕ) → ℕ → Type 0
InProportion a b e c n = (x : ℕ) → x < n → c (suc x) * (suc x * (b + e)) ≡ c x * (a + x * e)

mean_step : (a b e n c0 c1 t0 t1 : ℕ) → c1 * (suc n * (b + e)) ≡ c0 * (a + n * e)
    → b * t1 + (a + n * e) * c0 ≡ a * t0
    → b * (t1 + suc n * c1) + (a + suc n * e) * c1 ≡ a * (t0 + c1)
mean_step a b e n c0 c1 t0 t1 h k = omega arith

-- the mean of the cut series, exactly
pub mean_identity : (a b e : ℕ) (c : ℕ → ℕ) (n : ℕ) → InProportion a b e c n
    → b * total (λ x. x * c x) (suc n) + (a + n * e) * c n ≡ a * total c (suc n)
mean_identity a b e c zero h = omega arith
mean_identity a b e c (suc n) h =
    mean_step a b e n (c n) (c (suc n)) (total c (suc n)) (total (λ x. x * c x) (suc n)) (h n (omega arith))
    (mean_identity a b e c n (λ x l. h x (omega arith)))

-- in the proportions of a mean a / b the sum of x c(x) is at most a / b of the sum of c(x)
pub mean_bound : (a b e : ℕ) (c : ℕ → ℕ) (n : ℕ) → InProportion a b e c n
    → b * total (λ x. x * c x) (suc n) ≤ a * total c (suc n)
mean_bound a b e c n h = omega (arith, mean_identity a b e c n h)

-- s is at most (s - x) + x, in each term
cover_step : (s x y t0 t1 t2 : ℕ) → s * t0 ≤ t1 + t2 → s * (t0 + y) ≤ t1 + (s - x) * y + (t2 + x * y)
cover_step s x y t0 t1 t2 h =
    let l : s ≤ (s - x) + x = omega arith in
    omega (arith, mul-le-mul_right y l)

-- s times the sum of c(x) is at most the sums of (s - x) c(x) and of x c(x)
pub cover : (s : ℕ) (c : ℕ → ℕ) (n : ℕ) → s * total c n ≤ total (λ x. (s - x) * c x) n + total (λ x. x * c x) n
cover s c zero = omega arith
cover s c (suc n) = cover_step s n (c n) (total c n) (total (λ x. (s - x) * c x) n) (total (λ x. x * c x) n) (cover s c n)

-- terms from s on are 0
pub past : (f : ℕ → ℕ) (s k : ℕ) → ((x : ℕ) → s ≤ x → f x ≡ 0) → total f (k + s) ≡ total f s
past f s zero h = ap (total f) (omega arith)
past f s (suc k) h =
    let e : suc k + s ≡ suc (k + s) = omega arith in
    ap (total f) e ∙ omega (arith, past f s k h, h (k + s) (omega arith))

short_step : (k y t1 t0 t : ℕ) → t1 ≡ t0 + t → t1 + suc k * y ≡ t0 + k * y + (t + y)
short_step k y t1 t0 t h = omega arith

-- how the sums of backorders fall, from a stock to the next
pub short_sum : (s : ℕ) (c : ℕ → ℕ) (m : ℕ) → m ≤ suc s
    → total (λ x. (suc s - x) * c x) m ≡ total (λ x. (s - x) * c x) m + total c m
short_sum s c zero h = refl
short_sum s c (suc m) h =
    let e : suc s - m ≡ suc (s - m) = omega arith in
    ap (λ k. total (λ x. (suc s - x) * c x) m + k * c m) e
    ∙ short_step (s - m) (c m) _ _ _ (short_sum s c m (omega arith))

square_step : (k y t2 t1 t0 t : ℕ) → t2 ≡ t1 + 2 * t0 + t → t2 + suc k * suc k * y ≡ t1 + k * k * y + 2 * (t0 + k * y) + (t + y)
square_step k y t2 t1 t0 t h = omega arith

-- the same for their squares
pub square_sum : (s : ℕ) (c : ℕ → ℕ) (m : ℕ) → m ≤ suc s
    → total (λ x. (suc s - x) * (suc s - x) * c x) m
    ≡ total (λ x. (s - x) * (s - x) * c x) m + 2 * total (λ x. (s - x) * c x) m + total c m
square_sum s c zero h = refl
square_sum s c (suc m) h =
    let e : suc s - m ≡ suc (s - m) = omega arith in
    ap (λ k. total (λ x. (suc s - x) * (suc s - x) * c x) m + k * k * c m) e
    ∙ square_step (s - m) (c m) _ _ _ _ (square_sum s c m (omega arith))

-- past K the ratio of two neighbours is at most r / one, where that bounds the ratio at K + 1 and e / (b + e)
pub ratio_bound : (a b e r one K j : ℕ)
    → (a + K * e) * one ≤ r * (suc K * (b + e)) → e * one ≤ r * (b + e)
    → (a + (j + K) * e) * one ≤ r * (suc (j + K) * (b + e))
ratio_bound a b e r one K j h k = omega (arith, mul-le-mul_left j k)

-- a weight past K is at most r / one of the one before it, where that bounds the ratio at K and e / (b + e)
pub falls_by : (a b e r one K j : ℕ) (c0 c1 : ℕ) → 0 < b
    → (a + K * e) * one ≤ r * (suc K * (b + e)) → e * one ≤ r * (b + e)
    → c1 * (suc (j + K) * (b + e)) ≡ c0 * (a + (j + K) * e)
    → c1 * one ≤ c0 * r
falls_by a b e r one K j c0 c1 hb h k st =
    let p : 0 < suc (j + K) * (b + e) = omega (arith, mul-le-mul_left (j + K) hb) in
    let q : c0 * ((a + (j + K) * e) * one) ≤ c0 * (r * (suc (j + K) * (b + e))) = mul-le-mul_left c0 (ratio_bound a b e r one K j h k) in
    let s : one * (c1 * (suc (j + K) * (b + e))) ≡ one * (c0 * (a + (j + K) * e)) = ap (λ z. one * z) st in
    le_of_mul-le-mul_right {m = c1 * one} {n = c0 * r} {k = suc (j + K) * (b + e)} (omega arith) p

geometric_step : (r g one c0 c1 t k : ℕ) → r + g ≡ one → c1 * one ≤ c0 * r → t * g + r * c0 ≤ k → (t + c1) * g + r * c1 ≤ k
geometric_step r g one c0 c1 t k e h i =
    let l : c1 * (r + g) ≡ c1 * one = ap (λ z. c1 * z) e in
    omega arith

-- the terms past K, where each is at most r / one of the one before it, and r + g is one
pub geometric : (r g one K : ℕ) (c : ℕ → ℕ) → r + g ≡ one → (j : ℕ)
    → ((i : ℕ) → i < j → c (suc (i + K)) * one ≤ c (i + K) * r)
    → total c (suc (j + K)) * g + r * c (j + K) ≤ total c (suc K) * g + r * c K
geometric r g one K c e zero h =
    let z : 0 + K ≡ K = omega arith in
    le_of_eq (ap (λ k. total c (suc k) * g + r * c k) z)
geometric r g one K c e (suc j) h =
    let z : suc j + K ≡ suc (j + K) = omega arith in
    le_trans (le_of_eq (ap (λ k. total c (suc k) * g + r * c k) z))
    (geometric_step r g one (c (j + K)) (c (suc (j + K))) (total c (suc (j + K))) _ e (h j (omega arith))
    (geometric r g one K c e j (λ i l. h i (omega arith))))

-- the terms past K are at most rem / one of the pivot's
pub remainder : (r g one rem hi t tk ck cn pivot : ℕ) → r + g ≡ one → 0 < g
    → t * g + r * cn ≤ tk * g + r * ck
    → ck * one ≤ hi * pivot → hi * r ≤ rem * g
    → t * one ≤ tk * one + rem * pivot
remainder r g one rem hi t tk ck cn pivot e p h k m =
    let a : (t * g + r * cn) * one ≤ (tk * g + r * ck) * one = mul-le-mul_right one h in
    let b : r * (ck * one) ≤ r * (hi * pivot) = mul-le-mul_left r k in
    let d : (hi * r) * pivot ≤ (rem * g) * pivot = mul-le-mul_right pivot m in
    le_of_mul-le-mul_right {m = t * one} {n = tk * one + rem * pivot} {k = g} (omega arith) p

-- the terms up to K enclose their sum
pub sum_low : (one pivot : ℕ) (c lo : ℕ → ℕ) (m : ℕ) → ((x : ℕ) → x < m → lo x * pivot ≤ c x * one) → total lo m * pivot ≤ total c m * one
sum_low one pivot c lo zero h = omega arith
sum_low one pivot c lo (suc m) h = omega (arith, sum_low one pivot c lo m (λ x l. h x (omega arith)), h m (omega arith))

-- weights within upper ends in units of the pivot's have a sum within that of the ends
pub sum_high : (one pivot : ℕ) (c hi : ℕ → ℕ) (m : ℕ) → ((x : ℕ) → x < m → c x * one ≤ hi x * pivot) → total c m * one ≤ total hi m * pivot
sum_high one pivot c hi zero h = omega arith
sum_high one pivot c hi (suc m) h = omega (arith, sum_high one pivot c hi m (λ x l. h x (omega arith)), h m (omega arith))

-- more terms have no smaller sum
pub total_mono : (c : ℕ → ℕ) (m k : ℕ) → total c m ≤ total c (k + m)
total_mono c m zero = le_of_eq (ap (total c) (omega arith))
total_mono c m (suc k) =
    let e : suc k + m ≡ suc (k + m) = omega arith in
    le_trans (omega (arith, total_mono c m k)) (le_of_eq (ap (total c) (sym e)))

-- The fall of the variance over whole numbers. D = g + p is the denominator, p / D the chance of s or fewer, e / D and (e + g) / D the
-- backorders at s + 1 and at s, U / D the mean, y / D and q / D the sums of (s - x) p(x) and (s - x)^2 p(x)
pub spread_core : (s U y e g p q : ℕ) → U + y ≡ e + g + s * (g + p)
    → s * s * ((g + p) * (g + p)) + 2 * suc s * (U * (g + p)) + (g + p) * (q + 2 * y + p) + e * e
    ≡ suc s * suc s * ((g + p) * (g + p)) + 2 * s * (U * (g + p)) + (g + p) * q + (e + g) * (e + g) + (2 * e + g) * p
spread_core s U y e g p q h =
    let i : 2 * (g + p) * (U + y) ≡ 2 * (g + p) * (e + g + s * (g + p)) = ap (λ z. 2 * (g + p) * z) h in
    omega arith

less_all : (x a b c : ℕ) → x - a - b - c ≡ x - (a + b + c)
less_all x a b c = omega arith

less_more : (x a b c d : ℕ) → x - a - b - c - d ≡ x - (a + b + c + d)
less_more x a b c d = omega arith

same_less : (x a y b : ℕ) → x + b ≡ y + a → x - a ≡ y - b
same_less x a y b h = omega arith

-- differences cut at 0 that agree without the cut
pub same_difference : (m s t a b c a' b' c' k : ℕ) → s + a' + b' + c' ≡ t + a + b + c + k
    → m + t - a' - b' - c' ≡ m + s - a - b - c - k
same_difference m s t a b c a' b' c' k h =
    less_all (m + t) a' b' c' ∙ same_less (m + t) (a' + b' + c') (m + s) (a + b + c + k) (omega arith) ∙ sym (less_more (m + s) a b c k)

-- what is added and what is taken off at s and at s + 1, over one denominator
pub spread_balance : (w s U y y' e e' g p q q' D : ℕ) → D ≡ g + p → e ≡ e' + g → U + y ≡ e + s * D → q' ≡ q + 2 * y + p
    → s * s * (w * (D * D)) + 2 * suc s * (w * (D * U)) + w * (D * q') + w * (e' * e')
    ≡ suc s * suc s * (w * (D * D)) + 2 * s * (w * (D * U)) + w * (D * q) + w * (e * e) + w * ((2 * e' + g) * p)
spread_balance w s U y y' e e' g p q q' D hd he hu hq =
    let i : U + y ≡ e' + g + s * (g + p) = hu ∙ ap₂ (λ z t. z + s * t) he hd in
    let core = spread_core s U y e' g p q i in
    let j : w * (s * s * (D * D) + 2 * suc s * (U * D) + D * q' + e' * e')
    ≡ w * (suc s * suc s * (D * D) + 2 * s * (U * D) + D * q + e * e + (2 * e' + g) * p) =
    rw (hd, he, hq) (ap (λ z. w * z) core) in
    omega (arith, j)

-- the variance falls by (2 EBO(s + 1) + G(s))(1 - G(s)) from a stock to the next, over whole numbers
pub spread_whole : (m w s U y y' e e' g p q q' D : ℕ) → D ≡ g + p → e ≡ e' + g → U + y ≡ e + s * D → q' ≡ q + 2 * y + p
    → m + suc s * suc s * (w * (D * D)) - 2 * suc s * (w * (D * U)) - w * (D * q') - w * (e' * e')
    ≡ m + s * s * (w * (D * D)) - 2 * s * (w * (D * U)) - w * (D * q) - w * (e * e) - w * ((2 * e' + g) * p)
spread_whole m w s U y y' e e' g p q q' D hd he hu hq =
    same_difference m (s * s * (w * (D * D))) (suc s * suc s * (w * (D * D))) (2 * s * (w * (D * U))) (w * (D * q)) (w * (e * e))
    (2 * suc s * (w * (D * U))) (w * (D * q')) (w * (e' * e')) (w * ((2 * e' + g) * p))
    (spread_balance w s U y y' e e' g p q q' D hd he hu hq)
