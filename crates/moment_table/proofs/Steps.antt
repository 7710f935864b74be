-- The steps of a table from a stock to the next one.
use Rattle.std.proofs.Common.{◌≡◌, ℕ, suc, min, ◌+◌, ◌-◌, ◌*◌, ◌<◌, ◌≤◌, ◌^◌, List, [], ◌∷◌, ◌++◌, length, get_or, refl, sym, ap, ap₂, ◌∙◌, arith, subst, le_trans, add-one, mul-le-mul_left, mul-le-mul_right, pow_pos}
use Rattle.std.proofs.lemmas.List.{get_or_default}
use Rattle.list_laws.proofs.Public.{ceil_most}
use Rattle.fixed_interval.specs.Ends.{Ends, ends_exact, ends_add, ends_capped, ends_less, ends_times, ends_mul, ends_div, ends_max}
use Rattle.series_bounds.specs.Profile.{listed}
use Rattle.series_bounds.specs.Answer.{at_place}
use Rattle.moment_table.specs.declared.stored.StoredRow.{StoredRow}
use Rattle.moment_table.specs.declared.kinds.Row.{Row}
use Rattle.moment_table.specs.declared.running.Falling.{Falling}
use Rattle.moment_table.specs.declared.running.Running.{Running}
use Rattle.moment_table.specs.Stored.{stored_row}
use Rattle.moment_table.specs.Running.{AreFirst, AreSmall, IsFalling, IsRunning}
use Rattle.moment_table.specs.Profile.{chance_ends, below_ends, tail_ends, ebo_ends, vbo_ends, known_row, wide_row, empty_row}

-- the list of u(0), .., u(n - 1), with u(n) put to its end, is that of one entry more
pub listed_next : {X : Type 0} (u : ℕ → X) (n : ℕ) (xs : List X) (x : X) → xs ≡ listed u n → x ≡ u n → xs ++ x ∷ [] ≡ listed u (n + 1)
unfolding listed
listed_next u n xs x h k = rw add-one (ap₂ (λ y z. y ++ z ∷ []) h k)

-- the empty list is the list of no entries
pub listed_none : {X : Type 0} (u : ℕ → X) (xs : List X) → xs ≡ [] → xs ≡ listed u 0
unfolding listed
listed_none u xs h = h

-- with no stock, the mean and a sum of no chances run along
pub falling_first : (f : ℕ) (m : Ends) (list : List Ends) (sum below shares : Ends) → below ≡ ends_exact f 0 → shares ≡ sum
    → IsFalling f m list sum 0 (record { expected = m; below = below; shares = shares })
unfolding ebo_ends below_ends
falling_first f m list sum below shares k h = record { expected = refl; below = k; shares = h }

-- and with them the larger of variance and mean
pub spread_first : (f : ℕ) (m v : Ends) (list : List Ends) (sum : Ends) → ends_max v m ≡ vbo_ends f m v list sum 0
unfolding vbo_ends
spread_first f m v list sum = refl

-- the chance of a weight of at most 8
pub chance_small : (f : ℕ) (sum e p : Ends) → e.hi ≤ 8 * 2 ^ f → 2 ^ f ≤ sum.lo → p ≡ ends_div f e sum → p.hi ≤ 8 * 2 ^ f
chance_small f sum e p t l h =
    let q : (ends_div f e sum).hi ≤ 8 * 2 ^ f = ceil_most (e.hi * 2 ^ f) sum.lo (8 * 2 ^ f) (omega (arith, pow_pos f, l))
    (le_trans (mul-le-mul_right (2 ^ f) t) (mul-le-mul_left (8 * 2 ^ f) l)) in
    subst (λ (y : Ends). y.hi ≤ 8 * 2 ^ f) (sym h) q

-- an entry that is read, whatever the default, is that at its place
pub entry_is : (list : List Ends) (x : ℕ) (e : Ends) → x < length list → e ≡ get_or list x e → e ≡ at_place list x
entry_is list x e l h = h ∙ get_or_default list x e (record { lo = 0; hi = 0 }) l

pub chance_is : (f : ℕ) (list : List Ends) (sum e p : Ends) (x : ℕ) → e ≡ at_place list x → p ≡ ends_div f e sum → p ≡ chance_ends f list sum x
unfolding chance_ends
chance_is f list sum e p x h k = k ∙ ap (λ (z : Ends). ends_div f z sum) h

-- a weight that is read of a list of proper sizes is at most 8
pub step_weight : (f : ℕ) (n : ℕ) (list : List Ends) (e : Ends) (s : ℕ) → AreFirst f n list → s < n → e ≡ get_or list s e → e.hi ≤ 8 * 2 ^ f
step_weight f n list e s z l he = subst (λ (y : Ends). y.hi ≤ 8 * 2 ^ f) (sym (entry_is list s e (omega (arith, l, z.enough)) he)) (z.tops s l)

-- what a number leaves of 1 is what it leaves where it is cut at 1
pub left_is : (f : ℕ) (below cut : Ends) → cut ≡ ends_capped below (2 ^ f) → ends_less (ends_exact f 1) cut ≡ ends_less (ends_exact f 1) below
left_is f below cut e =
    let lo : 1 * 2 ^ f - min below.hi (2 ^ f) ≡ 1 * 2 ^ f - below.hi = omega arith in
    let hi : 1 * 2 ^ f - min below.lo (2 ^ f) ≡ 1 * 2 ^ f - below.lo = omega arith in
    ap (ends_less (ends_exact f 1)) e ∙ ap₂ (λ y z. record { lo = y; hi = z }) lo hi

tail_is : (f : ℕ) (list : List Ends) (sum tail below : Ends) (s : ℕ) → below ≡ below_ends f list sum (suc s) → tail ≡ ends_less (ends_exact f 1) below → tail ≡ tail_ends f list sum s
unfolding tail_ends
tail_is f list sum tail below s h k = k ∙ ap (λ (z : Ends). ends_less (ends_exact f 1) z) h

below_next : (f : ℕ) (list : List Ends) (sum : Ends) (s : ℕ) → below_ends f list sum (suc s) ≡ ends_add (below_ends f list sum s) (chance_ends f list sum s)
unfolding below_ends
below_next f list sum s = refl

ebo_next : (f : ℕ) (m : Ends) (list : List Ends) (sum : Ends) (s : ℕ) → ebo_ends f m list sum (suc s) ≡ ends_less (ebo_ends f m list sum s) (tail_ends f list sum s)
unfolding ebo_ends
ebo_next f m list sum s = refl

vbo_next : (f : ℕ) (m v : Ends) (list : List Ends) (sum : Ends) (s : ℕ) → vbo_ends f m v list sum (suc s) ≡ ends_less (vbo_ends f m v list sum s)
    (ends_mul f (ends_add (ends_times (ebo_ends f m list sum (suc s)) 2) (tail_ends f list sum s)) (ends_less (ends_exact f 1) (tail_ends f list sum s)))
unfolding vbo_ends
vbo_next f m v list sum s = refl

-- the chance of at most s, by that of less than s and by the weight at s
below_is : (f : ℕ) (m : Ends) (list : List Ends) (sum : Ends) (s : ℕ) (falling : Falling f) → IsFalling f m list sum s falling
    → (e p below : Ends) → e ≡ at_place list s → p ≡ ends_div f e falling.shares → below ≡ ends_add falling.below p → below ≡ below_ends f list sum (suc s)
below_is f m list sum s falling h e p below he hp hb =
    hb ∙ ap₂ ends_add h.below (chance_is f list sum e p s he (hp ∙ ap (ends_div f e) h.shares)) ∙ sym (below_next f list sum s)

-- the tail by the next chance
pub falling_tail : (f : ℕ) (m : Ends) (list : List Ends) (sum : Ends) (s : ℕ) (falling : Falling f) → IsFalling f m list sum s falling
    → (e p below tail : Ends) → e ≡ at_place list s → p ≡ ends_div f e falling.shares → below ≡ ends_add falling.below p → tail ≡ ends_less (ends_exact f 1) below
    → tail ≡ tail_ends f list sum s
falling_tail f m list sum s falling h e p below tail he hp hb ht = tail_is f list sum tail below s (below_is f m list sum s falling h e p below he hp hb) ht

-- what runs along to the next stock: one chance more, backorders less the tail
pub falling_next : (f : ℕ) (m : Ends) (list : List Ends) (sum : Ends) (s : ℕ) (falling : Falling f) → IsFalling f m list sum s falling
    → (e p below tail expected : Ends) → e ≡ at_place list s → p ≡ ends_div f e falling.shares → below ≡ ends_add falling.below p → tail ≡ ends_less (ends_exact f 1) below
    → expected ≡ ends_less falling.expected tail → IsFalling f m list sum (s + 1) (record { expected = expected; below = below; shares = falling.shares })
falling_next f m list sum s falling h e p below tail expected he hp hb ht hx =
    let bi : below ≡ below_ends f list sum (suc s) = below_is f m list sum s falling h e p below he hp hb in
    let ti : tail ≡ tail_ends f list sum s = tail_is f list sum tail below s bi ht in
    let xi : expected ≡ ebo_ends f m list sum (suc s) = hx ∙ ap₂ ends_less h.expected ti ∙ sym (ebo_next f m list sum s) in
    record {
      expected = xi ∙ ap (ebo_ends f m list sum) (sym (add-one s));
      below = bi ∙ ap (below_ends f list sum) (sym (add-one s));
      shares = h.shares;
    }

-- what runs along is what is stored of the row from known weights
pub stored_known : (f : ℕ) (m v : Ends) (list : List Ends) (sum : Ends) (s : ℕ) (running : Running f) → IsRunning f m v list sum s running
    → (ebo : Ends) → ebo ≡ running.falling.expected → record { ebo = ebo; vbo = running.spread } ≡ stored_row (known_row f m v list sum s)
unfolding known_row
stored_known f m v list sum s running h ebo he = rw (he, h.falling.expected, h.spread) refl

-- the tail is that of the row from known weights
pub tail_known : (f : ℕ) (m v : Ends) (list : List Ends) (sum tail : Ends) (s : ℕ) → tail ≡ tail_ends f list sum s → tail ≡ (known_row f m v list sum s).tail
unfolding known_row
tail_known f m v list sum tail s h = h

-- a row by what is stored of it, and its tail
pub row_known : (f : ℕ) (row : Row f) (stored : StoredRow f) (ebo vbo tail : Ends) → stored ≡ stored_row row → ebo ≡ stored.ebo → vbo ≡ stored.vbo → tail ≡ row.tail
    → record { ebo = ebo; vbo = vbo; tail = tail } ≡ row
row_known f row stored ebo vbo tail h he hv ht = rw (he, hv, ht, h) refl

-- what runs along does so for the sum whose shares it takes
pub own_sum : (f : ℕ) (m v : Ends) (list : List Ends) (sum : Ends) (s : ℕ) (running : Running f) → IsRunning f m v list sum s running
    → IsRunning f m v list running.falling.shares s running
own_sum f m v list sum s running h = subst (λ z. IsRunning f m v list z s running) (sym h.falling.shares) h

-- the variance at the next stock: that before less its fall
pub spread_next : (f : ℕ) (m v : Ends) (list : List Ends) (sum : Ends) (s : ℕ) (spread next expected tail fall : Ends) → spread ≡ vbo_ends f m v list sum s
    → expected ≡ ebo_ends f m list sum (s + 1) → tail ≡ tail_ends f list sum s
    → fall ≡ ends_mul f (ends_add (ends_times expected 2) tail) (ends_less (ends_exact f 1) tail) → next ≡ ends_less spread fall → next ≡ vbo_ends f m v list sum (s + 1)
spread_next f m v list sum s spread next expected tail fall h he ht hf hn =
    let xi : expected ≡ ebo_ends f m list sum (suc s) = he ∙ ap (ebo_ends f m list sum) (add-one s) in
    let fi : fall ≡ ends_mul f (ends_add (ends_times (ebo_ends f m list sum (suc s)) 2) (tail_ends f list sum s)) (ends_less (ends_exact f 1) (tail_ends f list sum s)) =
    hf ∙ ap₂ (λ (y t : Ends). ends_mul f (ends_add (ends_times y 2) t) (ends_less (ends_exact f 1) t)) xi ht in
    hn ∙ ap₂ ends_less h fi ∙ sym (vbo_next f m v list sum s) ∙ ap (vbo_ends f m v list sum) (sym (add-one s))

-- the sizes on which a step rests hold at the next stock too
pub small_next : (f : ℕ) (s : ℕ) (falling : Falling f) → AreSmall f s falling
    → (e p below tail expected : Ends) → e.hi ≤ 8 * 2 ^ f → p ≡ ends_div f e falling.shares → below ≡ ends_add falling.below p → expected ≡ ends_less falling.expected tail
    → AreSmall f (s + 1) (record { expected = expected; below = below; shares = falling.shares })
small_next f s falling h e p below tail expected t hp hb hx =
    let pt : p.hi ≤ 8 * 2 ^ f = chance_small f falling.shares e p t h.sum_least hp in
    record {
      expected = (let a = ap (λ (y : Ends). y.hi) hx in omega (arith, a, h.expected));
      below = (let a = ap (λ (y : Ends). y.hi) hb in omega (arith, a, pt, h.below));
      sum_least = h.sum_least;
    }

-- ---- the other rows

-- the ends that are found where the weights are Wide are the row at the stock
pub wide_is : (f : ℕ) (m v short start one ebo vbo tail : Ends) (s lo hi top unit : ℕ) → start ≡ ends_max v m → short ≡ ends_less m (ends_exact f s) → one ≡ ends_exact f 1
    → lo ≡ short.lo → hi ≡ m.hi → top ≡ start.hi → unit ≡ one.hi
    → ebo ≡ record { lo = lo; hi = hi } → vbo ≡ record { lo = 0; hi = top } → tail ≡ record { lo = 0; hi = unit }
    → record { ebo = ebo; vbo = vbo; tail = tail } ≡ wide_row f m v s
unfolding wide_row
wide_is f m v short start one ebo vbo tail s lo hi top unit hs hh ho hl hi' ht hu he hv hg = rw (he, hv, hg, hl, hi', ht, hu, hs, hh, ho) refl

-- a row of zeros is that of a pipeline that is always empty
pub empty_is : (f : ℕ) (a : Ends) → a ≡ ends_exact f 0 → record { ebo = a; vbo = a; tail = a } ≡ empty_row f
unfolding empty_row
empty_is f a h = rw h refl
