-- What stocks that are made of a family's vectors hold at each pair, and where two of them agree.
use Rattle.std.proofs.Common.{◌≡◌, ◌==◌, ℕ, zero, suc, ◌+◌, ◌*◌, ◌<◌, ◌≤◌, List, ◌++◌, length, flat_map, take, drop, get_or, position, sym, ap, ◌∙◌, arith, length-drop}
use Rattle.std.specs.List.{range_with_len, AllByRecursion}
use Rattle.std.specs.Option.{option_map_or}
use Rattle.std.proofs.lemmas.List.{length-take-le, take_all, drop-append-le}
use Rattle.std.proofs.lemmas.List.FromFn.{get_or-range_with_len, length-range_with_len}
use Rattle.std.proofs.Math.Seq.{drop-append_seam}
use Rattle.std.proofs.lemmas.List.{take-append-le}
use Rattle.list_laws.proofs.Public.{all_follow, flat_at}
use Rattle.spares_input.specs.Cases.{CaseRows, IsCase}
use Rattle.fleet_model.specs.Rows.{shop_units, stock}
use Rattle.fleet_model.specs.Fleet.{family}
use Rattle.family_items.specs.Inputs.{IsLine, IsShop}
use Rattle.family_items.proofs.Public.{shops_all}
use Rattle.family_points.proofs.Items.{Agree}
use Rattle.family_points.specs.Vectors.{site_part, stock_in, stocks_in}
use Rattle.family_points.proofs.Boxes.{parts_joined}

-- each member of a family is a part
pub members : (c : CaseRows) (l : ℕ) → IsCase c → IsLine c l → AllByRecursion (λ p. p < length c.parts) (family c l)
members c l valid line =
    (line.is_part, all_follow (IsShop c l) (λ p. p < length c.parts) (shop_units c l) (λ p h. h.is_part) (shops_all c l valid line))

-- the stock of a pair
pub stock_is : (c : CaseRows) (l : ℕ) (own : ℕ → List ℕ) (p k : ℕ) → p < length c.parts → k < length c.sites
    → stock c (stocks_in c l own) p k ≡ stock_in c l own p k
stock_is c l own p k h m =
    let at : get_or (range_with_len 0 (length c.parts)) p 0 ≡ p = omega (arith, get_or-range_with_len 0 (length c.parts) p 0 h) in
    flat_at (stock_in c l own) (length c.sites) 0 (range_with_len 0 (length c.parts)) p k (omega (arith, h, length-range_with_len 0 (length c.parts))) m
    ∙ ap (λ q. stock_in c l own q k) at

-- where the family's own stocks are the same, so are those of the case
pub agree : (c : CaseRows) (l : ℕ) (own other : ℕ → List ℕ) (k : ℕ) → IsCase c → IsLine c l → k < length c.sites → own k ≡ other k
    → Agree c l (stocks_in c l own) (stocks_in c l other) k
agree c l own other k valid line m e =
    all_follow (λ p. p < length c.parts) (λ p. stock c (stocks_in c l own) p k ≡ stock c (stocks_in c l other) p k) (family c l)
    (λ p h. stock_is c l own p k h m ∙ ap (λ (row : List ℕ). option_map_or (λ i. get_or row i 0) (position (λ q. q == p) (family c l)) 0) e
    ∙ sym (stock_is c l other p k h m)) (members c l valid line)

-- ---- the parts of a vector

-- how many parts a family has
abbrev pub size : CaseRows → ℕ → ℕ
size c l = length (family c l)

-- what stands for the sites from a on, of which there are n
abbrev pub joined : CaseRows → ℕ → List ℕ → ℕ → ℕ → List ℕ
joined c l v a n = flat_map (site_part c l v) (range_with_len a n)

-- a vector is what stands in it for each site, one after another
pub all_joined : (c : CaseRows) (l : ℕ) (v : List ℕ) (n : ℕ) → length v ≡ n * size c l → joined c l v 0 n ≡ v
all_joined c l v n e =
    let none : 0 * size c l ≡ 0 = omega arith in
    parts_joined (size c l) v n 0 ∙ ap (λ k. take (n * size c l) (drop k v)) none ∙ take_all (n * size c l) v (omega (arith, e))

times_most : (k n w : ℕ) → k < n → k * w + w ≤ n * w
times_most k zero w h = absurd (omega (arith, h))
times_most zero (suc n) w h = omega arith
times_most (suc k) (suc n) w h = omega (arith, times_most k n w (omega (arith, h)))

-- what stands in a vector for a site has an entry for each part of the family
pub part_long : (c : CaseRows) (l : ℕ) (v : List ℕ) (k n : ℕ) → length v ≡ n * size c l → k < n → length (site_part c l v k) ≡ size c l
part_long c l v k n e h =
    length-take-le (size c l) (drop (k * size c l) v) (omega (arith, length-drop (k * size c l) v, times_most k n (size c l) h, e))

-- a part stays where the vector goes on
pub part_before : (c : CaseRows) (l : ℕ) (v u : List ℕ) (k n : ℕ) → length v ≡ n * size c l → k < n → site_part c l (v ++ u) k ≡ site_part c l v k
part_before c l v u k n e h =
    let m = times_most k n (size c l) h in
    ap (take (size c l)) (drop-append-le (k * size c l) v u (omega (arith, m, e)))
    ∙ take-append-le (size c l) (drop (k * size c l) v) u (omega (arith, length-drop (k * size c l) v, m, e))

-- and the one that is put behind it is the next
pub part_behind : (c : CaseRows) (l : ℕ) (v u : List ℕ) (n : ℕ) → length v ≡ n * size c l → length u ≡ size c l → site_part c l (v ++ u) n ≡ u
part_behind c l v u n e h =
    ap (λ k. take (size c l) (drop k (v ++ u))) (sym e) ∙ ap (take (size c l)) (drop-append_seam v u) ∙ take_all (size c l) u (omega (arith, h))
