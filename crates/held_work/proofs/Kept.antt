-- The vectors of a family from what is held, their tables, and where nothing is held.
use Rattle.std.proofs.Common.{◌≡◌, ℕ, zero, suc, ◌≤◌, Bool, true, false, nat_le, inl, inr, List, [], ◌∷◌, length, get_or, sum_by, Result, Ok, Err, if◌then◌else◌, refl, sym, ap, ◌∙◌, subst, arith}
use Rattle.std.specs.Result.{IsOk}
use Rattle.std.proofs.lemmas.Bool.{false≢true}
use Rattle.std.proofs.lemmas.Bool.Decides.{nat_tests}
use Rattle.std.proofs.lemmas.List.Sums.{sum_by-cons}
use Rattle.list_laws.proofs.Public.{each_any, same_map, sum_each}
use Rattle.answers.specs.Counts.{count64}
use Rattle.hull.specs.Curves.{Among}
use Rattle.spares_input.specs.Cases.{CaseRows, IsCase}
use Rattle.spares_input.specs.Pairs.{pair_place}
use Rattle.spares_input.specs.Stocks.{AreStocksOf, StockList}
use Rattle.fleet_model.specs.Rows.{line_units, stock}
use Rattle.family_items.specs.Inputs.{IsLine}
use Rattle.family_points.specs.declared.bounds.Bounds.{Bounds}
use Rattle.family_points.specs.Vectors.{Pair, box_from, limits, places, vector_of, zeros}
use Rattle.family_points.specs.Points.{ScoreEnds, points_within, AreOrdered}
use Rattle.family_points.specs.Counts.{limited, most_tables, tables_between, tables_of, work_of}
use Rattle.family_points.proofs.Public.{held_ordered, tables_whole}
use Rattle.fleet_plan.specs.Families.{case_points, family_points}
use Rattle.fleet_plan.proofs.Public.{line_among}
use Rattle.held_work.specs.Work.{held_work_of, tables_from, IsNothing}

-- ---- the work of a family is within that of the case

limited_step : (b : Bool) (n : ℕ) (r : Result ℕ ℕ) → r ≡ (if b then Ok n else Err n) → IsOk r → b ≡ true
limited_step true n r e h = refl
limited_step false n r e h = absurd (false≢true (subst IsOk e h))

small_of : (n : ℕ) → nat_le (count64 n) 1000000 ≡ true → n ≤ 1000000
small_of n h =
    let k : count64 n ≤ 1000000 = grind (arith, nat_tests, h) in
    omega (arith, k)

term_most : (f : ℕ → ℕ) (xs : List ℕ) (x : ℕ) → Among x xs → f x ≤ sum_by f xs
term_most f [] x a = absurd a
term_most f (y ∷ ys) x (inl e) = omega (arith, sum_by-cons f y ys, ap f e)
term_most f (y ∷ ys) x (inr a) = omega (arith, sum_by-cons f y ys, term_most f ys x a)

-- the tables of the family of l over its vectors from what is held to the limits
abbrev pub tables_at : CaseRows → List ℕ → ℕ → ℕ
tables_at c held l = tables_between c l (vector_of c l held) (limits c l)

-- where the work from what is held is within the limit, so are the tables of each family
pub few_tables : (c : CaseRows) (held : List ℕ) (l : ℕ) → IsCase c → IsLine c l → IsOk (held_work_of c held)
    → tables_between c l (vector_of c l held) (limits c l) ≤ most_tables
few_tables c held l valid line h =
    let own = term_most (tables_at c held) (line_units c) l (line_among c valid l line) in
    let small = small_of (tables_from c held) (limited_step (nat_le (count64 (tables_from c held)) 1000000) (count64 (tables_from c held)) (held_work_of c held) refl h) in
    omega (arith, own, small)

-- ---- curves

-- the bounds of a family from what is held to its limits are in order
pub box_ordered : (c : CaseRows) (l : ℕ) (held : StockList) (b : Bounds) → b ≡ box_from c l held.list → IsCase c → IsLine c l → AreStocksOf c held
    → AreOrdered c l b.held b.low b.high
box_ordered c l held b e valid line h = subst (λ (x : Bounds). AreOrdered c l x.held x.low x.high) (sym e) (held_ordered c l held valid line h.is_for h.limits)

-- within the work's limit, the box of each family takes few enough tables
pub box_few : (c : CaseRows) (l : ℕ) (held : List ℕ) (b : Bounds) → b ≡ box_from c l held → IsCase c → IsLine c l → IsOk (held_work_of c held)
    → tables_between c l b.low b.high ≤ most_tables
box_few c l held b e valid line h = subst (λ (x : Bounds). tables_between c l x.low x.high ≤ most_tables) (sym e) (few_tables c held l valid line h)

-- ---- where nothing is held

nothing_at : (xs : List ℕ) → IsNothing xs → (i : ℕ) → get_or xs i 0 ≡ 0
nothing_at [] h i = refl
nothing_at (x ∷ xs) h zero = h 0 0 (omega arith)
nothing_at (x ∷ xs) h (suc i) = nothing_at xs (λ j d b. h (suc j) d (omega (arith, b))) i

pub no_vector : (c : CaseRows) (l : ℕ) (held : List ℕ) → IsNothing held → vector_of c l held ≡ zeros c l
no_vector c l held h =
    same_map (λ (x : Pair). Unit {0}) (λ (x : Pair). stock c held x.part x.site) (λ (x : Pair). 0) (places c l)
    (λ x _. nothing_at held h (pair_place (length c.sites) x.part x.site)) (each_any (places c l))

-- with nothing held, the tables are those of all vectors of each family
pub all_tables : (c : CaseRows) (held : List ℕ) → IsCase c → IsNothing held → tables_from c held ≡ sum_by (tables_of c) (line_units c)
all_tables c held valid h =
    sum_each (tables_at c held) (tables_of c) (line_units c) (λ l. ap (λ (v : List ℕ). tables_between c l v (limits c l)) (no_vector c l held h) ∙ sym (tables_whole c l valid))

-- with nothing held, the work is that of all vectors
pub all_work : (c : CaseRows) (held : List ℕ) → IsCase c → IsNothing held → held_work_of c held ≡ work_of c
all_work c held valid h = ap (λ n. limited (count64 n)) (all_tables c held valid h)

-- a list of zeros held leaves the points of the case as they are with nothing held
pub all_points : (ends : ScoreEnds) (c : CaseRows) (held : List ℕ) → IsNothing held → case_points ends c held ≡ case_points ends c []
all_points ends c held h =
    same_map (λ (l : ℕ). Unit {0}) (family_points ends c held) (family_points ends c []) (line_units c)
    (λ l _. ap (λ (v : List ℕ). points_within c l ends v v (limits c l)) (no_vector c l held h)) (each_any (line_units c))
