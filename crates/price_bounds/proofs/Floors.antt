-- What floors and their bound say of each choice.
use Rattle.std.proofs.Common.{◌≡◌, ℕ, ◌+◌, ◌-◌, ◌*◌, ◌≤◌, List, [], ◌∷◌, refl, arith}
use Rattle.std.specs.List.{sum}
use Rattle.list_laws.proofs.Public.{sum_cons}
use Rattle.hull.specs.declared.point.Point.{Point}
use Rattle.hull.specs.declared.price.Price.{Price}
use Rattle.hull.specs.Curves.{lagrangian}
use Rattle.price_bounds.specs.Sums.{total, cost_of, lo_of, Picks, AllLeast}
use Rattle.price_bounds.specs.Certificates.{AreFloors, AreLeastFloors, Claims, IsAcceptable}
use Rattle.price_bounds.proofs.Duality.{lagrangian_of_all, bound_step}

-- floors are together at most what any choice is lagrangian
floors_together : (price : Price) (families : List (List Point)) (cs : List ℕ) (ws : List Point) → AreFloors price families cs → Picks families ws → sum cs ≤ total (lagrangian price.p price.q) ws
floors_together price [] [] [] a b = omega arith
floors_together price [] [] (w ∷ ws) a b = absurd b
floors_together price [] (c ∷ cs) ws a b = absurd a
floors_together price (x ∷ xs) [] ws a b = absurd a
floors_together price (x ∷ xs) (c ∷ cs) [] a b = absurd b
floors_together price (x ∷ xs) (c ∷ cs) (w ∷ ws) a b =
    let h = a.0 w b.0 in
    let k = floors_together price xs cs ws a.1 b.1 in
    let e = sum_cons c cs in
    omega (arith, h, k, e)

-- a claimed bound is what the floors give at most, q times
pub claimed : (families : List (List Point)) (budget : ℕ) (claims : Claims) → IsAcceptable families budget claims → (ws : List Point) → Picks families ws
    → claims.price.q * claims.bound ≤ claims.price.q * lo_of ws + claims.price.p * cost_of ws - claims.price.p * budget
claimed families budget claims a ws w =
    let s = floors_together claims.price families claims.floors ws a.floors w in
    let e = lagrangian_of_all claims.price.p claims.price.q ws in
    bound_step claims.price.p claims.price.q (sum claims.floors) budget claims.bound (lo_of ws) (cost_of ws) a.money a.bound (omega (arith, s, e))

-- exact floors are floors
pub exact_floors : (price : Price) (families : List (List Point)) (cs : List ℕ) → AreLeastFloors price families cs → AreFloors price families cs
exact_floors price [] [] a = tt
exact_floors price [] (c ∷ cs) a = absurd a
exact_floors price (x ∷ xs) [] a = absurd a
exact_floors price (x ∷ xs) (c ∷ cs) a = (a.0, exact_floors price xs cs a.2)

-- and are what the least points are lagrangian
pub least_floors : (price : Price) (families : List (List Point)) (vs : List Point) (cs : List ℕ) → AllLeast price.p price.q families vs → Picks families vs → AreLeastFloors price families cs → sum cs ≡ total (lagrangian price.p price.q) vs
least_floors price [] [] [] a k f = refl
least_floors price [] [] (c ∷ cs) a k f = absurd f
least_floors price [] (v ∷ vs) cs a k f = absurd a
least_floors price (x ∷ xs) [] cs a k f = absurd a
least_floors price (x ∷ xs) (v ∷ vs) [] a k f = absurd f
least_floors price (x ∷ xs) (v ∷ vs) (c ∷ cs) a k f =
    let low : c ≤ lagrangian price.p price.q v = f.0 v k.0 in
    let w = f.1 in
    let high : lagrangian price.p price.q v ≤ lagrangian price.p price.q w.0 = a.0 w.0 w.1 in
    let e : lagrangian price.p price.q w.0 ≡ c = w.2 in
    let r = least_floors price xs vs cs a.1 k.1 f.2 in
    let s = sum_cons c cs in
    omega (arith, low, high, e, r, s)
