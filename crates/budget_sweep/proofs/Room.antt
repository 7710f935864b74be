-- The numbers of a sweep are small, and what a target costs at least fits.
use Rattle.std.proofs.Common.{◌≡◌, ℕ, zero, suc, ◌+◌, ◌-◌, ◌*◌, ◌^◌, ◌<◌, ◌≤◌, List, [], ◌∷◌, Option, Some, None, IfSome, length, slice_index, refl, sym, subst, arith}
use Rattle.std.specs.List.{All}
use Rattle.std.proofs.lemmas.List.Elements.{All-from_get_or, All-weaker}
use Rattle.list_laws.proofs.Public.{ceil_most}
use Rattle.hull.specs.declared.point.Point.{Point}
use Rattle.hull.specs.declared.price.Price.{Price}
use Rattle.hull.specs.Curves.{Steps, InRange, nowhere, point_at}
use Rattle.hull.proofs.Public.{least_at_stop, among_at}
use Rattle.price_bounds.specs.Sums.{cost_of, lo_of, hi_of, Picks, AllLeast}
use Rattle.step_walk.specs.Prefix.{curve_at, vertex_at, fall, rise, picked, AreVertices, IsPrefix, HaveShapes}
use Rattle.step_walk.proofs.Public.{own_step, rises_at}
use Rattle.marginal_alloc.proofs.Public.{critical_stops, all_least, all_picked}
use Rattle.price_bounds.proofs.Public.{lagrangian_of_all, least_together}
use Rattle.plan_report.specs.Fits.{PriceFits}
use Rattle.budget_sweep.specs.declared.report.SweepPoint.{SweepPoint}
use Rattle.budget_sweep.specs.Sweep.{TellsPrice, IsState, IsSweep, no_state, state_at, last_state}
use Rattle.budget_sweep.specs.Target.{cost_floor, floor_at, least_cost}
use Rattle.budget_sweep.specs.Fits.{IsSmallPoint, IsStepPrice, PointFits}
use Rattle.budget_sweep.proofs.StatesOf.{all_below, cheaper_step}
use Rattle.budget_sweep.proofs.Together.{vertex_range, cost_room, hi_room}

-- ---- what is small

ends_together : (curves : List (List Point)) (picks : List ℕ) → length picks ≡ length curves
    → ((f : ℕ) → f < length curves → InRange (vertex_at curves f (slice_index picks f)))
    → lo_of (picked curves picks) ≤ hi_of (picked curves picks)
ends_together [] picks n h = omega arith
ends_together (c ∷ curves) [] n h = omega arith
ends_together (c ∷ curves) (k ∷ picks) n h =
    let a : (point_at c k).lo ≤ (point_at c k).hi = (h zero (omega arith)).ends in
    let b = ends_together curves picks (let l : suc (length picks) ≡ suc (length curves) = n in omega arith)
    (λ f l. h (suc f) (omega arith)) in
    omega (arith, a, b)

small_price : (curves : List (List Point)) (picks : List ℕ) (price : Option Price) → HaveShapes curves
    → IsPrefix curves picks → TellsPrice curves picks price → IfSome price IsStepPrice
small_price curves picks None shapes pre t = tt
small_price curves picks (Some price) shapes pre t =
    let f = t.0 in
    let k = slice_index picks t.0 in
    let step : Steps (vertex_at curves t.0 (slice_index picks t.0)) (vertex_at curves t.0 (slice_index picks t.0 + 1)) =
    own_step (curve_at curves t.0) (shapes t.0 t.1.step.family).chain (slice_index picks t.0) t.1.step.place in
    let here = vertex_range curves picks t.0 shapes pre.vertices t.1.step.family in
    let there : InRange (vertex_at curves t.0 (slice_index picks t.0 + 1)) =
    (shapes t.0 t.1.step.family).ranges (vertex_at curves t.0 (slice_index picks t.0 + 1))
    (among_at (curve_at curves t.0) (slice_index picks t.0 + 1) nowhere t.1.step.place) in
    let sl = step.lo in
    let sc = step.cost in
    let h = here.hi in
    let e = here.ends in
    let c = there.cost in
    let p = t.2 in
    let q = t.3 in
    record {
      fall = omega (arith, sl, p);
      most_fall = omega (arith, p, h, e);
      rise = omega (arith, sc, q);
      most_rise = omega (arith, q, c);
    }

pub state_small : (curves : List (List Point)) (k : ℕ) (point : SweepPoint) → length curves ≤ 2000 → HaveShapes curves
    → IsState curves k point → IsSmallPoint point
state_small curves k point few shapes s =
    let v = s.taken.prefix.vertices in
    let c = s.state.cost in
    let l = s.state.lo in
    let h = s.state.hi in
    record {
      cost = omega (arith, c, cost_room curves s.picks few shapes v);
      ends = omega (
        arith,
        l,
        h,
        ends_together curves s.picks v.count
            (λ f b. vertex_range curves s.picks f shapes v b),
      );
      hi = omega (arith, h, hi_room curves s.picks few shapes v);
      price = small_price curves s.picks point.price shapes s.taken.prefix s.state.price;
    }

-- the sums and prices of a sweep of at most 2,000 curves are in their ranges
pub all_small : (curves : List (List Point)) (points : List SweepPoint) → length curves ≤ 2000 → HaveShapes curves
    → IsSweep curves points → All IsSmallPoint points
all_small curves points few shapes h =
    All-from_get_or IsSmallPoint points no_state (λ k l. state_small curves k (state_at points k) few shapes (h.each k l))

-- ---- what is small can be printed

price_fits : (price : Option Price) → IfSome price IsStepPrice → IfSome price PriceFits
price_fits None s = tt
price_fits (Some price) s =
    let p = s.most_fall in
    record { p = omega (arith, p); money = s.rise; most_money = s.most_rise }

pub point_fits : (point : SweepPoint) → IsSmallPoint point → PointFits point
point_fits point s =
    let h = s.hi in
    record { ends = s.ends; hi = omega (arith, h); price = price_fits point.price s.price }

-- all points of a small sweep can be printed
pub all_fit : (points : List SweepPoint) → All IsSmallPoint points → All PointFits points
all_fit points s = All-weaker IsSmallPoint PointFits point_fits points s

-- and a small point, if there is one
pub reach_fits : (reach : Option SweepPoint) → IfSome reach IsSmallPoint → IfSome reach PointFits
reach_fits None s = tt
reach_fits (Some point) s = point_fits point s

-- ---- what a target costs at least is at most what all steps cost

own_least : (curves : List (List Point)) (picks : List ℕ) (price : Price) → HaveShapes curves → IsPrefix curves picks
    → TellsPrice curves picks (Some price)
    → AllLeast price.p price.q curves (picked curves picks)
own_least curves picks price shapes pre t =
    let pos = rises_at curves t.0 (slice_index picks t.0) (shapes t.0 t.1.step.family).chain t.1.step in
    subst (λ x. AllLeast x price.q curves (picked curves picks)) (sym t.2)
    (subst (λ x. AllLeast (fall curves t.0 (slice_index picks t.0)) x curves (picked curves picks)) (sym t.3)
    (all_least (fall curves t.0 (slice_index picks t.0)) (rise curves t.0 (slice_index picks t.0)) curves curves picks
    refl pre.vertices.count
    (λ g b. least_at_stop (fall curves t.0 (slice_index picks t.0)) (rise curves t.0 (slice_index picks t.0))
    (curve_at curves g) (slice_index picks g) nowhere pos (shapes g b).chain
    (critical_stops curves picks t.0 pre t.1 g b))))

own_picks : (curves : List (List Point)) (picks : List ℕ) → AreVertices curves picks
    → Picks curves (picked curves picks)
own_picks curves picks v = all_picked curves curves picks refl v.count
    (λ g b. among_at (curve_at curves g) (slice_index picks g) nowhere (v.below g b))

floor_most : (curves : List (List Point)) (picks last : List ℕ) (price : Option Price) (limit : ℕ) → HaveShapes curves
    → IsPrefix curves picks → TellsPrice curves picks price → AreVertices curves last
    → lo_of (picked curves last) ≤ limit → cost_floor limit (lo_of (picked curves picks))
    (cost_of (picked curves picks)) price ≤ cost_of (picked curves last)
floor_most curves picks last None limit shapes pre t v most = omega arith
floor_most curves picks last (Some price) limit shapes pre t v most =
    let together = least_together price.p price.q curves (picked curves picks) (picked curves last)
    (own_least curves picks price shapes pre t) (own_picks curves last v) in
    let a = lagrangian_of_all price.p price.q (picked curves picks) in
    let b = lagrangian_of_all price.p price.q (picked curves last) in
    let small = small_price curves picks (Some price) shapes pre t in
    ceil_most (price.q * lo_of (picked curves picks) + price.p * cost_of (picked curves picks) - price.q * limit)
    price.p (cost_of (picked curves last)) small.fall
    (cheaper_step price.p price.q (lo_of (picked curves picks)) (cost_of (picked curves picks))
    (lo_of (picked curves last)) (cost_of (picked curves last)) limit (omega (arith, together, a, b)) most)

state_floor : (curves : List (List Point)) (k n limit : ℕ) (point last : SweepPoint) → HaveShapes curves
    → IsState curves k point → IsState curves n last → last.lo ≤ limit → floor_at limit point ≤ last.cost
state_floor curves k n limit point last shapes s e most =
    let l = e.state.lo in
    let c = e.state.cost in
    let f = floor_most curves s.picks e.picks point.price limit shapes s.taken.prefix s.state.price
    e.taken.prefix.vertices (omega (arith, l, most)) in
    subst (λ x. floor_at limit point ≤ x) (sym c)
    (subst (λ x. cost_floor limit x point.cost point.price ≤ cost_of (picked curves e.picks)) (sym s.state.lo)
    (subst (λ x. cost_floor limit (lo_of (picked curves s.picks)) x point.price ≤ cost_of (picked curves e.picks))
    (sym s.state.cost) f))

-- the least cost of a limit that the last state comes to is below 2^64
pub least_fits : (curves : List (List Point)) (points : List SweepPoint) (limit : ℕ) → length curves ≤ 2000
    → HaveShapes curves → IsSweep curves points
    → (last_state points).lo ≤ limit → least_cost limit points < 2 ^ 64
least_fits curves points limit few shapes h most =
    let n = h.count in
    let last : IsState curves (length points - 1) (last_state points) = h.each (length points - 1) (omega (arith, n)) in
    let small = state_small curves (length points - 1) (last_state points) few shapes last in
    let c = small.cost in
    let b = all_below limit (last_state points).cost points
    (λ k l. state_floor curves k (length points - 1) limit (state_at points k) (last_state points) shapes
    (h.each k l) last most) in
    omega (arith, b, c)
