-- The two points that are read make a step of the chain.
use Rattle.std.proofs.Common.{◌≡◌, ◌+◌, map, length, refl, ap, arith}
use Rattle.std.proofs.lemmas.List.{length-map}
use Rattle.hull.specs.declared.point.Point.{Point}
use Rattle.hull.proofs.Runs.{among_read}
use Rattle.hull.proofs.Mapped.{mapped_at, mapped_step}
use Rattle.hull.proofs.chain.slope_of.Goals as goal

pub overflow_sub-result : goal.overflow_sub-result
overflow_sub-result g c =
    let r = mapped_step g.T.Spot.point c.args.vertices.now (map g.T.Spot.point c.args.vertices.now) c.args.k c.index-vertices-k.result c.index-vertices-k-2.result c.requires.shape.chain refl c.requires.within c.index-vertices-k.is c.index-vertices-k-2.is in
    let l = r.steps.lo in omega (arith, l)

pub overflow_sub-result-2 : goal.overflow_sub-result-2
overflow_sub-result-2 g c =
    let r = mapped_step g.T.Spot.point c.args.vertices.now (map g.T.Spot.point c.args.vertices.now) c.args.k c.index-vertices-k.result c.index-vertices-k-2.result c.requires.shape.chain refl c.requires.within c.index-vertices-k.is c.index-vertices-k-2.is in
    let l = r.steps.cost in omega (arith, l)

pub returns-clause-fall : goal.returns-clause-fall
returns-clause-fall g c =
    let r = mapped_step g.T.Spot.point c.args.vertices.now (map g.T.Spot.point c.args.vertices.now) c.args.k c.index-vertices-k.result c.index-vertices-k-2.result c.requires.shape.chain refl c.requires.within c.index-vertices-k.is c.index-vertices-k-2.is in
    let l = r.steps.lo in omega (arith, l, ap (λ (v : Point). v.lo) r.starts, ap (λ (v : Point). v.lo) r.ends)

pub returns-clause-rise : goal.returns-clause-rise
returns-clause-rise g c =
    let r = mapped_step g.T.Spot.point c.args.vertices.now (map g.T.Spot.point c.args.vertices.now) c.args.k c.index-vertices-k.result c.index-vertices-k-2.result c.requires.shape.chain refl c.requires.within c.index-vertices-k.is c.index-vertices-k-2.is in
    let l = r.steps.cost in omega (arith, l, ap (λ (v : Point). v.cost) r.starts, ap (λ (v : Point). v.cost) r.ends)

pub returns-clause-positive : goal.returns-clause-positive
returns-clause-positive g c =
    let r = mapped_step g.T.Spot.point c.args.vertices.now (map g.T.Spot.point c.args.vertices.now) c.args.k c.index-vertices-k.result c.index-vertices-k-2.result c.requires.shape.chain refl c.requires.within c.index-vertices-k.is c.index-vertices-k-2.is in
    let l = r.steps.lo in let k = r.steps.cost in (omega (arith, l), omega (arith, k))

pub returns-clause-small : goal.returns-clause-small
returns-clause-small g c =
    let f = g.T.Spot.point in
    let items = c.args.vertices.now in
    let m : length (map f items) ≡ length items = length-map items f in
    let below = c.requires.within in
    let start = c.index-vertices-k.result in
    let end = c.index-vertices-k-2.result in
    let s = c.requires.shape.ranges (f start) (among_read (map f items) c.args.k (f start) (omega (arith, below)) (mapped_at f items c.args.k start (f start) (omega (arith, m, below)) c.index-vertices-k.is)) in
    let e = c.requires.shape.ranges (f end) (among_read (map f items) (c.args.k + 1) (f end) (omega (arith, below)) (mapped_at f items (c.args.k + 1) end (f end) (omega (arith, m, below)) c.index-vertices-k-2.is)) in
    let a = s.ends in let b = s.hi in let d = e.cost in
    (omega (arith, a, b), omega (arith, d))

pub overflow_add-end : goal.overflow_add-end
overflow_add-end g c = (let k = c.ranges.k in omega (arith, k))

pub bounds-vertices-k : goal.bounds-vertices-k
bounds-vertices-k g c = (let m : length (map g.T.Spot.point c.args.vertices.now) ≡ length c.args.vertices.now = length-map c.args.vertices.now g.T.Spot.point in let below = c.requires.within in omega (arith, m, below))

pub bounds-vertices-k-2 : goal.bounds-vertices-k-2
bounds-vertices-k-2 g c = (let m : length (map g.T.Spot.point c.args.vertices.now) ≡ length c.args.vertices.now = length-map c.args.vertices.now g.T.Spot.point in let below = c.requires.within in omega (arith, m, below))

pub offset_bounds-vertices-k : goal.offset_bounds-vertices-k
offset_bounds-vertices-k g c = (let m : length (map g.T.Spot.point c.args.vertices.now) ≡ length c.args.vertices.now = length-map c.args.vertices.now g.T.Spot.point in let below = c.requires.within in omega (arith, m, below))

pub offset_bounds-vertices-k-2 : goal.offset_bounds-vertices-k-2
offset_bounds-vertices-k-2 g c = (let m : length (map g.T.Spot.point c.args.vertices.now) ≡ length c.args.vertices.now = length-map c.args.vertices.now g.T.Spot.point in let below = c.requires.within in omega (arith, m, below))
