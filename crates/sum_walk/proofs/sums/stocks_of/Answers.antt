use Rattle.std.proofs.Common.{◌≡◌, ℕ, ◌+◌, List, [], ◌++◌, drop, sym, ap, ap₂, ◌∙◌, arith}
use Rattle.std.proofs.lemmas.Slice.Zip.{AllZip-long}
use Rattle.hull.specs.declared.point.Point.{Point}
use Rattle.hull.specs.Curves.{plus}
use Rattle.sum_walk.specs.declared.lanes.Lane.{Lane}
use Rattle.sum_walk.specs.Lanes.{IsOn, stands, together}
use Rattle.sum_walk.proofs.Lists.{none_from}
use Rattle.sum_walk.proofs.Parts.{point_of, stocks_alone}
use Rattle.sum_walk.proofs.OnCurves.{stands_from, zip_at}
use Rattle.sum_walk.proofs.sums.stocks_of.Goals as goal

abbrev nothing : Lane
nothing = record { at = 0; fall = 0; rise = 0 }

pub loop-j-init : goal.loop-j-init
loop-j-init g c =
    let first = c.args.first.now in
    let made : c.extend_from_slice.new.self.items ≡ first.stocks =
    c.in_ok-extend_from_slice.ensures.items ∙ ap₂ (λ (s t : List ℕ). s ++ t) c.in_ok-stocks.ensures.items c.as_slice-own.ensures in
    stocks_alone (stands c.args.curves.now c.args.lanes.now) (point_of 0 0 0 c.extend_from_slice.new.self.items) first made

pub bounds-curves-j : goal.bounds-curves-j
bounds-curves-j g c = omega (arith, AllZip-long IsOn c.args.curves.now c.args.lanes.now c.requires.on, c.loop-j-test.true)

pub at-vertex-requires : goal.at-vertex-requires
at-vertex-requires g c = (zip_at c.args.curves.now c.args.lanes.now c.loop-j.j c.index-curves-j.result nothing c.requires.on c.loop-j-test.true c.index-curves-j.is).below

pub loop-j-preserved : goal.loop-j-preserved
loop-j-preserved g c =
    let curves = c.args.curves.now in
    let lanes = c.args.lanes.now in
    let j = c.loop-j.j in
    let l = c.index-curves-j.result in
    let v : Point = g.T.Spot.point c.at-vertex.result.now in
    let rest : List Point = stands (drop (j + 1) curves) (drop (j + 1) lanes) in
    let sofar : Point = point_of 0 0 0 c.loop-j.stocks.items in
    let list = c.put_stocks.new.to.items in
    let made : list ≡ c.loop-j.stocks.items ++ v.stocks = c.in_ok-put_stocks.ensures in
    stocks_alone rest (point_of 0 0 0 list) (plus sofar v) made
    ∙ ap (λ w. (together (plus sofar w) rest).stocks) c.at-vertex.ensures
    ∙ ap (λ (vs : List Point). (together sofar vs).stocks) (sym (stands_from curves lanes j l nothing c.requires.on c.loop-j-test.true c.index-curves-j.is))
    ∙ c.loop-j.invariant

pub returns : goal.returns
returns g c =
    let curves = c.args.curves.now in
    let lanes = c.args.lanes.now in
    let j = c.loop-j.j in
    let end : drop j curves ≡ [] = none_from curves j (omega (arith, AllZip-long IsOn curves lanes c.requires.on, c.loop-j-test.false)) in
    ap (λ (ls : List (List Point)). (together (point_of 0 0 0 c.loop-j.stocks.items) (stands ls (drop j lanes))).stocks) (sym end)
    ∙ c.loop-j.invariant
