use Rattle.std.proofs.Common.{◌≡◌, length, arith, vec_len}
use Rattle.hull.specs.Curves.{StandFor}
use Rattle.hull.proofs.Runs.{among_permuted, permuted_stands, curve_made}
use Rattle.hull.proofs.curve.Curve.of.Goals as goal

pub chain_of-vertices-requires-clause-ranges : goal.chain_of-vertices-requires-clause-ranges
chain_of-vertices-requires-clause-ranges c = λ v m.
    c.requires.ranges v (among_permuted c.args.points.items c.in_order.result.items c.in_order.ensures.permutation v m)

pub invariant_of-result : goal.invariant_of-result
invariant_of-result c =
    let made = c.chain_of-vertices.result.items in
    let stands : StandFor c.args.points.items made =
    permuted_stands c.args.points.items c.in_order.result.items made c.in_order.ensures.permutation c.chain_of-vertices.ensures.stands in
    let l0 : vec_len c.chain_of-vertices.result ≡ length made = c.chain_of-vertices.result.ok.0 in
    let l1 = c.chain_of-vertices.ensures.len in
    let l2 : vec_len c.in_order.result ≡ vec_len c.args.points = c.in_order.ensures.len in
    let l3 : vec_len c.args.points ≡ length c.args.points.items = c.args.points.ok.0 in
    let some = c.chain_of-vertices.ensures.some in
    let few = c.requires.few in
    record {
      some = omega (arith, l0, some);
      few = omega (arith, l0, l1, l2, l3, few);
      chain = c.chain_of-vertices.ensures.chain;
      ranges = λ v m. c.requires.ranges v (stands.among v m);
      widths = λ v w m n. c.requires.widths v w (stands.among v m) (stands.among w n);
    }

pub returns-clause-curve : goal.returns-clause-curve
returns-clause-curve c =
    let made = c.chain_of-vertices.result.items in
    curve_made c.args.points.items made
    (permuted_stands c.args.points.items c.in_order.result.items made c.in_order.ensures.permutation c.chain_of-vertices.ensures.stands)
    c.chain_of-vertices.ensures.chain
