-- The room that is made leaves the vertices as they are.
use Rattle.std.proofs.Common.{◌≡◌, inl, inr, List, [], ◌∷◌, ◌++◌, length, map, sym, ap, ◌∙◌, subst, arith, vec_len}
use Rattle.std.proofs.lemmas.List.{length-map}
use Rattle.hull.specs.declared.point.Point.{Point}
use Rattle.hull.specs.Curves.{Among, HaveOneWidth, InRange, IsChain, IsShape, StandFor}
use Rattle.hull.proofs.Stand.{among_either}
use Rattle.hull.proofs.chain.Chain.take.Goals as goal

-- a point that comes has the width of those before
one_width : (old : List Point) (p : Point) → HaveOneWidth old → ((v : Point) → Among v old → length v.stocks ≡ length p.stocks) → HaveOneWidth (old ++ p ∷ [])
one_width old p h w a b m n = same a m ∙ sym (same b n)
  where
    same : (v : Point) → Among v (old ++ p ∷ []) → length v.stocks ≡ length p.stocks
    same v m = elim (among_either v old (p ∷ []) m) [
      | inl k ↦ w v k
      | inr k ↦ elim k [ inl e ↦ ap (λ (y : Point). length y.stocks) e | inr n ↦ absurd n ]
    ]

pub invariant_of-self : goal.invariant_of-self
invariant_of-self g c = subst (λ s. IsShape (map g.T.Spot.point s)) (sym c.reserve.ensures.items) c.self.invariant

pub grow-requires-clause-order : goal.grow-requires-clause-order
grow-requires-clause-order g c = λ v m.
    c.requires.order v (subst (Among v) (ap (map g.T.Spot.point) c.reserve.ensures.items ∙ c.self.view_is) m)

pub grow-requires-clause-ranges : goal.grow-requires-clause-ranges
grow-requires-clause-ranges g c = λ v m. c.self.invariant.ranges v (subst (λ s. Among v (map g.T.Spot.point s)) c.reserve.ensures.items m)

pub invariant_of-self-2 : goal.invariant_of-self-2
invariant_of-self-2 g c =
    let f = g.T.Spot.point in
    let before = c.self.inside.vertices.items in
    let made = c.grow.new.stack.items in
    let p = f c.args.point in
    let stands : StandFor (map f before ++ p ∷ []) (map f made) = subst (λ s. StandFor (map f s ++ p ∷ []) (map f made)) c.reserve.ensures.items c.grow.ensures.stands in
    let both : HaveOneWidth (map f before ++ p ∷ []) =
    one_width (map f before) p c.self.invariant.widths (λ v m. c.requires.width v (subst (Among v) c.self.view_is m)) in
    let l0 : vec_len c.grow.new.stack ≡ length made = c.grow.new.stack.ok.0 in
    let l1 : length (map f made) ≡ length made = length-map made f in
    let l2 : length (map f before) ≡ length before = length-map before f in
    let l3 : length (map f before) ≡ length c.args.self.now = ap length c.self.view_is in
    let l4 : vec_len c.self.inside.vertices ≡ length before = c.self.inside.vertices.ok.0 in
    let l5 : vec_len c.reserve.new.self ≡ vec_len c.self.inside.vertices = c.reserve.ensures.len in
    let some = c.grow.ensures.some in
    let len = c.grow.ensures.len in
    let few = c.requires.few in
    record {
      some = omega (arith, l0, l1, some);
      few = omega (arith, l0, l1, l2, l3, l4, l5, len, few);
      chain = c.grow.ensures.chain;
      ranges = λ v m. elim (among_either v (map f before) (p ∷ []) (stands.among v m)) [
        | inl a ↦ c.self.invariant.ranges v a
        | inr b ↦ elim b [ inl e ↦ subst InRange (sym e) c.requires.range | inr n ↦ absurd n ]
      ];
      widths = λ v w m n. both v w (stands.among v m) (stands.among w n);
    }

pub grow-requires-clause-chain : goal.grow-requires-clause-chain
grow-requires-clause-chain g c = subst (λ s. IsChain (map g.T.Spot.point s)) (sym c.reserve.ensures.items) c.self.invariant.chain

pub grow-requires-clause-range : goal.grow-requires-clause-range
grow-requires-clause-range g c = c.requires.range

pub returns-clause-stands : goal.returns-clause-stands
returns-clause-stands g c =
    let f = g.T.Spot.point in
    subst (λ s. StandFor (s ++ f c.args.point ∷ []) (map f c.grow.new.stack.items)) (ap (map f) c.reserve.ensures.items ∙ c.self.view_is) c.grow.ensures.stands
