-- What a pop leaves is the front of the list, which the verdict speaks of.
use Rattle.std.proofs.Common.{◌≡◌, ℕ, ◌+◌, ◌-◌, ◌≤◌, List, [], ◌∷◌, ◌++◌, map, length, take, sym, ap, ◌∙◌, subst, arith, rules, le_refl}
use Rattle.std.proofs.lemmas.Bool.{false≢true}
use Rattle.std.proofs.lemmas.List.{length-map, map-append, take-map}
use Rattle.hull.specs.declared.point.Point.{Point}
use Rattle.hull.specs.Curves.{Among, StandFor, IsChain}
use Rattle.hull.proofs.Stand.{among_left}
use Rattle.hull.proofs.StepsOf.{stand_self, stand_trans, chain_prefix}
use Rattle.hull.proofs.scan.grow.Goals as goal

one_more : (n m : ℕ) → n ≤ m → n ≤ m + 1
one_more n m h = omega (arith, h)

pub pops-init : goal.pops-init
pops-init g c = record {
  chain = c.requires.chain;
  order = c.requires.order;
  ranges = c.requires.ranges;
  stands = stand_self (map g.T.Spot.point c.args.stack.now.items ++ g.T.Spot.point c.args.point ∷ []);
  len = le_refl _;
  capacity = le_refl _;
}

pub judge-requires-clause-order : goal.judge-requires-clause-order
judge-requires-clause-order g c = λ v m. c.pops.invariant.order v (subst (λ s. Among v (map g.T.Spot.point s)) c.as_slice.ensures.value m)

pub judge-requires-clause-ranges : goal.judge-requires-clause-ranges
judge-requires-clause-ranges g c = λ v m. c.pops.invariant.ranges v (subst (λ s. Among v (map g.T.Spot.point s)) c.as_slice.ensures.value m)

front : {X : Type 0} (f : X → Point) (items shorter x : List X) (v : Point) → items ≡ shorter ++ x → Among v (map f shorter) → Among v (map f items)
front f items shorter x v e m = subst (λ s. Among v s) (sym (ap (map f) e ∙ map-append f shorter x)) (among_left v (map f shorter) (map f x) m)

taken : {X : Type 0} (f : X → Point) (items shorter : List X) → shorter ≡ take (length items - 1) items → take (length (map f items) - 1) (map f items) ≡ map f shorter
taken f items shorter e = ap (λ n. take (n - 1) (map f items)) (length-map items f) ∙ take-map f (length items - 1) items ∙ ap (map f) (sym e)

pub pops-preserved-in-Drop : goal.pops-preserved-in-Drop
pops-preserved-in-Drop g c =
    let f = g.T.Spot.point in
    let told = c.in-Drop.ensures in
    let items = c.pops.stack.items in
    let p = f c.args.point in
    let shorter = c.pop.new.self.items in
    let rest : shorter ≡ take (length items - 1) items = c.pop.ensures.rest ∙ ap (λ n. take (n - 1) items) c.pops.stack.ok.0 in
    let same : StandFor (map f items ++ p ∷ []) (map f shorter ++ p ∷ []) =
    subst (λ s. StandFor (map f items ++ p ∷ []) (s ++ p ∷ [])) (taken f items shorter rest)
    (subst (λ s. StandFor (map f s ++ p ∷ []) (take (length (map f s) - 1) (map f s) ++ p ∷ [])) c.as_slice.ensures.value told.1) in
    record {
      chain = chain_prefix (map f shorter) (map f _) (subst IsChain (ap (map f) c.pop.ensures.items ∙ map-append f shorter _) c.pops.invariant.chain);
      order = λ v m. c.pops.invariant.order v (front f items shorter _ v c.pop.ensures.items m);
      ranges = λ v m. c.pops.invariant.ranges v (front f items shorter _ v c.pop.ensures.items m);
      stands = stand_trans (map f c.args.stack.now.items ++ p ∷ []) (map f items ++ p ∷ []) (map f shorter ++ p ∷ []) c.pops.invariant.stands same;
      len = omega arith;
      capacity = omega arith;
    }

pub returns-in-Refuse-clause-stands : goal.returns-in-Refuse-clause-stands
returns-in-Refuse-clause-stands g c =
    let f = g.T.Spot.point in
    stand_trans (map f c.args.stack.now.items ++ f c.args.point ∷ []) (map f c.pops.stack.items ++ f c.args.point ∷ []) (map f c.pops.stack.items) c.pops.invariant.stands
    (subst (λ s. StandFor (map f s ++ f c.args.point ∷ []) (map f s)) c.as_slice.ensures.value c.in-Refuse.ensures.1)

pub returns-in-Keep-clause-chain : goal.returns-in-Keep-clause-chain
returns-in-Keep-clause-chain g c =
    let f = g.T.Spot.point in
    let e : c.push.new.self.items ≡ c.pops.stack.items ++ c.args.point ∷ [] = search rules in
    subst IsChain (sym (ap (map f) e ∙ map-append f c.pops.stack.items (c.args.point ∷ [])))
    (subst (λ s. IsChain (map f s ++ f c.args.point ∷ [])) c.as_slice.ensures.value c.in-Keep.ensures)

pub returns-in-Keep-clause-stands : goal.returns-in-Keep-clause-stands
returns-in-Keep-clause-stands g c =
    let f = g.T.Spot.point in
    let e : c.push.new.self.items ≡ c.pops.stack.items ++ c.args.point ∷ [] = search rules in
    subst (StandFor (map f c.args.stack.now.items ++ f c.args.point ∷ [])) (sym (ap (map f) e ∙ map-append f c.pops.stack.items (c.args.point ∷ []))) c.pops.invariant.stands

pub judge-requires-clause-chain : goal.judge-requires-clause-chain
judge-requires-clause-chain g c = subst (λ s. IsChain (map g.T.Spot.point s)) (sym c.as_slice.ensures.value) c.pops.invariant.chain

pub judge-requires-clause-range : goal.judge-requires-clause-range
judge-requires-clause-range g c = c.requires.range

pub returns-in-Refuse-clause-len : goal.returns-in-Refuse-clause-len
returns-in-Refuse-clause-len g c = one_more _ _ c.pops.invariant.len

pub returns-in-Refuse-clause-last : goal.returns-in-Refuse-clause-last
returns-in-Refuse-clause-last g c = λ h. absurd (false≢true h)

pub returns-in-Refuse-clause-capacity : goal.returns-in-Refuse-clause-capacity
returns-in-Refuse-clause-capacity g c = c.pops.invariant.capacity

pub returns-in-Refuse-clause-chain : goal.returns-in-Refuse-clause-chain
returns-in-Refuse-clause-chain g c = c.pops.invariant.chain
