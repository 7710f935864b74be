-- What is left of the chain is all that is still to come.
use Rattle.std.proofs.Common.{◌≡◌, ℕ, suc, ◌+◌, ◌<◌, ◌≤◌, List, [], ◌∷◌, ◌++◌, map, length, refl, sym, ap, ◌∙◌, subst, arith, rules, le_refl, le_trans, vec_capacity, vec_len}
use Rattle.std.proofs.lemmas.Bool.{false≢true}
use Rattle.std.proofs.lemmas.List.{append-nil, map-append}
use Rattle.hull.specs.declared.point.Point.{Point}
use Rattle.hull.specs.Curves.{Among, StandFor, IsChain, InRange}
use Rattle.hull.proofs.Joined.{Joined, Follows, Takes, all_go_on, chain_rest, chain_rises, joined_begins, joined_goes, joined_order, joined_range, joined_ranges, takes_left}
use Rattle.hull.proofs.joins.with_rest.Goals as goal

begins : (s l : List Point) → IsChain s → IsChain l → ((v w : Point) → Among v s → Among w l → v.cost ≤ w.cost) → ((v : Point) → Among v (s ++ l) → InRange v) → Joined (s ++ l) s l []
begins s l c d o r =
    subst (λ k. Joined (s ++ k) s l []) (append-nil l)
    (joined_begins s l [] c (chain_rises l d) tt (λ v w m n. o v w m (subst (Among w) (append-nil l) n)) (λ v m. r v (subst (λ k. Among v (s ++ k)) (append-nil l) m)))

module _ {X : Type 0} (f : X → Point) (points : List Point) (stack left rest : List X) (x : X) (is : left ≡ x ∷ rest) (j : Joined points (map f stack) (map f left) []) where
  now : Joined points (map f stack) (f x ∷ map f rest) []
  now = subst (λ l. Joined points (map f stack) (map f l) []) is j

  takes : Takes (f x) (f x ∷ map f rest) [] (map f rest) []
  takes = takes_left (f x) (map f rest) [] now.left_rises tt tt

  order : (v : Point) → Among v (map f stack) → v.cost ≤ (f x).cost
  order = joined_order points (map f stack) (f x) (f x ∷ map f rest) [] (map f rest) [] now takes

  ranges : (v : Point) → Among v (map f stack) → InRange v
  ranges = joined_ranges points (map f stack) (f x) (f x ∷ map f rest) [] (map f rest) [] now takes

  range : InRange (f x)
  range = joined_range points (map f stack) (f x) (f x ∷ map f rest) [] (map f rest) [] now takes

  goes : (made : List X) → IsChain (map f made) → StandFor (map f stack ++ f x ∷ []) (map f made) → Joined points (map f made) (map f rest) []
  goes made c s = joined_goes points (map f stack) (f x) (f x ∷ map f rest) [] (map f rest) [] now takes (map f made) c s

  all : (made : List X) → made ≡ (stack ++ x ∷ []) ++ rest → map f made ≡ map f stack ++ f x ∷ map f rest
  all made e = ap (map f) e ∙ map-append f (stack ++ x ∷ []) rest ∙ ap (λ (l : List Point). l ++ map f rest) (map-append f stack (x ∷ [])) ∙ glued (map f stack)
    where
      glued : (s : List Point) → (s ++ f x ∷ []) ++ map f rest ≡ s ++ f x ∷ map f rest
      glued [] = refl
      glued (y ∷ s) = ap (λ (l : List Point). y ∷ l) (glued s)

  all_stand : (made : List X) → made ≡ (stack ++ x ∷ []) ++ rest → StandFor points (map f made)
  all_stand made e = subst (StandFor points) (sym (all made e)) (subst (λ (l : List Point). StandFor points (map f stack ++ f x ∷ l)) (append-nil (map f rest)) now.stands)

  all_chain : (made : List X) → made ≡ (stack ++ x ∷ []) ++ rest → Follows (map f stack) (map f left) → IsChain (map f stack ++ f x ∷ []) → IsChain (map f made)
  all_chain made e follows c = subst IsChain (sym (all made e)) (all_go_on (map f stack) (f x) (map f rest) (subst (λ l. Follows (map f stack) (map f l)) is follows) c)

-- numbers: `n` points of the stack, `l` that are left, `r` after the next of them, and `t` in all

fewer_left : (l r : ℕ) → l ≡ suc r → r < l
fewer_left l r e = omega (arith, e)

all_room : (n m l r t : ℕ) → l ≡ suc r → n + l ≤ t → m ≤ n + 1 → m + r ≤ t
all_room n m l r t e room more = omega (arith, e, room, more)

some_room : (n l r t capacity : ℕ) → l ≡ suc r → n + l ≤ t → t ≤ capacity → n < capacity
some_room n l r t capacity e room most = omega (arith, e, room, most)

within_room : (n l a t len : ℕ) → len ≡ t → n + l ≤ a + t → n ≤ a + len
within_room n l a t len e room = omega (arith, e, room)

pub loop-point-init : goal.loop-point-init
loop-point-init g c =
    let f = g.T.Spot.point in
    record {
      joined = begins (map f c.args.stack.items) (map f c.args.left.items) c.requires.chain c.requires.left_chain c.requires.order c.requires.ranges;
      left_chain = c.requires.left_chain;
      follows = λ h. absurd (false≢true h);
      room = le_refl _;
      capacity = subst (λ n. vec_len c.args.stack + n ≤ vec_capacity c.args.stack) c.args.left.ok.0 c.requires.room;
      some = c.requires.some;
    }

pub goes_on-requires-clause-order : goal.goes_on-requires-clause-order
goes_on-requires-clause-order g c = λ v m.
    order g.T.Spot.point (map g.T.Spot.point c.args.stack.items ++ map g.T.Spot.point c.args.left.items) c.loop-point.stack.items c.loop-point.left.items c.pop_front.new.self.items c.in-Some.point c.in-Some.ensures.items c.loop-point.invariant.joined v
    (subst (λ s. Among v (map g.T.Spot.point s)) c.as_slice.ensures.value m)

pub goes_on-requires-clause-ranges : goal.goes_on-requires-clause-ranges
goes_on-requires-clause-ranges g c = λ v m.
    ranges g.T.Spot.point (map g.T.Spot.point c.args.stack.items ++ map g.T.Spot.point c.args.left.items) c.loop-point.stack.items c.loop-point.left.items c.pop_front.new.self.items c.in-Some.point c.in-Some.ensures.items c.loop-point.invariant.joined v
    (subst (λ s. Among v (map g.T.Spot.point s)) c.as_slice.ensures.value m)

pub goes_on-requires-clause-range : goal.goes_on-requires-clause-range
goes_on-requires-clause-range g c =
    range g.T.Spot.point (map g.T.Spot.point c.args.stack.items ++ map g.T.Spot.point c.args.left.items) c.loop-point.stack.items c.loop-point.left.items c.pop_front.new.self.items c.in-Some.point c.in-Some.ensures.items c.loop-point.invariant.joined

pub grow_apart-follows-requires-clause-order : goal.grow_apart-follows-requires-clause-order
grow_apart-follows-requires-clause-order g c =
    order g.T.Spot.point (map g.T.Spot.point c.args.stack.items ++ map g.T.Spot.point c.args.left.items) c.loop-point.stack.items c.loop-point.left.items c.pop_front.new.self.items c.in-Some.point c.in-Some.ensures.items c.loop-point.invariant.joined

pub grow_apart-follows-requires-clause-ranges : goal.grow_apart-follows-requires-clause-ranges
grow_apart-follows-requires-clause-ranges g c =
    ranges g.T.Spot.point (map g.T.Spot.point c.args.stack.items ++ map g.T.Spot.point c.args.left.items) c.loop-point.stack.items c.loop-point.left.items c.pop_front.new.self.items c.in-Some.point c.in-Some.ensures.items c.loop-point.invariant.joined

pub grow_apart-follows-requires-clause-range : goal.grow_apart-follows-requires-clause-range
grow_apart-follows-requires-clause-range g c =
    range g.T.Spot.point (map g.T.Spot.point c.args.stack.items ++ map g.T.Spot.point c.args.left.items) c.loop-point.stack.items c.loop-point.left.items c.pop_front.new.self.items c.in-Some.point c.in-Some.ensures.items c.loop-point.invariant.joined

pub loop-point-preserved : goal.loop-point-preserved
loop-point-preserved g c =
    let f = g.T.Spot.point in
    let is = c.in-Some.ensures.items in
    let i = c.loop-point.invariant in
    let fewer = ap length is in
    let here : IsChain (f c.in-Some.point ∷ map f c.pop_front.new.self.items) = subst (λ l. IsChain (map f l)) is i.left_chain in
    record {
      joined = goes f (map f c.args.stack.items ++ map f c.args.left.items) c.loop-point.stack.items c.loop-point.left.items c.pop_front.new.self.items c.in-Some.point is i.joined c.grow_apart-follows.new.stack.items c.grow_apart-follows.ensures.chain c.grow_apart-follows.ensures.stands;
      left_chain = chain_rest (f c.in-Some.point) (map f c.pop_front.new.self.items) here;
      follows = λ h. (let l = c.grow_apart-follows.ensures.last h in record { front = l.0; last = f c.in-Some.point; is = l.1; chain = here });
      room = all_room _ _ _ _ _ fewer i.room c.grow_apart-follows.ensures.len;
      capacity = le_trans i.capacity c.grow_apart-follows.ensures.capacity;
      some = c.grow_apart-follows.ensures.some;
    }

pub returns-then-goes_on-clause-chain : goal.returns-then-goes_on-clause-chain
returns-then-goes_on-clause-chain g c =
    let f = g.T.Spot.point in
    let i = c.loop-point.invariant in
    let stack = c.loop-point.stack.items in
    let x = c.in-Some.point in
    let rest = c.pop_front.new.self.items in
    let pushed : c.push.new.self.items ≡ stack ++ x ∷ [] = search rules in
    let made : c.with_all.result.items ≡ (stack ++ x ∷ []) ++ rest = c.with_all.ensures ∙ ap (λ (a : List _). a ++ rest) pushed in
    all_chain f (map f c.args.stack.items ++ map f c.args.left.items) stack c.loop-point.left.items rest x c.in-Some.ensures.items i.joined c.with_all.result.items made
    (i.follows c.if-follows.true)
    (subst (λ s. IsChain (map f s ++ f x ∷ [])) c.as_slice.ensures.value (c.goes_on.ensures c.if-goes_on.true))

pub returns-then-goes_on-clause-stands : goal.returns-then-goes_on-clause-stands
returns-then-goes_on-clause-stands g c =
    let f = g.T.Spot.point in
    let stack = c.loop-point.stack.items in
    let x = c.in-Some.point in
    let rest = c.pop_front.new.self.items in
    let pushed : c.push.new.self.items ≡ stack ++ x ∷ [] = search rules in
    let made : c.with_all.result.items ≡ (stack ++ x ∷ []) ++ rest = c.with_all.ensures ∙ ap (λ (a : List _). a ++ rest) pushed in
    all_stand f (map f c.args.stack.items ++ map f c.args.left.items) stack c.loop-point.left.items rest x c.in-Some.ensures.items c.loop-point.invariant.joined c.with_all.result.items made

pub goes_on-requires-clause-chain : goal.goes_on-requires-clause-chain
goes_on-requires-clause-chain g c = subst (λ s. IsChain (map g.T.Spot.point s)) (sym c.as_slice.ensures.value) c.loop-point.invariant.joined.chain

pub grow_apart-follows-requires-clause-room : goal.grow_apart-follows-requires-clause-room
grow_apart-follows-requires-clause-room g c =
    some_room _ _ _ _ _ (ap length c.in-Some.ensures.items) c.loop-point.invariant.room c.loop-point.invariant.capacity

pub loop-point-smaller : goal.loop-point-smaller
loop-point-smaller g c = fewer_left _ _ (ap length c.in-Some.ensures.items)

pub returns-clause-some : goal.returns-clause-some
returns-clause-some g c = c.loop-point.invariant.some

pub returns-clause-chain : goal.returns-clause-chain
returns-clause-chain g c = c.loop-point.invariant.joined.chain

pub returns-clause-len : goal.returns-clause-len
returns-clause-len g c = within_room _ _ _ _ _ c.args.left.ok.0 c.loop-point.invariant.room
