-- The last point and the rest are what `split_last` says; each return then has its lemma.
use Rattle.std.proofs.Common.{◌≡◌, suc, ◌<◌, ◌≤◌, ◌⊎◌, inl, inr, List, [], ◌∷◌, map, length, IsTrue, Bool, true, false, refl, sym, ap, subst, arith}
use Rattle.hull.specs.Curves.{Among, Steps}
use Rattle.hull.proofs.Stand.{among_left}
use Rattle.hull.proofs.Judged.{tells_refuse, tells_beaten, tells_second, tells_on, tells_straight, below_steps, among_last, other_first}
use Rattle.hull.proofs.Mapped.{last_mapped}
use Rattle.hull.proofs.scan.judge.Goals as goal

not_true : (b : Bool) → b ≡ false → IsTrue b → ⊥
not_true b e h = grind arith

not_false : (b : Bool) → b ≡ true → IsTrue b
not_false b e = grind arith

empty : {X : Type 0} (xs : List X) → length xs ≡ 0 → xs ≡ []
empty [] e = refl
empty (x ∷ xs) e = absurd (let k : suc (length xs) ≡ 0 = e in omega arith)

pub returns-then-top_lo-lo-2 : goal.returns-then-top_lo-lo-2
returns-then-top_lo-lo-2 g c =
    let f = g.T.Spot.point in
    let t = f c.in-Some.top.now in
    let p = f c.args.point.now in
    let is = last_mapped f c.args.stack.now c.in-Some.rest.now c.in-Some.top.now c.in-Some.ensures.cases.0 in
    let order : t.cost ≤ p.cost = c.requires.order t (among_last (map f c.args.stack.now) (map f c.in-Some.rest.now) t is) in
    let apart : (t.lo < p.lo) ⊎ (t.cost < p.cost) = elim c.then-top_lo-lo-2.either [ inl w ↦ inl (omega arith) | inr w ↦ inr (omega (arith, w.1)) ] in
    tells_refuse (map f c.args.stack.now) (map f c.in-Some.rest.now) t p is order (omega arith)
    (λ s. absurd (elim apart [ inl l ↦ (let e = s.lo in omega (arith, l, e)) | inr l ↦ (let e = s.cost in omega (arith, l, e)) ]))

pub returns-then-is_first : goal.returns-then-is_first
returns-then-is_first g c =
    let f = g.T.Spot.point in
    let t = f c.in-Some.top.now in
    let p = f c.args.point.now in
    let is = last_mapped f c.args.stack.now c.in-Some.rest.now c.in-Some.top.now c.in-Some.ensures.cases.0 in
    let order : t.cost ≤ p.cost = c.requires.order t (among_last (map f c.args.stack.now) (map f c.in-Some.rest.now) t is) in
    tells_refuse (map f c.args.stack.now) (map f c.in-Some.rest.now) t p is order (omega arith) (λ s. c.is_first.ensures.0 (not_false c.is_first.result c.if-is_first.true))

pub returns-then-top_lo-lo : goal.returns-then-top_lo-lo
returns-then-top_lo-lo g c =
    let f = g.T.Spot.point in
    let t = f c.in-Some.top.now in
    let p = f c.args.point.now in
    let is = last_mapped f c.args.stack.now c.in-Some.rest.now c.in-Some.top.now c.in-Some.ensures.cases.0 in
    let order : t.cost ≤ p.cost = c.requires.order t (among_last (map f c.args.stack.now) (map f c.in-Some.rest.now) t is) in
    tells_beaten (map f c.args.stack.now) (map f c.in-Some.rest.now) t p is (omega arith) (omega arith)
    (λ s. other_first t.stocks p.stocks (λ h. not_true c.is_first.result c.if-is_first.false (c.is_first.ensures.1 h)))

pub returns-then-not-is_dearer : goal.returns-then-not-is_dearer
returns-then-not-is_dearer g c =
    let f = g.T.Spot.point in
    let t = f c.in-Some.top.now in
    let p = f c.args.point.now in
    let is = last_mapped f c.args.stack.now c.in-Some.rest.now c.in-Some.top.now c.in-Some.ensures.cases.0 in
    tells_beaten (map f c.args.stack.now) (map f c.in-Some.rest.now) t p is (omega arith) (omega arith) (λ s. absurd (let e = s.lo in omega arith))

pub returns-in_default-split_last : goal.returns-in_default-split_last
returns-in_default-split_last g c =
    let f = g.T.Spot.point in
    let t = f c.in-Some.top.now in
    let p = f c.args.point.now in
    let is = last_mapped f c.args.stack.now c.in-Some.rest.now c.in-Some.top.now c.in-Some.ensures.cases.0 in
    let steps : Steps t p = record { cost = omega arith; lo = omega arith } in
    tells_second (map f c.args.stack.now) (map f c.in-Some.rest.now) t p is (ap (map f) (empty c.in-Some.rest.now c.in_default-split_last.ensures.cases)) steps

pub turns-requires-clause-first : goal.turns-requires-clause-first
turns-requires-clause-first g c =
    let f = g.T.Spot.point in
    let t = f c.in-Some.top.now in
    let is = last_mapped f c.args.stack.now c.in-Some.rest.now c.in-Some.top.now c.in-Some.ensures.cases.0 in
    let below = c.in-Some-split_last.below.now in
    let front = c.in-Some-split_last._front.now in
    below_steps (map f c.args.stack.now) (map f c.in-Some.rest.now) t (f c.args.point.now) is (map f front) (f below)
    (last_mapped f c.in-Some.rest.now front below c.in-Some-split_last.ensures.cases.0) c.requires.chain

pub turns-requires-clause-second : goal.turns-requires-clause-second
turns-requires-clause-second g c = record { cost = omega arith; lo = omega arith }

pub turns-requires-clause-u_range : goal.turns-requires-clause-u_range
turns-requires-clause-u_range g c =
    let f = g.T.Spot.point in
    let t = f c.in-Some.top.now in
    let is = last_mapped f c.args.stack.now c.in-Some.rest.now c.in-Some.top.now c.in-Some.ensures.cases.0 in
    let below = c.in-Some-split_last.below.now in
    let front = c.in-Some-split_last._front.now in
    c.requires.ranges (f below) (subst (λ s. Among (f below) s) (sym is)
    (among_left (f below) (map f c.in-Some.rest.now) (t ∷ [])
    (among_last (map f c.in-Some.rest.now) (map f front) (f below) (last_mapped f c.in-Some.rest.now front below c.in-Some-split_last.ensures.cases.0))))

pub returns-then-turns : goal.returns-then-turns
returns-then-turns g c =
    let f = g.T.Spot.point in
    let t = f c.in-Some.top.now in
    let p = f c.args.point.now in
    let is = last_mapped f c.args.stack.now c.in-Some.rest.now c.in-Some.top.now c.in-Some.ensures.cases.0 in
    let below = c.in-Some-split_last.below.now in
    let front = c.in-Some-split_last._front.now in
    let steps : Steps t p = record { cost = omega arith; lo = omega arith } in
    tells_on (map f c.args.stack.now) (map f c.in-Some.rest.now) t p is (map f front) (f below)
    (last_mapped f c.in-Some.rest.now front below c.in-Some-split_last.ensures.cases.0) c.requires.chain steps (c.turns.ensures.0 (not_false c.turns.result c.if-turns.true))

pub returns-else-turns : goal.returns-else-turns
returns-else-turns g c =
    let f = g.T.Spot.point in
    let t = f c.in-Some.top.now in
    let p = f c.args.point.now in
    let is = last_mapped f c.args.stack.now c.in-Some.rest.now c.in-Some.top.now c.in-Some.ensures.cases.0 in
    let below = c.in-Some-split_last.below.now in
    let front = c.in-Some-split_last._front.now in
    let steps : Steps t p = record { cost = omega arith; lo = omega arith } in
    tells_straight (map f c.args.stack.now) (map f c.in-Some.rest.now) t p is (map f front) (f below)
    (last_mapped f c.in-Some.rest.now front below c.in-Some-split_last.ensures.cases.0) c.requires.chain steps (λ h. not_true c.turns.result c.if-turns.false (c.turns.ensures.1 h))
