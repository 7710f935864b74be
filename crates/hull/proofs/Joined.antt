-- The scan of two lists in order of cost.
use Rattle.std.proofs.Common.{◌≡◌, ℕ, zero, suc, ◌+◌, ◌<◌, ◌≤◌, take, get_or, ◌⊎◌, inl, inr, List, [], ◌∷◌, ◌++◌, map, length, refl, sym, ap, subst, arith}
use Rattle.hull.specs.declared.point.Point.{Point}
use Rattle.hull.specs.Curves.{Among, StandFor, IsChain, InRange}
use Rattle.hull.specs.Verdicts.{IsNoDearer, TakesCheaper}
use Rattle.hull.proofs.Stand.{among_left, among_right, among_either, stand_for_both}
use Rattle.hull.proofs.StepsOf.{stand_self, stand_trans, stand_same}
use Rattle.hull.proofs.Runs.{CostsRise, among_at}

-- a scan has made a stack of some points, and two lists are to come
pub record Joined (points stack left right : List Point) : Type 0 where
  pub chain : IsChain stack
  pub stands : StandFor points (stack ++ (left ++ right))
  pub order : (v w : Point) → Among v stack → Among w (left ++ right) → v.cost ≤ w.cost
  pub left_rises : CostsRise left
  pub right_rises : CostsRise right
  pub ranges : (v : Point) → Among v (stack ++ (left ++ right)) → InRange v

-- along a chain the costs rise
pub chain_rises : (xs : List Point) → IsChain xs → CostsRise xs
chain_rises [] c = tt
chain_rises (x ∷ []) c = (λ w m. absurd m, tt)
chain_rises (x ∷ y ∷ xs) c =
    let rest : CostsRise (y ∷ xs) = chain_rises (y ∷ xs) c.2 in
    let step = c.0.cost in
    (λ w m. elim m [ inl e ↦ subst (λ z. x.cost ≤ z.cost) (sym e) (omega (arith, step)) | inr n ↦ (let l = rest.0 w n in omega (arith, step, l)) ], rest)

-- before the scan of two lists in order of cost, a chain that costs no more is on the stack and all points are to come
pub joined_begins : (stack left right : List Point) → IsChain stack → CostsRise left → CostsRise right → ((v w : Point) → Among v stack → Among w (left ++ right) → v.cost ≤ w.cost)
    → ((v : Point) → Among v (stack ++ (left ++ right)) → InRange v) → Joined (stack ++ (left ++ right)) stack left right
joined_begins stack left right c l r o h = record {
  chain = c;
  stands = stand_self (stack ++ (left ++ right));
  order = o;
  left_rises = l;
  right_rises = r;
  ranges = h;
}

-- what is before a place of a list whose costs rise costs no more than what is behind it
pub rise_apart : (xs ys : List Point) → CostsRise (xs ++ ys) → (v w : Point) → Among v xs → Among w ys → v.cost ≤ w.cost
rise_apart [] ys r v w m n = absurd m
rise_apart (x ∷ xs) ys r v w m n = elim m [
  | inl e ↦ subst (λ z. z.cost ≤ w.cost) (sym e) (r.0 w (among_right w xs ys n))
  | inr k ↦ rise_apart xs ys r.1 v w k n
]

-- where costs rise, what stands up to a place costs no more than what stands there
pub rise_upto : (xs : List Point) → CostsRise xs → (k : ℕ) (d : Point) → k < length xs → (v : Point) → Among v (take (suc k) xs) → v.cost ≤ (get_or xs k d).cost
rise_upto [] r k d h v m = absurd (let e : k < 0 = h in omega arith)
rise_upto (x ∷ xs) r zero d h v m = elim m [ inl e ↦ subst (λ z. z.cost ≤ x.cost) (sym e) (omega arith) | inr n ↦ absurd n ]
rise_upto (x ∷ xs) r (suc k) d h v m = elim m [
  | inl e ↦ subst (λ z. z.cost ≤ (get_or xs k d).cost) (sym e) (r.0 (get_or xs k d) (among_at xs k d (omega arith)))
  | inr n ↦ rise_upto xs r.1 k d (omega arith) v n
]

-- a chain begins anywhere
pub chain_rest : (x : Point) (xs : List Point) → IsChain (x ∷ xs) → IsChain xs
chain_rest x [] c = tt
chain_rest x (y ∷ xs) c = c.2

-- what is left of a chain is one
pub chain_suffix : (xs ys : List Point) → IsChain (xs ++ ys) → IsChain ys
chain_suffix [] ys c = c
chain_suffix (x ∷ xs) ys c = chain_suffix xs ys (chain_rest x (xs ++ ys) c)

-- two chains that have two points in common are one
pub chain_glued : (xs : List Point) (t p : Point) (ys : List Point) → IsChain ((xs ++ t ∷ []) ++ p ∷ []) → IsChain (t ∷ p ∷ ys) → IsChain ((xs ++ t ∷ []) ++ p ∷ ys)
chain_glued [] t p ys c d = d
chain_glued (x ∷ []) t p ys c d = (c.0, c.1, d)
chain_glued (x ∷ y ∷ []) t p ys c d = (c.0, c.1, chain_glued (y ∷ []) t p ys c.2 d)
chain_glued (x ∷ y ∷ z ∷ xs) t p ys c d = (c.0, c.1, chain_glued (y ∷ z ∷ xs) t p ys c.2 d)

-- the last of some points is the one before others in a chain
pub record Follows (stack rest : List Point) : Type 0 where
  pub front : List Point
  pub last : Point
  pub is : stack ≡ front ++ last ∷ []
  pub chain : IsChain (last ∷ rest)

-- where such a point goes on, all that come after it do
pub all_go_on : (stack : List Point) (p : Point) (rest : List Point) → Follows stack (p ∷ rest) → IsChain (stack ++ p ∷ []) → IsChain (stack ++ p ∷ rest)
all_go_on stack p rest f c =
    subst (λ s. IsChain (s ++ p ∷ rest)) (sym f.is) (chain_glued f.front f.last p rest (subst (λ s. IsChain (s ++ p ∷ [])) f.is c) f.chain)

-- what a point that comes next leaves: it costs no more than any other, and the others are those before but for it
pub record Takes (x : Point) (left right left_rest right_rest : List Point) : Type 0 where
  pub first : Among x (left ++ right)
  pub rest : (w : Point) → Among w (left_rest ++ right_rest) → Among w (left ++ right)
  pub split : (w : Point) → Among w (left ++ right) → (w ≡ x) ⊎ Among w (left_rest ++ right_rest)
  pub least : (w : Point) → Among w (left ++ right) → x.cost ≤ w.cost
  pub left_rises : CostsRise left_rest
  pub right_rises : CostsRise right_rest

least_of_rising : (x : Point) (ys : List Point) → CostsRise ys → IsNoDearer (λ v. v.cost) x ys → (w : Point) → Among w ys → x.cost ≤ w.cost
least_of_rising x [] r h w m = absurd m
least_of_rising x (y ∷ ys) r h w m = elim m [
  | inl e ↦ subst (λ z. x.cost ≤ z.cost) (sym e) h
  | inr n ↦ (let a = r.0 w n in omega (arith, a, h))
]

-- the first of the left is taken, which costs no more than the first of the right
pub takes_left : (x : Point) (left right : List Point) → CostsRise (x ∷ left) → CostsRise right → IsNoDearer (λ v. v.cost) x right → Takes x (x ∷ left) right left right
takes_left x left right l r h = record {
  first = inl refl;
  rest = λ w m. inr m;
  split = λ w m. m;
  least = λ w m. elim m [
    | inl e ↦ subst (λ z. x.cost ≤ z.cost) (sym e) (omega arith)
    | inr n ↦ elim (among_either w left right n) [ inl a ↦ l.0 w a | inr b ↦ least_of_rising x right r h w b ]
  ];
  left_rises = l.1;
  right_rises = r;
}

takes_right : (x : Point) (left right : List Point) → CostsRise left → CostsRise (x ∷ right) → IsNoDearer (λ v. v.cost) x left → Takes x left (x ∷ right) left right
takes_right x left right l r h = record {
  first = among_right x left (x ∷ right) (inl refl);
  rest = λ w m. elim (among_either w left right m) [ inl a ↦ among_left w left (x ∷ right) a | inr b ↦ among_right w left (x ∷ right) (inr b) ];
  split = λ w m. elim (among_either w left (x ∷ right) m) [
    | inl a ↦ inr (among_left w left right a)
    | inr b ↦ elim b [ inl e ↦ inl e | inr n ↦ inr (among_right w left right n) ]
  ];
  least = λ w m. elim (among_either w left (x ∷ right) m) [
    | inl a ↦ least_of_rising x left l h w a
    | inr b ↦ elim b [ inl e ↦ subst (λ z. x.cost ≤ z.cost) (sym e) (omega arith) | inr n ↦ r.0 w n ]
  ];
  left_rises = l;
  right_rises = r.1;
}

no_dearer_mapped : {X : Type 0} (f : X → Point) (x : X) (ys : List X) → IsNoDearer (λ v. (f v).cost) x ys → IsNoDearer (λ v. v.cost) (f x) (map f ys)
no_dearer_mapped f x [] h = tt
no_dearer_mapped f x (y ∷ ys) h = h

module _ {X : Type 0} (f : X → Point) (x : X) (left right left_rest right_rest : List X) (l : CostsRise (map f left)) (r : CostsRise (map f right)) where
  -- where costs rise in both lists, the cheaper of their first ones is by its point the next of all points
  pub takes_mapped : TakesCheaper (λ v. (f v).cost) x left right left_rest right_rest → Takes (f x) (map f left) (map f right) (map f left_rest) (map f right_rest)
  takes_mapped t = elim t [
    | inl a ↦ subst (λ ls. Takes (f x) (map f ls) (map f right) (map f left_rest) (map f right_rest)) (sym a.0)
        (subst (λ rs. Takes (f x) (map f (x ∷ left_rest)) (map f right) (map f left_rest) (map f rs)) a.1
        (takes_left (f x) (map f left_rest) (map f right) (subst (λ ls. CostsRise (map f ls)) a.0 l) r (no_dearer_mapped f x right a.2)))
    | inr b ↦ subst (λ rs. Takes (f x) (map f left) (map f rs) (map f left_rest) (map f right_rest)) (sym b.0)
        (subst (λ ls. Takes (f x) (map f left) (map f (x ∷ right_rest)) (map f ls) (map f right_rest)) b.1
        (takes_right (f x) (map f left) (map f right_rest) l (subst (λ rs. CostsRise (map f rs)) b.0 r) (no_dearer_mapped f x left b.2)))
  ]

module _ (points stack : List Point) (x : Point) (left right left_rest right_rest : List Point) (j : Joined points stack left right) (t : Takes x left right left_rest right_rest) where
  -- the points on the stack cost no more than the one that is taken
  pub joined_order : (v : Point) → Among v stack → v.cost ≤ x.cost
  joined_order v m = j.order v x m t.first

  -- the numbers of the points on the stack are within their limits
  pub joined_ranges : (v : Point) → Among v stack → InRange v
  joined_ranges v m = j.ranges v (among_left v stack (left ++ right) m)

  -- the numbers of the point that is taken are within their limits
  pub joined_range : InRange x
  joined_range = j.ranges x (among_right x stack (left ++ right) t.first)

  regrouped : StandFor (stack ++ (left ++ right)) ((stack ++ x ∷ []) ++ (left_rest ++ right_rest))
  regrouped = stand_same (stack ++ (left ++ right)) ((stack ++ x ∷ []) ++ (left_rest ++ right_rest))
      (λ v m. elim (among_either v stack (left ++ right) m) [
        | inl a ↦ among_left v (stack ++ x ∷ []) (left_rest ++ right_rest) (among_left v stack (x ∷ []) a)
        | inr b ↦ elim (t.split v b) [
          | inl e ↦ among_left v (stack ++ x ∷ []) (left_rest ++ right_rest) (among_right v stack (x ∷ []) (inl e))
          | inr n ↦ among_right v (stack ++ x ∷ []) (left_rest ++ right_rest) n
        ]
      ])
      (λ v m. elim (among_either v (stack ++ x ∷ []) (left_rest ++ right_rest) m) [
        | inl a ↦ elim (among_either v stack (x ∷ []) a) [
          | inl b ↦ among_left v stack (left ++ right) b
          | inr e ↦ elim e [ inl is ↦ among_right v stack (left ++ right) (subst (λ y. Among y (left ++ right)) (sym is) t.first) | inr n ↦ absurd n ]
        ]
        | inr n ↦ among_right v stack (left ++ right) (t.rest v n)
      ])

  module _ (made : List Point) (chain : IsChain made) (made_of : StandFor (stack ++ x ∷ []) made) where
    made_in : (v : Point) → Among v made → Among v stack ⊎ (v ≡ x)
    made_in v m = elim (among_either v stack (x ∷ []) (made_of.among v m)) [ inl a ↦ inl a | inr b ↦ elim b [ inl e ↦ inr e | inr n ↦ absurd n ] ]

    -- with a chain that stands for the stack and the point taken, what is left of both lists is to come
    pub joined_goes : Joined points made left_rest right_rest
    joined_goes = record {
      chain = chain;
      stands = stand_trans points (stack ++ (left ++ right)) (made ++ (left_rest ++ right_rest)) j.stands
          (stand_trans (stack ++ (left ++ right)) ((stack ++ x ∷ []) ++ (left_rest ++ right_rest)) (made ++ (left_rest ++ right_rest)) regrouped
          (stand_for_both (stack ++ x ∷ []) (left_rest ++ right_rest) made (left_rest ++ right_rest) made_of (stand_self (left_rest ++ right_rest))));
      order = λ v w m n. elim (made_in v m) [ inl a ↦ j.order v w a (t.rest w n) | inr e ↦ subst (λ y. y.cost ≤ w.cost) (sym e) (t.least w (t.rest w n)) ];
      left_rises = t.left_rises;
      right_rises = t.right_rises;
      ranges = λ v m. elim (among_either v made (left_rest ++ right_rest) m) [
        | inl a ↦ elim (made_in v a) [ inl b ↦ joined_ranges v b | inr e ↦ subst InRange (sym e) joined_range ]
        | inr b ↦ j.ranges v (among_right v stack (left ++ right) (t.rest v b))
      ];
    }

-- of a chain and another list one is taken, and what is left of the chain is one
pub taken_chain : {X : Type 0} (f : X → Point) (x : X) (left right left_rest right_rest : List X) (cost : X → ℕ) → TakesCheaper cost x left right left_rest right_rest → IsChain (map f left)
    → IsChain (map f left_rest)
taken_chain f x left right left_rest right_rest cost t c = elim t [
  | inl a ↦ chain_rest (f x) (map f left_rest) (subst (λ l. IsChain (map f l)) a.0 c)
  | inr b ↦ subst (λ l. IsChain (map f l)) b.1 c
]

-- one is taken of two lists
pub taken_length : {X : Type 0} (x : X) (left right left_rest right_rest : List X) (cost : X → ℕ) → TakesCheaper cost x left right left_rest right_rest → length left + length right ≡ length left_rest + length right_rest + 1
taken_length x left right left_rest right_rest cost t = elim t [
  | inl a ↦ (let l : length left ≡ length (x ∷ left_rest) = ap length a.0 in let r : length right ≡ length right_rest = ap length a.1 in omega (arith, l, r))
  | inr b ↦ (let r : length right ≡ length (x ∷ right_rest) = ap length b.0 in let l : length left ≡ length left_rest = ap length b.1 in omega (arith, l, r))
]
