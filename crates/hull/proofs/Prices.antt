-- At each price some vertex is least.
use Rattle.std.proofs.Common.{◌≡◌, ℕ, suc, ◌+◌, ◌*◌, ◌<◌, ◌≤◌, ◌⊎◌, inl, inr, List, [], ◌∷◌, refl, sym, ap, subst, arith}
use Rattle.std.proofs.Math.Nat.{mul-le-mul_left, le_of_mul-le-mul_left}
use Rattle.hull.specs.declared.point.Point.{Point}
use Rattle.hull.specs.Curves.{lagrangian, SamePlace, Among, IsVertex}

-- f is less at v, or as much and g no more
abbrev pub Leads : (Point → ℕ) → (Point → ℕ) → Point → Point → Type 0
Leads f g v w = (f v < f w) ⊎ ((f v ≡ f w) × (g v ≤ g w))

-- of some points one at which f is least, and g is least of those with as little f
pub record LeastOf (f g : Point → ℕ) (points : List Point) : Type 0 where
  pub one : Point
  pub among : Among one points
  pub leads : (w : Point) → Among w points → Leads f g one w

by_order : (a b c d : ℕ) → ((a < b) ⊎ ((a ≡ b) × (c ≤ d))) ⊎ ((b < a) ⊎ ((b ≡ a) × (d ≤ c)))
by_order a b c d = grind arith

leads_on : (a b c x y z : ℕ) → ((a < b) ⊎ ((a ≡ b) × (x ≤ y))) → ((b < c) ⊎ ((b ≡ c) × (y ≤ z))) → ((a < c) ⊎ ((a ≡ c) × (x ≤ z)))
leads_on a b c x y z h k = grind arith

leads_self : (f g : Point → ℕ) (v w : Point) → w ≡ v → Leads f g v w
leads_self f g v w e = inr (ap f (sym e), subst (λ u. g v ≤ g u) (sym e) (omega arith))

-- of points there is one that leads them all
pub least_of : (f g : Point → ℕ) (x : Point) (xs : List Point) → LeastOf f g (x ∷ xs)
least_of f g x [] = record {
  one = x;
  among = inl refl;
  leads = λ w h. elim h [ inl e ↦ leads_self f g x w e | inr n ↦ absurd n ];
}
least_of f g x (y ∷ ys) =
    let r : LeastOf f g (y ∷ ys) = least_of f g y ys in
    let o : Leads f g x r.one ⊎ Leads f g r.one x = by_order (f x) (f r.one) (g x) (g r.one) in
    elim o [
      | inl a ↦ record {
        one = x;
        among = inl refl;
        leads = λ w h. elim h [ inl e ↦ leads_self f g x w e | inr n ↦ leads_on (f x) (f r.one) (f w) (g x) (g r.one) (g w) a (r.leads w n) ];
      }
      | inr a ↦ record {
        one = r.one;
        among = inr r.among;
        leads = λ w h. elim h [ inl e ↦ subst (λ u. Leads f g r.one u) (sym e) a | inr n ↦ r.leads w n ];
      }
    ]

-- a factor above 0 on both sides may be left out
pub same_factor : (q a b : ℕ) → 0 < q → q * a ≡ q * b → a ≡ b
same_factor q a b h e =
    let l : q * a ≤ q * b = omega (arith, e) in
    let r : q * b ≤ q * a = omega (arith, e) in
    omega (arith, le_of_mul-le-mul_left l h, le_of_mul-le-mul_left r h)

-- one number a*x + b*y by two parts, a price that leans to the cost
leans_above : (p q vl vc wl wc : ℕ) → q * vl + p * vc < q * wl + p * wc → (q * (vc + 1)) * vl + (p * (vc + 1) + 1) * vc < (q * (vc + 1)) * wl + (p * (vc + 1) + 1) * wc
leans_above p q vl vc wl wc h =
    let k : (vc + 1) * suc (q * vl + p * vc) ≤ (vc + 1) * (q * wl + p * wc) = mul-le-mul_left (vc + 1) h in
    omega arith

leans_tied : (p q vl vc wl wc : ℕ) → q * vl + p * vc ≡ q * wl + p * wc → vc < wc → (q * (vc + 1)) * vl + (p * (vc + 1) + 1) * vc < (q * (vc + 1)) * wl + (p * (vc + 1) + 1) * wc
leans_tied p q vl vc wl wc h l =
    let k : (vc + 1) * (q * vl + p * vc) ≡ (vc + 1) * (q * wl + p * wc) = ap (λ x. (vc + 1) * x) h in
    omega arith

le_cases : (a b : ℕ) → a ≤ b → (a < b) ⊎ (b ≡ a)
le_cases a b h = grind arith

tied_lo : (p q vl vc wl wc : ℕ) → 0 < q → q * vl + p * vc ≡ q * wl + p * wc → wc ≡ vc → wl ≡ vl
tied_lo p q vl vc wl wc h e c =
    same_factor q wl vl h (let k : p * wc ≡ p * vc = ap (λ x. p * x) c in omega arith)

-- of the points whose Lagrangian at p/q is least, the one of least cost is a vertex
pub record LowVertex (p q : ℕ) (points : List Point) : Type 0 where
  pub one : Point
  pub among : Among one points
  pub vertex : IsVertex points one
  pub leads : (w : Point) → Among w points → Leads (lagrangian p q) (λ u. u.cost) one w

low_alone : (p q : ℕ) (v w : Point) → 0 < q → Leads (lagrangian p q) (λ u. u.cost) v w → SamePlace w v ⊎ (lagrangian (p * (v.cost + 1) + 1) (q * (v.cost + 1)) v < lagrangian (p * (v.cost + 1) + 1) (q * (v.cost + 1)) w)
low_alone p q v w h l = elim l [
  | inl a ↦ inr (leans_above p q v.lo v.cost w.lo w.cost a)
  | inr b ↦ elim (le_cases v.cost w.cost b.1) [
    | inl c ↦ inr (leans_tied p q v.lo v.cost w.lo w.cost b.0 c)
    | inr c ↦ inl (record { cost = c; lo = tied_lo p q v.lo v.cost w.lo w.cost h b.0 c })
  ]
]

pos_mul : (q n : ℕ) → 0 < q → 0 < q * (n + 1)
pos_mul q n h = let k : q * 1 ≤ q * (n + 1) = mul-le-mul_left q (let i : 1 ≤ n + 1 = omega arith in i) in omega arith

-- at each price, of the points of least Lagrangian the one of least cost is a vertex
pub low_vertex : (p q : ℕ) (x : Point) (xs : List Point) → 0 < q → LowVertex p q (x ∷ xs)
low_vertex p q x xs h =
    let r : LeastOf (lagrangian p q) (λ u. u.cost) (x ∷ xs) = least_of (lagrangian p q) (λ u. u.cost) x xs in
    record {
      one = r.one;
      among = r.among;
      vertex = record {
        p = p * (r.one.cost + 1) + 1;
        q = q * (r.one.cost + 1);
        at = record {
          p_positive = omega arith;
          q_positive = pos_mul q r.one.cost h;
          alone = λ w m. low_alone p q r.one w h (r.leads w m);
        };
      };
      leads = r.leads;
    }

-- of the points whose Lagrangian at p/q is least, the one of least lower end is a vertex
pub record DeepVertex (p q : ℕ) (points : List Point) : Type 0 where
  pub one : Point
  pub among : Among one points
  pub vertex : IsVertex points one
  pub leads : (w : Point) → Among w points → Leads (lagrangian p q) (λ u. u.lo) one w

deep_above : (p q vl vc wl wc : ℕ) → q * vl + p * vc < q * wl + p * wc → (q * (vl + 1) + 1) * vl + (p * (vl + 1)) * vc < (q * (vl + 1) + 1) * wl + (p * (vl + 1)) * wc
deep_above p q vl vc wl wc h =
    let k : (vl + 1) * suc (q * vl + p * vc) ≤ (vl + 1) * (q * wl + p * wc) = mul-le-mul_left (vl + 1) h in
    omega arith

deep_tied : (p q vl vc wl wc : ℕ) → q * vl + p * vc ≡ q * wl + p * wc → vl < wl → (q * (vl + 1) + 1) * vl + (p * (vl + 1)) * vc < (q * (vl + 1) + 1) * wl + (p * (vl + 1)) * wc
deep_tied p q vl vc wl wc h l =
    let k : (vl + 1) * (q * vl + p * vc) ≡ (vl + 1) * (q * wl + p * wc) = ap (λ x. (vl + 1) * x) h in
    omega arith

tied_cost : (p q vl vc wl wc : ℕ) → 0 < p → q * vl + p * vc ≡ q * wl + p * wc → wl ≡ vl → wc ≡ vc
tied_cost p q vl vc wl wc h e c =
    same_factor p wc vc h (let k : q * wl ≡ q * vl = ap (λ x. q * x) c in omega arith)

deep_alone : (p q : ℕ) (v w : Point) → 0 < p → Leads (lagrangian p q) (λ u. u.lo) v w → SamePlace w v ⊎ (lagrangian (p * (v.lo + 1)) (q * (v.lo + 1) + 1) v < lagrangian (p * (v.lo + 1)) (q * (v.lo + 1) + 1) w)
deep_alone p q v w h l = elim l [
  | inl a ↦ inr (deep_above p q v.lo v.cost w.lo w.cost a)
  | inr b ↦ elim (le_cases v.lo w.lo b.1) [
    | inl c ↦ inr (deep_tied p q v.lo v.cost w.lo w.cost b.0 c)
    | inr c ↦ inl (record { cost = tied_cost p q v.lo v.cost w.lo w.cost h b.0 c; lo = c })
  ]
]

-- at each price above 0, of the points of least Lagrangian the one of least lower end is a vertex
pub deep_vertex : (p q : ℕ) (x : Point) (xs : List Point) → 0 < p → DeepVertex p q (x ∷ xs)
deep_vertex p q x xs h =
    let r : LeastOf (lagrangian p q) (λ u. u.lo) (x ∷ xs) = least_of (lagrangian p q) (λ u. u.lo) x xs in
    record {
      one = r.one;
      among = r.among;
      vertex = record {
        p = p * (r.one.lo + 1);
        q = q * (r.one.lo + 1) + 1;
        at = record {
          p_positive = pos_mul p r.one.lo h;
          q_positive = omega arith;
          alone = λ w m. deep_alone p q r.one w h (r.leads w m);
        };
      };
      leads = r.leads;
    }
