-- The verdicts, at lists that are known by their last points.
use Rattle.std.proofs.Common.{◌≡◌, ℕ, ◌-◌, ◌<◌, ◌≤◌, ◌⊎◌, inl, inr, List, [], ◌∷◌, ◌++◌, length, take, refl, sym, ap, ◌∙◌, subst, arith, length-append}
use Rattle.std.proofs.Math.Seq.{take-append_seam}
use Rattle.hull.specs.declared.point.Point.{Point}
use Rattle.hull.specs.declared.scan.Verdict.TheVariants.{Keep, Drop, Refuse}
use Rattle.hull.specs.Curves.{SamePlace, Among, IsFirstOf, StandFor, Steps, Turns, IsChain}
use Rattle.hull.specs.Verdicts.{Tells}
use Rattle.hull.proofs.Stand.{among_right}
use Rattle.hull.proofs.StepsOf.{refuse, drop_beaten, drop_straight, push_second, push_on, steps_last}

pub front_of : {X : Type 0} (xs : List X) (t : X) → take (length (xs ++ t ∷ []) - 1) (xs ++ t ∷ []) ≡ xs
front_of xs t =
    let n : length (xs ++ t ∷ []) - 1 ≡ length xs = omega (arith, length-append xs (t ∷ [])) in
    rw n (take-append_seam xs (t ∷ []))

some_length : {X : Type 0} (xs : List X) (t : X) → 0 < length (xs ++ t ∷ [])
some_length xs t = omega (arith, length-append xs (t ∷ []))

module _ (stack rest : List Point) (t p : Point) (is : stack ≡ rest ++ t ∷ []) where
  -- the new point may go where the last costs no more, is no higher, and at its place has the first stocks
  pub tells_refuse : t.cost ≤ p.cost → t.lo ≤ p.lo → (SamePlace t p → IsFirstOf t.stocks p.stocks) → Tells stack p Refuse
  tells_refuse a b f = subst (λ s. Tells s p Refuse) (sym is) (some_length rest t, refuse rest t p a b f)

  dropped : StandFor ((rest ++ t ∷ []) ++ p ∷ []) (rest ++ p ∷ []) → Tells stack p Drop
  dropped h = subst (λ s. Tells s p Drop) (sym is) (some_length rest t, subst (λ s. StandFor ((rest ++ t ∷ []) ++ p ∷ []) (s ++ p ∷ [])) (sym (front_of rest t)) h)

  -- the last point may go where the new one costs no more, is no higher, and at its place has the first stocks
  pub tells_beaten : p.cost ≤ t.cost → p.lo ≤ t.lo → (SamePlace p t → IsFirstOf p.stocks t.stocks) → Tells stack p Drop
  tells_beaten a b f = dropped (drop_beaten rest t p a b f)

  -- behind a single point one is kept that costs more and is lower
  pub tells_second : rest ≡ [] → Steps t p → Tells stack p Keep
  tells_second e s = subst (λ u. Tells u p Keep) (sym (is ∙ ap (λ r. r ++ t ∷ []) e)) (push_second t p s)

  module _ (front : List Point) (b : Point) (rest_is : rest ≡ front ++ b ∷ []) (chain : IsChain stack) where
    whole : stack ≡ (front ++ b ∷ []) ++ t ∷ []
    whole = is ∙ ap (λ r. r ++ t ∷ []) rest_is

    -- the last point costs more than the one before it, and is lower
    pub below_steps : Steps b t
    below_steps = steps_last front b t (subst IsChain whole chain)

    -- the new point is kept where it costs more, is lower, and its step falls less per money than the one before
    pub tells_on : Steps t p → Turns b t p → Tells stack p Keep
    tells_on s n = subst (λ u. Tells u p Keep) (sym whole) (push_on front b t p (subst IsChain whole chain) s n)

    -- the last point may go where the step to the new one falls no less per money than the step before
    pub tells_straight : Steps t p → (Turns b t p → ⊥) → Tells stack p Drop
    tells_straight s n = dropped (subst (λ r. StandFor ((r ++ t ∷ []) ++ p ∷ []) (r ++ p ∷ [])) (sym rest_is) (drop_straight front b t p below_steps s.cost s.lo n))

-- the last point of a list stands in it
pub among_last : (stack rest : List Point) (t : Point) → stack ≡ rest ++ t ∷ [] → Among t stack
among_last stack rest t is = subst (λ s. Among t s) (sym is) (among_right t rest (t ∷ []) (inl refl))

-- of two lists one is the first
pub other_first : (xs ys : List ℕ) → (IsFirstOf xs ys → ⊥) → IsFirstOf ys xs
other_first [] ys h = absurd (h tt)
other_first (x ∷ xs) [] h = tt
other_first (x ∷ xs) (y ∷ ys) h = elim (three x y) [
  | inl a ↦ absurd (h (inl a))
  | inr r ↦ elim r [ inl e ↦ inr (sym e, other_first xs ys (λ k. h (inr (e, k)))) | inr a ↦ inl a ]
]
  where
    three : (x y : ℕ) → (x < y) ⊎ ((x ≡ y) ⊎ (y < x))
    three x y = grind arith
