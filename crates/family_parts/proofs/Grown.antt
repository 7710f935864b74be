-- How a family's part between two prices grows.
use Rattle.std.proofs.Common.{ℕ, ◌≤◌, inl, inr, List, [], ◌∷◌, ◌++◌, append_assoc, sym, subst}
use Rattle.std.proofs.lemmas.List.{append-nil}
use Rattle.hull.specs.declared.point.Point.{Point}
use Rattle.hull.specs.declared.price.Price.{Price}
use Rattle.hull.specs.Curves.{lagrangian, Among}
use Rattle.hull.proofs.Public.{among_either, among_left, among_right}
use Rattle.sum_walk.specs.Sums.{sums_of_each}
use Rattle.curve_parts.specs.Parts.{IsPassedOver, StandForBetween}
use Rattle.curve_parts.specs.Joins.{Begins, Joins}
use Rattle.curve_parts.specs.Beyond.{IsKnownPart, LieBeyond}
use Rattle.curve_parts.proofs.Public.{both_between, part_stands, self_between, known_joined, known_left_out, known_of_members}
use Rattle.family_points.specs.Inputs.{FamilyBox}
use Rattle.family_bases.specs.Joining.{HaveWidthOf}
use Rattle.family_parts.specs.Growing.{Grows}

-- no points change nothing
pub grows_by_nothing : (low high : Price) (part : List Point) (beyond : ℕ) → Grows low high [] part beyond part beyond
grows_by_nothing low high part beyond = λ points s. subst (λ (ps : List Point). IsKnownPart low high ps part beyond) (sym (append-nil points)) s

-- sums begin a part, where there is none
pub begins_part : (low high : Price) (first : Point) (parts : List (List Point)) (new : List Point) → Begins low high first parts new → Joins low high first parts [] new
begins_part low high first parts new h = λ points more s t. h (points ++ more) (both_between low high points more [] (sums_of_each (first ∷ []) parts) s t)

-- points that are passed over leave the part as it is
pub grows_by_none : (low high : Price) (more part : List Point) (before after : ℕ) → after ≤ before → ((w : Point) → Among w more → IsPassedOver low high part w)
    → ((w : Point) → Among w more → after ≤ lagrangian low.p low.q w) → Grows low high more part before part after
grows_by_none low high more part before after less h l = λ points s.
    known_left_out low high points part more before after less (λ w m. (let o = h w m in (o.0, s.is.among o.0 o.1, o.2, o.3))) l s

-- points for which sums stand are joined
pub grows_by_sums : (low high : Price) (first : Point) (parts : List (List Point)) (more old new : List Point) (before made behind after : ℕ) → after ≤ before → after ≤ made → after ≤ behind
    → Joins low high first parts old new → StandForBetween low high more (sums_of_each (first ∷ []) parts) → LieBeyond low more (sums_of_each (first ∷ []) parts) made
    → LieBeyond low (old ++ sums_of_each (first ∷ []) parts) new behind → Grows low high more old before new after
grows_by_sums low high first parts more old new before made behind after a b c j t m n = λ points s.
    known_joined low high points more old (sums_of_each (first ∷ []) parts) new before made behind after a b c t m n (j points more (part_stands low high points old s.is) t) s

-- further points
pub grows_on : (low high : Price) (more further old mid new : List Point) (before between after : ℕ) → Grows low high more old before mid between → Grows low high further mid between new after
    → Grows low high (more ++ further) old before new after
grows_on low high more further old mid new before between after a b = λ points s.
    subst (λ (ps : List Point). IsKnownPart low high ps new after) (append_assoc points more further) (b (points ++ more) (a points s))

-- order and repetition of the points don't matter
pub grows_members : (low high : Price) (more other old new : List Point) (before after : ℕ) → ((v : Point) → Among v more → Among v other) → ((v : Point) → Among v other → Among v more)
    → Grows low high more old before new after → Grows low high other old before new after
grows_members low high more other old new before after there back a = λ points s.
    known_of_members low high (points ++ more) (points ++ other) new after (λ v. (beside points more other v (there v), beside points other more v (back v))) (a points s)
  where
    beside : (points ps qs : List Point) (v : Point) → (Among v ps → Among v qs) → Among v (points ++ ps) → Among v (points ++ qs)
    beside points ps qs v f m = elim (among_either v points ps m) [ inl i ↦ among_left v points qs i | inr i ↦ among_right v points qs (f i) ]

-- what the sums of parts are joined to, and these sums, make all of the new part
pub joined_among : (low high : Price) (first : Point) (parts : List (List Point)) (more old new : List Point) → Joins low high first parts old new
    → StandForBetween low high more (sums_of_each (first ∷ []) parts) → (v : Point) → Among v new → Among v (old ++ more)
joined_among low high first parts more old new j t = (j old more (self_between low high old) t).among

-- where the vertices so far and the points that are joined have a stock for each place, so has the new part
pub widths_joined : (x : FamilyBox) (old more new : List Point) → HaveWidthOf x old → HaveWidthOf x more → ((v : Point) → Among v new → Among v (old ++ more)) → HaveWidthOf x new
widths_joined x old more new a b among v m = elim (among_either v old more (among v m)) [ inl i ↦ a v i | inr i ↦ b v i ]
