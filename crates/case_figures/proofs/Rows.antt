-- What the rows of a case allow, and how loops read and push.
use Rattle.std.proofs.Common.{◌≡◌, ℕ, ◌+◌, ◌-◌, ◌<◌, ◌≤◌, ◌==◌, true, false, not, List, [], ◌∷◌, ◌++◌, length, get_or, map, sym, ap, ap₂, ◌∙◌, subst, arith}
use Rattle.std.specs.Prelude.{All}
use Rattle.std.specs.List.{range_with_len}
use Rattle.std.proofs.lemmas.Bool.Decides.{nat_tests}
use Rattle.std.proofs.lemmas.List.{get_or_read}
use Rattle.std.proofs.lemmas.List.Elements.{All-push}
use Rattle.std.proofs.lemmas.List.FromFn.{map-range_with_len_more}
use Rattle.spares_input.specs.Rows.{is_line, IsSiteRow, IsPartRow}
use Rattle.spares_input.specs.declared.rows.SiteRow.{SiteRow}
use Rattle.spares_input.specs.declared.rows.PartRow.{PartRow}

not_first : (j : ℕ) → 0 < j → (j == 0) ≡ false
not_first j h = grind (arith, nat_tests)

-- a base has systems, and a line unit stands in each of them
pub of_base : (row : SiteRow) (j : ℕ) → IsSiteRow row → row.depot ≡ (j == 0) → 0 < j → (1 ≤ row.systems) × (row.systems ≤ 10000)
of_base row j h e p = h.systems.within (ap not (e ∙ not_first j p))

-- a system has 1 to 100 of a line unit
pub of_line : (row : PartRow) → IsPartRow row → is_line row ≡ true → (1 ≤ row.per_system) × (row.per_system ≤ 100)
of_line row h e = h.per_system.within e

-- an item that was read from a list
pub read : {A : Type 0} (xs ys : List A) (i : ℕ) (x d : A) → x ≡ get_or ys i x → ys ≡ xs → i < length xs → x ≡ get_or xs i d
read xs ys i x d h e l = get_or_read xs i x l (h ∙ ap (λ (zs : List _). get_or zs i x) e) d

-- a value for one number more, from 1 on
pub pushed : {A : Type 0} (h : ℕ → A) (k : ℕ) (old new : List A) (x : A) → 1 ≤ k → new ≡ old ++ x ∷ [] → old ≡ map h (range_with_len 1 (k - 1)) → x ≡ h k
    → new ≡ map h (range_with_len 1 (k + 1 - 1))
pushed h k old new x l e f v =
    let more : k - 1 + 1 ≡ k + 1 - 1 = omega arith in
    e ∙ ap₂ (λ (xs : List _) (y : _). xs ++ y ∷ []) f v ∙ sym (map-range_with_len_more h 1 (k - 1) k (omega arith))
    ∙ ap (λ n. map h (range_with_len 1 n)) more

-- what holds of all entries and of one more
pub pushed_has : {A : Type 0} (P : A → Type 0) (old new : List A) (x : A) → new ≡ old ++ x ∷ [] → All P old → P x → All P new
pushed_has P old new x e h v = subst (λ (xs : List _). All P xs) (sym e) (All-push P old x h v)
