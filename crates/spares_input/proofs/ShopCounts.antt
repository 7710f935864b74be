-- A pass over the parts counts the shop units of each line unit.
use Rattle.std.proofs.Common.{◌≡◌, ◌≢◌, ◌==◌, inl, inr, ℕ, ◌+◌, ◌<◌, true, false, List, length, replicate, get_or, set, Some, sym, ap, ◌∙◌, subst, arith, count_by, take, length-set, get_or-set_other, get_or-set_same}
use Rattle.std.proofs.lemmas.Bool.{cases_eq}
use Rattle.std.proofs.lemmas.List.{length-replicate, get_or-replicate}
use Rattle.std.proofs.lemmas.List.Sums.{count_by_more_yes, count_by_more_no}
use Rattle.spares_input.specs.Rows.{no_part}
use Rattle.spares_input.specs.Frames.{is_shop_of, line_of, part_at}
use Rattle.spares_input.specs.Building.{AreCounts, AreDistinct}
use Rattle.spares_input.specs.declared.rows.PartRow.{PartRow}
use Rattle.spares_input.proofs.Standing.{shop_of_line}
use Rattle.spares_input.proofs.FamilyFacts.{line_within}

-- before the first part there is none
pub counts_none : (parts : List PartRow) (counts : List ℕ) → counts ≡ replicate (length parts) 0 → AreCounts parts 0 counts
counts_none parts counts e = record {
  whole = rw e (length-replicate (length parts) 0);
  each = λ l b. rw e (get_or-replicate (length parts) l 0 0 b);
}

-- a shop unit is one more at its line unit
pub counts_more : (parts : List PartRow) (k : ℕ) (counts : List ℕ) → k < length parts → AreCounts parts k counts → AreDistinct parts
    → (m n : ℕ) → line_of parts k ≡ Some m → n ≡ get_or counts m 0 + 1 → AreCounts parts (k + 1) (set counts m n)
counts_more parts k counts within before distinct m n line more = record {
  whole = length-set counts m n ∙ before.whole;
  each = λ l b. elim (cases_eq l m) [
    | inl e ↦ subst (λ z. get_or (set counts m n) z 0 ≡ count_by (is_shop_of (part_at parts z)) (take (k + 1) parts)) (sym e) own
    | inr o ↦ get_or-set_other counts m l n 0 o ∙ before.each l b
        ∙ sym (count_by_more_no (is_shop_of (part_at parts l)) parts k no_part within (shop_of_line parts distinct k l m b line ∙ apart l o))
  ];
}
  where
    known : m < length parts
    known = line_within parts k m line

    own : get_or (set counts m n) m 0 ≡ count_by (is_shop_of (part_at parts m)) (take (k + 1) parts)
    own =
        let count = before.whole in
        let shop : is_shop_of (part_at parts m) (part_at parts k) ≡ true = shop_of_line parts distinct k m m known line ∙ grind arith in
        get_or-set_same counts m n 0 (omega (arith, count, known)) ∙ more ∙ ap (λ z. z + 1) (before.each m known)
        ∙ sym (count_by_more_yes (is_shop_of (part_at parts m)) parts k no_part within shop)

    apart : (l : ℕ) → l ≢ m → (m == l) ≡ false
    apart l o = grind arith
