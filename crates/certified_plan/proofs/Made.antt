-- How the covers are made, one after another.
use Rattle.std.proofs.Common.{◌≡◌, ℕ, ◌+◌, List, [], ◌∷◌, ◌++◌, length, map, get_or, sym, ap, ap₂, ◌∙◌, subst, arith}
use Rattle.std.specs.List.{range_with_len}
use Rattle.std.proofs.lemmas.List.FromFn.{map-range_with_len_more}
use Rattle.spares_input.specs.declared.rows.PartId.{PartId}
use Rattle.spares_input.specs.Cases.{CaseRows}
use Rattle.spares_input.specs.Stocks.{AreStocksOf, StockList}
use Rattle.fleet_model.specs.Rows.{line_units}
use Rattle.family_items.specs.Inputs.{IsLine}
use Rattle.family_points.specs.Vectors.{vector_of}
use Rattle.fleet_plan.proofs.Public.{length_places, length_vector}
use Rattle.price_certificate.specs.declared.certificate.Node.{Node}
use Rattle.price_certificate.specs.Covers as cover
use Rattle.price_certificate.specs.Covers.{place_count}
use Rattle.gap_rules.proofs.Public.{line_read_at}
use Rattle.certified_plan.specs.Certificates.{trimmed_cover, cover_at}
use Rattle.certified_plan.proofs.Families.{within_most}
use Rattle.certified_plan.proofs.Formed.{held_line}

-- what is held of a family is what a cover takes
pub held_count : (c : CaseRows) (held : List ℕ) (l : ℕ) (v : List ℕ) → v ≡ vector_of c l held → length v ≡ place_count c l
held_count c held l v e = ap (λ (x : List ℕ). length x) e ∙ length_vector c l held ∙ length_places c l

-- what is held of a family is within the most of each of its places
pub held_within : (c : CaseRows) (held : StockList) (l : ℕ) (v : List ℕ) → IsLine c l → AreStocksOf c held → v ≡ vector_of c l held.list → cover.AreWithinMost c l v
held_within c held l v line h e = subst (λ x. cover.AreWithinMost c l x) (sym e) (within_most c l (vector_of c l held.list) (held_line c held l line h))

module _ (c : CaseRows) (held : List ℕ) (p : ℕ) (floors : List ℕ) (lines : List PartId) (are : map (λ (q : PartId). q.0) lines ≡ line_units c) where
  -- one cover more
  pub covers_more : (f floor : ℕ) (covers new : List (List Node)) (nodes : List Node) → covers ≡ map (cover_at c held p floors) (range_with_len 0 f)
      → nodes ≡ trimmed_cover c held p floor (get_or lines f (record { 0 = 0 })).0 → floor ≡ get_or floors f 0 → new ≡ covers ++ nodes ∷ []
      → new ≡ map (cover_at c held p floors) (range_with_len 0 (f + 1))
  covers_more f floor covers new nodes h own is_floor next =
      next
      ∙ ap₂ (λ (a : List (List Node)) (b : List Node). a ++ b ∷ []) h
      (own ∙ ap (λ x. trimmed_cover c held p x (get_or lines f (record { 0 = 0 })).0) is_floor ∙ ap (λ l. trimmed_cover c held p (get_or floors f 0) l) (line_read_at c lines f are))
      ∙ sym (map-range_with_len_more (cover_at c held p floors) 0 f f (omega arith))
