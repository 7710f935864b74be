-- An accepted certificate is sound.
use Rattle.std.proofs.Common.{◌≡◌, ℕ, List, [], ◌∷◌, map, refl, ap₂, subst}
use Rattle.exact_model.specs.Fraction.{Fraction}
use Rattle.spares_input.specs.Cases.{CaseRows}
use Rattle.spares_input.specs.Stocks.{StockList}
use Rattle.fleet_model.specs.Rows.{line_units}
use Rattle.price_bounds.specs.Allocations.{points_of}
use Rattle.price_bounds.specs.Certificates.{IsAcceptable}
use Rattle.price_bounds.proofs.Public.{certificate_sound}
use Rattle.family_points.specs.Vectors.{vector_of, limits}
use Rattle.family_points.specs.Points.{points_within, ScoreEnds}
use Rattle.gap_rules.specs.Laws.{claims_of}
use Rattle.gap_rules.specs.Soundness.{family_model, models_of, AcceptedAreSound}
use Rattle.gap_rules.proofs.Acceptable.{accepted_are_acceptable}

own_points : (score : ScoreEnds) (value : ℕ → ℕ → List ℕ → Fraction) (c : CaseRows) (held : StockList) (l : ℕ)
    → points_within c l score (vector_of c l held.list) (vector_of c l held.list) (limits c l) ≡ points_of (family_model score value c held l)
own_points score value c held l = refl

all_points : (score : ScoreEnds) (value : ℕ → ℕ → List ℕ → Fraction) (c : CaseRows) (held : StockList) (ls : List ℕ)
    → map (λ l. points_within c l score (vector_of c l held.list) (vector_of c l held.list) (limits c l)) ls ≡ map points_of (map (family_model score value c held) ls)
all_points score value c held [] = refl
all_points score value c held (l ∷ ls) = ap₂ (λ x xs. x ∷ xs) (own_points score value c held l) (all_points score value c held ls)

-- a certificate that breaks no rule is sound where the score's intervals enclose its values
pub accepted_are_sound : AcceptedAreSound
accepted_are_sound score value cert held valid formed is_for enclosed none =
    certificate_sound (models_of score value cert.case held) cert.budget (claims_of score cert held) enclosed
    (subst (λ z. IsAcceptable z cert.budget (claims_of score cert held)) (all_points score value cert.case held (line_units cert.case)) (accepted_are_acceptable score cert held valid formed is_for none))
