-- What a line unit has at a base depends on its family's stocks at the depot and at that base alone.
use Rattle.std.proofs.Common.{◌≡◌, ℕ, ◌<◌, List, ap}
use Rattle.spares_input.specs.Cases.{CaseRows}
use Rattle.fleet_model.specs.Rows.{systems, per_system, weight}
use Rattle.family_items.specs.declared.item.Item.{Item}
use Rattle.family_items.specs.Inputs.{IsLine}
use Rattle.family_points.proofs.Items.{Agree, item_agrees}
use Rattle.family_points.specs.Points.{ScoreEnds, scored}

-- stocks that agree on a family's parts at the depot and at base j give its line unit the same score there
pub scored_same : (c : CaseRows) (l : ℕ) (ends : ScoreEnds) (s t : List ℕ) (j : ℕ) → IsLine c l → 0 < j → Agree c l s t 0 → Agree c l s t j
    → scored c l ends s j ≡ scored c l ends t j
scored_same c l ends s t j line some d a =
    ap (λ (x : Item 48). ends (systems c j) (per_system c l) (weight c l) x.backorders) (item_agrees 48 c s t l j line some d a)
