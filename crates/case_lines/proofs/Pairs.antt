-- The pair at a place.
use Rattle.std.proofs.Common.{◌≡◌, ℕ, List, ap, ◌∙◌}
use Rattle.spares_input.specs.Frames.{site_at, part_at}
use Rattle.spares_input.specs.declared.rows.SiteRow.{SiteRow}
use Rattle.spares_input.specs.declared.rows.PartRow.{PartRow}
use Rattle.case_lines.specs.Grammar.{pair_of}

-- a part and a site as the lists have them make the pair of their places
pub at_place : (ss : List SiteRow) (ps : List PartRow) (p k : ℕ) (part : PartRow) (site : SiteRow) → part ≡ part_at ps p → site ≡ site_at ss k → pair_of p part k site ≡ pair_of p (part_at ps p) k (site_at ss k)
at_place ss ps p k part site e f = ap (λ (x : PartRow). pair_of p x k site) e ∙ ap (λ (x : SiteRow). pair_of p (part_at ps p) k x) f
