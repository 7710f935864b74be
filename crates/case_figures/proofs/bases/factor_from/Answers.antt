use Rattle.std.proofs.Common.{◌≡◌, true, lit<, ap, ◌∙◌, arith}
use Rattle.spares_input.specs.Rows.{is_line}
use Rattle.spares_input.specs.Frames.{part_at}
use Rattle.spares_input.specs.declared.rows.PartRow.{PartRow}
use Rattle.family_items.specs.declared.item.Item.{Item}
use Rattle.family_items.specs.Encloses.{no_item}
use Rattle.case_figures.proofs.Rows.{of_base, of_line, read}
use Rattle.case_figures.proofs.bases.factor_from.Goals as goal

pub factor-requires : goal.factor-requires
factor-requires g c =
    let family = c.args.family.now in
    let j = c.args.base.0 in
    let parts = c.args.case.now.parts in
    let at = read family.items c.as_slice.result.now j c.index-as_slice-base.result (no_item g.row.F) c.index-as_slice-base.is c.as_slice.ensures
    (omega (arith, c.requires.base.1, c.requires.family.enough)) in
    let line : is_line c.part.result.now ≡ true =
    ap (λ (row : PartRow). is_line row) c.part.ensures.row ∙ ap (λ (x : Item g.row.F). is_line (part_at parts x.part.0)) at
    ∙ c.requires.family.lines j c.requires.base.1 in
    let systems = of_base c.site.result.now j c.site.ensures.fields c.site.ensures.depot c.requires.base.0 in
    let units = of_line c.part.result.now c.part.ensures.fields line in
    (lit< tt, (systems.0, (systems.1, units)))
