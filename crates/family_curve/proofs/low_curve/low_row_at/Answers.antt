use Rattle.std.proofs.Common.{List, ℕ, [], map, sym, subst, get_or, arith}
use Rattle.std.proofs.lemmas.List.{length-map}
use Rattle.std.proofs.lemmas.Slice.Zip.{AllZip-long}
use Rattle.family_points.specs.Inputs.{shop_vectors}
use Rattle.family_curve.specs.LowCurves.{IsLowRow}
use Rattle.family_curve.proofs.LowCurves.{row_read}
use Rattle.family_curve.proofs.low_curve.low_row_at.Goals as goal

pub prove-unreachable-requires : goal.prove-unreachable-requires
prove-unreachable-requires c =
    let x = c.args.here.now.family.now in
    let j = c.args.here.now.site.0 in
    omega (
      arith,
      c.if-prove.true,
      c.requires.choice.place,
      AllZip-long (IsLowRow x c.args.here.now.depot.now j) (shop_vectors x j) (map (λ r. r.items) c.args.rows.now) c.requires.rows,
      length-map c.args.rows.now (λ r. r.items),
    )

pub returns : goal.returns
returns c =
    let b = c.args.here.now in
    let x = b.family.now in
    let j = b.site.0 in
    let v = c.args.choice.now in
    subst (λ (r : List ℕ). IsLowRow x b.depot.now j (get_or (shop_vectors x j) v.shops []) r) (sym c.as_slice.ensures.value)
    (row_read (λ r. r.items) (IsLowRow x b.depot.now j) (shop_vectors x j) c.args.rows.now v.shops c.index-rows-choice.result [] c.requires.rows c.requires.choice.place c.index-rows-choice.is)
