use Rattle.std.proofs.Common.{◌∙◌, ap, sym, Some}
use Rattle.std.specs.Option.{option_map}
use Rattle.spares_io.proofs.Find.{file_of_place, file_of_absent}
use Rattle.spares_io.proofs.memory_shelf.find_file.Goals as goal

pub returns-in_err-place : goal.returns-in_err-place
returns-in_err-place c =
    ap (option_map (λ s. s.now)) c.from_residual.ensures
    ∙ sym (file_of_absent c.args.name.now c.args.files.now (sym c.find_place.ensures ∙ c.in_err-place.was))

pub returns : goal.returns
returns c =
    ap Some c.as_slice.ensures
    ∙ sym (file_of_place c.args.name.now c.args.files.now _ _ (sym c.find_place.ensures ∙ c.in_ok-place.was))
