use Rattle.std.proofs.Common.{◌∙◌, ◌++◌, ◌∷◌, [], ap, sym, slice_set, position, bytes_eq}
use Rattle.spares_io.specs.Memory.{files_of}
use Rattle.spares_io.proofs.Find.{Entry, files_of_set, files_of_push}
use Rattle.spares_io.proofs.memory_shelf.write_file.Goals as goal

pub returns-in_ok-to_vec-in-Some-clause-written : goal.returns-in_ok-to_vec-in-Some-clause-written
returns-in_ok-to_vec-in-Some-clause-written c =
    ap (λ content. files_of (slice_set c.args.files.now.items c.in-Some.place (c.index_mut.result.now.0, content)))
    (c.of.ensures ∙ c.in_ok-to_vec-in-Some.ensures.items_if_clones_equal (λ x y e. e))
    ∙ files_of_set c.args.name.now c.args.bytes.now c.args.files.now.items c.in-Some.place c.index_mut.result.now.0
    (ap (position (λ (file : Entry). bytes_eq c.args.name.now file.0)) (sym c.as_slice.ensures.value) ∙ sym c.find_place.ensures ∙ c.in-Some.is)
    c.index_mut.result.now (ap (λ (file : Entry). file.0) c.index_mut.ensures.value)

pub returns-in_ok-push-in-None-clause-written : goal.returns-in_ok-push-in-None-clause-written
returns-in_ok-push-in-None-clause-written c =
    ap files_of c.in_ok-push-in-None.ensures.items
    ∙ ap (λ (file : Entry). files_of (c.args.files.now.items ++ file ∷ [])) c.in_ok-new_file-in-None.ensures
    ∙ files_of_push c.args.name.now c.args.bytes.now c.args.files.now.items
    (ap (position (λ (file : Entry). bytes_eq c.args.name.now file.0)) (sym c.as_slice.ensures.value) ∙ sym c.find_place.ensures ∙ c.in-None.is)
