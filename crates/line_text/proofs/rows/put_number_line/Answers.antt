use Rattle.std.proofs.Common.{◌∷◌, [], ◌++◌, ◌∙◌, sym}
use Rattle.std.proofs.lemmas.List.{append-nil}
use Rattle.std.specs.Fmt.{decimal}
use Rattle.line_text.proofs.Parts.{begins_it, first_part, put_part}
use Rattle.line_text.proofs.rows.put_number_line.Goals as goal

pub returns-in_err-put_number : goal.returns-in_err-put_number
returns-in_err-put_number c = λ most.
    let out = c.args.out.now.items in
    let new = c.put_number.new.out.items in
    put_part _ _ _ _ c.from_residual.ensures.0
    (first_part out new (decimal c.args.number ++ (10 ∷ [])) [] (first_part out new (decimal c.args.number) (10 ∷ []) c.in_err-put_number.ensures))

pub returns-in_err-push : goal.returns-in_err-push
returns-in_err-push c = λ most.
    let n = decimal c.args.number in
    put_part _ _ _ _ c.from_residual-in_err-push.ensures.0
    (begins_it c.args.out.now.items c.push.new.self.items n (10 ∷ []) ((n ++ (10 ∷ [])) ++ [])
    (c.in_err-push.ensures.items ∙ c.in_ok-put_number.ensures) (sym (append-nil (n ++ (10 ∷ [])))))
