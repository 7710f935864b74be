use Rattle.std.proofs.Common.{◌++◌, ◌∷◌, [], List, ℕ, ◌≡◌, sym, ap, subst, ◌∙◌, append_assoc}
use Rattle.std.proofs.lemmas.List.{append-nil}
use Rattle.std.specs.Fmt.{decimal}
use Rattle.line_text.specs.Writing.{AppendsPart}
use Rattle.line_text.proofs.Parts.{begins_it, first_part, put_part, then_part}
use Rattle.line_text.proofs.rows.put_count_line.Goals as goal

-- a part of a line of a word and a number
abbrev count_text : List ℕ → ℕ → List ℕ
count_text word number = ((word ++ (44 ∷ decimal number)) ++ (10 ∷ [])) ++ []

split : (word : List ℕ) (number : ℕ) → word ++ ((44 ∷ decimal number) ++ (10 ∷ [])) ≡ count_text word number
split word number = sym (append_assoc word (44 ∷ decimal number) (10 ∷ [])) ∙ sym (append-nil ((word ++ (44 ∷ decimal number)) ++ (10 ∷ [])))

pub returns-in_err-push : goal.returns-in_err-push
returns-in_err-push c = λ least most.
    let word = c.args.name.now in
    put_part _ _ _ _ c.from_residual-in_err-push.ensures.0
    (begins_it c.args.out.now.items c.push.new.self.items word ((44 ∷ decimal c.args.number) ++ (10 ∷ [])) (count_text word c.args.number)
    (c.in_err-push.ensures.items ∙ c.in_ok-extend_from_slice.ensures.items) (split word c.args.number))

pub returns-in_err-put_number : goal.returns-in_err-put_number
returns-in_err-put_number c = λ least most.
    let word = c.args.name.now in
    let n = c.args.number in
    let out = c.args.out.now.items in
    let new = c.put_number.new.out.items in
    let mid : c.push.new.self.items ≡ out ++ (word ++ (44 ∷ [])) = c.in_ok-push.ensures.items ∙ ap (λ (z : List ℕ). z ++ (44 ∷ [])) c.in_ok-extend_from_slice.ensures.items ∙ append_assoc out word (44 ∷ []) in
    put_part _ _ _ _ c.from_residual-in_err-put_number.ensures.0
    (subst (λ (piece : List ℕ). AppendsPart out new piece) (append_assoc word (44 ∷ []) (decimal n ++ (10 ∷ [])) ∙ split word n)
    (then_part out c.push.new.self.items new (word ++ (44 ∷ [])) (decimal n ++ (10 ∷ [])) mid
    (first_part c.push.new.self.items new (decimal n) (10 ∷ []) c.in_err-put_number.ensures)))

pub returns-in_err-push-2 : goal.returns-in_err-push-2
returns-in_err-push-2 c = λ least most.
    let word = c.args.name.now in
    let n = c.args.number in
    let out = c.args.out.now.items in
    let new = c.push-2.new.self.items in
    let mid : c.push.new.self.items ≡ out ++ (word ++ (44 ∷ [])) = c.in_ok-push.ensures.items ∙ ap (λ (z : List ℕ). z ++ (44 ∷ [])) c.in_ok-extend_from_slice.ensures.items ∙ append_assoc out word (44 ∷ []) in
    put_part _ _ _ _ c.from_residual-in_err-push-2.ensures.0
    (begins_it out new (word ++ (44 ∷ decimal n)) (10 ∷ []) (count_text word n)
    (c.in_err-push-2.ensures.items ∙ c.in_ok-put_number.ensures ∙ ap (λ (z : List ℕ). z ++ decimal n) mid ∙ append_assoc out (word ++ (44 ∷ [])) (decimal n)
    ∙ ap (λ (z : List ℕ). out ++ z) (append_assoc word (44 ∷ []) (decimal n)))
    (sym (append-nil ((word ++ (44 ∷ decimal n)) ++ (10 ∷ [])))))
