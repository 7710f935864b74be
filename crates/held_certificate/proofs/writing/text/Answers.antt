use Rattle.std.proofs.Common.{◌++◌, ℕ, List, ap, sym, ◌∙◌}
use Rattle.std.specs.List.{concat}
use Rattle.line_text.specs.Files.{file_text}
use Rattle.line_text.specs.Texts.{count_line}
use Rattle.price_certificate.specs.Certificates.{cert_text}
use Rattle.held_certificate.specs.Held.{held}
use Rattle.held_certificate.proofs.Inverse.{parts_of_text}
use Rattle.held_certificate.proofs.writing.text.Goals as goal
use lib.Chars.{codes}
use Rattle.list_laws.proofs.Public.{joined_more}

pub returns : goal.returns
returns c =
    let h = c.args.certificate.now in
    let last = c.extend_from_slice-2.new.self.items in
    let start = c.new-out.result.items in
    let whole = rw (c.as_slice.ensures.value, c.in_ok-lines.ensures) at c.in_ok-extend_from_slice.ensures.items in
    let e3 = joined_more c.extend_from_slice.new.self.items (concat ((held h.certificate.case).print h.held)) (codes "end\n") c.put_held.new.out.items last c.in_ok-put_held.ensures c.in_ok-extend_from_slice-2.ensures.items in
    let e2 = joined_more c.put_count_line.new.out.items (cert_text h.certificate) _ c.extend_from_slice.new.self.items last whole e3 in
    joined_more start (file_text (count_line (codes "spares-held") 1 1) 1) _ c.put_count_line.new.out.items last (c.in_ok-put_count_line.ensures 1 1) e2
    ∙ ap (λ (z : List ℕ). z ++ (file_text (count_line (codes "spares-held") 1 1) 1 ++ (cert_text h.certificate ++ (concat ((held h.certificate.case).print h.held) ++ codes "end\n")))) c.new-out.ensures.items
    ∙ sym (parts_of_text h)
