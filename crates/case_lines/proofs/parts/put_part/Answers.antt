use Rattle.std.proofs.Common.{◌≡◌, ◌++◌, refl, Bool, List, ℕ, ap, sym, ◌∙◌}
use Rattle.std.specs.Fmt.{decimal}
use Rattle.std.specs.Prelude.{is_none}
use Rattle.case_lines.specs.Fields.{part_text, number_text, parent_text, weight_text}
use Rattle.case_lines.proofs.Written.{seven_steps, is_none_of, part_printed}
use Rattle.case_lines.proofs.parts.put_part.Goals as goal

pub returns : goal.returns
returns c =
    let r = c.args.part.now in
    let out = c.args.out.now.items in
    let line = c.is_none-is_line.result in
    let is : line ≡ is_none r.parent = is_none_of r.parent line c.is_none-is_line.ensures in
    let o1 = c.put_name.new.out.items in
    let o2 = c.push.new.self.items in
    let o3 = c.put_number_before.new.out.items in
    let o4 = c.push-2.new.self.items in
    seven_steps out (out ++ r.name) o1 c.put_parent.new.out.items o2 (o2 ++ decimal r.cost) o3
    c.put_number_if.new.out.items o4 (o4 ++ decimal r.max_depot) c.put_number_before-2.new.out.items c.put_number.new.out.items c.put_weight.new.out.items c.push-3.new.self.items
    r.name (parent_text r.parent) (decimal r.cost) (number_text line r.per_system) (decimal r.max_depot) (decimal r.max_base) (weight_text c.args.weighted line r.weight)
    refl c.in_ok-put_name.ensures c.in_ok-put_parent.ensures c.in_ok-push.ensures.items refl c.in_ok-put_number_before.ensures
    c.in_ok-put_number_if.ensures c.in_ok-push-2.ensures.items refl c.in_ok-put_number_before-2.ensures c.in_ok-put_number.ensures c.in_ok-put_weight.ensures c.in_ok-push-3.ensures.items
    ∙ ap (λ (b : Bool). out ++ part_text b c.args.weighted r) is
    ∙ ap (λ (z : List ℕ). out ++ z) (sym (part_printed c.args.weighted r))
