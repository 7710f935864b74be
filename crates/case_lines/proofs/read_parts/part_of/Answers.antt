use Rattle.std.proofs.Common.{◌≡◌, ℕ, Bool, List, Option, None, Ok, subst}
use Rattle.std.specs.Prelude.{is_none}
use Rattle.line_text.specs.Formats.{Format, Token, accepted, and_then, one}
use Rattle.line_text.specs.Texts.{number}
use Rattle.case_lines.specs.Grammar.{limit_field, name_field, number_if, parent_field, weight_field}
use Rattle.case_lines.proofs.Taken.{first_refused, next_refused, refused}
use Rattle.case_lines.proofs.Written.{is_none_of}
use Rattle.case_lines.proofs.read_parts.part_of.Goals as goal

abbrev from_base : Bool → Bool → Format (ℕ × ℕ)
from_base weighted line = and_then limit_field (λ _. weight_field weighted line)

abbrev from_depot : Bool → Bool → Format (ℕ × (ℕ × ℕ))
from_depot weighted line = and_then limit_field (λ _. from_base weighted line)

abbrev from_systems : Bool → Bool → Format (ℕ × (ℕ × (ℕ × ℕ)))
from_systems weighted line = and_then (number_if line 1 100) (λ _. from_depot weighted line)

abbrev from_cost : Bool → Bool → Format (ℕ × (ℕ × (ℕ × (ℕ × ℕ))))
from_cost weighted line = and_then (one (number 1 100000000)) (λ _. from_systems weighted line)

abbrev from_parent : Bool → Format (Option (List ℕ) × (ℕ × (ℕ × (ℕ × (ℕ × ℕ)))))
from_parent weighted = and_then parent_field (λ parent. from_cost weighted (is_none parent))

abbrev from_name : Bool → Format (List ℕ × (Option (List ℕ) × (ℕ × (ℕ × (ℕ × (ℕ × ℕ))))))
from_name weighted = and_then name_field (λ _. from_parent weighted)

-- name and parent are read
named : (weighted : Bool) (t0 t1 t2 : List Token) (name : List ℕ) (parent : Option (List ℕ)) → name_field.read t0 ≡ Ok (name, t1) → parent_field.read t1 ≡ Ok (parent, t2)
    → accepted ((from_cost weighted (is_none parent)).read t2) ≡ None → accepted ((from_name weighted).read t0) ≡ None
named weighted t0 t1 t2 name parent n p h =
    next_refused name_field (λ _. from_parent weighted) t0 t1 name n (next_refused parent_field (λ q. from_cost weighted (is_none q)) t1 t2 parent p h)

-- the cost too
priced : (weighted : Bool) (t0 t1 t2 t3 : List Token) (name : List ℕ) (parent : Option (List ℕ)) (cost : ℕ) → name_field.read t0 ≡ Ok (name, t1) → parent_field.read t1 ≡ Ok (parent, t2)
    → (one (number 1 100000000)).read t2 ≡ Ok (cost, t3) → accepted ((from_systems weighted (is_none parent)).read t3) ≡ None → accepted ((from_name weighted).read t0) ≡ None
priced weighted t0 t1 t2 t3 name parent cost n p m h =
    named weighted t0 t1 t2 name parent n p (next_refused (one (number 1 100000000)) (λ _. from_systems weighted (is_none parent)) t2 t3 cost m h)

-- and the units per system
counted : (weighted line : Bool) (t0 t1 t2 t3 t4 : List Token) (name : List ℕ) (parent : Option (List ℕ)) (cost systems : ℕ) → line ≡ is_none parent → name_field.read t0 ≡ Ok (name, t1) → parent_field.read t1 ≡ Ok (parent, t2)
    → (one (number 1 100000000)).read t2 ≡ Ok (cost, t3) → (number_if line 1 100).read t3 ≡ Ok (systems, t4) → accepted ((from_depot weighted line).read t4) ≡ None → accepted ((from_name weighted).read t0) ≡ None
counted weighted line t0 t1 t2 t3 t4 name parent cost systems e n p m s h =
    priced weighted t0 t1 t2 t3 name parent cost n p m
    (subst (λ (b : Bool). accepted ((from_systems weighted b).read t3) ≡ None) e (next_refused (number_if line 1 100) (λ _. from_depot weighted line) t3 t4 systems s h))

pub returns-in_err-name : goal.returns-in_err-name
returns-in_err-name c =
    rw c.from_residual.ensures (refused ((from_name c.args.weighted).read c.args.fields.now) _ (first_refused name_field (λ _. from_parent c.args.weighted) c.args.fields.now c.in_err-name.ensures))

pub returns-in_err-parent : goal.returns-in_err-parent
returns-in_err-parent c =
    rw c.from_residual-in_err-parent.ensures (refused ((from_name c.args.weighted).read c.args.fields.now) _
    (next_refused name_field (λ _. from_parent c.args.weighted) c.args.fields.now c.name_in.new.fields c.in_ok-name.name c.in_ok-name.ensures
    (first_refused parent_field (λ q. from_cost c.args.weighted (is_none q)) c.name_in.new.fields c.in_err-parent.ensures)))

pub returns-in_err-cost : goal.returns-in_err-cost
returns-in_err-cost c =
    rw c.from_residual-in_err-cost.ensures (refused ((from_name c.args.weighted).read c.args.fields.now) _
    (named c.args.weighted c.args.fields.now c.name_in.new.fields c.parent_in.new.fields c.in_ok-name.name c.in_ok-parent.parent c.in_ok-name.ensures c.in_ok-parent.ensures
    (first_refused (one (number 1 100000000)) (λ _. from_systems c.args.weighted (is_none c.in_ok-parent.parent)) c.parent_in.new.fields c.in_err-cost.ensures)))

pub returns-in_err-per_system : goal.returns-in_err-per_system
returns-in_err-per_system c =
    let w = c.args.weighted in
    let line = is_none_of c.in_ok-parent.parent c.is_none-is_line.result c.is_none-is_line.ensures in
    rw c.from_residual-in_err-per_system.ensures (refused ((from_name w).read c.args.fields.now) _
    (priced w c.args.fields.now c.name_in.new.fields c.parent_in.new.fields c.number.new.self c.in_ok-name.name c.in_ok-parent.parent c.in_ok-cost.cost
    c.in_ok-name.ensures c.in_ok-parent.ensures c.in_ok-cost.ensures
    (first_refused (number_if (is_none c.in_ok-parent.parent) 1 100) (λ _. from_depot w (is_none c.in_ok-parent.parent)) c.number.new.self
    (subst (λ (b : Bool). accepted ((number_if b 1 100).read c.number.new.self) ≡ None) line c.in_err-per_system.ensures))))

pub returns-in_err-max_depot : goal.returns-in_err-max_depot
returns-in_err-max_depot c =
    let w = c.args.weighted in
    let line = is_none_of c.in_ok-parent.parent c.is_none-is_line.result c.is_none-is_line.ensures in
    rw c.from_residual-in_err-max_depot.ensures (refused ((from_name w).read c.args.fields.now) _
    (counted w c.is_none-is_line.result c.args.fields.now c.name_in.new.fields c.parent_in.new.fields c.number.new.self c.number_if.new.fields c.in_ok-name.name c.in_ok-parent.parent c.in_ok-cost.cost c.in_ok-per_system.per_system line
    c.in_ok-name.ensures c.in_ok-parent.ensures c.in_ok-cost.ensures c.in_ok-per_system.ensures
    (first_refused limit_field (λ _. from_base w c.is_none-is_line.result) c.number_if.new.fields c.in_err-max_depot.ensures)))

pub returns-in_err-max_base : goal.returns-in_err-max_base
returns-in_err-max_base c =
    let w = c.args.weighted in
    let line = is_none_of c.in_ok-parent.parent c.is_none-is_line.result c.is_none-is_line.ensures in
    rw c.from_residual-in_err-max_base.ensures (refused ((from_name w).read c.args.fields.now) _
    (counted w c.is_none-is_line.result c.args.fields.now c.name_in.new.fields c.parent_in.new.fields c.number.new.self c.number_if.new.fields c.in_ok-name.name c.in_ok-parent.parent c.in_ok-cost.cost c.in_ok-per_system.per_system line
    c.in_ok-name.ensures c.in_ok-parent.ensures c.in_ok-cost.ensures c.in_ok-per_system.ensures
    (next_refused limit_field (λ _. from_base w c.is_none-is_line.result) c.number_if.new.fields c.number-2.new.self c.in_ok-max_depot.max_depot c.in_ok-max_depot.ensures
    (first_refused limit_field (λ _. weight_field w c.is_none-is_line.result) c.number-2.new.self c.in_err-max_base.ensures))))

pub returns-in_err-weight : goal.returns-in_err-weight
returns-in_err-weight c =
    let w = c.args.weighted in
    let line = is_none_of c.in_ok-parent.parent c.is_none-is_line.result c.is_none-is_line.ensures in
    rw c.from_residual-in_err-weight.ensures (refused ((from_name w).read c.args.fields.now) _
    (counted w c.is_none-is_line.result c.args.fields.now c.name_in.new.fields c.parent_in.new.fields c.number.new.self c.number_if.new.fields c.in_ok-name.name c.in_ok-parent.parent c.in_ok-cost.cost c.in_ok-per_system.per_system line
    c.in_ok-name.ensures c.in_ok-parent.ensures c.in_ok-cost.ensures c.in_ok-per_system.ensures
    (next_refused limit_field (λ _. from_base w c.is_none-is_line.result) c.number_if.new.fields c.number-2.new.self c.in_ok-max_depot.max_depot c.in_ok-max_depot.ensures
    (next_refused limit_field (λ _. weight_field w c.is_none-is_line.result) c.number-2.new.self c.number-3.new.self c.in_ok-max_base.max_base c.in_ok-max_base.ensures c.in_err-weight.ensures))))
