use Rattle.std.proofs.Common.{◌≡◌, ℕ, Bool, List, None, Ok, ap, subst, ◌∙◌}
use Rattle.std.specs.Prelude.{not, ◌&&◌}
use Rattle.line_text.specs.Formats.{Format, Token, accepted, and_then}
use Rattle.line_text.specs.Texts.{word}
use Rattle.case_lines.specs.Grammar.{Pair, chance_if, days_field, fixed_if, pair_of}
use Rattle.case_lines.proofs.Taken.{first_refused, next_refused, refused}
use Rattle.case_lines.proofs.Written.{is_none_of}
use Rattle.case_lines.proofs.read_rates.rate_of.Goals as goal

abbrev from_share : Pair → Format (ℕ × ℕ)
from_share pair = and_then (chance_if (not pair.line)) (λ _. days_field)

abbrev from_here : Pair → Format (ℕ × (ℕ × ℕ))
from_here pair = and_then (chance_if (not pair.depot)) (λ _. from_share pair)

abbrev has : Pair → Bool
has pair = pair.line && not pair.depot

abbrev from_demand : Pair → Format (ℕ × (ℕ × (ℕ × ℕ)))
from_demand pair = and_then (fixed_if (has pair) 4 1000000000) (λ _. from_here pair)

abbrev from_site : Pair → Format (Unit {0} × (ℕ × (ℕ × (ℕ × ℕ))))
from_site pair = and_then (word pair.site_name) (λ _. from_demand pair)

abbrev from_part : Pair → Format (Unit {0} × (Unit {0} × (ℕ × (ℕ × (ℕ × ℕ)))))
from_part pair = and_then (word pair.part_name) (λ _. from_site pair)

-- the names are read
named : (pair : Pair) (t0 t1 t2 : List Token) → (word pair.part_name).read t0 ≡ Ok (tt, t1) → (word pair.site_name).read t1 ≡ Ok (tt, t2) → accepted ((from_demand pair).read t2) ≡ None
    → accepted ((from_part pair).read t0) ≡ None
named pair t0 t1 t2 p s h = next_refused (word pair.part_name) (λ _. from_site pair) t0 t1 tt p (next_refused (word pair.site_name) (λ _. from_demand pair) t1 t2 tt s h)

-- the demand too
demanded : (pair : Pair) (t0 t1 t2 t3 : List Token) (d : ℕ) (b : Bool) → b ≡ has pair → (word pair.part_name).read t0 ≡ Ok (tt, t1) → (word pair.site_name).read t1 ≡ Ok (tt, t2)
    → (fixed_if b 4 1000000000).read t2 ≡ Ok (d, t3) → accepted ((from_here pair).read t3) ≡ None → accepted ((from_part pair).read t0) ≡ None
demanded pair t0 t1 t2 t3 d b e p s f h =
    named pair t0 t1 t2 p s (next_refused (fixed_if (has pair) 4 1000000000) (λ _. from_here pair) t2 t3 d (subst (λ (x : Bool). (fixed_if x 4 1000000000).read t2 ≡ Ok (d, t3)) e f) h)

pub returns-in_err-word : goal.returns-in_err-word
returns-in_err-word c =
    let pair = pair_of c.args.part.0 c.args.row.now c.args.site.0 c.args.place.now in
    rw c.from_residual.ensures (refused ((from_part pair).read c.args.fields.now) _
    (first_refused (word pair.part_name) (λ _. from_site pair) c.args.fields.now (rw c.as_bytes.ensures.bytes at c.in_err-word.ensures)))

pub returns-in_err-word-2 : goal.returns-in_err-word-2
returns-in_err-word-2 c =
    let pair = pair_of c.args.part.0 c.args.row.now c.args.site.0 c.args.place.now in
    rw c.from_residual-in_err-word-2.ensures (refused ((from_part pair).read c.args.fields.now) _
    (next_refused (word pair.part_name) (λ _. from_site pair) c.args.fields.now c.word.new.self tt (rw c.as_bytes.ensures.bytes at c.in_ok-word.ensures)
    (first_refused (word pair.site_name) (λ _. from_demand pair) c.word.new.self (rw c.as_bytes-2.ensures.bytes at c.in_err-word-2.ensures))))

pub returns-in_err-demand : goal.returns-in_err-demand
returns-in_err-demand c =
    let pair = pair_of c.args.part.0 c.args.row.now c.args.site.0 c.args.place.now in
    let line = is_none_of c.args.row.now.parent c.is_none-is_line.result c.is_none-is_line.ensures in
    let demand = c.has_demand.ensures ∙ ap (λ (b : Bool). b && not c.args.place.now.depot) line in
    rw c.from_residual-in_err-demand.ensures (refused ((from_part pair).read c.args.fields.now) _
    (named pair c.args.fields.now c.word.new.self c.word-2.new.self (rw c.as_bytes.ensures.bytes at c.in_ok-word.ensures) (rw c.as_bytes-2.ensures.bytes at c.in_ok-word-2.ensures)
    (first_refused (fixed_if (has pair) 4 1000000000) (λ _. from_here pair) c.word-2.new.self
    (subst (λ (x : Bool). accepted ((fixed_if x 4 1000000000).read c.word-2.new.self) ≡ None) demand c.in_err-demand.ensures))))

pub returns-in_err-repair_here : goal.returns-in_err-repair_here
returns-in_err-repair_here c =
    let pair = pair_of c.args.part.0 c.args.row.now c.args.site.0 c.args.place.now in
    let line = is_none_of c.args.row.now.parent c.is_none-is_line.result c.is_none-is_line.ensures in
    let demand = c.has_demand.ensures ∙ ap (λ (b : Bool). b && not c.args.place.now.depot) line in
    rw c.from_residual-in_err-repair_here.ensures (refused ((from_part pair).read c.args.fields.now) _
    (demanded pair c.args.fields.now c.word.new.self c.word-2.new.self c.fixed_if.new.fields c.in_ok-demand.demand c.has_demand.result demand
    (rw c.as_bytes.ensures.bytes at c.in_ok-word.ensures) (rw c.as_bytes-2.ensures.bytes at c.in_ok-word-2.ensures) c.in_ok-demand.ensures
    (first_refused (chance_if (not pair.depot)) (λ _. from_share pair) c.fixed_if.new.fields c.in_err-repair_here.ensures)))

pub returns-in_err-share : goal.returns-in_err-share
returns-in_err-share c =
    let pair = pair_of c.args.part.0 c.args.row.now c.args.site.0 c.args.place.now in
    let line = is_none_of c.args.row.now.parent c.is_none-is_line.result c.is_none-is_line.ensures in
    let demand = c.has_demand.ensures ∙ ap (λ (b : Bool). b && not c.args.place.now.depot) line in
    rw c.from_residual-in_err-share.ensures (refused ((from_part pair).read c.args.fields.now) _
    (demanded pair c.args.fields.now c.word.new.self c.word-2.new.self c.fixed_if.new.fields c.in_ok-demand.demand c.has_demand.result demand
    (rw c.as_bytes.ensures.bytes at c.in_ok-word.ensures) (rw c.as_bytes-2.ensures.bytes at c.in_ok-word-2.ensures) c.in_ok-demand.ensures
    (next_refused (chance_if (not pair.depot)) (λ _. from_share pair) c.fixed_if.new.fields c.fixed_if-2.new.fields c.in_ok-repair_here.repair_here c.in_ok-repair_here.ensures
    (first_refused (chance_if (not pair.line)) (λ _. days_field) c.fixed_if-2.new.fields
    (subst (λ (x : Bool). accepted ((chance_if (not x)).read c.fixed_if-2.new.fields) ≡ None) line c.in_err-share.ensures)))))
