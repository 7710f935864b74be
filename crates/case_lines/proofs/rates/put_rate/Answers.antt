use Rattle.std.proofs.Common.{◌≡◌, ◌++◌, ◌∷◌, [], refl, Bool, List, ℕ, ap, sym, ◌∙◌}
use Rattle.std.specs.Prelude.{is_none, not, ◌&&◌}
use Rattle.fixed_interval.specs.Text.{fixed_text}
use Rattle.case_lines.specs.Fields.{rate_text, fixed_text_if}
use Rattle.case_lines.proofs.Written.{seven_steps, is_none_of, rate_printed, nothing_more}
use Rattle.case_lines.proofs.rates.put_rate.Goals as goal

pub returns : goal.returns
returns c =
    let p = c.args.part.now in
    let s = c.args.site.now in
    let r = c.args.rate.now in
    let out = c.args.out.now.items in
    let line = c.is_none-is_line.result in
    let is : line ≡ is_none p.parent = is_none_of p.parent line c.is_none-is_line.ensures in
    let last = c.put_fixed.new.out.items in
    let o1 = c.put_name.new.out.items in
    let o2 = c.put_name-2.new.out.items in
    let o3 = c.put_fixed_if.new.out.items in
    let o4 = c.put_fixed_if-2.new.out.items in
    let demand = fixed_text_if (line && not s.depot) 4 r.demand in
    let here = fixed_text_if (not s.depot) 4 r.repair_here in
    let share = fixed_text_if (not line) 4 r.share in
    let written = seven_steps out (out ++ p.name) o1 (o1 ++ s.name) o2 (o2 ++ demand) o3 (o3 ++ here) o4 (o4 ++ share) c.put_fixed_if-3.new.out.items last last c.push.new.self.items
    p.name s.name demand here share (fixed_text 2 r.repair_days) []
    refl c.in_ok-put_name.ensures refl c.in_ok-put_name-2.ensures refl
    (c.in_ok-put_fixed_if.ensures ∙ ap (λ (b : Bool). (o2 ++ fixed_text_if b 4 r.demand) ++ 44 ∷ []) c.has_demand.ensures) refl
    c.in_ok-put_fixed_if-2.ensures refl c.in_ok-put_fixed_if-3.ensures c.in_ok-put_fixed.ensures (nothing_more last) c.in_ok-push.ensures.items
    ∙ ap (λ (b : Bool). out ++ rate_text b s.depot p.name s.name r) is in
    λ i k. written ∙ ap (λ (z : List ℕ). out ++ z) (sym (rate_printed i p k s r))
