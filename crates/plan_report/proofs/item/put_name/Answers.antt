use Rattle.std.proofs.Common.{◌≡◌, ◌≤◌, ◌+◌, ◌++◌, [], ◌∷◌, ℕ, List, length, ap, arith, length-append}
use Rattle.spares_input.proofs.Public.{is_name_fits}
use Rattle.plan_report.proofs.item.put_name.Goals as goal

longer : (old name new : List ℕ) → new ≡ old ++ name → length name ≤ 24 → length new ≤ length old + 24
longer old name new e h = omega (arith, ap length e, length-append old name)

pub put-requires : goal.put-requires
put-requires c = (let short = is_name_fits c.as_bytes.result.now c.as_bytes.ensures.name in omega arith)

pub push-requires : goal.push-requires
push-requires c =
    omega (arith, longer c.args.line.now c.as_bytes.result.now c.put.new.self c.put.ensures (is_name_fits c.as_bytes.result.now c.as_bytes.ensures.name))

pub returns-clause-short : goal.returns-clause-short
returns-clause-short c =
    let named = longer c.args.line.now c.as_bytes.result.now c.put.new.self c.put.ensures (is_name_fits c.as_bytes.result.now c.as_bytes.ensures.name) in
    omega (arith, named, ap length c.push.ensures, length-append c.put.new.self (44 ∷ []))
