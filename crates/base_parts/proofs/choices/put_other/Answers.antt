use Rattle.std.proofs.Common.{◌<◌, List, inl, length, set, refl, sym, subst, arith, vec_len}
use Rattle.fixed_interval.specs.Ends.{Ends}
use Rattle.base_parts.proofs.Kept.{grown_put, kept_put, put_at, row_is, some_found}
use Rattle.base_parts.proofs.choices.put_other.Goals as goal

pub returns-then-not-is_empty-clause-settled : goal.returns-then-not-is_empty-clause-settled
returns-then-not-is_empty-clause-settled c =
    let rows = c.args.rows.now.items in
    let row = c.index.result.now in
    let inside : c.args.n < length rows = omega (arith, c.requires.place, c.requires.long) in
    let some : 0 < length row.items = (
    let found : 0 < vec_len row = some_found (vec_len row) c.is_empty.result c.is_empty.ensures c.if-not-is_empty.true in
    omega (arith, found, row.ok.0)) in
    inl (subst (λ (r : List Ends). 0 < length r) (row_is (λ r. r.items) rows c.args.n row inside c.index.ensures) some)

pub returns-clause-rows : goal.returns-clause-rows
returns-clause-rows c =
    let rows = c.args.rows.now.items in
    let row = c.put_row.new.row in
    let made = set rows c.args.n row in
    let inside : c.args.n < length rows = omega (arith, c.requires.place, c.requires.long) in
    kept_put (λ r. r.items) rows made c.args.n row refl inside c.args.here.now c.requires.rows c.in_ok-put_row.ensures

pub returns-clause-grown : goal.returns-clause-grown
returns-clause-grown c =
    let rows = c.args.rows.now.items in
    let row = c.put_row.new.row in
    let made = set rows c.args.n row in
    let inside : c.args.n < length rows = omega (arith, c.requires.place, c.requires.long) in
    let long = c.in_ok-put_row.ensures.long in
    grown_put (λ r. r.items) rows made c.args.n row refl inside (omega (arith, long))

pub returns-clause-settled : goal.returns-clause-settled
returns-clause-settled c =
    let rows = c.args.rows.now.items in
    let row = c.put_row.new.row in
    let made = set rows c.args.n row in
    let inside : c.args.n < length rows = omega (arith, c.requires.place, c.requires.long) in
    let long = c.in_ok-put_row.ensures.long in
    inl (subst (λ (r : List Ends). 0 < length r) (sym (put_at (λ r. r.items) rows made c.args.n row refl inside)) (omega (arith, long)))
