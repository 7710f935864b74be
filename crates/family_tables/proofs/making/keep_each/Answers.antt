use Rattle.std.proofs.Common.{◌≡◌, ◌+◌, ◌∙◌, List, get_or, map, take, sym, ap, arith, subst}
use Rattle.std.proofs.lemmas.List.{get_or_default, take_all}
use Rattle.family_tables.specs.declared.keys.Kept.{Kept}
use Rattle.family_tables.specs.Kept.{Grows, with_keys}
use Rattle.family_tables.proofs.Found.{first_grow, with_next}
use Rattle.family_tables.proofs.making.keep_each.Goals as goal

pub returns-in_err-keep-clause-grows : goal.returns-in_err-keep-clause-grows
returns-in_err-keep-clause-grows g c =
    subst (λ (z : List (Kept g.row.F)). Grows c.args.keys.now (map (λ (x : Kept g.row.F). x.key) c.args.kept.now.items) (map (λ (x : Kept g.row.F). x.key) z))
    (sym c.in_err-keep.ensures.err) c.loop-n.invariant.grows

pub loop-n-preserved : goal.loop-n-preserved
loop-n-preserved g c =
    let keys = map (λ (x : Kept g.row.F). x.key) in
    let old = keys c.args.kept.now.items in
    let given = c.args.keys.now in
    let n = c.loop-n.n in
    let read : c.in_ok-key.key ≡ get_or given n c.in_ok-key.key =
    c.in_ok-key.ensures ∙ c.index-keys-n.is ∙ get_or_default given n c.index-keys-n.result c.in_ok-key.key c.loop-n-test.true in
    let more : keys c.keep.new.kept.items ≡ with_keys old (take (n + 1) given) =
    with_next old given (keys c.loop-n.kept.items) (keys c.keep.new.kept.items) n c.in_ok-key.key c.loop-n-test.true read c.loop-n.invariant.keys c.in_ok-keep.ensures.ok in
    record {
      kept = c.in_ok-keep.ensures.kept;
      grows = subst (Grows given old) (sym more) (first_grow old given (n + 1));
      keys = more;
    }

pub returns-clause-keys : goal.returns-clause-keys
returns-clause-keys g c =
    c.loop-n.invariant.keys ∙ ap (with_keys (map (λ (x : Kept g.row.F). x.key) c.args.kept.now.items)) (take_all c.loop-n.n c.args.keys.now (omega (arith, c.loop-n-test.false)))
