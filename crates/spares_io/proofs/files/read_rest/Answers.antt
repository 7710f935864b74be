use Rattle.std.proofs.Common.{◌≡◌, ◌≤◌, length, subst, arith, IfSome}
use Rattle.spares_io.proofs.Read.{read_all}
use Rattle.spares_io.proofs.files.read_rest.Goals as goal

pub returns-in-Ok-clause-content : goal.returns-in-Ok-clause-content
returns-in-Ok-clause-content g c =
    let within : length c.read_to_end.new.buf.items ≤ c.args.limit = omega (arith, c.if-len-limit.true, c.len.ensures, c.read_to_end.new.buf.ok.0) in
    subst (λ file. IfSome (g.F.Read.remaining file) (λ bytes. c.read_to_end.new.buf.items ≡ bytes)) c.take.ensures.inner
    (read_all _ c.args.into.now.items c.read_to_end.new.buf.items c.args.limit c.take.result.limit
    c.requires.empty c.take.ensures.limit within c.in-Ok.ensures.bytes)
