use Rattle.family_points.specs.Vectors.{vector_of}
use Rattle.gap_rules.proofs.Public.{vectors_ordered, vector_limited}
use Rattle.gap_checker.proofs.Uppers.{one_ordered, one_upper}
use Rattle.gap_checker.proofs.upper.family_upper.Goals as goal

pub upper_within-requires-clause-ordered : goal.upper_within-requires-clause-ordered
upper_within-requires-clause-ordered g c =
    one_ordered c.args.cert.now.case c.args.line.0 c.in_ok-bounds.bounds (vector_of c.args.cert.now.case c.args.line.0 c.args.held.now.list) (vector_of c.args.cert.now.case c.args.line.0 c.args.cert.now.stocks.list)
    c.in_ok-bounds.ensures
    (vectors_ordered c.args.cert.now.case c.args.line.0 c.args.held.now c.args.cert.now.stocks c.requires.is_line.is_part c.requires.kept)
    (vector_limited c.args.cert.now.case c.args.line.0 c.args.cert.now.stocks c.requires.is_line.is_part c.requires.limited)

pub returns-clause-upper : goal.returns-clause-upper
returns-clause-upper g c =
    one_upper c.args.cert.now.case c.args.line.0 g.S.Score.ends c.in_ok-bounds.bounds (vector_of c.args.cert.now.case c.args.line.0 c.args.held.now.list) (vector_of c.args.cert.now.case c.args.line.0 c.args.cert.now.stocks.list)
    c.upper_within.result c.in_ok-bounds.ensures c.upper_within.ensures.upper
