use Rattle.std.proofs.Common.{◌≡◌, ◌++◌, List, sym, ap₂, subst}
use Rattle.std.proofs.lemmas.List.{map-id}
use Rattle.hull.specs.declared.point.Point.{Point}
use Rattle.hull.specs.Curves.{Among, IsChain, StandFor}
use Rattle.hull.proofs.joins.chain_of_both.Goals as goal

pub scan_both-requires-clause-order : goal.scan_both-requires-clause-order
scan_both-requires-clause-order c = λ v w m n. c.requires.order v w (subst (Among v) (map-id c.args.front.items) m) (subst (Among w) (map-id c.args.points.items) n)

pub scan_both-requires-clause-ranges : goal.scan_both-requires-clause-ranges
scan_both-requires-clause-ranges c = λ v m.
    c.requires.ranges v
    (subst (Among v) (ap₂ (λ (a b : List Point). a ++ b) (map-id c.args.front.items) (ap₂ (λ (a b : List Point). a ++ b) (map-id c.args.rest.items) (map-id c.args.points.items))) m)

pub scan_both-requires-clause-chain : goal.scan_both-requires-clause-chain
scan_both-requires-clause-chain c = subst IsChain (sym (ap₂ (λ (a b : List Point). a ++ b) (map-id c.args.front.items) (map-id c.args.rest.items))) c.requires.chain

pub scan_both-requires-clause-room : goal.scan_both-requires-clause-room
scan_both-requires-clause-room c = c.requires.room

same_stand : (a b m n : List Point) → a ≡ b → m ≡ n → StandFor a m → StandFor b n
same_stand a b m n e f h = subst (StandFor b) f (subst (λ l. StandFor l m) e h)

pub returns-clause-chain : goal.returns-clause-chain
returns-clause-chain c = subst IsChain (map-id c.scan_both.result.items) c.scan_both.ensures.chain

pub returns-clause-stands : goal.returns-clause-stands
returns-clause-stands c =
    same_stand _ _ _ _ (ap₂ (λ (a b : List Point). a ++ b) (map-id c.args.front.items) (ap₂ (λ (a b : List Point). a ++ b) (map-id c.args.rest.items) (map-id c.args.points.items)))
    (map-id c.scan_both.result.items) c.scan_both.ensures.stands

pub returns-clause-some : goal.returns-clause-some
returns-clause-some c = c.scan_both.ensures.some

pub returns-clause-len : goal.returns-clause-len
returns-clause-len c = c.scan_both.ensures.len
