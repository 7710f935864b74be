use Rattle.std.proofs.Common.{◌≡◌, length, subst, arith, vec_len}
use Rattle.gap_rules.specs.Reading.{parts_at}
use Rattle.gap_rules.proofs.ReadingLaws.{AreParts, reads_nothing, reads_cost, reads_whole, reads_split, reads_gap, parts_of, no_parts, popped_ordered, split_ordered}
use Rattle.gap_rules.proofs.reading.read_node.Goals as goal

pub returns-in_default-clause-reads : goal.returns-in_default-clause-reads
returns-in_default-clause-reads c = λ nodes. (
    let e = c.in_default.ensures.cases.0 in
    let l : vec_len c.args.waiting.now ≡ length c.args.waiting.now.items = c.args.waiting.now.ok.0 in
    reads_nothing c.args.waiting.now.items c.args.node nodes (omega (arith, e, l))
    )

own_parts : (c : goal.In_ok-wait-in-Some-2) → AreParts c.in-Some.bounds c.in-Split.at c.in-Split.from c.in-Some-2.fewer c.in-Some-2.as_many
own_parts c = parts_of c.in-Some.bounds c.in-Split.at c.in-Split.from c.in_ok-fewer-in-Split.field-0 c.in-Some-2.fewer c.in-Some-2.as_many
    (subst (λ z. c.in_ok-fewer-in-Split.field-0 ≡ parts_at c.in-Some.bounds z c.in-Split.from) c.from.ensures c.in_ok-fewer-in-Split.ensures) c.in-Some-2.is

pub returns-in_ok-wait-in-Some-2-clause-reads : goal.returns-in_ok-wait-in-Some-2-clause-reads
returns-in_ok-wait-in-Some-2-clause-reads c = λ nodes.
    reads_split c.args.waiting.now.items c.pop.new.self.items c.wait.new.waiting.items c.in-Some.bounds c.in-Some-2.fewer c.in-Some-2.as_many c.args.node nodes c.in-Split.at c.in-Split.from c.in-Split.is
    c.in-Some.ensures.items (own_parts c) c.in_ok-wait-in-Some-2.ensures

pub returns-in_ok-wait-in-Some-2-clause-ordered : goal.returns-in_ok-wait-in-Some-2-clause-ordered
returns-in_ok-wait-in-Some-2-clause-ordered c = λ d l all. (
  split_ordered d l c.args.waiting.now.items c.pop.new.self.items c.wait.new.waiting.items c.in-Some.bounds c.in-Some-2.fewer c.in-Some-2.as_many c.in-Split.at c.in-Split.from
      c.in-Some.ensures.items (own_parts c) c.in_ok-wait-in-Some-2.ensures all,
  tt,
)

pub returns-in-None-clause-reads : goal.returns-in-None-clause-reads
returns-in-None-clause-reads c = λ nodes. reads_gap c.args.waiting.now.items c.pop.new.self.items c.in-Some.bounds c.args.node nodes c.in-Split.at c.in-Split.from c.in-Split.is c.in-Some.ensures.items
    (no_parts c.in-Some.bounds c.in-Split.at c.in-Split.from c.in_ok-fewer-in-Split.field-0 (subst (λ z. c.in_ok-fewer-in-Split.field-0 ≡ parts_at c.in-Some.bounds z c.in-Split.from) c.from.ensures c.in_ok-fewer-in-Split.ensures) c.in-None.is)

pub returns-in-None-clause-ordered : goal.returns-in-None-clause-ordered
returns-in-None-clause-ordered c = λ d l all. ((popped_ordered d l c.args.waiting.now.items c.pop.new.self.items c.in-Some.bounds c.in-Some.ensures.items all).0, tt)

pub returns-in-Cost-clause-reads : goal.returns-in-Cost-clause-reads
returns-in-Cost-clause-reads c = λ nodes. reads_cost c.args.waiting.now.items c.pop.new.self.items _ c.args.node nodes c.in-Cost.is c.in-Some.ensures.items

pub returns-in-Cost-clause-ordered : goal.returns-in-Cost-clause-ordered
returns-in-Cost-clause-ordered c = λ d l all. popped_ordered d l c.args.waiting.now.items c.pop.new.self.items c.in-Some.bounds c.in-Some.ensures.items all

pub returns-in-Whole-clause-reads : goal.returns-in-Whole-clause-reads
returns-in-Whole-clause-reads c = λ nodes. reads_whole c.args.waiting.now.items c.pop.new.self.items _ c.args.node nodes c.in-Whole.is c.in-Some.ensures.items

pub returns-in-Whole-clause-ordered : goal.returns-in-Whole-clause-ordered
returns-in-Whole-clause-ordered c = λ d l all. popped_ordered d l c.args.waiting.now.items c.pop.new.self.items c.in-Some.bounds c.in-Some.ensures.items all
