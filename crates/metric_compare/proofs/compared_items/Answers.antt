use Rattle.std.proofs.Common.{mul-le-mul_left, length, ◌≡◌, ◌<◌, ap, arith, map, subst}
use Rattle.spares_input.specs.Cases.{frame_rows, pair_count}
use Rattle.case_figures.specs.Figures.{all_items, named}
use Rattle.case_figures.specs.Shows.{no_item_line}
use Rattle.case_figures.specs.declared.figures.Figures.{Figures}
use Rattle.metric_compare.specs.Levels.{poisson_numbers}
use Rattle.metric_compare.specs.Profile.{poisson_of}
use Rattle.metric_compare.specs.Report.{compared_at}
use Rattle.std.specs.List.{range_with_len}
use Rattle.list_laws.proofs.Public.{mapped_more}
use Rattle.metric_compare.proofs.Adding.{all_within, read_all}
use Rattle.metric_compare.proofs.Shown.{line_is, lines_length, place_at, row_is, span_places}
use Rattle.metric_compare.proofs.compared_items.Goals as goal

pub interval-requires : goal.interval-requires
interval-requires c =
    let lines : c.args.figures.now.items ≡ map (named 48 c.args.inputs.now.case) (all_items 48 c.args.inputs.now.case c.args.inputs.now.stocks.list) =
    ap (λ (x : Figures). x.items) c.requires.figures in
    let within : c.loop-i.i < pair_count (frame_rows c.args.inputs.now.case) = omega (arith, c.loop-i-test.true, lines_length c.args.inputs.now.case c.args.inputs.now.stocks.list _ lines) in
    let line = line_is c.args.inputs.now.case c.args.inputs.now.stocks.list c.loop-i.i _ no_item_line c.get-line.result lines within c.get-line.ensures in
    span_places c.args.inputs.now.case c.args.inputs.now.stocks.list c.loop-i.i _ line

pub bounds-poisson-i : goal.bounds-poisson-i
bounds-poisson-i c =
    let lines : c.args.figures.now.items ≡ map (named 48 c.args.inputs.now.case) (all_items 48 c.args.inputs.now.case c.args.inputs.now.stocks.list) =
    ap (λ (x : Figures). x.items) c.requires.figures in
    let within : c.loop-i.i < pair_count (frame_rows c.args.inputs.now.case) = omega (arith, c.loop-i-test.true, lines_length c.args.inputs.now.case c.args.inputs.now.stocks.list _ lines) in
    let all : c.args.poisson.now ≡ poisson_numbers c.args.inputs.now.case c.args.inputs.now.stocks.list =
    c.requires.poisson in
    all_within c.args.inputs.now.case (poisson_of 48 c.args.inputs.now.case c.args.inputs.now.stocks.list) _ c.loop-i.i all within

pub offset_bounds-poisson-i : goal.offset_bounds-poisson-i
offset_bounds-poisson-i c =
    let case = c.args.inputs.now.case in
    let lines : c.args.figures.now.items ≡ map (named 48 case) (all_items 48 case c.args.inputs.now.stocks.list) = ap (λ (x : Figures). x.items) c.requires.figures in
    let within : c.loop-i.i < pair_count (frame_rows case) = omega (arith, c.loop-i-test.true, lines_length case c.args.inputs.now.stocks.list _ lines) in
    let frame = c.invariant.ensures.valid.valid.frame in
    omega (arith, within, mul-le-mul_left (length case.parts) frame.most_sites, frame.most_parts)

pub loop-i-preserved : goal.loop-i-preserved
loop-i-preserved c =
    let lines : c.args.figures.now.items ≡ map (named 48 c.args.inputs.now.case) (all_items 48 c.args.inputs.now.case c.args.inputs.now.stocks.list) =
    ap (λ (x : Figures). x.items) c.requires.figures in
    let within : c.loop-i.i < pair_count (frame_rows c.args.inputs.now.case) = omega (arith, c.loop-i-test.true, lines_length c.args.inputs.now.case c.args.inputs.now.stocks.list _ lines) in
    let line = line_is c.args.inputs.now.case c.args.inputs.now.stocks.list c.loop-i.i _ no_item_line c.get-line.result lines within c.get-line.ensures in
    let place = place_at c.args.inputs.now.case c.loop-i.i (omega (arith, c.invariant.ensures.valid.valid.frame.fewest_sites)) within in
    let all : c.args.poisson.now ≡ poisson_numbers c.args.inputs.now.case c.args.inputs.now.stocks.list =
    c.requires.poisson in
    let q = read_all c.args.inputs.now.case (poisson_of 48 c.args.inputs.now.case c.args.inputs.now.stocks.list) c.args.poisson.now _ _ c.loop-i.i c.index-poisson-i.result c.index-poisson-i.result
    all place.part place.site place.is c.index-poisson-i.is in
    mapped_more _ c.loop-i.i c.loop-i.items.items c.push.new.self.items _ c.in_ok-push.ensures.items c.loop-i.invariant
    (row_is c.args.inputs.now.case c.args.inputs.now.stocks.list c.loop-i.i c.get-line.result c.interval.result c.index-poisson-i.result line c.interval.ensures q)

pub returns : goal.returns
returns c =
    let lines : c.args.figures.now.items ≡ map (named 48 c.args.inputs.now.case) (all_items 48 c.args.inputs.now.case c.args.inputs.now.stocks.list) =
    ap (λ (x : Figures). x.items) c.requires.figures in
    let all : c.loop-i.i ≡ pair_count (frame_rows c.args.inputs.now.case) =
    omega (arith, c.loop-i-test.false, c.loop-i.auto.i-end, lines_length c.args.inputs.now.case c.args.inputs.now.stocks.list _ lines) in
    subst (λ n. c.loop-i.items.items ≡ map (compared_at c.args.inputs.now.case c.args.inputs.now.stocks.list) (range_with_len 0 n)) all c.loop-i.invariant
