use Rattle.std.proofs.Common.{◌≡◌, ℕ, ◌-◌, List, length, map, lit<, sym, ap, ap₂, ◌∙◌, refl, subst, arith}
use Rattle.std.specs.Prelude.{All}
use Rattle.std.proofs.lemmas.List.FromFn.{length-map-range_with_len}
use Rattle.fleet_model.specs.Rows.{bases}
use Rattle.availability.specs.declared.Weighted.{Weighted}
use Rattle.availability.specs.Profile.{fleet_ends}
use Rattle.availability.specs.Exact.{IsWeighted}
use Rattle.family_items.specs.declared.item.FamilyResult.{FamilyResult}
use Rattle.family_items.specs.Encloses.{CanEvaluate}
use Rattle.family_items.specs.Profile.{families_of}
use Rattle.spares_input.specs.Cases.{CaseRows}
use Rattle.spares_input.specs.Frames.{part_names}
use Rattle.spares_input.specs.Stocks.{StockList}
use Rattle.case_figures.specs.Compact.{IsNamedPair, line_under}
use Rattle.case_figures.specs.Gathering.{IsFamilyOf, weighted_from, base_line_from}
use Rattle.case_figures.proofs.Families.{AreSmall, are_families, are_compact, few_families, made}
use Rattle.case_figures.proofs.Shown.{width_in_scale, evaluated_as}
use Rattle.case_figures.proofs.gathering.figures_with_cost.Goals as goal

are_small : (f : ℕ) (c : CaseRows) (t : StockList) → CanEvaluate f c t → AreSmall f c t
are_small f c t can = (let is = evaluated_as f c t can in record { items_most = is.items_most; totals_most = is.totals_most })

families_of_case : (f : ℕ) (c : CaseRows) (t : StockList) (rs : List (FamilyResult f)) → CanEvaluate f c t → rs ≡ families_of f c t → All (IsFamilyOf f c) rs
families_of_case f c t rs can e =
    subst (λ (xs : List (FamilyResult f)). All (IsFamilyOf f c) xs) (sym e) (are_families f c t (are_small f c t can))

count_bases : (f : ℕ) (c : CaseRows) (rs : List (FamilyResult f)) (xs ys : List (Weighted f)) → xs ≡ map (weighted_from f c rs) (bases c) → ys ≡ xs
    → length ys ≡ length c.sites - 1
count_bases f c rs xs ys e h = ap length (h ∙ e) ∙ length-map-range_with_len (weighted_from f c rs) 1 (length c.sites - 1)

pub compact_by_pair-requires : goal.compact_by_pair-requires
compact_by_pair-requires g c =
    let f = g.row.F in
    let rows = c.args.case.now in
    let stocks = c.requires.evaluated.stocks in
    let can = c.requires.evaluated.can in
    (lit< tt, (can.scale, families_of_case f rows stocks c.args.families.now can c.requires.evaluated.are))

pub weighted_bases-requires : goal.weighted_bases-requires
weighted_bases-requires g c =
    let f = g.row.F in
    let rows = c.args.case.now in
    let stocks = c.requires.evaluated.stocks in
    let can = c.requires.evaluated.can in
    (lit< tt, (lit< tt, (can.scale, families_of_case f rows stocks c.args.families.now can c.requires.evaluated.are)))

pub of-requires : goal.of-requires
of-requires g c =
    let f = g.row.F in
    let rows = c.args.case.now in
    let stocks = c.requires.evaluated.stocks in
    let can = c.requires.evaluated.can in
    let compact = are_compact f rows stocks (are_small f rows stocks can) can.valid c.args.families.now c.in_ok-compact.compact.items c.requires.evaluated.are c.in_ok-compact.ensures in
    record {
      width = c.requires.width;
      pairs =
          subst (λ (names : List (List ℕ)). All (IsNamedPair names c.in_ok-sites.sites.items) c.in_ok-compact.compact.items) (sym c.in_ok-parts.ensures)
          (subst (λ (names : List (List ℕ)). All (IsNamedPair (part_names rows.parts) names) c.in_ok-compact.compact.items) (sym c.in_ok-sites.ensures) compact);
    }

pub base_lines-requires : goal.base_lines-requires
base_lines-requires g c = (
  lit< tt,
  (
    c.requires.width,
    count_bases g.row.F c.args.case.now c.args.families.now c.in_ok-bases.bases.items c.as_slice.result.now c.in_ok-bases.ensures.bases c.as_slice.ensures.value,
  ),
)

pub fleet-requires : goal.fleet-requires
fleet-requires g c =
    let f = g.row.F in
    let valid = c.requires.evaluated.can.valid in
    let count = count_bases f c.args.case.now c.args.families.now c.in_ok-bases.bases.items c.as_slice-2.result.now c.in_ok-bases.ensures.bases c.as_slice-2.ensures.value in (
      lit< tt,
      (
        lit< tt,
        (
          width_in_scale f c.requires.width,
          (
            omega (arith, count, valid.frame.fewest_sites),
            (
              omega (arith, count, valid.frame.most_sites),
              subst (λ (xs : List (Weighted f)). All (IsWeighted f) xs) (sym c.as_slice-2.ensures.value) c.in_ok-bases.ensures.weighted,
            ),
          ),
        ),
      ),
    )

pub total_of-requires : goal.total_of-requires
total_of-requires g c =
    let f = g.row.F in
    let rows = c.args.case.now in
    let stocks = c.requires.evaluated.stocks in
    let valid = c.requires.evaluated.can.valid in
    let can = c.requires.evaluated.can in
    let all = families_of_case f rows stocks c.args.families.now can c.requires.evaluated.are in (
      lit< tt,
      (
        lit< tt,
        (
          can.scale,
          (
            (λ k d h. (all k d h).total_most),
            omega (arith, ap length c.requires.evaluated.are, few_families f rows stocks valid),
          ),
        ),
      ),
    )

pub returns : goal.returns
returns g c = λ stocks can are.
    let f = g.row.F in
    let rows = c.args.case.now in
    let compact = c.in_ok-compact.compact.items in
    made f rows stocks (are_small f rows stocks can) can.valid c.args.families.now compact c.in_ok-bases.bases.items
    c.fleet.result c.total_of.result c.args.cost _
    (record {
      families_are = are;
      compact_are = c.in_ok-compact.ensures;
      weighted_from_families = c.in_ok-bases.ensures.bases;
      fleet_is = c.fleet.ensures.ends ∙ ap (λ (ws : List (Weighted f)). fleet_ends f ws) c.as_slice-2.ensures.value;
      total_is = c.total_of.ensures;
      cost_is = refl;
      item_lines = c.of.ensures ∙ ap₂ (λ (parts sites : List (List ℕ)). map (line_under parts sites f) compact) c.in_ok-parts.ensures c.in_ok-sites.ensures;
      base_lines =
          c.of-2.ensures ∙ c.in_ok-base_lines.ensures ∙ ap (λ (ws : List (Weighted f)). map (base_line_from f rows ws) (bases rows)) c.as_slice.ensures.value;
      fleet_span = c.span_of.ensures;
      total_span = c.span_of-2.ensures;
    })
