use Rattle.std.proofs.Common.{◌++◌, ap, ◌∙◌}
use Rattle.list_laws.proofs.Public.{after_ok}
use Rattle.line_text.specs.Files.{line}
use Rattle.spares_input.specs.Frames.{part_at, site_at}
use Rattle.case_lines.specs.Grammar.{pair_of, rate_fields}
use Rattle.case_lines.proofs.rates.put_pair.Goals as goal

pub returns : goal.returns
returns c =
    let p = c.args.part.0 in
    let k = c.args.site.0 in
    let rows = c.args.case.now in
    let out = c.args.out.now.items in
    after_ok c.put_rate.result
    (λ h. h p k
    ∙ ap (λ r. out ++ (line (rate_fields (pair_of p r k c.site.result.now))).print c.rate.result.now) c.part.ensures.row
    ∙ ap (λ s. out ++ (line (rate_fields (pair_of p (part_at rows.parts p) k s))).print c.rate.result.now) c.site.ensures.row
    ∙ ap (λ r. out ++ (line (rate_fields (pair_of p (part_at rows.parts p) k (site_at rows.sites k)))).print r) c.rate.ensures.row)
    c.put_rate.ensures
