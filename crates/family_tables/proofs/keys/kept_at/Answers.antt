use Rattle.std.proofs.Common.{◌∙◌, is_some, map, sym, ap}
use Rattle.list_laws.proofs.Public.{position_mapped}
use Rattle.family_tables.specs.declared.keys.Key.{Key}
use Rattle.family_tables.specs.declared.keys.Kept.{Kept}
use Rattle.family_tables.specs.Kept.{is_key}
use Rattle.family_tables.proofs.Found.{position_any, kept_found}
use Rattle.family_tables.proofs.keys.kept_at.Goals as goal

pub returns-in-Some-clause-found : goal.returns-in-Some-clause-found
returns-in-Some-clause-found g c =
    sym (sym (position_any (λ (y : Key). is_key y c.args.place c.args.site.0 c.args.stocks.now) (map (λ (x : Kept g.row.F). x.key) c.args.kept.now))
    ∙ ap is_some (position_mapped (λ (x : Kept g.row.F). x.key) (λ (y : Key). is_key y c.args.place c.args.site.0 c.args.stocks.now) c.args.kept.now
    ∙ sym c.place_of.ensures ∙ c.in-Some.is))

pub returns-in-None-clause-found : goal.returns-in-None-clause-found
returns-in-None-clause-found g c =
    sym (sym (position_any (λ (y : Key). is_key y c.args.place c.args.site.0 c.args.stocks.now) (map (λ (x : Kept g.row.F). x.key) c.args.kept.now))
    ∙ ap is_some (position_mapped (λ (x : Kept g.row.F). x.key) (λ (y : Key). is_key y c.args.place c.args.site.0 c.args.stocks.now) c.args.kept.now
    ∙ sym c.place_of.ensures ∙ c.in-None.is))

pub returns-in-Some-clause-moments : goal.returns-in-Some-clause-moments
returns-in-Some-clause-moments g c =
    (kept_found g.row.F c.args.numbers.now c.args.kept.now c.in-Some.n c.args.place c.args.site.0 c.args.stocks.now c.index-kept-n.result c.requires c.index-kept-n.is
    (sym c.place_of.ensures ∙ c.in-Some.is)).0

pub returns-in-Some-clause-table : goal.returns-in-Some-clause-table
returns-in-Some-clause-table g c =
    (kept_found g.row.F c.args.numbers.now c.args.kept.now c.in-Some.n c.args.place c.args.site.0 c.args.stocks.now c.index-kept-n.result c.requires c.index-kept-n.is
    (sym c.place_of.ensures ∙ c.in-Some.is)).1
