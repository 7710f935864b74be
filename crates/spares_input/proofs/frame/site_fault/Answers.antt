use Rattle.std.proofs.Common.{refl, sym, ◌∙◌}
use Rattle.std.proofs.lemmas.List.{get_or_read}
use Rattle.spares_input.specs.Rows.{no_site}
use Rattle.spares_input.proofs.SiteFacts.{site_rule}
use Rattle.spares_input.proofs.frame.site_fault.Goals as goal
use Rattle.spares_input.proofs.frame.site_fault.Goals.{else-site-via-then-site+else-has_depot, else-site-via-else-site}

pub returns-then-is_named : goal.returns-then-is_named
returns-then-is_named c =
    let row = get_or_read c.args.sites.now c.args.k c.index-sites-k.result c.requires.within c.index-sites-k.is no_site in
    sym (site_rule c.args.sites.now c.args.k c.index-sites-k.result c.is_named.result row c.is_named.ensures ∙ rw c.if-is_named.true refl)

pub returns-then-has_depot : goal.returns-then-has_depot
returns-then-has_depot c =
    let row = get_or_read c.args.sites.now c.args.k c.index-sites-k.result c.requires.within c.index-sites-k.is no_site in
    sym (site_rule c.args.sites.now c.args.k c.index-sites-k.result c.is_named.result row c.is_named.ensures
    ∙ rw (c.if-is_named.false, c.if-site.true, ← c.has_depot.ensures, c.if-has_depot.true) refl)

pub returns : goal.returns
returns c =
    let row = get_or_read c.args.sites.now c.args.k c.index-sites-k.result c.requires.within c.index-sites-k.is no_site in
    let rule = site_rule c.args.sites.now c.args.k c.index-sites-k.result c.is_named.result row c.is_named.ensures in
    elim c.else-site.branch [
      | else-site-via-then-site+else-has_depot w ↦
          sym (rule ∙ rw (c.if-is_named.false, w.if-site.true, ← w.has_depot.ensures, w.if-has_depot.false) refl)
      | else-site-via-else-site w ↦ sym (rule ∙ rw (c.if-is_named.false, w.if-site.false) refl)
    ]
