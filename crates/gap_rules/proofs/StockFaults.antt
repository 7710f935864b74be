-- The fault of the stock at a place.
use Rattle.std.proofs.Common.{◌≡◌, ℕ, ◌+◌, ◌*◌, ◌/◌, ◌%◌, ◌<◌, ◌≤◌, nat_lt, length, get_or, Option, Some, None, sym, ap, ◌∙◌, lt-ltb}
use Rattle.std.specs.Prelude.{if◌then◌else◌}
use Rattle.std.proofs.lemmas.Nat.{div-add-mod'}
use Rattle.list_laws.proofs.Public.{else_none}
use Rattle.spares_input.specs.declared.rows.PartId.{PartId}
use Rattle.spares_input.specs.declared.rows.SiteId.{SiteId}
use Rattle.spares_input.specs.First.{first}
use Rattle.spares_input.specs.Pairs.{part_of_place, site_of_place}
use Rattle.spares_input.specs.Cases.{CaseRows}
use Rattle.spares_input.specs.Stocks.{StockList, stock_at, limit_at}
use Rattle.spares_input.proofs.Public.{first_found, first_more}
use Rattle.check_answers.specs.declared.refusal.Reject.{Reject}
use Rattle.check_answers.specs.declared.refusal.Reject.TheVariants as reject
use Rattle.gap_rules.specs.Refusals.{over_limit, below_held}

-- a fault is answered where the first number is less
pub then_some : {A : Type 0} (a b : ℕ) (x : A) → a < b → (if nat_lt a b then Some x else None) ≡ Some x
then_some a b x h = ap (λ t. if t then Some x else None) (lt-ltb a b h)

-- the pair at place i of n sites, and its stock
pub record IsThere (c : CaseRows) (s : StockList) (n i stock : ℕ) (part : PartId) (site : SiteId) : Type 0 where
  pub sites : n ≡ length c.sites
  pub own_sites : s.sites ≡ length c.sites
  pub part_is : part ≡ part_of_place n i
  pub site_is : site ≡ site_of_place n i
  pub stock_is : stock ≡ stock_at s part.0 site.0

module _ (c : CaseRows) (s : StockList) (n i stock : ℕ) (part : PartId) (site : SiteId) (h : IsThere c s n i stock part site) where
  own_part : part ≡ part_of_place (length c.sites) i
  own_part = h.part_is ∙ ap (λ m. part_of_place m i) h.sites

  own_site : site ≡ site_of_place (length c.sites) i
  own_site = h.site_is ∙ ap (λ m. site_of_place m i) h.sites

  own_place : part.0 * s.sites + site.0 ≡ i
  own_place =
      ap (λ (p : PartId). p.0 * s.sites + site.0) own_part
      ∙ ap (λ (k : SiteId). i / length c.sites * s.sites + k.0) own_site
      ∙ ap (λ m. i / length c.sites * m + i % length c.sites) h.own_sites
      ∙ div-add-mod' i (length c.sites)

  -- the stock of the pair is the one at place i
  pub own_stock : stock ≡ get_or s.list i 0
  own_stock = h.stock_is ∙ ap (λ m. get_or s.list m 0) own_place

  module _ (lim count : ℕ) (lim_is : lim ≡ limit_at c.parts part.0 site.0) where
    own_limit : lim ≡ limit_at c.parts (part_of_place (length c.sites) i).0 (site_of_place (length c.sites) i).0
    own_limit = lim_is ∙ ap (λ (p : PartId). limit_at c.parts p.0 site.0) own_part ∙ ap (λ (k : SiteId). limit_at c.parts (part_of_place (length c.sites) i).0 k.0) own_site

    at_limit : (lim stock : ℕ) (part : PartId) (site : SiteId) → Option Reject
    at_limit a b p k = if nat_lt a b then Some (reject.StocksOverLimit p k b) else None

    same_limit : at_limit lim stock part site ≡ over_limit c s i
    unfolding at_limit
    same_limit =
        ap (λ a. at_limit a stock part site) own_limit
        ∙ ap (λ b. at_limit (limit_at c.parts (part_of_place (length c.sites) i).0 (site_of_place (length c.sites) i).0) b part site) own_stock
        ∙ ap (λ p. at_limit (limit_at c.parts (part_of_place (length c.sites) i).0 (site_of_place (length c.sites) i).0) (get_or s.list i 0) p site) own_part
        ∙ ap (λ k. at_limit (limit_at c.parts (part_of_place (length c.sites) i).0 (site_of_place (length c.sites) i).0) (get_or s.list i 0) (part_of_place (length c.sites) i) k) own_site

    -- a stock over its limit, with none before it, is the first such fault of all
    pub over_found : first (over_limit c s) i ≡ None → lim < stock → i < count → Some (reject.StocksOverLimit part site stock) ≡ first (over_limit c s) count
    unfolding at_limit
    over_found before l b = sym (first_found (over_limit c s) i count _ before (sym same_limit ∙ then_some lim stock _ l) b)

    -- with a stock within its limit there is no such fault up to the next place
    pub over_more : first (over_limit c s) i ≡ None → stock ≤ lim → first (over_limit c s) (i + 1) ≡ None
    unfolding at_limit
    over_more before l = first_more (over_limit c s) i before (sym same_limit ∙ else_none lim stock _ l)

  module _ (held : StockList) (had count : ℕ) (had_is : had ≡ get_or held.list i 0) where
    at_held : (stock had : ℕ) (part : PartId) (site : SiteId) → Option Reject
    at_held a b p k = if nat_lt a b then Some (reject.StocksBelowHeld p k a) else None

    same_held : at_held stock had part site ≡ below_held c held s i
    unfolding at_held
    same_held =
        ap (λ a. at_held a had part site) own_stock
        ∙ ap (λ b. at_held (get_or s.list i 0) b part site) had_is
        ∙ ap (λ p. at_held (get_or s.list i 0) (get_or held.list i 0) p site) own_part
        ∙ ap (λ k. at_held (get_or s.list i 0) (get_or held.list i 0) (part_of_place (length c.sites) i) k) own_site

    -- a stock below what is held, with none before it, is the first such fault of all
    pub below_found : first (below_held c held s) i ≡ None → stock < had → i < count → Some (reject.StocksBelowHeld part site stock) ≡ first (below_held c held s) count
    unfolding at_held
    below_found before l b = sym (first_found (below_held c held s) i count _ before (sym same_held ∙ then_some stock had _ l) b)

    -- with a stock of no less than what is held there is no such fault up to the next place
    pub below_more : first (below_held c held s) i ≡ None → had ≤ stock → first (below_held c held s) (i + 1) ≡ None
    unfolding at_held
    below_more before l = first_more (below_held c held s) i before (sym same_held ∙ else_none stock had _ l)
