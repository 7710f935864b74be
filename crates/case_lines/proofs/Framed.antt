-- Lines whose sites and parts are a frame's are those of a case.
use Rattle.std.proofs.Common.{◌≡◌, ◌==◌, ℕ, ◌+◌, ◌*◌, ◌/◌, ◌%◌, ◌<◌, List, [], length, get_or, Bool, true, ◌&&◌, Option, Some, None, Result, Ok, Err, sym, ap, subst, ◌∙◌, arith, zero-add}
use Rattle.std.specs.List.{All}
use Rattle.std.proofs.lemmas.Bool.{and_parts}
use Rattle.std.proofs.lemmas.List.Elements.{All-from_get_or}
use Rattle.std.proofs.lemmas.Nat.{div-add-mod', div_below, mod_below}
use Rattle.line_text.specs.Formats.{fits_after}
use Rattle.line_text.specs.Texts.{count_line, numbers_from}
use Rattle.line_text.proofs.Public.{length_numbers_from, length_after}
use Rattle.spares_input.specs.First.{unless}
use Rattle.spares_input.specs.Rows.{is_line, IsSiteRow, IsPartRow, IsRateRow, no_site, no_rate}
use Rattle.spares_input.specs.Frames.{FrameRows, site_at, part_at, frame_fault, frame_of, sites_in_order}
use Rattle.spares_input.specs.Cases.{CaseRows, frame_rows, rate_place, case_of, IsRateOf}
use Rattle.spares_input.specs.declared.rows.SiteRow.{SiteRow}
use Rattle.spares_input.specs.declared.rows.RateRow.{RateRow}
use Rattle.spares_input.specs.declared.fault.CaseFault.{CaseFault}
use Rattle.case_lines.specs.Grammar.{site_line, part_lines, header_of, weights_in, count_in, parts_line, pair_at, rate_line, case_format}
use Rattle.case_lines.proofs.Few.{case_parts, case_sites}
use Rattle.case_lines.proofs.Rows.{fits_at, sites_at, part_rows, rate_row}
use Rattle.spares_input.proofs.Public.{Stand, case_of_standing, stand_in_order}
use Rattle.case_lines.specs.Framed.{framed}
use Rattle.answers.specs.Answers.{Gives}
use Rattle.answers.specs.declared.stop.Stop.{Stop}
use Rattle.answers.specs.declared.stop.Stop.TheVariants as stop
use lib.Chars.{codes}

module _ (c : CaseRows) (h : case_format.fits c ≡ true) where
  rows_fit : fits_after (λ _ i. rate_line (pair_at c.sites c.parts i)) [] (numbers_from 0 (length c.parts * length c.sites)) c.rates ≡ true
  rows_fit =
      let keys = numbers_from 0 (length c.parts * length c.sites) in
      let count = (count_line (codes "rates") (length keys) (length keys)).fits (length c.rates) in
      let rows = fits_after (λ _ i. rate_line (pair_at c.sites c.parts i)) [] keys c.rates in
      (and_parts count rows (and_parts true (count && rows) (case_parts c h).1.1).1).1

  rate_count : length c.rates ≡ length c.parts * length c.sites
  rate_count = length_after (λ _ i. rate_line (pair_at c.sites c.parts i)) [] (numbers_from 0 (length c.parts * length c.sites)) c.rates rows_fit ∙ length_numbers_from 0 (length c.parts * length c.sites)

  rate_here : (i : ℕ) (d : RateRow) → i < length c.rates → ((get_or c.rates i d).part.0 ≡ i / length c.sites) × (((get_or c.rates i d).site.0 ≡ i % length c.sites) × IsRateRow (is_line (part_at c.parts (i / length c.sites))) (site_at c.sites (i % length c.sites)).depot (get_or c.rates i d))
  rate_here i d lt =
      let e : 0 + i ≡ i = omega arith in
      rate_row (pair_at c.sites c.parts i) (get_or c.rates i d)
      (subst (λ (k : ℕ). (rate_line (pair_at c.sites c.parts k)).fits (get_or c.rates i d) ≡ true) e (fits_at (λ k. rate_line (pair_at c.sites c.parts k)) [] 0 (length c.parts * length c.sites) c.rates d rows_fit i lt))

  rates_stand : Stand (rate_place (length c.sites)) 0 c.rates
  rates_stand i d lt =
      let at = rate_here i d lt in
      ap (λ (p : ℕ). p * length c.sites + (get_or c.rates i d).site.0) at.0 ∙ ap (λ (k : ℕ). i / length c.sites * length c.sites + k) at.1.0 ∙ div-add-mod' i (length c.sites) ∙ sym (zero-add i)

  sites_stand : (i : ℕ) → i < length c.sites → IsSiteRow (get_or c.sites i no_site) × ((get_or c.sites i no_site).depot ≡ (i == 0))
  sites_stand =
      let count = (count_line (codes "sites") 2 16).fits (length c.sites) in
      let rows = fits_after (λ _ k. site_line k) [] (numbers_from 0 (length c.sites)) c.sites in
      sites_at c.sites (length c.sites) (and_parts count rows (and_parts true (count && rows) (case_parts c h).0).1).1

  -- each site of a case that fits the format is valid
  pub site_rows : All IsSiteRow c.sites
  site_rows = All-from_get_or IsSiteRow c.sites no_site (λ i lt. (sites_stand i lt).0)

  -- each part of a case that fits the format is valid
  pub are_part_rows : All IsPartRow c.parts
  are_part_rows =
      let head = parts_line.fits (header_of c.parts) in
      let lines = (part_lines (weights_in (header_of c.parts)) (count_in (header_of c.parts))).fits c.parts in
      part_rows (weights_in (header_of c.parts)) (count_in (header_of c.parts)) c.parts (and_parts head lines (and_parts true (head && lines) (case_parts c h).1.0).1).1

  pub ordered : sites_in_order c.sites ≡ c.sites
  ordered = stand_in_order c.sites (λ i lt. (sites_stand i lt).1)

  rate_of : (i : ℕ) → i < length c.rates → IsRateOf (frame_rows c) (get_or c.rates i no_rate)
  rate_of i lt =
      let m = length c.sites in
      let r = get_or c.rates i no_rate in
      let some : 0 < m = omega (arith, (case_sites c h).0) in
      let at = rate_here i no_rate lt in
      let p = div_below i m (length c.parts) some (omega (arith, lt, rate_count)) in
      let k = mod_below i m some in
      let depot : (site_at c.sites (i % m)).depot ≡ (r.site.0 == 0) = (sites_stand (i % m) k).1 ∙ ap (λ (x : ℕ). x == 0) (sym at.1.0) in
      record {
        part = omega (arith, at.0, p);
        site = omega (arith, at.1.0, k);
        fields = subst (λ (b : Bool). IsRateRow (is_line (part_at c.parts r.part.0)) b r) depot
            (subst (λ (q : ℕ). IsRateRow (is_line (part_at c.parts q)) (site_at c.sites (i % m)).depot r) (sym at.0) at.1.1);
      }

  pub are_rates : All (IsRateOf (frame_rows c)) c.rates
  are_rates = All-from_get_or (IsRateOf (frame_rows c)) c.rates no_rate rate_of

  -- the case built of the frame and the rates of a case that fits the format is this case
  pub is_case : case_of (frame_rows c) c.rates ≡ Ok c
  is_case = case_of_standing c rate_count rates_stand

  frame_at : (o : Option CaseFault) (f g : FrameRows) → unless o g ≡ Ok f → f ≡ g
  frame_at None f g e = cc
  frame_at (Some x) f g e = absurd cc

  pub frame_is : (f : FrameRows) → frame_of c.sites c.parts ≡ Ok f → f ≡ frame_rows c
  frame_is f e =
      frame_at (frame_fault c.sites c.parts) f (record { sites = sites_in_order c.sites; parts = c.parts }) e
      ∙ ap (λ (ss : List SiteRow). record { sites = ss; parts = c.parts }) ordered

  -- each row of rates of a case that fits the format is valid in the frame of its sites and parts
  pub rates_of_frame : (f : FrameRows) → frame_of c.sites c.parts ≡ Ok f → All (IsRateOf f) c.rates
  rates_of_frame f e = subst (λ (g : FrameRows). All (IsRateOf g) c.rates) (sym (frame_is f e)) are_rates

  -- the case built of that frame and these rates is this case
  pub case_of_frame : (f : FrameRows) → frame_of c.sites c.parts ≡ Ok f → case_of f c.rates ≡ Ok c
  case_of_frame f e = ap (λ (g : FrameRows). case_of g c.rates) (frame_is f e) ∙ is_case

  -- where the frame stands, an error that may end the building of the case may end its framing
  pub stops_free : (f : FrameRows) (s : Stop CaseFault) → frame_of c.sites c.parts ≡ Ok f → Gives {T = CaseRows} (case_of f c.rates) (Err s) → Gives {T = CaseRows} (framed c) (Err s)
  stops_free f stop.NoMemory e g = tt
  stops_free f (stop.Fault x) e g = absurd (no_fault_there x (case_of f c.rates) (case_of_frame f e) g)
    where
      no_fault_there : (x : CaseFault) (r : Result CaseRows CaseFault) → r ≡ Ok c → r ≡ Err x → ⊥
      no_fault_there x (Ok d) p q = absurd cc
      no_fault_there x (Err y) p q = absurd cc
