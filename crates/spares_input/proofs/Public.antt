-- The lemmas of this crate that crates above may cite, by the files that prove them.
pub use Rattle.spares_input.proofs.CaseFacts.{case_valid, few_parts, few_sites, part_within, place_few, places_fit, set_valid, site_within, some_sites}
pub use Rattle.spares_input.proofs.Firsts.{first_found, first_more, first_none, or_else_none}
pub use Rattle.spares_input.proofs.NameFacts.{is_name_fits}
pub use Rattle.spares_input.proofs.PartFacts.{length_shop_units, parent_has_line, part_named, shop_units_few, site_named}
pub use Rattle.spares_input.proofs.Standing.{Stand, case_of_standing, no_first, no_shop_at, own_frame, stand_in_order}
