-- The lemmas of this crate that crates above may cite, by the files that prove them.
pub use Rattle.order_inputs.proofs.Few.{if_few}
pub use Rattle.order_inputs.proofs.ReadInputs.{none_is, read_is, stops_kind}
pub use Rattle.order_inputs.proofs.Refuse.{at_stocks_refuses, to_edit_refuses, within_work_refuses}
