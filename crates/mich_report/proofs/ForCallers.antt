-- What the proofs of the crates above may cite of this crate.
pub use Rattle.mich_report.proofs.Rest.{IsPurse, account_purse, balances, each_found, entries_told, keys_in, keys_purse}
pub use Rattle.mich_report.proofs.Written.{no_list, one_list}
