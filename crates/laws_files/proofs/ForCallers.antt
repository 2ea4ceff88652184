-- What the proofs of the crates above may cite of this crate.
pub use Rattle.laws_files.proofs.Behind.{files_are_not_stuck, worlds_are_in_order}
pub use Rattle.laws_files.proofs.Charged.{nothing_charged, table_charged}
pub use Rattle.laws_files.proofs.Fields.{statements_have_ranges}
pub use Rattle.laws_files.proofs.Good.{courses_begin_good, courses_stay_good}
pub use Rattle.laws_files.proofs.paid.Courses.{courses_begin_paid, courses_stay_paid}
pub use Rattle.laws_files.proofs.sizes.Statements.{statements_are_small}
