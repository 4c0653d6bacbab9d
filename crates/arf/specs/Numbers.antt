-- The numbers that come back: what each case of an answer stands for (docs/FORMAT.md). They are defined beside the answers, in the crates' specs.
pub use Rattle.schema.specs.Numbers.{check_number, check_place, extend_number, extend_place, extend_answer}
pub use Rattle.writer.specs.Numbers.{write_number, write_place, write_length}
