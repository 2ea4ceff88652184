-- Worked rows of typing, computed by its definitions.
pub mod StackRows
pub mod DataRows
pub mod NumberRows
pub mod OtherRows
pub mod ControlRows
pub mod ChoiceRows
pub mod OverloadRows
pub mod LargeRows
pub mod ScriptRows
pub mod LiteralRows
pub mod RunRows
