pub mod forms_lemmas
pub mod types_lemmas
pub mod values_lemmas
pub mod amounts
pub mod binary_lemmas
