pub mod arguments_lemmas
pub mod unpacking_lemmas
