pub mod literals_lemmas
pub mod packing_lemmas
