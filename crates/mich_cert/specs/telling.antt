pub mod Certified
pub mod Length
pub mod Told
pub mod Tops
pub mod Walk
