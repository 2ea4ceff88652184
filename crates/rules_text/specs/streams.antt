-- When a fault may be answered, and what is known of files and of what is written: definitions alone, in specs/.
pub mod Causes
pub mod Held
pub mod Known
