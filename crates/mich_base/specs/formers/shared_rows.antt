pub mod SharedRows
