pub mod Going
pub mod Transfers
pub mod Foundings
pub mod Calls
pub mod Gifts
pub mod Growths
