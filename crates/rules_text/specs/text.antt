pub mod Fault
pub mod Token
pub mod Syntax
pub mod Lexical
pub mod Text
pub mod Printed
