pub mod Numbers
pub mod Syntax
pub mod Responses
pub mod Text
