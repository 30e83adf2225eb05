pub mod One
pub mod Numbers
pub mod Taken
pub mod Refused
pub mod Calendar
pub mod EachCall
pub mod Lent
pub mod Blank
