pub mod Parted
pub mod Compared
pub mod Noted
pub mod Bridge
pub mod Same
pub mod Each
