pub mod Text
pub mod Words
pub mod Pages
pub mod Cuts
pub mod Senses
pub mod Law
pub mod Scripts
