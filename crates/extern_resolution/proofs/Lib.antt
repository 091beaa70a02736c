pub mod Composed
pub mod Each
pub mod FirstNamed
pub mod Found
pub mod Growing
pub mod Seeking
