pub mod ByBytes
pub mod ValuesByBytes
