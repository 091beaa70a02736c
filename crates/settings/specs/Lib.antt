pub mod Content
pub mod Names
pub mod ValuesContent
