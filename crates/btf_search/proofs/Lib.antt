pub mod MarkedNames
pub mod PrefixHashes
pub mod RawTexts
pub mod Walks
pub mod Wanted
