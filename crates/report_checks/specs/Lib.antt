pub mod Arguments
pub mod Attachments
pub mod Calls
pub mod Causes
pub mod Codes
pub mod Reports
pub mod Sources
