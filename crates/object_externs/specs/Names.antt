-- Maps with names as keys.
pub use Rattle.string_table.specs.Names.{by_bytes}
