-- Types found in one search of each table.
use Rattle.std.specs.Prelude.{◌≡◌, ℕ, Bool, true, false, ◌&&◌, ◌⊎◌, List, [], filter, map, Option}
use Rattle.std.specs.Borrow.{Bor}
use Rattle.std.specs.Cmp.Lexicographic.{slice_cmp}
use Rattle.std.specs.List.{list_all, list_any}
use Rattle.std.specs.Option.{IsSomeAnd, option_and_then, option_map_or}
use Rattle.std.specs.Ordering.{is_eq, nat_cmp}
use Rattle.btf_records.specs.Fields.{kind_of_type}
use Rattle.btf_records.specs.Kinds.{number_of}
use Rattle.btf_records.specs.declared.kind.BtfKind.{BtfKind}
use Rattle.btf_records.specs.declared.kind.BtfKind.TheVariants.{Unknown}
use Rattle.btf_tables.specs.EssentialNames.{essential_name}
use Rattle.btf_tables.specs.Tables.{Table, type_by_id}
use Rattle.string_table.specs.FirstBytes.{is_marked}
use Rattle.btf_search.specs.Prefixes.{Prefixes, MayBegin}
use Rattle.btf_search.specs.NamedTypes.{ids_of, is_so, name_of}

-- The numbers of the kinds that a search wants, as a table of flags, and the names.
pub record Searched : Type 0 where
  pub kinds : List Bool
  pub names : List (Bor (List ℕ))

abbrev pub has_name : List (Bor (List ℕ)) → List ℕ → Bool
has_name names name = list_any (λ n. is_eq (slice_cmp nat_cmp name n.now)) names

-- Whether a type has one of the kinds, and one of the names or a name that can't be read.
abbrev pub is_wanted : Searched → BtfKind → Option (List ℕ) → Bool
is_wanted search kind name =
    is_marked search.kinds (number_of kind) && option_map_or (has_name search.names) name true

-- The prefixes are those of the names, and perhaps of others.
pub record ArePrefixes (names : List (Bor (List ℕ))) (prefixes : Prefixes) : Type 0 where
  pub each : (text : List ℕ) → has_name names (essential_name text) ≡ true → MayBegin prefixes text

-- A name can be read, and is none of the names.
abbrev pub IsOtherName : List (Bor (List ℕ)) → Option (List ℕ) → Type 0
IsOtherName names text = IsSomeAnd text (λ t. has_name names (essential_name t) ≡ false)

-- The type of an id: its kind, and its name if it can be read.
pub record Found : Type 0 where
  pub type_id : ℕ
  pub kind : BtfKind
  pub name : Option (List ℕ)

abbrev pub found_at : Table → ℕ → Found
found_at table id = record {
  type_id = id;
  kind = option_map_or kind_of_type (type_by_id table id) Unknown;
  name = option_and_then (name_of table) (type_by_id table id);
}

-- The wanted types of these ids, in order.
abbrev pub found_among : Searched → Table → List ℕ → List Found
found_among search table ids = map (found_at table) (filter (is_so (is_wanted search) table) ids)

-- The wanted types of a table.
abbrev pub found_in : Searched → Table → List Found
found_in search table = found_among search table (ids_of table)

-- The wanted types of all tables, or nothing if the tables weren't searched.
abbrev pub AreFound : Searched → List Table → List (List Found) → Type 0
AreFound search tables found = (found ≡ []) ⊎ (found ≡ map (found_in search) tables)

-- Whether the search wants each type of these kinds and this name.
abbrev pub covers : Searched → List BtfKind → List ℕ → Bool
covers search kinds name =
    has_name search.names name && list_all (λ k. is_marked search.kinds (number_of k)) kinds
