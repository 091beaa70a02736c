-- An error that names a fault of one item names a fault of all items.
use Rattle.std.proofs.Common.{◌≡◌, ◌≢◌, take, ap₂, ℕ, zero, suc, ◌+◌, ◌<◌, List, [], ◌∷◌, ◌++◌, map, length, get_or, Contains, Option, Some, None, flat_map, refl, arith, sym, ap, ◌∙◌, zero-lt-suc, le_of_suc-le-suc, inl, inr, subst, suc-le-suc}
use Rattle.std.proofs.lemmas.List.Elements.{Contains-append_left, Contains-append_right}
use Rattle.std.proofs.lemmas.Grind.{flat_map-append}
use Rattle.std.proofs.lemmas.List.{take_more}
use Rattle.std.specs.Prelude.{Result, Ok}
use Rattle.std.specs.Option.{IsSomeAnd}
use Rattle.std.specs.String.{string_bytes}
use Rattle.btf_records.specs.declared.error.BtfError.{BtfError}
use Rattle.btf_records.specs.declared.error.BtfError.TheVariants as btf
use Rattle.ebpf_items.specs.declared.error.ParseError.{ParseError}
use Rattle.ebpf_items.specs.declared.error.ParseError.TheVariants as error
use Rattle.ebpf_items.specs.Error.{parse_error_of}
use Rattle.btf_records.specs.declared.item.DataSecEntry.{DataSecEntry}
use Rattle.btf_tables.specs.Tables.{Table}
use Rattle.elf64.specs.Symbols.{Symbol}
use Rattle.object_maps.specs.Definitions.{IsFaultAmong, map_variable, errors}
use Rattle.object_file.specs.Symbols.{last_named}
use Rattle.object_maps.specs.BtfMaps.{entry_faults, symbol_faults, variable_faults}
use Rattle.object_maps.specs.declared.lookup.DefinitionError.{DefinitionError}
use Rattle.object_maps.specs.declared.lookup.DefinitionError.TheVariants as definition_error
use Rattle.object_maps.specs.Faults.{MapFault, Says, fault_of, struct_fault, types_fault}

-- An error that names a fault of a list names one of a longer list.
kept : (said : Option MapFault) (few all : List MapFault) → ((f : MapFault) → Contains few f → Contains all f) → IsSomeAnd said (Contains few) → IsSomeAnd said (Contains all)
kept (Some f) few all more h = more f h
kept None few all more h = h

pub says_more : (few all : List MapFault) (e : ParseError) → ((f : MapFault) → Contains few f → Contains all f) → Says few e → Says all e
says_more few all e more h = kept (fault_of e) few all more h

pub says_left : (few others : List MapFault) (e : ParseError) → Says few e → Says (few ++ others) e
says_left few others e h = says_more few (few ++ others) e (λ f. Contains-append_left few others f) h

pub says_right : (others few : List MapFault) (e : ParseError) → Says few e → Says (others ++ few) e
says_right others few e h = says_more few (others ++ few) e (λ f. Contains-append_right others few f) h

-- The item is at an index.
pub says_at : {X : Type 0} (faults : X → List MapFault) (xs : List X) (i : ℕ) (x : X) (e : ParseError) → i < length xs → x ≡ get_or xs i x → Says (faults x) e → Says (flat_map faults xs) e
says_at faults [] i x e within is h = absurd (omega arith)
says_at faults (y ∷ ys) zero x e within is h = let P : _ → Type 0 = λ v. Says (faults v) e in says_left (faults y) (flat_map faults ys) e (subst P is h)
says_at faults (y ∷ ys) (suc i) x e within is h = says_right (faults y) (flat_map faults ys) e (says_at faults ys i x e (omega arith) is h)

contains-map : {X Y : Type 0} (f : X → Y) (xs : List X) (x : X) → Contains xs x → Contains (map f xs) (f x)
contains-map f [] x (k, within, is) = absurd (omega arith)
contains-map f (y ∷ ys) x (zero, within, is) = (zero, zero-lt-suc _, ap f is)
contains-map f (y ∷ ys) x (suc k, within, is) = let rest = contains-map f ys x (k, le_of_suc-le-suc within, is) in (suc rest.0, suc-le-suc rest.1, rest.2)

named : (make : List ℕ → MapFault) (name bytes : List ℕ) (all : List MapFault) → bytes ≡ name → Contains all (make name) → Contains all (make bytes)
named make name bytes all is h = let P : List ℕ → Type 0 = λ b. Contains all (make b) in subst P (sym is) h

-- An error of a map's struct names a fault of the map.
pub types_said : (all : List DefinitionError) (name : List ℕ) (e : BtfError) → IsFaultAmong all name e → Contains (map (struct_fault name) all) (types_fault e)
types_said all name e (inl h) = contains-map (struct_fault name) all (definition_error.Types e) h
types_said all name (btf.InnerMapCannotBePinned n) (inr h) = named MapFault.PinnedInnerMap name (string_bytes n) _ h.0 (contains-map (struct_fault name) all definition_error.PinnedInnerMap h.1)
types_said all name (btf.MultiLevelMapInMapNotSupported n) (inr h) = named MapFault.MapsInInnerMap name (string_bytes n) _ h.0 (contains-map (struct_fault name) all definition_error.MapsInInnerMap h.1)
types_said all name (btf.InvalidValuesSpec n) (inr h) = named MapFault.ValuesWithCount name (string_bytes n) _ h.0 (contains-map (struct_fault name) all definition_error.ValuesWithCount h.1)
types_said all name _ (inr h) = absurd h

-- The error of reading a map's struct.
pub definition_said : (all : List DefinitionError) (name : List ℕ) (others : List MapFault) (e : BtfError) → (e ≢ btf.OutOfMemory → IsFaultAmong all name e) → parse_error_of e ≢ error.OutOfMemory → Says (others ++ map (struct_fault name) all) (parse_error_of e)
definition_said all name others btf.OutOfMemory h other = absurd (other refl)
definition_said all name others e h other = Contains-append_right others (map (struct_fault name) all) (types_fault e) (types_said all name e (h (λ same. other (ap parse_error_of same))))

-- The first items, and the next one, have no fault.
pub none_more : {X : Type 0} (faults : X → List MapFault) (xs : List X) (i : ℕ) (x : X) → i < length xs → x ≡ get_or xs i x → flat_map faults (take i xs) ≡ [] → faults x ≡ [] → flat_map faults (take (i + 1) xs) ≡ []
none_more faults xs i x within is before here =
    ap (flat_map faults) (take_more xs i x within ∙ ap (λ y. take i xs ++ y ∷ []) (sym is))
    ∙ flat_map-append faults (take i xs) (x ∷ [])
    ∙ ap₂ (λ a b. a ++ (b ++ [])) before here

-- The error of reading the struct of an entry's variable.
pub struct_said : (table : Table) (symbols : List Symbol) (entry : DataSecEntry) (name : List ℕ) (id : ℕ) (e : BtfError) → map_variable table entry.btf_type ≡ Ok (name, id) → (e ≢ btf.OutOfMemory → IsFaultAmong (errors table id) name e) → parse_error_of e ≢ error.OutOfMemory → Says (entry_faults table symbols entry) (parse_error_of e)
struct_said table symbols entry name id e is h other =
    let P : Result (List ℕ × ℕ) BtfError → Type 0 = λ v. Says (variable_faults table symbols v) (parse_error_of e) in
    subst P (sym is) (definition_said (errors table id) name (symbol_faults name (last_named symbols name)) e h other)
