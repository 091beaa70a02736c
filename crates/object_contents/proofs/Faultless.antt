-- A file that was read without an error has no fault.
use Rattle.std.proofs.Common.{◌≡◌, ℕ, ◌+◌, ◌<◌, ◌⊎◌, List, [], ◌∷◌, Option, Some, None, refl, sym, ap, ◌∙◌, inl, inr, subst, arith, get_or, length, take}
use Rattle.std.proofs.lemmas.List.Concat.{get_or-flat_map}
use Rattle.std.proofs.lemmas.List.Folds.{length-flat_map-take}
use Rattle.std.specs.Option.{IsSome, IsSomeAnd, option_map}
use Rattle.std.proofs.lemmas.List.Elements.{All-contains}
use Rattle.std.specs.Prelude.{◌≢◌, All, Contains, IfErr, IfSome, flat_map, Result, Ok, Err, codes}
use Rattle.btf_ext.specs.Extensions.{Extension}
use Rattle.btf_records.specs.declared.error.BtfError.{BtfError}
use Rattle.btf_records.specs.declared.error.BtfError.TheVariants as btf
use Rattle.ebpf_items.specs.Error.{parse_error_of}
use Rattle.btf_records.specs.declared.words.Endianness.{Endianness}
use Rattle.btf_storage.specs.Faultless.{IsFaultless as AreFaultless}
use Rattle.btf_tables.specs.Tables.{Table, TableFault}
use Rattle.ebpf_items.specs.declared.error.ParseError.{ParseError}
use Rattle.ebpf_items.specs.declared.error.ParseError.TheVariants as error
use Rattle.elf64.specs.Symbols.{symbols_of}
use Rattle.object_externs.specs.Faults.{ExternsFault}
use Rattle.object_file.specs.ByteOrders.{file_endianness}
use Rattle.object_file.specs.Faults.{HasFileFault, HasSoundFirst, IsFileFaultless, IsOpenable}
use Rattle.object_file.specs.Reading.{contents_named, read_sections}
use Rattle.object_maps.specs.Faults.{MapFault, Says, fault_of}
use Rattle.object_maps.specs.Maps.{maps_faults, section_faults_in}
use Rattle.object_parse.specs.Faults as code
use Rattle.object_parse.specs.Faults.{HasSoundCode}
use Rattle.btf_ext.specs.Faults.{ExtensionFault}
use Rattle.object_contents.specs.Faults.{HasFault, HasFileOrObjectFault, HasObjectFault, HasSectionFault, HasTableFault, HasTypesOrExternsFault, IsFaultless, TableFaultOf}
use Rattle.object_contents.specs.Types.{HoldsRecords, HoldsRecordsIn, RecordsFault}
use Rattle.object_externs.specs.Types.{HoldsTypes, HoldsTypesIn, SaysOfTypes, TypesFault, completed}

-- The bytes of a section determine its table.
unique : (order : Endianness) (bytes : Option (List ℕ)) (a b : Option Table) → HoldsTypesIn order bytes a → HoldsTypesIn order bytes b → b ≡ a
unique order None None None h k = refl
unique order None (Some a) b h k = absurd h
unique order None None (Some b) h k = absurd k
unique order (Some bytes) None b h k = absurd h
unique order (Some bytes) (Some a) None h k = absurd k
unique order (Some bytes) (Some a) (Some b) h k = ap (λ t. Some t) (h.alone b k.holds)

no-types-fault-in : (order : Endianness) (bytes : Option (List ℕ)) (table : Option Table) → HoldsTypesIn order bytes table → (e : BtfError) → IsSomeAnd bytes (λ b. TableFault order b e) → ⊥
no-types-fault-in order None table h e fault = fault
no-types-fault-in order (Some bytes) None h e fault = h
no-types-fault-in order (Some bytes) (Some table) h e fault = h.faultless e fault

no-records-fault-in : (order : Endianness) (table : Table) (bytes : Option (List ℕ)) (extension : Option Extension) → HoldsRecordsIn order (Some table) bytes extension → (e : BtfError) → IsSomeAnd bytes (λ b. ExtensionFault order table.strings b e) → ⊥
no-records-fault-in order table None extension h e fault = fault
no-records-fault-in order table (Some bytes) None h e fault = h
no-records-fault-in order table (Some bytes) (Some extension) h e fault = h.faultless e fault

says-none : (Fault : BtfError → Type 0) → ((e : BtfError) → Fault e → ⊥) → (e : ParseError) → SaysOfTypes Fault e → ⊥
says-none Fault none (error.BtfError e) says = none e says
says-none Fault none _ says = says

-- The table that was read has no fault.
table-sound : (file : List ℕ) (table : Table) (extension : Option Extension) → HoldsRecords file (Some table) extension → AreFaultless (ExternsFault (symbols_of file) table) → (e : BtfError) → TableFaultOf file table e → ⊥
table-sound file table extension records externs e (inl fault) = no-records-fault-in _ table _ extension records e fault
table-sound file table extension records externs e (inr fault) = externs.none e fault

no-table-fault : (file : List ℕ) (table : Option Table) (extension : Option Extension) → HoldsTypes file table → HoldsRecords file table extension → IfSome table (λ t. AreFaultless (ExternsFault (symbols_of file) t)) → (e : ParseError) (other : Table) → HasTableFault file other e → Some other ≡ table → ⊥
no-table-fault file None extension holds records externs e other fault same = absurd (cc)
no-table-fault file (Some table) extension holds records externs e other fault same =
    let is : other ≡ table = cc in
    says-none (TableFaultOf file table) (table-sound file table extension records externs) e (subst (λ t. SaysOfTypes (TableFaultOf file t) e) is fault.1)

among : {X A : Type 0} (f : X → List A) (xs : List X) (x : X) (y : A) → Contains xs x → Contains (f x) y → Contains (flat_map f xs) y
among f xs x y in-list in-part =
    let here : f (get_or xs in-list.0 x) ≡ f x = ap f in-list.2 in
    let within : in-part.0 < length (f (get_or xs in-list.0 x)) = rw here in-part.1 in
    (length (flat_map f (take in-list.0 xs)) + in-part.0, omega (arith, within, length-flat_map-take f xs in-list.0 x in-list.1), get_or-flat_map f xs in-list.0 in-part.0 x y in-list.1 within ∙ ap (λ ys. get_or ys in-part.0 y) here ∙ in-part.2)

nothing-in : {A : Type 0} (y : A) (ys : List A) → ys ≡ [] → Contains ys y → ⊥
nothing-in y [] none there = absurd (omega (arith, there.1))
nothing-in y (z ∷ zs) none there = cc none

nothing-said : (o : Option MapFault) (faults : List MapFault) → ((f : MapFault) → Contains faults f → ⊥) → IsSomeAnd o (Contains faults) → ⊥
nothing-said None faults none said = said
nothing-said (Some f) faults none said = none f said

no-contents-fault : (file : List ℕ) (table : Option Table) → All (HasSoundCode (symbols_of file)) (read_sections file) → maps_faults file (option_map completed table) ≡ [] → (e : ParseError) (other : Option Table) → HasSectionFault file (option_map completed other) e → other ≡ table → ⊥
no-contents-fault file table functions maps e other fault same = by fault.fault
  where
    by : code.HasSectionFault (symbols_of file) fault.section e ⊎ Says (section_faults_in file (option_map completed other) fault.section) e → ⊥
    by (inl wrong) = (All-contains (HasSoundCode (symbols_of file)) (read_sections file) fault.section functions fault.is_read).none e wrong
    by (inr said) =
        nothing-said (fault_of e) (section_faults_in file (option_map completed other) fault.section)
        (λ f there. nothing-in f (maps_faults file (option_map completed other)) (ap (λ t. maps_faults file (option_map completed t)) same ∙ maps)
        (among (section_faults_in file (option_map completed other)) (read_sections file) fault.section f fault.is_read there)) said

pub sound : (file : List ℕ) (table : Option Table) (extension : Option Extension) → HoldsTypes file table → HoldsRecords file table extension → All (HasSoundCode (symbols_of file)) (read_sections file) → maps_faults file (option_map completed table) ≡ [] → IfSome table (λ t. AreFaultless (ExternsFault (symbols_of file) t)) → (e : ParseError) → HasObjectFault file e → ⊥
sound file table extension holds records functions maps externs e (inl (inl fault)) = says-none (TypesFault file) (no-types-fault-in _ _ table holds) e fault
sound file table extension holds records functions maps externs e (inl (inr fault)) =
    no-table-fault file table extension holds records externs e fault.0 fault.1 (unique _ _ table (Some fault.0) holds fault.1.0)
sound file table extension holds records functions maps externs e (inr fault) =
    no-contents-fault file table functions maps e fault.table fault.fault (unique _ _ table fault.table holds fault.holds)

-- A file whose table was read has a section `.BTF`.
has-section-in : (order : Endianness) (bytes : Option (List ℕ)) (table : Table) → HoldsTypesIn order bytes (Some table) → IsSome bytes
has-section-in order None table holds = absurd holds
has-section-in order (Some bytes) table holds = refl

pub has-section : (file : List ℕ) (table : Table) → HoldsTypes file (Some table) → IsSome (contents_named file (codes ".BTF"))
has-section file table holds = has-section-in _ _ table holds

-- An error of type information as an error of an object.
pub says-from : (Fault : BtfError → Type 0) (e : BtfError) → (e ≢ btf.OutOfMemory → Fault e) → parse_error_of e ≢ error.OutOfMemory → SaysOfTypes Fault (parse_error_of e)
says-from Fault btf.OutOfMemory fault other = absurd (other refl)
says-from Fault e fault other = fault (λ same. cc)

says-weaker : (P Q : BtfError → Type 0) → ((e : BtfError) → P e → Q e) → (e : ParseError) → SaysOfTypes P e → SaysOfTypes Q e
says-weaker P Q weaker (error.BtfError e) says = weaker e says
says-weaker P Q weaker e says = absurd says

-- Faults of the records of `.BTF.ext`, of maps and of externs are faults of the object.
pub records-stand : (file : List ℕ) (table : Option Table) → HoldsTypes file table → (e : ParseError) → IsSomeAnd table (λ t. SaysOfTypes (RecordsFault file t) e) → HasTypesOrExternsFault file e
records-stand file None holds e said = absurd said
records-stand file (Some table) holds e said = inr (table, (holds, says-weaker (RecordsFault file table) (TableFaultOf file table) (λ e fault. inl fault) e said))

pub externs-stand : (file : List ℕ) (table : Option Table) → HoldsTypes file table → (e : ParseError) → IsSomeAnd table (λ t. SaysOfTypes (ExternsFault (symbols_of file) t) e) → HasTypesOrExternsFault file e
externs-stand file None holds e said = absurd said
externs-stand file (Some table) holds e said = inr (table, (holds, says-weaker (ExternsFault (symbols_of file) table) (TableFaultOf file table) (λ e fault. inr fault) e said))

-- A fault of a section is a fault of the object.
pub section-fault : (file : List ℕ) (table : Option Table) → HasSoundFirst file (codes ".BTF") → HoldsTypes file table → (e : ParseError) → HasFileFault file e ⊎ HasSectionFault file (option_map completed table) e → HasFileOrObjectFault file e
section-fault file table first holds e (inl fault) = inl fault
section-fault file table first holds e (inr fault) = inr (inr (record { table = table; first = first; holds = holds; fault = fault }))

pub file-fault : (file : List ℕ) → IsOpenable file → (e : ParseError) → HasFileOrObjectFault file e → HasFault file e
file-fault file sound e (inl fault) = inl fault
file-fault file sound e (inr fault) = inr (sound, fault)

pub if-err : {T E : Type 0} {P Q : E → Type 0} (r : Result T E) → ((e : E) → P e → Q e) → IfErr r P → IfErr r Q
if-err (Ok x) f p = p
if-err (Err e) f p = f e p

-- A fault of the bytes of an extension is a fault of the file.
pub records-fault-at : (file : List ℕ) (table : Table) (bytes : List ℕ) (order : Endianness) → contents_named file (codes ".BTF.ext") ≡ Some bytes → order ≡ file_endianness file → (e : BtfError) → ExtensionFault order table.strings bytes e → RecordsFault file table e
records-fault-at file table bytes order is same e fault =
    subst (λ o. IsSomeAnd o (λ b. ExtensionFault (file_endianness file) table.strings b e)) (sym is)
    (subst (λ order. ExtensionFault order table.strings bytes e) same fault)

none-of-either : (file : List ℕ) → IsFileFaultless file → ((e : ParseError) → HasObjectFault file e → ⊥) → (e : ParseError) → HasFault file e → ⊥
none-of-either file whole sound e (inl fault) = whole.none e fault
none-of-either file whole sound e (inr fault) = sound e fault.1

pub faultless : (file : List ℕ) → IsFileFaultless file → ((e : ParseError) → HasObjectFault file e → ⊥) → IsFaultless file
faultless file whole sound = record { none = none-of-either file whole sound }
