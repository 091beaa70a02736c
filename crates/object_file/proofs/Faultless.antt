-- A file is faultless if none of the checks finds a fault.
use Rattle.std.proofs.Common.{◌≡◌, ℕ, Bool, true, false, List, [], ◌∷◌, Option, Some, None, refl, arith, ◌||◌, ◌&&◌, inl, inr}
use Rattle.std.specs.Prelude.{IfSome, IsSomeAnd}
use Rattle.std.specs.List.{list_any}
use Rattle.elf64.specs.declared.error.ElfError.{ElfError}
use Rattle.elf64.specs.declared.error.ElfError.TheVariants.{Name, SectionData}
use Rattle.elf64.specs.Faults as elf
use Rattle.elf64.specs.Sections.{Section}
use Rattle.elf64.specs.Symbols.{symbols_of}
use Rattle.ebpf_items.specs.declared.error.ParseError.{ParseError}
use Rattle.ebpf_items.specs.declared.error.ParseError.TheVariants as error
use Rattle.btf_records.specs.declared.error.BtfError.TheVariants as btf
use Rattle.object_file.specs.Faults.{HasFileFault, HasHeldFault, HasSoundLicense, HasSoundVersion}
use Rattle.object_file.specs.License.{IsLicense, IsInvalidLicense, LacksNul, license_bytes}
use Rattle.object_file.specs.Reading.{read_sections, is_unreadable, cannot_read}
use Rattle.object_file.specs.Relocations.{has_relocation_without_symbol}
use Rattle.object_file.specs.Symbols.{is_unnamed}
use Rattle.object_file.specs.Version.{version_bytes}

and-right : (a b : Bool) → (a && b) ≡ true → b ≡ true
and-right true b h = h
and-right false b h = absurd (cc)

or-left : (a b : Bool) → a ≡ true → (a || b) ≡ true
or-left true b h = refl
or-left false b h = absurd (cc)

or-right : (a b : Bool) → b ≡ true → (a || b) ≡ true
or-right true b h = refl
or-right false b h = h

or-none : (a b : Bool) → (a || b) ≡ false → (a ≡ false) × (b ≡ false)
or-none true b h = absurd (cc)
or-none false b h = (refl, h)

not-both : (b : Bool) → b ≡ true → b ≡ false → ⊥
not-both true h k = absurd (cc)
not-both false h k = absurd (cc)

none-first : (a b c rest : Bool) → a ≡ c → (c ≡ true → b ≡ true) → b ≡ false → (rest ≡ true → ⊥) → (a || rest) ≡ true → ⊥
none-first a b true rest is weaker none later some = not-both b (weaker refl) none
none-first a b false rest is weaker none later some = later (rw is at some)

-- If the test p implies the test q and no element passes q, then no element passes p.
none-weaker : {X : Type 0} (p q : X → Bool) → ((x : X) → p x ≡ true → q x ≡ true) → (xs : List X) → list_any q xs ≡ false → list_any p xs ≡ true → ⊥
none-weaker p q weaker [] none some = not-both false some refl
none-weaker p q weaker (x ∷ xs) none some =
    let parts = or-none (q x) (list_any q xs) none in
    none-first (p x) (q x) (p x) (list_any p xs) refl (weaker x) parts.0 (none-weaker p q weaker xs parts.1) some

cannot_read-unreadable : (section : Section) (e : ElfError) → cannot_read section e ≡ true → is_unreadable section ≡ true
cannot_read-unreadable section Name h = or-left _ _ h
cannot_read-unreadable section SectionData h = or-right _ _ h
cannot_read-unreadable section _ h = absurd (cc)

-- A sound license isn't an invalid license.
license-valid : (bytes : List ℕ) → IsLicense bytes → IsInvalidLicense bytes → ⊥
license-valid bytes sound (inl short) = absurd (omega (arith, sound.len, short))
license-valid bytes sound (inr inner) = not-both _ inner sound.text

license-ended : (bytes : List ℕ) → IsLicense bytes → LacksNul bytes → ⊥
license-ended bytes sound lacking = lacking.2 sound.end

both : {X : Type 0} (o : Option X) (P Q : X → Type 0) → ((x : X) → P x → Q x → ⊥) → IfSome o P → IsSomeAnd o Q → ⊥
both None P Q apart p q = q
both (Some x) P Q apart p q = apart x p q

pub no-held-fault : (file : List ℕ) → list_any is_unreadable (read_sections file) ≡ false → list_any (has_relocation_without_symbol file) (read_sections file) ≡ false → HasSoundLicense file → HasSoundVersion file → list_any is_unnamed (symbols_of file) ≡ false → (e : ParseError) → HasHeldFault file e → ⊥
no-held-fault file readable targets license version named (error.SectionError index e) fault =
    none-weaker _ is_unreadable (λ s h. cannot_read-unreadable s e (and-right _ _ h)) (read_sections file) readable fault
no-held-fault file readable targets license version named error.UnsupportedRelocationTarget fault = not-both _ fault targets
no-held-fault file readable targets license version named (error.InvalidLicense kept) fault =
    both (license_bytes file) IsLicense _ (λ bytes p q. license-valid bytes p q.1) license fault
no-held-fault file readable targets license version named (error.MissingLicenseNullTerminator kept) fault =
    both (license_bytes file) IsLicense _ (λ bytes p q. license-ended bytes p q.1) license fault
no-held-fault file readable targets license version named (error.InvalidKernelVersion kept) fault =
    both (version_bytes file) _ _ (λ bytes p q. q.1 p) version fault
no-held-fault file readable targets license version named (error.BtfError btf.InvalidSymbolName) fault = not-both _ fault named
no-held-fault file readable targets license version named _ fault = fault

pub file-faultless : (file : List ℕ) → elf.IsFaultless file → ((e : ParseError) → HasHeldFault file e → ⊥) → (e : ParseError) → HasFileFault file e → ⊥
file-faultless file elf none (error.ElfError e) fault = elf.none e fault
file-faultless file elf none e fault = none e fault.1
