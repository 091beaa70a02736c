-- The size of a rewritten table fits its invariant.
use Rattle.std.proofs.Common.{◌≡◌, ℕ, ◌<◌, ◌≤◌, ◌^◌, ◌++◌, Ok, Err, Result, inl, inr, length, arith, subst, sym}
use Rattle.std.specs.Prelude.{IfErr, IsErrAnd}
use Rattle.btf_records.specs.declared.error.BtfError.{BtfError}
use Rattle.btf_records.specs.declared.error.BtfError.TheVariants.{InvalidTypeInfo}
use Rattle.btf_records.specs.declared.words.Endianness.{Endianness}
use Rattle.btf_tables.specs.GrownTables.{TextsStay}
use Rattle.btf_tables.specs.Tables.{Table}
use Rattle.btf_sanitize.specs.Facts.{Facts}
use Rattle.btf_rewrite.specs.Ksyms.{Ksyms, KsymsFault, stepped_texts}
use Rattle.btf_sanitize.specs.Sanitized.{SanitizingFault, sanitized_strings}
use Rattle.btf_storage.specs.Faultless.{IsFaultless}

not_many : (n : ℕ) → (2 ^ 32 ≤ n → ⊥) → n < 2 ^ 32
not_many n few = grind (arith, few)

pub short_step : (order : Endianness) (k : Ksyms) → IsFaultless (KsymsFault order k) → length (k.strings ++ stepped_texts k) < 2 ^ 32
short_step order k faultless = not_many (length (k.strings ++ stepped_texts k)) (λ many. faultless.none InvalidTypeInfo (inr (inr (inl many))))

pub short_table : (order : Endianness) (known : Facts) → IsFaultless (SanitizingFault order known) → length (sanitized_strings known) < 2 ^ 32
short_table order known faultless = not_many (length (sanitized_strings known)) (λ many. faultless.none InvalidTypeInfo (inr (inl many)))

-- An error that is passed on.
pub passed_on : {T : Type 0} (result : Result T BtfError) (e : BtfError) (P : BtfError → Type 0) → IsErrAnd result (λ f. f ≡ e) → P e → IfErr result P
passed_on (Ok value) e P h p = tt
passed_on (Err f) e P h p = subst P (sym h) p

-- `TextsStay` is transitive.
pub texts_then : (a b c : Table) → TextsStay a b → TextsStay b c → TextsStay a c
texts_then a b c h k = record { stay = λ offset text e. k.stay offset text (h.stay offset text e) }
