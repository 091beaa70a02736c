-- The numbers of a file's maps.
use Rattle.std.proofs.Common.{◌≡◌, ℕ, List, inl, inr}
use Rattle.ebpf_items.specs.declared.error.ParseError.{ParseError}
use Rattle.ebpf_object.specs.ParsedObject.{IsParsed, ObjectContent}
use Rattle.load_plan.specs.Numbering.{AreNumbered, names_of}
use Rattle.object_contents.specs.Faults.{HasFault}
use Rattle.settings.specs.Content.{SettingsContent}
use Rattle.morvezin.specs.Calls.{HasAllNumbers}

pub has_numbers : (file : List ℕ) (object : ObjectContent) (before after : SettingsContent)
    → IsParsed file object
    → AreNumbered (names_of object.maps) (names_of object.maps) before after
    → HasAllNumbers file before after
has_numbers file object before after parsed numbered =
    inl (record { object = object; parsed = parsed; numbered = numbered })

pub has_none : (file : List ℕ) (error : ParseError) (before after : SettingsContent)
    → HasFault file error
    → after ≡ before
    → HasAllNumbers file before after
has_none file error before after fault kept =
    inr (record { error = error; fault = fault; kept = kept })
