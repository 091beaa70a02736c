-- The byte that is replaced in names of sections.
use Rattle.std.specs.Prelude.{ℕ, if◌then◌else◌}
use Rattle.btf_records.specs.declared.feature.BtfFeature.TheVariants as feature
use Rattle.btf_sanitize.specs.Facts.{Facts}

-- `/` (47) if the kernel supports sections, and `.` (46) otherwise.
abbrev pub sought : Facts → ℕ
sought known = if known.grants feature.DataSec then 47 else 46
