-- The exit status of the program.
use Rattle.std.specs.Prelude.{ℕ}
use Rattle.bpf_prepare.specs.declared.error.ProgramError.{ProgramError}
use Rattle.bpf_prepare.specs.declared.error.ProgramError.TheVariants.{Refused}

-- 1 if the object is refused, and 2 otherwise.
abbrev pub status_of : ProgramError → ℕ
status_of (Refused refusal) = 1
status_of _ = 2
