-- The exit status of the program.
use Rattle.std.specs.Prelude.{ℕ, ◌&&◌, ◌||◌, Bool, List, if◌then◌else◌}
use Rattle.std.specs.List.{list_any}
use Rattle.report_objects.specs.Answers.{has_failing, has_unread}
use Rattle.report_objects.specs.declared.object_report.ObjectReport.{ObjectReport}
use Rattle.inspect_object.specs.declared.error.ProgramError.{ProgramError}
use Rattle.inspect_object.specs.declared.error.ProgramError.TheVariants.{HoldsObjects, NoObjects, Refused}
use Rattle.inspect_object.specs.declared.reports.Ended.{Ended}
use Rattle.inspect_object.specs.declared.reports.Ended.TheVariants.{Answered, Fails, Unread}

-- 1 if the object is refused, if the file isn't one and holds some, or if objects are asked for and no
-- file holds one, and 2 otherwise.
abbrev pub status_of : ProgramError → ℕ
status_of (Refused refusal) = 1
status_of (HoldsObjects count) = 1
status_of NoObjects = 1
status_of _ = 2

-- How a run ends that printed its answer. If the line asks for a check, a kernel that doesn't take
-- an object counts before a file that can't be read, or an object that is refused.
abbrev pub end_of : Bool → Bool → List ObjectReport → Ended
end_of check has_refused reports =
    if check && list_any has_failing reports then Fails
    else (if has_refused || list_any has_unread reports then Unread else Answered)

-- 3 if a kernel doesn't take an object, 2 if a file can't be read or an object is refused, and 0
-- otherwise.
abbrev pub end_status : Ended → ℕ
end_status Answered = 0
end_status Unread = 2
end_status Fails = 3
