-- The messages to a user when a command line isn't run.
use Rattle.std.specs.Prelude.{Bool, true, false}
use Rattle.command_line.specs.declared.line_text.LineMessage.{LineMessage}
use Rattle.command_line.specs.declared.line_text.LineMessage.TheVariants.{Fault, Asked}

-- Whether the message is about a fault of the line.
abbrev pub is_fault : LineMessage → Bool
is_fault (Fault text) = true
is_fault (Asked text) = false
