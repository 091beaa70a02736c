-- The content of a line that was read.
use Rattle.std.specs.Option.{option_map}
use Rattle.std.specs.String.{string_bytes}
use Rattle.plan_lines.specs.Lines.{LineContent, Header, License, Version, Feature, Types, Map, Inner, Program, Slots, Tables, Func, Source, End}
use Rattle.plan_lines.specs.declared.line.PlanLine.{PlanLine}
use Rattle.plan_lines.specs.declared.line.PlanLine.TheVariants as line

-- A line without its place in memory.
abbrev pub line_view : PlanLine → LineContent
line_view (line.Header text_version) = Header text_version
line_view (line.License bytes) = License bytes.items
line_view (line.Version version) = Version version
line_view (line.Feature asked answer) = Feature asked answer
line_view (line.Types type_bytes) = Types (option_map (λ bytes. bytes.items) type_bytes)
line_view (line.Map m) = Map (string_bytes m.name) m.number m.is_btf m.words m.contents.items
line_view (line.Inner words) = Inner words
line_view (line.Program name section) = Program (string_bytes name) section
line_view (line.Slots bytes) = Slots bytes.items
line_view (line.Tables tables) = Tables (option_map (λ places. places.items) tables)
line_view (line.Func slot id) = Func slot id
line_view (line.Source slot file row column) = Source slot file row column
line_view line.End = End
