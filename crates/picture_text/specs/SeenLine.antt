-- Lines without where they lie in memory.
use Rattle.picture_text.specs.declared.line.Line.{Line}
use Rattle.picture_text.specs.declared.line.Line.TheVariants.{Action, Task}
use Rattle.picture_text.specs.Lines as lines

-- a line with what it holds
abbrev pub seen_line : Line → lines.Line
seen_line (Action line) = lines.action line.now
seen_line (Task line) = lines.task line.now
