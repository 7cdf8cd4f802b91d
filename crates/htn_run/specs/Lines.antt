-- The line on the error output for each fault: the text of its `Display`, and a line feed.
use Rattle.std.specs.Prelude.{◌≡◌, ◌⊎◌, ℕ, Bool, true, List, [], ◌++◌, Option, Some, None, codes}
use Rattle.std.specs.Fmt.{decimal}
use Rattle.std.specs.Io.KnownBytes.{Appends}
use Rattle.hddl_words.specs.declared.fault.TextFault.{TextFault}
use Rattle.hddl_words.specs.declared.fault.TextFault.TheVariants as spelling
use Rattle.hddl_meaning.specs.declared.fault.At.{At}
use Rattle.hddl_meaning.specs.declared.fault.CheckFault.{CheckFault}
use Rattle.hddl_meaning.specs.declared.fault.CheckFault.TheVariants as meaning
use Rattle.hddl_meaning.specs.declared.fault.Source.{Source}
use Rattle.hddl_meaning.specs.declared.fault.Source.TheVariants as source
use Rattle.plan_text.specs.declared.fault.PlanFault.{PlanFault}
use Rattle.plan_text.specs.declared.fault.PlanFault.TheVariants as reading
use Rattle.plan_text.specs.Out.{TakesBeginning}
use Rattle.htn_review.specs.declared.outcome.RunFault.{RunFault}
use Rattle.htn_review.specs.declared.outcome.RunFault.TheVariants as fault
use Rattle.htn_run.specs.declared.stop.Stop.{Stop}
use Rattle.htn_run.specs.declared.stop.Stop.TheVariants.{Unreadable, Run}
use Rattle.htn_run.specs.declared.stop.Text.{Text}
use Rattle.htn_run.specs.declared.stop.Text.TheVariants as text

-- a place, where the fault has one
abbrev pub place_text : Option ℕ → List ℕ
place_text None = []
place_text (Some place) = codes " at " ++ decimal place

-- the text that the fault is of, its name, and its place
abbrev pub fault_line : List ℕ → List ℕ → Option ℕ → List ℕ
fault_line of name place = of ++ (name ++ (place_text place ++ codes "\n"))

-- the line of a fault of a domain's or a problem's text
abbrev pub text_line : List ℕ → TextFault → List ℕ
text_line of (spelling.NotAscii place) = fault_line of (codes "NotAscii") (Some place)
text_line of (spelling.BadWord place) = fault_line of (codes "BadWord") (Some place)
text_line of (spelling.Unclosed place) = fault_line of (codes "Unclosed") (Some place)
text_line of (spelling.ExtraClose place) = fault_line of (codes "ExtraClose") (Some place)
text_line of (spelling.TooDeep place) = fault_line of (codes "TooDeep") (Some place)
text_line of (spelling.Expected place) = fault_line of (codes "Expected") (Some place)
text_line of (spelling.Unsupported place) = fault_line of (codes "Unsupported") (Some place)
text_line of (spelling.TooLong place) = fault_line of (codes "TooLong") (Some place)
text_line of spelling.OutOfMemory = fault_line of (codes "OutOfMemory") None

-- the text that a fault of a pair stands in
abbrev pub source_prefix : Source → List ℕ
source_prefix source.Domain = codes "domain: "
source_prefix source.Problem = codes "problem: "

-- a fault of a pair with its place
abbrev pub at_line : At → List ℕ → List ℕ
at_line at name = fault_line (source_prefix at.source) name (Some at.place)

-- the line of a fault of a pair
abbrev pub check_line : CheckFault → List ℕ
check_line (meaning.Duplicate at) = at_line at (codes "Duplicate")
check_line (meaning.UnknownType at) = at_line at (codes "UnknownType")
check_line (meaning.TypeCycle at) = at_line at (codes "TypeCycle")
check_line (meaning.UnknownName at) = at_line at (codes "UnknownName")
check_line (meaning.Arity at) = at_line at (codes "Arity")
check_line (meaning.TypeClash at) = at_line at (codes "TypeClash")
check_line (meaning.OrderCycle at) = at_line at (codes "OrderCycle")
check_line (meaning.UnknownSubtask at) = at_line at (codes "UnknownSubtask")
check_line (meaning.TooMany at) = at_line at (codes "TooMany")
check_line meaning.OutOfMemory = codes "OutOfMemory\n"

-- the line of a fault of a plan's text
abbrev pub plan_line : List ℕ → PlanFault → List ℕ
plan_line of reading.NoStart = fault_line of (codes "NoStart") None
plan_line of reading.NoEnd = fault_line of (codes "NoEnd") None
plan_line of (reading.BadLine place) = fault_line of (codes "BadLine") (Some place)
plan_line of (reading.TwoRoots place) = fault_line of (codes "TwoRoots") (Some place)
plan_line of reading.NoRoot = fault_line of (codes "NoRoot") None
plan_line of (reading.NumberTooLarge place) = fault_line of (codes "NumberTooLarge") (Some place)
plan_line of (reading.NotAscii place) = fault_line of (codes "NotAscii") (Some place)
plan_line of (reading.TooLong place) = fault_line of (codes "TooLong") (Some place)
plan_line of reading.OutOfMemory = fault_line of (codes "OutOfMemory") None

-- the line of a fault of a run
abbrev pub line_of_fault : RunFault → List ℕ
line_of_fault (fault.Domain f) = text_line (codes "domain: ") f
line_of_fault (fault.Problem f) = text_line (codes "problem: ") f
line_of_fault (fault.Check f) = check_line f
line_of_fault (fault.Plan f) = plan_line (codes "plan: ") f
line_of_fault fault.OutOfMemory = codes "OutOfMemory\n"
line_of_fault fault.NoThread = codes "NoThread\n"
line_of_fault fault.Output = codes "output: cannot be written\n"

-- the line of a file that can't be read
abbrev pub unread_line : Text → List ℕ
unread_line text.Domain = codes "domain: cannot be read\n"
unread_line text.Problem = codes "problem: cannot be read\n"
unread_line text.Plan = codes "plan: cannot be read\n"

-- the line of a request that stopped
abbrev pub line_of : Stop → List ℕ
line_of (Unreadable text) = unread_line text
line_of (Run fault) = line_of_fault fault

-- the line was added to the output, or a beginning of it was and the output has failed
abbrev pub GetsLine : Option (List ℕ) → Option (List ℕ) → Bool → List ℕ → Type 0
GetsLine old new has_failed line = Appends old new line ⊎ (TakesBeginning old new line × (has_failed ≡ true))
