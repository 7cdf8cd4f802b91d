-- The status of a process that runs nothing, or doesn't end as its run did, and its line on the error output.
use Rattle.std.specs.Prelude.{ℕ, List, codes}
use Rattle.htn_run.specs.declared.process.ProcessFault.{ProcessFault}
use Rattle.htn_run.specs.declared.process.ProcessFault.TheVariants.{NotText, OutOfMemory, Output}

-- the status that a process ends with for each fault
abbrev pub status_of : ProcessFault → ℕ
status_of NotText = 2
status_of OutOfMemory = 4
status_of Output = 5

-- the line that it writes for each fault
abbrev pub line_of : ProcessFault → List ℕ
line_of NotText = codes "error: an argument is not UTF-8\n"
line_of OutOfMemory = codes "OutOfMemory\n"
line_of Output = codes "output: cannot be written\n"
