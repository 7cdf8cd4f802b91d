-- A small machine: tasks that are open, and a value. A task is carried out (0), which adds one; or replaced by another
-- (1), which doubles; or given up (2), and then nothing more happens.
use Rattle.std.specs.Prelude.{ℕ, suc, zero, ◌+◌, ◌-◌, ◌*◌, ◌%◌, nat_eq, Bool, true, false, not, ◌&&◌, if◌then◌else◌, List, Option, Some, None}
use Rattle.word_machine.specs.Machine.{WordMachine}
use Rattle.tests.specs.declared.tallies.Tally.{Tally}

-- what a number leads to, of tasks of which at least one is open, less that one
abbrev pub go_on : ℕ → ℕ → ℕ → Option Tally
go_on rest value zero = Some record { tasks = rest; value = (value + 1) % 1000000; stuck = false }
go_on rest value (suc zero) = Some record { tasks = suc rest; value = (value * 2) % 1000000; stuck = false }
go_on rest value (suc (suc zero)) = Some record { tasks = suc rest; value = value; stuck = true }
go_on rest value (suc (suc (suc number))) = None

-- the step of a tally by a number, if it has one
abbrev pub go_by : Bool → ℕ → ℕ → ℕ → Option Tally
go_by true tasks value number = None
go_by false zero value number = None
go_by false (suc rest) value number = go_on rest value number

-- all is carried out, and the value is the one that was wanted; to give up is never of use
abbrev pub counting : ℕ → List Tally → WordMachine Tally
counting target initials = record {
  initials = initials;
  step = λ c number. go_by c.stuck c.tasks c.value number;
  is_done = λ c. not c.stuck && (nat_eq c.tasks 0 && nat_eq c.value target);
  open_len = λ c. c.tasks;
  is_dead = λ c number. nat_eq number 2;
}

-- below 1,000,000
abbrev pub clipped : Tally → Tally
clipped c = record { tasks = c.tasks % 1000000; value = c.value % 1000000; stuck = c.stuck }

-- after a task is carried out, and after one is replaced
abbrev pub carried : Tally → Tally
carried c = record { tasks = c.tasks - 1; value = (c.value + 1) % 1000000; stuck = false }

-- after a task is replaced
abbrev pub doubled : Tally → Tally
doubled c = record { tasks = c.tasks; value = (c.value * 2) % 1000000; stuck = false }

-- a step for each task, and one more where the value that comes out is not the one that is wanted
abbrev pub estimate : ℕ → Tally → ℕ
estimate target c = if nat_eq ((c.value + c.tasks) % 1000000) (target % 1000000) then c.tasks else c.tasks + 1
