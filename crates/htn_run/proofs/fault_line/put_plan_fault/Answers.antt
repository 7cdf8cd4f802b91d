use Rattle.htn_run.proofs.fault_line.put_plan_fault.Goals as goal

pub returns-in-NumberTooLarge : goal.returns-in-NumberTooLarge
returns-in-NumberTooLarge g c = rw c.in-NumberTooLarge.is c.put_fault_line-in-NumberTooLarge.ensures

pub returns-in-NotAscii : goal.returns-in-NotAscii
returns-in-NotAscii g c = rw c.in-NotAscii.is c.put_fault_line-in-NotAscii.ensures

pub returns-in-OutOfMemory : goal.returns-in-OutOfMemory
returns-in-OutOfMemory g c = rw c.in-OutOfMemory.is c.put_fault_line-in-OutOfMemory.ensures
