use Rattle.htn_run.proofs.fault_line.put_check_fault.Goals as goal

pub returns-in-Duplicate : goal.returns-in-Duplicate
returns-in-Duplicate g c = rw c.in-Duplicate.is c.put_at.ensures

pub returns-in-UnknownType : goal.returns-in-UnknownType
returns-in-UnknownType g c = rw c.in-UnknownType.is c.put_at-in-UnknownType.ensures

pub returns-in-UnknownName : goal.returns-in-UnknownName
returns-in-UnknownName g c = rw c.in-UnknownName.is c.put_at-in-UnknownName.ensures

pub returns-in-TypeClash : goal.returns-in-TypeClash
returns-in-TypeClash g c = rw c.in-TypeClash.is c.put_at-in-TypeClash.ensures

pub returns-in-UnknownSubtask : goal.returns-in-UnknownSubtask
returns-in-UnknownSubtask g c = rw c.in-UnknownSubtask.is c.put_at-in-UnknownSubtask.ensures

pub returns-in-OutOfMemory : goal.returns-in-OutOfMemory
returns-in-OutOfMemory g c = rw c.in-OutOfMemory.is c.put_all.ensures
