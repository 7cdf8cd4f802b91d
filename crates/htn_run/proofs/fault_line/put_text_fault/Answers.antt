use Rattle.htn_run.proofs.fault_line.put_text_fault.Goals as goal

pub returns-in-Unsupported : goal.returns-in-Unsupported
returns-in-Unsupported g c = rw c.in-Unsupported.is c.put_fault_line-in-Unsupported.ensures

pub returns-in-OutOfMemory : goal.returns-in-OutOfMemory
returns-in-OutOfMemory g c = rw c.in-OutOfMemory.is c.put_fault_line-in-OutOfMemory.ensures
