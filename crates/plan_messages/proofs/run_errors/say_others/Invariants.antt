use Rattle.std.proofs.Common.{◌≡◌, List, ◌++◌, take}
use Rattle.diagnostics.specs.declared.diagnostic.Remark.{Remark}
use Rattle.plan_messages.specs.Explanation.{named_in, texts_of}
use Rattle.plan_messages.proofs.run_errors.say_others.Given as goal

abbrev pub invariant-loop-other : goal.invariant-loop-other
invariant-loop-other l = (more : List Remark) × (l.saying.remarks.items ≡ l.initial.saying.remarks.items ++ more) × (named_in more ≡ texts_of (take l.other-index l.others))
