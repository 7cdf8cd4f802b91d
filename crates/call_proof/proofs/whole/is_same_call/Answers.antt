use Rattle.std.proofs.Common.{◌∙◌, sym}
use Rattle.call_proof.proofs.whole.is_same_call.Goals as goal

pub returns-clause-exits : goal.returns-clause-exits
returns-clause-exits c = λ is. sym c.deref.ensures.value ∙ c.are_same_exits.ensures is ∙ c.deref-2.ensures.value
