use Rattle.text_messages.specs.Notes.{IsFirstTwin}
use Rattle.text_messages.proofs.Leading.{of_taken}
use Rattle.text_messages.proofs.noted.twin_of.Goals as goal

pub returns : goal.returns
returns c = of_taken (λ ws k. IsFirstTwin ws c.args.text.now k) c.args.words.now c.args.index _ c.first_twin.ensures
