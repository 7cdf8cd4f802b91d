use Rattle.text_messages.proofs.Units.{of_fault, of_word}
use Rattle.text_messages.proofs.columns.columns_agree.Goals as goal

pub returns : goal.returns
returns c = record { faults = of_fault; words = λ text ws front rest w all none e. of_word text ws front rest w all none e }
