use Rattle.plan_messages.specs.Spots.{IsOnLine}
use Rattle.plan_messages.proofs.mentions.after_words.Given as goal

abbrev pub invariant-loop : goal.invariant-loop
invariant-loop l = IsOnLine l.text l.line l.at
