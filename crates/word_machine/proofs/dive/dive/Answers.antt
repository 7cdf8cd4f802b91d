use Rattle.word_machine.specs.Machine.{IsLawful}
use Rattle.word_machine.proofs.Diving.{initials_visited}
use Rattle.word_machine.proofs.dive.dive.Given as given
use Rattle.word_machine.proofs.dive.dive.Goals as goal

-- the machine's laws
laws : (g : given.Over) (machine : g.row.M.Denot) → IsLawful (g.M.Machine.words machine) (g.M.Machine.belongs machine)
laws g machine = (g.met.M.Machine g.world.𝓛 g.world.𝓜 g.world.𝓡 ((λ s x. x), (λ x. x), (λ x. x), λ x. x)).lawful machine

pub keep_starts-requires-clause-initials : goal.keep_starts-requires-clause-initials
keep_starts-requires-clause-initials g c = λ _ _.
    let machine = c.args.machine.now in
    initials_visited (g.M.Machine.words machine) (g.M.Machine.belongs machine) (laws g machine) (g.M.Machine.meaning machine c.args.tables.now) c.args.initials.now c.requires.known c.requires.initials
