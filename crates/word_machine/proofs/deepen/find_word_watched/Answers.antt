use Rattle.std.proofs.Common.{ap, ◌≤◌, All, sym, subst, arith}
use Rattle.word_machine.specs.Machine.{IsLawful, IsLowerBound}
use Rattle.word_machine.specs.Answer.{NoneFinishesBefore}
use Rattle.word_machine.specs.Contents.{Contents}
use Rattle.word_machine.specs.Dive.{AreAllBelow}
use Rattle.word_machine.specs.Ranks.{IsOwned}
use Rattle.word_machine.proofs.Diving.{none_below}
use Rattle.word_machine.proofs.Meanings.{all_map, all_owned}
use Rattle.word_machine.proofs.Answering.{none_before_least}
use Rattle.word_machine.proofs.deepen.find_word_watched.Given as given
use Rattle.word_machine.proofs.deepen.find_word_watched.Goals as goal

-- the machine's laws
laws : (g : given.Over) (machine : g.row.M.Denot) → IsLawful (g.M.Machine.words machine) (g.M.Machine.belongs machine)
laws g machine = (g.met.M.Machine g.world.𝓛 g.world.𝓜 g.world.𝓡 ((λ s x. x), (λ x. x), (λ x. x), λ x. x)).lawful machine

-- the machine's bound from below is one
bounded : (g : given.Over) (machine : g.row.M.Denot) → IsLowerBound (g.M.Machine.words machine) (g.M.Machine.estimate machine)
bounded g machine = (g.met.M.Machine g.world.𝓛 g.world.𝓜 g.world.𝓡 ((λ s x. x), (λ x. x), (λ x. x), λ x. x)).bounded machine

pub least_bound-requires-clause-known : goal.least_bound-requires-clause-known
least_bound-requires-clause-known g c = λ _ _.
    let machine = c.args.machine.now in
    let meaning = g.M.Machine.meaning machine c.initials.new.tables in
    let belongs = g.M.Machine.belongs machine in
    subst (All (IsOwned meaning belongs)) (sym c.deref.ensures.value)
    (all_owned meaning belongs c.in_ok-starts.starts.items c.in_ok-starts.ensures.known
    (subst (All belongs) (sym c.in_ok-starts.ensures.initials) (laws g machine).starts))

pub search_growing-requires-clause-none : goal.search_growing-requires-clause-none
search_growing-requires-clause-none g c = λ _ _.
    let machine = c.args.machine.now in
    let meaning = g.M.Machine.meaning machine c.initials.new.tables in
    let least = c.least_bound.result in
    let lower = g.M.Machine.estimate machine in
    let listed = c.in_ok-starts.starts.items in
    let each : All (λ (x : g.row.M-Configuration.Denot). least ≤ lower (meaning.point x)) listed =
    subst (All (λ (x : g.row.M-Configuration.Denot). least ≤ lower (meaning.point x))) c.deref.ensures.value c.least_bound.ensures in
    let m = g.M.Machine.words machine in
    let first : All (λ p. least ≤ lower p) m.initials =
    subst (All (λ p. least ≤ lower p)) c.in_ok-starts.ensures.initials (all_map meaning.point (λ p. least ≤ lower p) listed each) in
    subst (NoneFinishesBefore m) (sym c.from-growth.ensures) (none_before_least m (g.M.Machine.belongs machine) (laws g machine) lower (bounded g machine) least first)

pub search_growing-requires-clause-below : goal.search_growing-requires-clause-below
search_growing-requires-clause-below g c = λ _ _.
    let machine = c.args.machine.now in
    let meaning = g.M.Machine.meaning machine c.initials.new.tables in
    let least = c.least_bound.result in
    let lower = g.M.Machine.estimate machine in
    let listed = c.in_ok-starts.starts.items in
    let each : All (λ (x : g.row.M-Configuration.Denot). least ≤ lower (meaning.point x)) listed =
    subst (All (λ (x : g.row.M-Configuration.Denot). least ≤ lower (meaning.point x))) c.deref.ensures.value c.least_bound.ensures in
    let m = g.M.Machine.words machine in
    let first : All (λ p. least ≤ lower p) m.initials =
    subst (All (λ p. least ≤ lower p)) c.in_ok-starts.ensures.initials (all_map meaning.point (λ p. least ≤ lower p) listed each) in
    let belongs = g.M.Machine.belongs machine in
    subst (λ n. AreAllBelow m belongs lower meaning n c.in_ok-kept.kept.keys) (sym c.from-growth.ensures)
    (subst (AreAllBelow m belongs lower meaning least) (sym (ap (λ (n : Contents g.row.M-Configuration.Denot). n.keys) c.in_ok-kept.ensures))
    ((λ k d inside. absurd (omega arith)), none_below m lower (bounded g machine) least first))
