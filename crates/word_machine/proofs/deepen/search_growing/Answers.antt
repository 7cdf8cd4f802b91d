use Rattle.std.proofs.Common.{refl, ◌≡◌, ℕ, ◌+◌, ◌<◌, ◌≤◌, sym, ◌∙◌, subst, arith}
use Rattle.word_machine.specs.Machine.{IsLawful, IsLowerBound}
use Rattle.std.specs.Prelude.{max}
use Rattle.word_machine.specs.declared.found.Outcome.TheVariants.{Past, Exhausted}
use Rattle.word_machine.specs.Answer.{IsOutcome, NoneFinishesBefore}
use Rattle.word_machine.specs.Words.{step_count}
use Rattle.word_machine.specs.Dive.{AreAllBelow}
use Rattle.word_machine.proofs.Meanings.{known_still, same_points}
use Rattle.word_machine.proofs.Answering.{none_before_both, none_before_more}
use Rattle.word_machine.proofs.deepen.search_growing.Given as given
use Rattle.word_machine.proofs.deepen.search_growing.Goals as goal

-- the machine's laws
laws : (g : given.Over) (machine : g.row.M.Denot) → IsLawful (g.M.Machine.words machine) (g.M.Machine.belongs machine)
laws g machine = (g.met.M.Machine g.world.𝓛 g.world.𝓜 g.world.𝓡 ((λ s x. x), (λ x. x), (λ x. x), λ x. x)).lawful machine

-- the machine's bound from below is one
bounded : (g : given.Over) (machine : g.row.M.Denot) → IsLowerBound (g.M.Machine.words machine) (g.M.Machine.estimate machine)
bounded g machine = (g.met.M.Machine g.world.𝓛 g.world.𝓜 g.world.𝓡 ((λ s x. x), (λ x. x), (λ x. x), λ x. x)).bounded machine

pub loop-growth-init : goal.loop-growth-init
loop-growth-init g c =
    record {
      own = c.requires.own;
      starts = c.requires.starts;
      none = c.requires.none;
      below = c.requires.below;
      becomes = g.met.W.Watch.stays c.args.watch.now;
      initials = c.requires.initials;
    }

pub loop-growth-preserved : goal.loop-growth-preserved
loop-growth-preserved g c =
    let machine = c.args.machine.now in
    let m = g.M.Machine.words machine in
    let old = g.M.Machine.meaning machine c.loop-growth.tables in
    let new = g.M.Machine.meaning machine c.search.new.tables in
    let initials = c.args.initials.now in
    let i = c.loop-growth.invariant in
    let bound = c.within-within.result.nodes in
    let told : IsOutcome m (g.M.Machine.estimate machine) bound (Past c.in-Past.least c.in-Past.wide) =
    subst (IsOutcome m (g.M.Machine.estimate machine) bound) c.in-Past.is c.in_ok-outcome.ensures.outcome in
    let least : max c.in-Past.least (bound + 1) ≡ c.after-growth.result.least = sym c.after-growth.ensures in
    record {
      own = c.in_ok-outcome.ensures.owned;
      starts = known_still old new c.in_ok-outcome.ensures.grown initials i.starts;
      none = subst (NoneFinishesBefore m) least (none_before_more m bound c.in-Past.least told.0 told.2);
      below = subst (λ n. AreAllBelow m (g.M.Machine.belongs machine) (g.M.Machine.estimate machine) new n c.search.new.closed.keys) least
          (c.in_ok-outcome.ensures.left_out refl c.in-Past.least c.in-Past.wide c.in-Past.is);
      becomes = g.met.W.Watch.joins c.args.watch.now c.loop-growth.watch c.search.new.watch i.becomes c.in_ok-outcome.ensures.becomes;
      initials = same_points old new c.in_ok-outcome.ensures.grown initials i.starts ∙ i.initials;
    }

pub returns-in-Exhausted-clause-ending : goal.returns-in-Exhausted-clause-ending
returns-in-Exhausted-clause-ending g c =
    let machine = c.args.machine.now in
    let m = g.M.Machine.words machine in
    let bound = c.within-within.result.nodes in
    let told : IsOutcome m (g.M.Machine.estimate machine) bound Exhausted = subst (IsOutcome m (g.M.Machine.estimate machine) bound) c.in-Exhausted.is c.in_ok-outcome.ensures.outcome in
    let fewer : bound ≤ c.args.bounds.nodes = omega (arith, c.within-within.ensures.nodes, c.min.ensures) in (
      told.0,
      λ met. told.1 (
        met.0,
        met.1,
        met.2,
        λ other reached. (
            let past : c.args.bounds.nodes < step_count other + m.open_len met.1 = met.3 other reached in
            let above : m.open_len met.1 ≤ g.M.Machine.estimate machine met.1 = (bounded g machine).above_open met.1 in
            omega arith),
      ),
    )

-- what the watch may be given, after it was asked
hears : (g : given.Over) (machine : g.row.M.Denot) (v w : g.row.W.Denot) → ((n : ℕ) → NoneFinishesBefore (g.M.Machine.words machine) n → g.W.Watch.may_hear v n) → g.W.Watch.becomes v w
    → (n : ℕ) → NoneFinishesBefore (g.M.Machine.words machine) n → g.W.Watch.may_hear w n
hears g machine v w may b n none = g.met.W.Watch.hears v w n b (may n none)

pub search-requires-clause-hears : goal.search-requires-clause-hears
search-requires-clause-hears g c = λ _ _.
    let machine = c.args.machine.now in
    let i = c.loop-growth.invariant in
    hears g machine c.args.watch.now c.loop-growth.watch c.requires.hears i.becomes c.max-none_below.result
    (subst (NoneFinishesBefore (g.M.Machine.words machine)) (sym c.max-none_below.ensures) (none_before_both (g.M.Machine.words machine) c.loop-growth.growth.least c.args.known i.none c.requires.known))

pub returns-in-GivenUp-clause-ending : goal.returns-in-GivenUp-clause-ending
returns-in-GivenUp-clause-ending g c =
    let m = g.M.Machine.words c.args.machine.now in
    subst (NoneFinishesBefore m) (sym c.max-none_below.ensures) (none_before_both m c.loop-growth.growth.least c.args.known c.loop-growth.invariant.none c.requires.known)

pub returns-in-Stopped-clause-ending : goal.returns-in-Stopped-clause-ending
returns-in-Stopped-clause-ending g c =
    let m = g.M.Machine.words c.args.machine.now in
    subst (NoneFinishesBefore m) (sym c.max-none_below.ensures) (none_before_both m c.loop-growth.growth.least c.args.known c.loop-growth.invariant.none c.requires.known)

pub returns-in-Stopped-clause-stopped : goal.returns-in-Stopped-clause-stopped
returns-in-Stopped-clause-stopped g c = λ _ _.
    sym (g.met.W.Watch.keeps c.args.watch.now c.loop-growth.watch c.loop-growth.invariant.becomes) ∙ c.in_ok-outcome.ensures.stopped c.in-Stopped.is
