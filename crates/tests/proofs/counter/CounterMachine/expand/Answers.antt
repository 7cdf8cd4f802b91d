use Rattle.std.proofs.Common.{◌≡◌, ℕ, List, refl, ◌<◌, ◌∷◌, [], ◌++◌, true≢false, ap, sym, ◌∙◌, arith, append_assoc, subst}
use Rattle.std.proofs.lemmas.List.Elements.{All-cons, All-nil}
use Rattle.word_machine.specs.declared.closed.Measured.{Measured}
use Rattle.word_machine.specs.declared.closed.Successor.{Successor}
use Rattle.word_machine.specs.declared.measure.Horizon.{Horizon}
use Rattle.word_machine.specs.declared.measure.Measure.{Measure}
use Rattle.word_machine.specs.declared.measure.Measure.TheVariants.{OpenNodes, LowerBound}
use Rattle.word_machine.specs.Answer.{IsBeyond, measure_of}
use Rattle.word_machine.specs.Machine.{IsDone, IsLiveStep}
use Rattle.word_machine.specs.Expansion.{IsExpansionOf}
use Rattle.word_machine.specs.Meaning.{successor_at}
use Rattle.tests.specs.Counter.{clipped, counting, estimate}
use Rattle.tests.specs.Tallies.{written, is_written}
use Rattle.tests.specs.Laws.{both_successors}
use Rattle.tests.specs.declared.tallies.Reached.{Reached}
use Rattle.tests.specs.declared.tallies.Tally.{Tally}
use Rattle.tests.proofs.counter.CounterMachine.expand.Goals as goal

-- what the horizon leaves out
abbrev far : ℕ → List Tally → Horizon → Tally → Type 0
far target initials = IsBeyond (counting target initials) (estimate target)

-- a measure goes by the tally alone, whatever the machine begins with
same_left : (target : ℕ) (initials : List Tally) (measure : Measure) (c : Tally)
    → measure_of (counting target []) (estimate target) measure c ≡ measure_of (counting target initials) (estimate target) measure c
same_left target initials OpenNodes c = refl
same_left target initials LowerBound c = refl

pub returns-clause-whole : goal.returns-clause-whole
returns-clause-whole c =
    let target = c.args.self.now.target in
    let initials = clipped c.args.self.now.first ∷ clipped c.args.self.now.second ∷ [] in
    let keys = c.args.tables.now.tallies.keys in
    let horizon = c.args.horizon in
    let from : Tally = c.tally-tally.result in
    let s : Successor Reached = c.successor.result in
    let t : Successor Reached = c.successor-2.result in
    let x : Measured Reached = record { successor = s; left = c.left_of.result } in
    let y : Measured Reached = record { successor = t; left = c.left_of-2.result } in
    let before = c.args.successors.now.items in
    let some : 0 < from.tasks = omega (arith, c.if-tally-eq0.false) in
    let own = both_successors target initials from c.if-tally.false some (far target initials horizon) c.args.rank (successor_at (written keys) s) (successor_at (written keys) t)
    c.successor.ensures.origin (c.successor.ensures.same ∙ c.carry_out-less.ensures) c.successor-2.ensures.origin (c.successor-2.ensures.same ∙ c.double-more.ensures)
    (λ done. true≢false (sym done ∙ ap (counting target []).is_done (sym c.carry_out-less.ensures) ∙ sym c.is_wanted.ensures ∙ c.if-is_wanted.false)) in
    let measure = measure_of (counting target initials) (estimate target) horizon.measure in
    let is_measured = λ (r : Measured Reached). r.left ≡ measure (written keys r.successor.configuration) in
    let first : is_measured x = c.left_of.ensures ∙ same_left target initials horizon.measure c.carry_out-less.result ∙ ap measure (sym c.successor.ensures.same) in
    let second : is_measured y = c.left_of-2.ensures ∙ same_left target initials horizon.measure c.double-more.result ∙ ap measure (sym c.successor-2.ensures.same) in (
      x ∷ y ∷ [],
      c.in_ok-push-2.ensures.items ∙ ap (λ l. l ++ y ∷ []) c.in_ok-push.ensures.items ∙ append_assoc before (x ∷ []) (y ∷ []),
      (
        All-cons (λ (r : Successor Reached). is_written keys r.configuration) s (t ∷ []) c.successor.ensures.allowed
            (All-cons (λ (r : Successor Reached). is_written keys r.configuration) t [] c.successor-2.ensures.allowed (All-nil (λ (r : Successor Reached). is_written keys r.configuration))),
        subst (λ x. IsExpansionOf (IsLiveStep (counting target initials)) (IsDone (counting target initials)) (far target initials horizon) c.args.rank x (successor_at (written keys) s ∷ successor_at (written keys) t ∷ [])) c.tally-tally.ensures own,
      ),
      All-cons is_measured x (y ∷ []) first (All-cons is_measured y [] second (All-nil is_measured)),
    )
