use Rattle.std.proofs.Common.{length, map, take, ap, subst, sym}
use Rattle.word_machine.specs.declared.closed.Measured.{Measured}
use Rattle.word_machine.specs.declared.closed.Successor.{Successor}
use Rattle.word_machine.specs.Machine.{IsDone, IsLawful, IsLiveStep}
use Rattle.word_machine.specs.Answer.{IsBeyond, measure_of}
use Rattle.word_machine.specs.Contents.{IsOriginWithin}
use Rattle.word_machine.specs.Expansion.{IsExpansion}
use Rattle.word_machine.specs.Meaning.{contents_at, successor_at, successors_of}
use Rattle.word_machine.proofs.Meanings.{all_of_map, all_owned, grown_more, known_still, same_points}
use Rattle.word_machine.proofs.Advancing.{block_whole, block_done, expansion_belongs, expansion_within, owned_known, points_belong, AreOffered-all}
use Rattle.word_machine.proofs.advance.advance_block.Given as given
use Rattle.word_machine.proofs.advance.advance_block.Goals as goal

-- the machine's laws
laws : (g : given.Over) (machine : g.row.M.Denot) → IsLawful (g.M.Machine.words machine) (g.M.Machine.belongs machine)
laws g machine = (g.met.M.Machine g.world.𝓛 g.world.𝓜 g.world.𝓡 ((λ s x. x), (λ x. x), (λ x. x), λ x. x)).lawful machine

pub merge-requires-clause-allowed : goal.merge-requires-clause-allowed
merge-requires-clause-allowed g c κs within =
    let machine = c.args.machine.now in
    let m = g.M.Machine.words machine in
    let meaning = g.M.Machine.meaning machine c.prepare_ranks.new.tables in
    let beyond = IsBeyond m (g.M.Machine.estimate machine) c.args.horizon in
    let left = measure_of m (g.M.Machine.estimate machine) c.args.horizon.measure in
    let keys = c.args.closed.now.keys in
    let all = block_whole m meaning beyond left keys (take c.args.to c.configurations.result.now) c.args.from c.args.to c.requires.within (ap (take c.args.to) c.configurations.ensures) c.in_ok-reached.field-0 c.in_ok-reached.ensures.expanded c.in-Whole.reached c.in-Whole.is in
    all_of_map (λ (t : Measured g.row.M-Reached.Denot). t.successor)
    (λ (t : Successor g.row.M-Reached.Denot). meaning.allows t.configuration) c.in-Whole.reached all.0

pub merge-requires-clause-measured : goal.merge-requires-clause-measured
merge-requires-clause-measured g c κs within =
    let machine = c.args.machine.now in
    let m = g.M.Machine.words machine in
    let meaning = g.M.Machine.meaning machine c.prepare_ranks.new.tables in
    let beyond = IsBeyond m (g.M.Machine.estimate machine) c.args.horizon in
    let left = measure_of m (g.M.Machine.estimate machine) c.args.horizon.measure in
    let keys = c.args.closed.now.keys in
    let all = block_whole m meaning beyond left keys (take c.args.to c.configurations.result.now) c.args.from c.args.to c.requires.within (ap (take c.args.to) c.configurations.ensures) c.in_ok-reached.field-0 c.in_ok-reached.ensures.expanded c.in-Whole.reached c.in-Whole.is in
    all.2

pub merge-requires-clause-belongs : goal.merge-requires-clause-belongs
merge-requires-clause-belongs g c κs within =
    let machine = c.args.machine.now in
    let m = g.M.Machine.words machine in
    let old = g.M.Machine.meaning machine c.args.tables.now in
    let meaning = g.M.Machine.meaning machine c.prepare_ranks.new.tables in
    let belongs = g.M.Machine.belongs machine in
    let beyond = IsBeyond m (g.M.Machine.estimate machine) c.args.horizon in
    let left = measure_of m (g.M.Machine.estimate machine) c.args.horizon.measure in
    let keys = c.args.closed.now.keys in
    let all = block_whole m meaning beyond left keys (take c.args.to c.configurations.result.now) c.args.from c.args.to c.requires.within (ap (take c.args.to) c.configurations.ensures) c.in_ok-reached.field-0 c.in_ok-reached.ensures.expanded c.in-Whole.reached c.in-Whole.is in
    let plain = successors_of c.in-Whole.reached in
    all_of_map (λ (t : Measured g.row.M-Reached.Denot). t.successor)
    (λ (t : Successor g.row.M-Reached.Denot). belongs (meaning.point_of t.configuration)) c.in-Whole.reached
    (all_of_map (successor_at meaning.point_of) (λ (t : Successor g.M.Machine.Point). belongs t.configuration) plain
    (expansion_belongs m beyond belongs (laws g machine) (map meaning.point keys) c.args.from c.args.to (points_belong old meaning belongs c.in_ok-prepare_ranks.ensures.grown keys c.requires.known)
    (map (successor_at meaning.point_of) plain) all.1))

pub merge-requires-clause-within : goal.merge-requires-clause-within
merge-requires-clause-within g c κs within =
    let machine = c.args.machine.now in
    let m = g.M.Machine.words machine in
    let meaning = g.M.Machine.meaning machine c.prepare_ranks.new.tables in
    let beyond = IsBeyond m (g.M.Machine.estimate machine) c.args.horizon in
    let left = measure_of m (g.M.Machine.estimate machine) c.args.horizon.measure in
    let keys = c.args.closed.now.keys in
    let all = block_whole m meaning beyond left keys (take c.args.to c.configurations.result.now) c.args.from c.args.to c.requires.within (ap (take c.args.to) c.configurations.ensures) c.in_ok-reached.field-0 c.in_ok-reached.ensures.expanded c.in-Whole.reached c.in-Whole.is in
    let plain = successors_of c.in-Whole.reached in
    all_of_map (λ (t : Measured g.row.M-Reached.Denot). t.successor)
    (λ (t : Successor g.row.M-Reached.Denot). IsOriginWithin (length keys) t.origin) c.in-Whole.reached
    (all_of_map (successor_at meaning.point_of) (λ (t : Successor g.M.Machine.Point). IsOriginWithin (length keys) t.origin) plain
    (expansion_within m beyond (map meaning.point keys) c.args.from c.args.to (length keys) c.requires.within (map (successor_at meaning.point_of) plain) all.1))

pub returns-in_ok-merge-in-Whole-clause-known : goal.returns-in_ok-merge-in-Whole-clause-known
returns-in_ok-merge-in-Whole-clause-known g c =
    let machine = c.args.machine.now in
    let m = g.M.Machine.words machine in
    let old = g.M.Machine.meaning machine c.args.tables.now in
    let meaning = g.M.Machine.meaning machine c.prepare_ranks.new.tables in
    let new = g.M.Machine.meaning machine c.merge.new.tables in
    let belongs = g.M.Machine.belongs machine in
    let beyond = IsBeyond m (g.M.Machine.estimate machine) c.args.horizon in
    let left = measure_of m (g.M.Machine.estimate machine) c.args.horizon.measure in
    let keys = c.args.closed.now.keys in
    let all = block_whole m meaning beyond left keys (take c.args.to c.configurations.result.now) c.args.from c.args.to c.requires.within (ap (take c.args.to) c.configurations.ensures) c.in_ok-reached.field-0 c.in_ok-reached.ensures.expanded c.in-Whole.reached c.in-Whole.is in
    let reached = map (successor_at meaning.point_of) (successors_of c.in-Whole.reached) in
    let own = expansion_belongs m beyond belongs (laws g machine) (map meaning.point keys) c.args.from c.args.to (points_belong old meaning belongs c.in_ok-prepare_ranks.ensures.grown keys c.requires.known) reached all.1 in
    let grown = grown_more old meaning new c.in_ok-prepare_ranks.ensures.grown c.in_ok-merge-in-Whole.ensures.grown in
    all_owned new belongs c.merge.new.closed.keys c.in_ok-merge-in-Whole.ensures.known
    (AreOffered-all left c.args.room belongs (contents_at new.point c.args.closed.now) (contents_at new.point c.merge.new.closed) reached
    c.in_ok-merge-in-Whole.ensures.offered (points_belong old new belongs grown keys c.requires.known) own)

pub returns-in_ok-merge-in-Whole-clause-whole : goal.returns-in_ok-merge-in-Whole-clause-whole
returns-in_ok-merge-in-Whole-clause-whole g c =
    let machine = c.args.machine.now in
    let m = g.M.Machine.words machine in
    let old = g.M.Machine.meaning machine c.args.tables.now in
    let meaning = g.M.Machine.meaning machine c.prepare_ranks.new.tables in
    let new = g.M.Machine.meaning machine c.merge.new.tables in
    let beyond = IsBeyond m (g.M.Machine.estimate machine) c.args.horizon in
    let left = measure_of m (g.M.Machine.estimate machine) c.args.horizon.measure in
    let keys = c.args.closed.now.keys in
    let all = block_whole m meaning beyond left keys (take c.args.to c.configurations.result.now) c.args.from c.args.to c.requires.within (ap (take c.args.to) c.configurations.ensures) c.in_ok-reached.field-0 c.in_ok-reached.ensures.expanded c.in-Whole.reached c.in-Whole.is in
    let reached = map (successor_at meaning.point_of) (successors_of c.in-Whole.reached) in
    let known = known_still old meaning c.in_ok-prepare_ranks.ensures.grown keys (owned_known old (g.M.Machine.belongs machine) keys c.requires.known) in (
      reached,
      subst (λ l. IsExpansion (IsLiveStep m) (IsDone m) beyond l c.args.from c.args.to reached) (sym (same_points meaning new c.in_ok-merge-in-Whole.ensures.grown keys known)) all.1,
      c.in_ok-merge-in-Whole.ensures.offered,
    )

pub returns-in-Done-clause-done : goal.returns-in-Done-clause-done
returns-in-Done-clause-done g c =
    let machine = c.args.machine.now in
    let m = g.M.Machine.words machine in
    let meaning = g.M.Machine.meaning machine c.prepare_ranks.new.tables in
    let beyond = IsBeyond m (g.M.Machine.estimate machine) c.args.horizon in
    let left = measure_of m (g.M.Machine.estimate machine) c.args.horizon.measure in
    block_done m meaning beyond left c.args.closed.now.keys (take c.args.to c.configurations.result.now) c.args.from c.args.to c.requires.within (ap (take c.args.to) c.configurations.ensures) c.in_ok-reached.field-0 c.in_ok-reached.ensures.expanded c.in-Done.rank c.in-Done.finish c.in-Done.is
