use Rattle.std.proofs.Common.{◌≡◌, ◌≤◌, ◌++◌, [], length, map, ap, subst, sym, ◌∙◌, arith, append_assoc, length-append}
use Rattle.std.proofs.lemmas.List.{append-nil}
use Rattle.std.proofs.lemmas.Option.{MatchOption-at_some, MatchOption-at_none}
use Rattle.word_machine.specs.declared.advance.FirstDone.{FirstDone}
use Rattle.word_machine.specs.Answer.{IsBeyond, measure_of}
use Rattle.word_machine.specs.Expansion.{IsFirstDone}
use Rattle.word_machine.specs.Machine.{IsDone, IsLiveStep}
use Rattle.word_machine.specs.Advance.{HasAdvanced}
use Rattle.word_machine.specs.Meaning.{contents_at}
use Rattle.word_machine.proofs.Meanings.{grown_more, grown_none, known_still}
use Rattle.word_machine.proofs.Advancing.{advanced_none, advanced_more, advanced_done, owned_known, same_done}
use Rattle.word_machine.proofs.advance.advance.Goals as goal

pub loop-from-init : goal.loop-from-init
loop-from-init g c =
    let machine = c.args.machine.now in
    let m = g.M.Machine.words machine in
    let old = g.M.Machine.meaning machine c.args.tables.now in
    let closed = c.args.closed.now in
    let many : length c.configurations-high.result.now ≡ length closed.keys = ap length c.configurations-high.ensures in
    let within : c.args.low ≤ length closed.keys = c.requires.ordered in
    record {
      late = omega arith;
      early = omega arith;
      own = c.requires.own;
      grown = grown_none old;
      known = c.requires.known;
      advanced = advanced_none m (IsBeyond m (g.M.Machine.estimate machine) c.args.horizon) (measure_of m (g.M.Machine.estimate machine) c.args.horizon.measure) c.args.room (map old.point closed.keys) c.args.low (contents_at old.point closed);
      keys = ([], sym (append-nil closed.keys));
      origins = ([], sym (append-nil closed.origins));
      becomes = g.met.W.Watch.stays c.args.watch.now;
    }

pub advance_block-requires-clause-within : goal.advance_block-requires-clause-within
advance_block-requires-clause-within g c = λ _ _.
    let i = c.loop-from.invariant in
    let many : length c.configurations-high.result.now ≡ length c.args.closed.now.keys = ap length c.configurations-high.ensures in
    let more : length c.loop-from.closed.keys ≡ length (c.args.closed.now.keys ++ i.keys.0) = ap length i.keys.1 in
    omega (arith, length-append c.args.closed.now.keys i.keys.0)

pub advance_block-requires-clause-own : goal.advance_block-requires-clause-own
advance_block-requires-clause-own g c = λ _ _. c.loop-from.invariant.own

pub advance_block-requires-clause-known : goal.advance_block-requires-clause-known
advance_block-requires-clause-known g c = λ _ _. c.loop-from.invariant.known

pub returns-in-Some-clause-grown : goal.returns-in-Some-clause-grown
returns-in-Some-clause-grown g c =
    let machine = c.args.machine.now in
    grown_more (g.M.Machine.meaning machine c.args.tables.now) (g.M.Machine.meaning machine c.loop-from.tables) (g.M.Machine.meaning machine c.advance_block.new.tables)
    c.loop-from.invariant.grown c.in_ok-done.ensures.grown

pub returns-in-Some-clause-done : goal.returns-in-Some-clause-done
returns-in-Some-clause-done g c = λ first told.
    let machine = c.args.machine.now in
    let m = g.M.Machine.words machine in
    let start = g.M.Machine.meaning machine c.args.tables.now in
    let old = g.M.Machine.meaning machine c.loop-from.tables in
    let new = g.M.Machine.meaning machine c.advance_block.new.tables in
    let closed = c.args.closed.now in
    let i = c.loop-from.invariant in
    let many : length c.configurations-high.result.now ≡ length closed.keys = ap length c.configurations-high.ensures in
    subst (λ (f : FirstDone). IsFirstDone (IsLiveStep m) (IsDone m) (map new.point closed.keys) c.args.low (length closed.keys) f.rank f.number) (same_done c.in-Some.done first told)
    (advanced_done m (IsBeyond m (g.M.Machine.estimate machine) c.args.horizon) (measure_of m (g.M.Machine.estimate machine) c.args.horizon.measure) c.args.room
    old new c.in_ok-done.ensures.grown closed c.loop-from.closed i.keys.0 c.args.low c.loop-from.from c.min-to.result c.in-Some.done.rank c.in-Some.done.number
    (known_still start old i.grown closed.keys (owned_known start (g.M.Machine.belongs machine) closed.keys c.requires.known))
    i.keys.1 i.late (omega arith) i.advanced (MatchOption-at_some _ _ _ c.in-Some.is c.in_ok-done.ensures.done))

pub returns-in-Some-clause-keys : goal.returns-in-Some-clause-keys
returns-in-Some-clause-keys g c =
    let i = c.loop-from.invariant in
    let more = c.in_ok-done.ensures.keys in
    (i.keys.0 ++ more.0, more.1 ∙ ap (λ l. l ++ more.0) i.keys.1 ∙ append_assoc c.args.closed.now.keys i.keys.0 more.0)

pub returns-in-Some-clause-origins : goal.returns-in-Some-clause-origins
returns-in-Some-clause-origins g c =
    let i = c.loop-from.invariant in
    let more = c.in_ok-done.ensures.origins in
    (i.origins.0 ++ more.0, more.1 ∙ ap (λ l. l ++ more.0) i.origins.1 ∙ append_assoc c.args.closed.now.origins i.origins.0 more.0)

pub loop-from-preserved : goal.loop-from-preserved
loop-from-preserved g c =
    let machine = c.args.machine.now in
    let m = g.M.Machine.words machine in
    let belongs = g.M.Machine.belongs machine in
    let first = g.M.Machine.meaning machine c.args.tables.now in
    let old = g.M.Machine.meaning machine c.loop-from.tables in
    let new = g.M.Machine.meaning machine c.advance_block.new.tables in
    let closed = c.args.closed.now in
    let i = c.loop-from.invariant in
    let late = i.late in
    let keys = c.in_ok-done.ensures.keys in
    let origins = c.in_ok-done.ensures.origins in
    let many : length c.configurations-high.result.now ≡ length closed.keys = ap length c.configurations-high.ensures in
    record {
      late = omega arith;
      early = omega arith;
      own = c.in_ok-done.ensures.owned;
      grown = grown_more first old new i.grown c.in_ok-done.ensures.grown;
      known = c.in_ok-done.ensures.known;
      advanced = advanced_more m (IsBeyond m (g.M.Machine.estimate machine) c.args.horizon) (measure_of m (g.M.Machine.estimate machine) c.args.horizon.measure) c.args.room
          old new c.in_ok-done.ensures.grown closed c.loop-from.closed c.advance_block.new.closed i.keys.0 c.args.low c.loop-from.from c.min-to.result
          (known_still first old i.grown closed.keys (owned_known first belongs closed.keys c.requires.known))
          (owned_known old belongs c.loop-from.closed.keys i.known)
          i.keys.1 i.late (omega arith) (omega arith) i.advanced (MatchOption-at_none _ _ c.in_default.is c.in_ok-done.ensures.whole);
      keys = (i.keys.0 ++ keys.0, keys.1 ∙ ap (λ l. l ++ keys.0) i.keys.1 ∙ append_assoc closed.keys i.keys.0 keys.0);
      origins = (i.origins.0 ++ origins.0, origins.1 ∙ ap (λ l. l ++ origins.0) i.origins.1 ∙ append_assoc closed.origins i.origins.0 origins.0);
      becomes = g.met.W.Watch.joins c.args.watch.now c.loop-from.watch c.goes_on_if.new.watch i.becomes c.goes_on_if.ensures.becomes;
    }

pub returns-clause-owned : goal.returns-clause-owned
returns-clause-owned g c = c.loop-from.invariant.own

pub returns-clause-grown : goal.returns-clause-grown
returns-clause-grown g c = c.loop-from.invariant.grown

pub returns-clause-known : goal.returns-clause-known
returns-clause-known g c = c.loop-from.invariant.known

pub returns-clause-whole : goal.returns-clause-whole
returns-clause-whole g c = λ _.
    let machine = c.args.machine.now in
    let m = g.M.Machine.words machine in
    let new = g.M.Machine.meaning machine c.loop-from.tables in
    let closed = c.args.closed.now in
    let i = c.loop-from.invariant in
    let early = i.early in
    let late = c.loop-from-test.false in
    let many : length c.configurations-high.result.now ≡ length closed.keys = ap length c.configurations-high.ensures in
    let end : c.loop-from.from ≡ length closed.keys = omega arith in
    subst (λ n. HasAdvanced m (IsBeyond m (g.M.Machine.estimate machine) c.args.horizon) (measure_of m (g.M.Machine.estimate machine) c.args.horizon.measure) c.args.room (map new.point closed.keys) c.args.low n (contents_at new.point closed) (contents_at new.point c.loop-from.closed)) end i.advanced

pub returns-clause-keys : goal.returns-clause-keys
returns-clause-keys g c = c.loop-from.invariant.keys

pub returns-clause-origins : goal.returns-clause-origins
returns-clause-origins g c = c.loop-from.invariant.origins
