use Rattle.std.proofs.Common.{rules, map, ◌≡◌, ◌<◌, sym, subst, min, arith, All}
use Rattle.word_machine.specs.Dive.{IsVisited, extent}
use Rattle.word_machine.proofs.Diving.{met_by, not_kept}
use Rattle.word_machine.proofs.Meanings.{all_at, all_by, grown_more, grown_none}
use Rattle.word_machine.proofs.dive.dive_from.Given as given
use Rattle.word_machine.proofs.dive.dive_from.Goals as goal

pub returns-then-not-contains-clause-met : goal.returns-then-not-contains-clause-met
returns-then-not-contains-clause-met g c = λ _.
    let machine = c.args.machine.now in
    let m = g.M.Machine.words machine in
    let lower = g.M.Machine.estimate machine in
    let meaning = g.M.Machine.meaning machine c.loop-turn.tables in
    let next = c.in-Some.ensures.next in
    let visited = all_at (IsVisited m (g.M.Machine.belongs machine) meaning) c.loop-turn.frontier.kept.keys c.loop-turn.invariant.kept next.0 c.in-Some.from next.1 in
    let told : c.extent.result ≡ min (extent m lower c.args.least (meaning.point c.in-Some.from)) 18446744073709551615 = c.extent.ensures in
    let past : c.args.limits.bounds.nodes < extent m lower c.args.least (meaning.point c.in-Some.from) = omega arith in
    let old = g.M.Machine.meaning machine c.args.tables.now in
    let keys = c.args.closed.now.keys in
    let met = g.met.M.Machine g.world.𝓛 g.world.𝓜 g.world.𝓡 ((λ s x. x), (λ x. x), (λ x. x), λ x. x) in
    let apart = not_kept m (g.M.Machine.belongs machine) old meaning c.loop-turn.invariant.grown g.M.Configuration.PartialEq.eq met.same
    (g.met.M.Configuration.Eq g.world.𝓛 g.world.𝓜 g.world.𝓡 ((λ s x. x), (λ x. x), (λ x. x), λ x. x)).laws.refl
    (met.one_to_one machine c.loop-turn.tables c.loop-turn.invariant.own) keys
    (all_by (IsVisited m (g.M.Machine.belongs machine) old) old.knows (λ k v. v.0.0) keys c.requires.below.0)
    c.in-Some.from visited.0.0 (search rules) in
    met_by m lower c.args.least (map old.point keys) c.requires.below.1 c.args.limits.bounds.nodes (meaning.point c.in-Some.from) visited.1 apart past

pub extent-requires-clause-owned : goal.extent-requires-clause-owned
extent-requires-clause-owned g c = λ _ _.
    let machine = c.args.machine.now in
    let next = c.in-Some.ensures.next in
    (all_at (IsVisited (g.M.Machine.words machine) (g.M.Machine.belongs machine) (g.M.Machine.meaning machine c.loop-turn.tables)) c.loop-turn.frontier.kept.keys c.loop-turn.invariant.kept next.0 c.in-Some.from next.1).0

pub expand-requires-clause-kept : goal.expand-requires-clause-kept
expand-requires-clause-kept g c = λ _ _.
    let machine = c.args.machine.now in
    subst (All (IsVisited (g.M.Machine.words machine) (g.M.Machine.belongs machine) (g.M.Machine.meaning machine c.loop-turn.tables))) (sym c.in-Some.ensures.kept) c.loop-turn.invariant.kept

pub expand-requires-clause-from : goal.expand-requires-clause-from
expand-requires-clause-from g c = λ _ _.
    let machine = c.args.machine.now in
    let next = c.in-Some.ensures.next in
    all_at (IsVisited (g.M.Machine.words machine) (g.M.Machine.belongs machine) (g.M.Machine.meaning machine c.loop-turn.tables)) c.loop-turn.frontier.kept.keys c.loop-turn.invariant.kept next.0 c.in-Some.from next.1

pub loop-turn-init : goal.loop-turn-init
loop-turn-init g c = record {
  own = c.requires.own;
  grown = grown_none (g.M.Machine.meaning c.args.machine.now c.args.tables.now);
  kept = c.requires.kept;
  becomes = g.met.W.Watch.stays c.args.watch.now;
}

pub loop-turn-preserved : goal.loop-turn-preserved
loop-turn-preserved g c =
    let machine = c.args.machine.now in
    record {
      own = c.in_ok-expand.ensures.owned;
      grown = grown_more (g.M.Machine.meaning machine c.args.tables.now) (g.M.Machine.meaning machine c.loop-turn.tables) (g.M.Machine.meaning machine c.expand.new.tables)
          c.loop-turn.invariant.grown c.in_ok-expand.ensures.grown;
      kept = c.in_ok-expand.ensures.kept;
      becomes = g.met.W.Watch.joins c.args.watch.now c.loop-turn.watch c.goes_on_if.new.watch c.loop-turn.invariant.becomes c.goes_on_if.ensures.becomes;
    }
