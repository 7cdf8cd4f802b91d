use Rattle.std.proofs.Common.{◌≡◌, [], ◌∷◌, ◌++◌, ap, ◌∙◌, sym, subst, append_assoc, All}
use Rattle.std.specs.Vec.Iter.{into_iter_items}
use Rattle.word_machine.specs.declared.closed.Measured.{Measured}
use Rattle.word_machine.specs.Dive.{IsReached, IsVisited}
use Rattle.word_machine.proofs.Diving.{all_inserted, all_visited_still}
use Rattle.word_machine.proofs.Meanings.{grown_more}
use Rattle.word_machine.proofs.Places.{All-between}
use Rattle.word_machine.proofs.dive.keep_all.Goals as goal

pub extent-extent-requires-clause-owned : goal.extent-extent-requires-clause-owned
extent-extent-requires-clause-owned g c = λ _ _.
    let i = c.loop-one.invariant in
    let machine = c.args.machine.now in
    let m = g.M.Machine.words machine in
    let belongs = g.M.Machine.belongs machine in
    let old = g.M.Machine.meaning machine c.args.tables.now in
    let mid = g.M.Machine.meaning machine c.loop-one.tables in
    let new = g.M.Machine.meaning machine c.keep.new.tables in
    let done = c.loop-one.yielded in
    let s = c.in-Some.one in
    let x = c.in_ok-configuration.configuration in
    let rest = into_iter_items c.next.new.self in
    let next : into_iter_items c.loop-one.one-iterator ≡ s ∷ rest = c.in-Some.ensures.steps.0 in
    let joined : done ++ s ∷ rest ≡ c.args.batch.items = ap (λ l. done ++ l) (sym next) ∙ i.parts in
    let allowed = All-between (λ (t : Measured g.row.M-Reached.Denot). old.allows t.successor.configuration) done s rest c.args.batch.items joined c.requires.allowed in
    let own = All-between (λ (t : Measured g.row.M-Reached.Denot). belongs (old.point_of t.successor.configuration)) done s rest c.args.batch.items joined c.requires.belongs in
    let reached = All-between (λ (t : Measured g.row.M-Reached.Denot). IsReached m (old.point_of t.successor.configuration)) done s rest c.args.batch.items joined c.requires.reached in
    let same : old.point_of s.successor.configuration ≡ new.point x = sym (c.in_ok-configuration.ensures.same ∙ i.grown.same_reached s.successor.configuration allowed) in
    let visited : IsVisited m belongs new x = ((c.in_ok-configuration.ensures.known, subst belongs same own), subst (IsReached m) same reached) in
    visited.0

pub loop-one-preserved-then-contains : goal.loop-one-preserved-then-contains
loop-one-preserved-then-contains g c =
    let i = c.loop-one.invariant in
    let machine = c.args.machine.now in
    let old = g.M.Machine.meaning machine c.args.tables.now in
    let mid = g.M.Machine.meaning machine c.loop-one.tables in
    let new = g.M.Machine.meaning machine c.keep.new.tables in
    let done = c.loop-one.yielded in
    let s = c.in-Some.one in
    let rest = into_iter_items c.next.new.self in
    let next : into_iter_items c.loop-one.one-iterator ≡ s ∷ rest = c.in-Some.ensures.steps.0 in
    record {
      own = c.in_ok-configuration.ensures.owned;
      grown = grown_more old mid new i.grown c.in_ok-configuration.ensures.grown;
      kept = all_visited_still (g.M.Machine.words machine) (g.M.Machine.belongs machine) mid new c.in_ok-configuration.ensures.grown c.loop-one.frontier.kept.keys i.kept;
      parts = append_assoc done (s ∷ []) rest ∙ ap (λ l. done ++ l) (sym next) ∙ i.parts;
    }

pub loop-one-preserved : goal.loop-one-preserved
loop-one-preserved g c =
    let i = c.loop-one.invariant in
    let machine = c.args.machine.now in
    let m = g.M.Machine.words machine in
    let belongs = g.M.Machine.belongs machine in
    let old = g.M.Machine.meaning machine c.args.tables.now in
    let mid = g.M.Machine.meaning machine c.loop-one.tables in
    let new = g.M.Machine.meaning machine c.keep.new.tables in
    let done = c.loop-one.yielded in
    let s = c.in-Some.one in
    let x = c.in_ok-configuration.configuration in
    let rest = into_iter_items c.next.new.self in
    let next : into_iter_items c.loop-one.one-iterator ≡ s ∷ rest = c.in-Some.ensures.steps.0 in
    let joined : done ++ s ∷ rest ≡ c.args.batch.items = ap (λ l. done ++ l) (sym next) ∙ i.parts in
    let allowed = All-between (λ (t : Measured g.row.M-Reached.Denot). old.allows t.successor.configuration) done s rest c.args.batch.items joined c.requires.allowed in
    let own = All-between (λ (t : Measured g.row.M-Reached.Denot). belongs (old.point_of t.successor.configuration)) done s rest c.args.batch.items joined c.requires.belongs in
    let reached = All-between (λ (t : Measured g.row.M-Reached.Denot). IsReached m (old.point_of t.successor.configuration)) done s rest c.args.batch.items joined c.requires.reached in
    let same : old.point_of s.successor.configuration ≡ new.point x = sym (c.in_ok-configuration.ensures.same ∙ i.grown.same_reached s.successor.configuration allowed) in
    let visited : IsVisited m belongs new x = ((c.in_ok-configuration.ensures.known, subst belongs same own), subst (IsReached m) same reached) in
    record {
      own = c.in_ok-configuration.ensures.owned;
      grown = grown_more old mid new i.grown c.in_ok-configuration.ensures.grown;
      kept = subst (All (IsVisited m belongs new)) (sym c.in_ok-keep.ensures)
          (all_inserted g.M.Configuration.PartialEq.eq (IsVisited m belongs new) c.loop-one.frontier.kept.keys x
          (all_visited_still m belongs mid new c.in_ok-configuration.ensures.grown c.loop-one.frontier.kept.keys i.kept) visited);
      parts = append_assoc done (s ∷ []) rest ∙ joined;
    }
