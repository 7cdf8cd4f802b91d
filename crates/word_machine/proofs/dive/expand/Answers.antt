use Rattle.std.proofs.Common.{◌≡◌, ◌∷◌, ◌++◌, [], ap, ◌∙◌, rules, sym, subst, All, None}
use Rattle.std.proofs.lemmas.Option.{MatchOption-at_none}
use Rattle.std.proofs.lemmas.List.Elements.{All-head}
use Rattle.word_machine.specs.declared.closed.Measured.{Measured}
use Rattle.word_machine.specs.declared.closed.Successor.{Successor}
use Rattle.word_machine.specs.Machine.{IsLawful}
use Rattle.word_machine.specs.declared.measure.Horizon.{Horizon}
use Rattle.word_machine.specs.declared.measure.Measure.TheVariants.{LowerBound}
use Rattle.word_machine.specs.Answer.{IsBeyond}
use Rattle.word_machine.specs.Dive.{IsReached}
use Rattle.word_machine.specs.Meaning.{successors_of}
use Rattle.std.proofs.lemmas.Result.{on_ok_weaker}
use Rattle.word_machine.proofs.Meanings.{all_of_map, grown_more}
use Rattle.word_machine.proofs.Diving.{all_visited_still, successors_reached, visited_still}
use Rattle.word_machine.proofs.dive.expand.Given as given
use Rattle.word_machine.proofs.dive.expand.Goals as goal

-- the machine's laws
laws : (g : given.Over) (machine : g.row.M.Denot) → IsLawful (g.M.Machine.words machine) (g.M.Machine.belongs machine)
laws g machine = (g.met.M.Machine g.world.𝓛 g.world.𝓜 g.world.𝓡 ((λ s x. x), (λ x. x), (λ x. x), λ x. x)).lawful machine

-- a dive's horizon has no end
abbrev no_end : Horizon
no_end = record { measure = LowerBound; most_left = None }

pub keep_all-requires-clause-kept : goal.keep_all-requires-clause-kept
keep_all-requires-clause-kept g c = λ _ _.
    let machine = c.args.machine.now in
    all_visited_still (g.M.Machine.words machine) (g.M.Machine.belongs machine) (g.M.Machine.meaning machine c.args.tables.now) (g.M.Machine.meaning machine c.prepare_all.new.tables)
    c.in_ok-prepare_all.ensures.grown c.args.frontier.now.kept.keys c.requires.kept

pub keep_all-requires-clause-allowed : goal.keep_all-requires-clause-allowed
keep_all-requires-clause-allowed g c = λ _ _.
    let new = g.M.Machine.meaning c.args.machine.now c.prepare_all.new.tables in
    let listed = MatchOption-at_none _ _ c.in-None.is c.in_ok-expand.ensures.whole in
    let all : c.expand.new.successors.items ≡ listed.0 = listed.1 ∙ ap (λ l. l ++ listed.0) c.new-successors.ensures.items in
    subst (All (λ (s : Measured g.row.M-Reached.Denot). new.allows s.successor.configuration)) (sym all)
    (all_of_map (λ (s : Measured g.row.M-Reached.Denot). s.successor)
    (λ (s : Successor g.row.M-Reached.Denot). new.allows s.configuration) listed.0 listed.2.0)

pub keep_all-requires-clause-belongs : goal.keep_all-requires-clause-belongs
keep_all-requires-clause-belongs g c = λ _ _.
    let machine = c.args.machine.now in
    let m = g.M.Machine.words machine in
    let belongs = g.M.Machine.belongs machine in
    let new = g.M.Machine.meaning machine c.prepare_all.new.tables in
    let listed = MatchOption-at_none _ _ c.in-None.is c.in_ok-expand.ensures.whole in
    let all : c.expand.new.successors.items ≡ listed.0 = listed.1 ∙ ap (λ l. l ++ listed.0) c.new-successors.ensures.items in
    let from = visited_still m belongs (g.M.Machine.meaning machine c.args.tables.now) new c.in_ok-prepare_all.ensures.grown c.args.from c.requires.from in
    subst (All (λ (s : Measured g.row.M-Reached.Denot). belongs (new.point_of s.successor.configuration))) (sym all)
    (all_of_map (λ (s : Measured g.row.M-Reached.Denot). s.successor)
    (λ (s : Successor g.row.M-Reached.Denot). belongs (new.point_of s.configuration)) listed.0
    (successors_reached m belongs (laws g machine) new (IsBeyond m (g.M.Machine.estimate machine) no_end) 0 c.args.from
    (successors_of listed.0) from listed.2).0)

pub keep_all-requires-clause-reached : goal.keep_all-requires-clause-reached
keep_all-requires-clause-reached g c = λ _ _.
    let machine = c.args.machine.now in
    let m = g.M.Machine.words machine in
    let belongs = g.M.Machine.belongs machine in
    let new = g.M.Machine.meaning machine c.prepare_all.new.tables in
    let listed = MatchOption-at_none _ _ c.in-None.is c.in_ok-expand.ensures.whole in
    let all : c.expand.new.successors.items ≡ listed.0 = listed.1 ∙ ap (λ l. l ++ listed.0) c.new-successors.ensures.items in
    let from = visited_still m belongs (g.M.Machine.meaning machine c.args.tables.now) new c.in_ok-prepare_all.ensures.grown c.args.from c.requires.from in
    subst (All (λ (s : Measured g.row.M-Reached.Denot). IsReached m (new.point_of s.successor.configuration))) (sym all)
    (all_of_map (λ (s : Measured g.row.M-Reached.Denot). s.successor)
    (λ (s : Successor g.row.M-Reached.Denot). IsReached m (new.point_of s.configuration)) listed.0
    (successors_reached m belongs (laws g machine) new (IsBeyond m (g.M.Machine.estimate machine) no_end) 0 c.args.from
    (successors_of listed.0) from listed.2).1)

pub returns-clause-kept : goal.returns-clause-kept
returns-clause-kept g c =
    let machine = c.args.machine.now in
    all_visited_still (g.M.Machine.words machine) (g.M.Machine.belongs machine) (g.M.Machine.meaning machine c.args.tables.now) (g.M.Machine.meaning machine c.prepare_all.new.tables)
    c.in_ok-prepare_all.ensures.grown c.args.frontier.now.kept.keys c.requires.kept

pub returns-in-None-clause-grown : goal.returns-in-None-clause-grown
returns-in-None-clause-grown g c =
    let machine = c.args.machine.now in
    on_ok_weaker c.keep_all.result
    (grown_more (g.M.Machine.meaning machine c.args.tables.now) (g.M.Machine.meaning machine c.prepare_all.new.tables) (g.M.Machine.meaning machine c.keep_all.new.tables)
    c.in_ok-prepare_all.ensures.grown) c.keep_all.ensures.grown

pub expand-requires-clause-ready : goal.expand-requires-clause-ready
expand-requires-clause-ready g c =
    let ready = g.M.Machine.is_ready c.args.machine.now c.prepare_all.new.tables in
    let one : c.as_slice.result.now ≡ c.args.from ∷ [] = search rules in
    All-head ready c.args.from [] (subst (All ready) one c.in_ok-prepare_all.ensures.ready)
