use Rattle.std.proofs.Common.{◌≡◌, All, Contains, None, arith, get_or, is_some, subst, sym, take}
use Rattle.std.proofs.lemmas.List.{take_all}
use Rattle.std.proofs.lemmas.List.Elements.{All-more}
use Rattle.network_table.specs.Networks.{expansion_at, Knows}
use Rattle.network_table.proofs.Expanding.{all_more}
use Rattle.task_machine.specs.declared.configuration.Configuration.{Configuration}
use Rattle.task_machine.proofs.Blocks.{noted_all, noted_stays, noted_there}
use Rattle.task_machine.proofs.prepare_all.unexpanded.Goals as goal

pub note_unexpanded-requires-clause-known : goal.note_unexpanded-requires-clause-known
note_unexpanded-requires-clause-known c = c.requires.known c.loop-configuration.configuration-index (record { state = 0; network = 0 }) c.loop-configuration-test.true

pub loop-configuration-preserved : goal.loop-configuration-preserved
loop-configuration-preserved c =
    let t = c.args.networks.now in
    let at = c.args.at.now in
    let k = c.loop-configuration.configuration-index in
    let i = c.loop-configuration.invariant in
    let no : Configuration = record { state = 0; network = 0 } in
    let n = (get_or at k no).network in
    let old = c.loop-configuration.todo.keys in
    let new = c.note_unexpanded.new.todo.keys in
    let there = is_some (expansion_at t n) in
    let is = c.in_ok-note_unexpanded.ensures in
    let before : Configuration → Type 0 = λ x. expansion_at t x.network ≡ None → Contains old x.network in
    let after : Configuration → Type 0 = λ x. expansion_at t x.network ≡ None → Contains new x.network in
    record {
      known = subst (All (Knows t)) (sym is) (noted_all (Knows t) there old n i.known (c.requires.known k no c.loop-configuration-test.true));
      all = All-more after at k no c.loop-configuration-test.true
          (all_more before after (λ x has none. subst (λ l. Contains l x.network) (sym is) (noted_stays there old n x.network (has none))) (take k at) i.all)
          (λ none. subst (λ l. Contains l n) (sym is) (noted_there (expansion_at t n) old n none));
    }

pub returns-clause-all : goal.returns-clause-all
returns-clause-all c =
    let t = c.args.networks.now in
    let keys = c.loop-configuration.todo.keys in
    subst (All (λ (x : Configuration). expansion_at t x.network ≡ None → Contains keys x.network))
    (take_all c.loop-configuration.configuration-index c.args.at.now (omega (arith, c.loop-configuration-test.false))) c.loop-configuration.invariant.all
