use Rattle.std.proofs.Common.{◌∙◌, [], ◌∷◌, List, All, None, arith, refl, subst, take}
use Rattle.std.proofs.lemmas.List.{take_all}
use Rattle.std.proofs.lemmas.List.Elements.{All-more, All-nil}
use Rattle.network_table.specs.Networks.{Knows}
use Rattle.task_machine.specs.Blocks.{IsListed, networks_of}
use Rattle.task_machine.specs.declared.prepare_all.Listed.{Listed}
use Rattle.task_machine.specs.declared.tables.Tables.{Tables}
use Rattle.task_machine.proofs.Blocks.{all_known_later, all_listed_stay, all_of_map, first_later, known_taken}
use Rattle.task_machine.proofs.Owned.{later_tables_itself, later_tables_then}
use Rattle.task_machine.proofs.tables.Tables.prepare_firsts.Goals as goal

-- what stands past the end of a list
abbrev nothing : Listed
nothing = record { network = 0; node = None }

-- none of nothing is listed
none_listed : (s : Tables) (block : List Listed) → All (λ (x : Listed). IsListed s x.network x.node) (take 0 block)
none_listed s [] = All-nil (λ (x : Listed). IsListed s x.network x.node)
none_listed s (l ∷ block) = All-nil (λ (x : Listed). IsListed s x.network x.node)

pub loop-one-init : goal.loop-one-init
loop-one-init c = record {
  owned = c.requires.own;
  sized = c.requires.sized;
  later = later_tables_itself c.args.task.now c.args.self.now c.requires.own;
  needs = refl;
  listed = none_listed c.args.self.now c.args.block.now;
}

pub prepare_first-requires-clause-own : goal.prepare_first-requires-clause-own
prepare_first-requires-clause-own c = c.loop-one.invariant.owned

pub prepare_first-requires-clause-sized : goal.prepare_first-requires-clause-sized
prepare_first-requires-clause-sized c = c.loop-one.invariant.sized

pub prepare_first-requires-clause-known : goal.prepare_first-requires-clause-known
prepare_first-requires-clause-known c =
    let block = c.args.block.now in
    let s = c.loop-one.self.networks in
    let later = all_known_later c.args.self.now.networks s c.requires.own.networks c.loop-one.invariant.later.networks (networks_of block) c.requires.known in
    all_of_map (Knows s) (λ (x : Listed). x.network) block later c.loop-one.one-index nothing c.loop-one-test.true

pub prepare_first-requires-clause-first : goal.prepare_first-requires-clause-first
prepare_first-requires-clause-first c =
    let block = c.args.block.now in
    let start = c.args.self.now.networks in
    let k = c.loop-one.one-index in
    let known = all_of_map (Knows start) (λ (x : Listed). x.network) block c.requires.known in
    first_later start c.loop-one.self.networks c.requires.own.networks c.loop-one.invariant.later.networks _ _ (known k nothing c.loop-one-test.true) (c.requires.first k nothing c.loop-one-test.true)

pub loop-one-preserved : goal.loop-one-preserved
loop-one-preserved c =
    let t = c.args.task.now in
    let start = c.args.self.now in
    let s = c.loop-one.self in
    let u = c.prepare_first.new.self in
    let i = c.loop-one.invariant in
    let k = c.loop-one.one-index in
    let block = c.args.block.now in
    let did = c.in_ok-prepare_first.ensures in
    let inside = c.loop-one-test.true in
    let known = all_known_later start.networks s.networks c.requires.own.networks i.later.networks (networks_of block) c.requires.known in
    let listed = all_listed_stay t s u i.owned did.later did.kept (take k block) (known_taken s.networks block k known) i.listed in
    record {
      owned = did.owned;
      sized = did.sized;
      later = later_tables_then start s u i.later did.later;
      needs = did.needs ∙ i.needs;
      listed = All-more (λ (x : Listed). IsListed u x.network x.node) block k nothing inside listed did.listed;
    }

pub returns-clause-owned : goal.returns-clause-owned
returns-clause-owned c = c.loop-one.invariant.owned

pub returns-clause-sized : goal.returns-clause-sized
returns-clause-sized c = c.loop-one.invariant.sized

pub returns-clause-later : goal.returns-clause-later
returns-clause-later c = c.loop-one.invariant.later

pub returns-clause-needs : goal.returns-clause-needs
returns-clause-needs c = c.loop-one.invariant.needs

pub returns-clause-listed : goal.returns-clause-listed
returns-clause-listed c =
    let s = c.loop-one.self in
    subst (All (λ (x : Listed). IsListed s x.network x.node))
    (take_all c.loop-one.one-index c.args.block.now (omega (arith, c.loop-one-test.false))) c.loop-one.invariant.listed
