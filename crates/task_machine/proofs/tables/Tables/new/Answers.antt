use Rattle.std.proofs.Common.{rules, ◌≡◌, ◌∙◌, ◌&&◌, List, ℕ, false, get_or, not, ap, sym, subst, slice_get}
use Rattle.std.proofs.lemmas.Option.{none-some}
use Rattle.htn_model.specs.Literal.{Literal}
use Rattle.htn_model.specs.State.{State, contains}
use Rattle.state_table.specs.Compiled.{AreCompiled}
use Rattle.state_table.specs.Numberings.{IsNumbering}
use Rattle.state_table.specs.Table.{is_changed, is_fluent}
use Rattle.state_table.proofs.Keys.{numbering_none}
use Rattle.task_machine.specs.Steps.{live_networks}
use Rattle.task_machine.specs.Tables.{slot}
use Rattle.task_machine.proofs.Owned.{atoms_later}
use Rattle.heuristics.specs.Sizes.{size_of}
use Rattle.task_machine.proofs.tables.Tables.new.Goals as goal

pub returns-clause-own : goal.returns-clause-own
returns-clause-own c =
    let t = c.args.task.now in
    let atoms = c.in_ok-atoms.atoms in
    let first = c.in_ok-atoms.ensures in
    let flags : c.in_ok-fluents.fluents.items ≡ c.fluents.result.now = search rules in record {
      atoms = atoms_later t atoms c.of.new.table c.in_ok-goal.ensures.later (record {
        table = first.table;
        fluents = λ p. ap (λ f. is_changed f p) first.fluents ∙ ap (λ l. get_or l p false) flags ∙ c.fluents.ensures p;
        statics = λ a. first.statics a ∙ ap (λ (s : State). contains s a && not (is_fluent atoms a)) c.initial_atoms.ensures.value;
      });
      numbering = subst (λ (l : List (List ℕ)). IsNumbering l) (sym c.new-3.ensures) numbering_none;
      sets = λ i words at. absurd (none-some words (sym (ap (λ (l : List (List ℕ)). slice_get l i) c.new-3.ensures) ∙ at));
      networks = c.in_ok-networks.ensures.whole;
      sound = c.in_ok-networks.ensures.sound (live_networks t);
      goal = subst (λ (l : List Literal). AreCompiled c.of.new.table c.in_ok-goal.goal l) (c.as_slice.ensures ∙ c.in_ok-literals.ensures) c.in_ok-goal.ensures.compiled;
      performers = λ n p is. absurd (none-some p (sym (ap (λ l. slot l n) c.new-4.ensures.items) ∙ is));
      performed = λ n e is. absurd (none-some e (sym (c.in_ok-networks.ensures.none n) ∙ is));
      instances = λ n found is. absurd (none-some found (sym (ap (λ l. slot l n) c.new-5.ensures.items) ∙ is));
    }

pub returns-clause-sized : goal.returns-clause-sized
returns-clause-sized c = λ sizes. c.in_ok-networks.ensures.bounds (size_of sizes)

pub returns-clause-goal : goal.returns-clause-goal
returns-clause-goal c = c.new-6.ensures.goal ∙ c.in_ok-literals.ensures

pub returns-clause-none : goal.returns-clause-none
returns-clause-none c = (c.new-6.ensures.none, c.in_ok-networks.ensures.empty)

pub returns-clause-nothing_noted : goal.returns-clause-nothing_noted
returns-clause-nothing_noted c = (c.new-6.ensures.no_nodes, c.new-6.ensures.no_goals, c.new-6.ensures.no_lists)
