use Rattle.std.proofs.Common.{rules, ◌≡◌, ◌<◌, ◌∙◌, ◌&&◌, List, [], Some, false, inl, inr, length, map, not, ap, arith, get_or, slice_get, subst, sym, ℕ}
use Rattle.std.specs.List.{AllZip}
use Rattle.std.proofs.lemmas.Option.{none-some, slice_get-get_or, slice_get_within}
use Rattle.htn_ground.specs.Views.{children_of}
use Rattle.htn_ground.specs.declared.child.Child.{Child as Node}
use Rattle.htn_model.specs.Literal.{Literal}
use Rattle.htn_model.specs.PlanFile.{IsWithoutRepeats}
use Rattle.htn_model.specs.State.{State, contains}
use Rattle.state_table.specs.Compiled.{AreCompiled}
use Rattle.state_table.specs.Table.{IsSetOf, is_changed, is_fluent, state_of}
use Rattle.state_table.proofs.States.{later_set, later_state}
use Rattle.heuristics.specs.Sizes.{size_of}
use Rattle.call_nodes.specs.Nodes.{AreAtoms, IsOperator}
use Rattle.call_nodes.specs.declared.operator.Operator.{Operator}
use Rattle.call_nodes.proofs.Staying.{atoms_later}
use Rattle.call_nodes.proofs.call_nodes.CallNodes.new.Goals as goal

pub returns-clause-own : goal.returns-clause-own
returns-clause-own c =
    let t = c.args.task.now in
    let made = c.in_ok-atoms.atoms in
    let first = c.in_ok-atoms.ensures in
    let flags : c.in_ok-fluents.fluents.items ≡ c.fluents.result.now = search rules in
    let before = c.initial_state.new.table in
    let atoms = c.of.new.table in
    let later = c.in_ok-goal.ensures.later in
    let start = c.in_ok-start.start in
    let states = c.keep.new.self in
    let told : AreAtoms t made = record {
      table = first.table;
      fluents = λ p. ap (λ f. is_changed f p) first.fluents ∙ ap (λ l. get_or l p false) flags ∙ c.fluents.ensures p;
      statics = λ a. first.statics a ∙ ap (λ (s : State). contains s a && not (is_fluent made a)) c.initial_atoms-initial.ensures.value;
    } in
    let begun : 0 < length states = (let in_use = slice_get_within states c.in_ok-keep.field-0 start c.in_ok-keep.ensures.number in omega (arith, in_use)) in
    let only : (i : ℕ) (other : List ℕ) → slice_get states i ≡ Some other → other ≡ start = λ i other at. elim (c.in_ok-keep.ensures.others i other at) [
      | inl was ↦ absurd (none-some other (sym (ap (λ (l : List (List ℕ)). slice_get l i) c.new-states.ensures) ∙ was))
      | inr is ↦ is
    ] in
    let empty = c.new-2.ensures.empty in record {
      atoms = atoms_later t before atoms later (atoms_later t made before c.in_ok-start.ensures.later told);
      begun = begun;
      start = ap (state_of atoms) (only 0 (get_or states 0 []) (slice_get-get_or states 0 [] begun)) ∙ later_state before atoms later start c.in_ok-start.ensures.within
          ∙ c.in_ok-start.ensures.state ∙ c.initial_atoms-initial.ensures.value;
      sets = λ i other at. subst (IsSetOf atoms) (sym (only i other at)) (later_set before atoms later start c.in_ok-start.ensures.within);
      states_apart = c.in_ok-keep.ensures.numbering.distinct;
      nodes_apart = subst (λ (ks : List Node). IsWithoutRepeats (children_of ks)) (sym empty) tt;
      goal = subst (λ (l : List Literal). AreCompiled atoms c.in_ok-goal.goal l) (c.as_slice.ensures ∙ c.in_ok-literals.ensures) c.in_ok-goal.ensures.compiled;
      measure = c.requires;
      sizes = c.new-4.ensures.counts ∙ ap (λ (ks : List Node). map (size_of c.args.sizes.now) (children_of ks)) (sym empty);
      operators =
          subst (λ (ks : List Node). AllZip (IsOperator t atoms (children_of ks) c.new-4.result) (children_of ks) c.new-3.result.items) (sym empty)
          (subst (λ (os : List Operator). AllZip (IsOperator t atoms [] c.new-4.result) [] os) (sym c.new-3.ensures.items) tt);
    }
