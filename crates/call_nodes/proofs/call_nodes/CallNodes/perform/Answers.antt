use Rattle.std.proofs.Common.{◌∙◌, List, Option, Some, IfSome, [], ap, option_map, subst, sym, ℕ}
use Rattle.std.proofs.lemmas.Option.{get_or_from_slice_get, slice_get_within}
use Rattle.htn_model.specs.Task.{Task}
use Rattle.state_table.specs.Table.{IsSetOf, state_of}
use Rattle.call_nodes.specs.Nodes.{AreNodes}
use Rattle.call_nodes.proofs.Keeping.{more_with_states, with_states}
use Rattle.call_nodes.proofs.call_nodes.CallNodes.perform.Goals as goal

pub returns-clause-own : goal.returns-clause-own
returns-clause-own c = λ t own.
    (let kept = c.in_ok-number.ensures in
    with_states t c.args.self.now own c.keep.new.self kept.grown c.in-Some.after kept.numbering.distinct kept.others
    (subst (λ (o : Option (List ℕ)). IfSome o (λ s. (t : Task) → AreNodes t c.args.self.now → IsSetOf c.args.self.now.atoms s)) c.in-Some.is c.in_ok-after.ensures.within t own))

pub returns-clause-more : goal.returns-clause-more
returns-clause-more c = λ t own. more_with_states t c.args.self.now own c.keep.new.self c.in_ok-number.ensures.grown

pub returns-clause-known : goal.returns-clause-known
returns-clause-known c = slice_get_within c.keep.new.self c.in_ok-number.number c.in-Some.after c.in_ok-number.ensures.number

pub returns-clause-state : goal.returns-clause-state
returns-clause-state c = λ t own x at inside.
    (let atoms = c.args.self.now.atoms in
    ap (λ (w : List ℕ). Some (state_of atoms w)) (get_or_from_slice_get c.keep.new.self c.in_ok-number.number c.in-Some.after [] c.in_ok-number.ensures.number)
    ∙ ap (option_map (state_of atoms)) (sym c.in-Some.is) ∙ c.in_ok-after.ensures.state t own x at inside)
