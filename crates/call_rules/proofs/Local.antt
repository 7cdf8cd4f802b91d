-- A node is carried out in a frame of all that it reads or writes as in the whole state.
use Rattle.std.proofs.Common.{◌≡◌, Bool, true, false, cond, not, ◌&&◌, ◌||◌, List, [], ◌∷◌, Option, Some, None, option_map, sym, refl, ap, ◌∙◌}
use Rattle.std.specs.List.{list_all}
use Rattle.std.proofs.lemmas.Bool.{and_parts}
use Rattle.htn_model.specs.Atom.{Atom}
use Rattle.htn_model.specs.AtomOrder.{same_state}
use Rattle.htn_model.specs.State.{State, contains}
use Rattle.htn_model.specs.Literal.{Literal, atom, equality, literal_holds, holds, Action, after}
use Rattle.htn_model.specs.Problem.{Child, precondition, action, task, GroundTask, Problem, perform, perform_action}
use Rattle.htn_model.proofs.Sets.{contains-after}
use Rattle.call_rules.specs.Frame.{Frame, within, lift}
use Rattle.call_rules.specs.Local.{is_literal_in, are_literals_in, AreIn, IsActionIn, IsFrameOf, NodesAreLocal, GoalsAreLocal}
use Rattle.call_rules.proofs.Parts.{contains-within, contains-lift, whole}

module _ (frame : Frame) (s : State) where
  -- an atom of the frame is true in the part where it is true
  atom_local : (a : Atom) → frame a ≡ true → contains s a ≡ contains (within frame s) a
  atom_local a in_frame = by (frame a) (contains s a) in_frame ∙ sym (contains-within frame s a)
    where
      by : (f x : Bool) → f ≡ true → x ≡ (x && f)
      by true true h = refl
      by true false h = refl
      by false x h = cc

  -- so a literal holds alike
  literal_local : (l : Literal) → is_literal_in frame l ≡ true → literal_holds s l ≡ literal_holds (within frame s) l
  literal_local (atom true a) in_frame = atom_local a in_frame
  literal_local (atom false a) in_frame = ap not (atom_local a in_frame)
  literal_local (equality true x y) in_frame = refl
  literal_local (equality false x y) in_frame = refl

  -- and literals
  pub literals_local : (ls : List Literal) → are_literals_in frame ls ≡ true → holds s ls ≡ holds (within frame s) ls
  literals_local [] in_frame = refl
  literals_local (l ∷ ls) in_frame =
      let parts = and_parts (is_literal_in frame l) (are_literals_in frame ls) in_frame in
      ap (λ b. b && holds s ls) (literal_local l parts.0)
      ∙ ap (λ b. literal_holds (within frame s) l && b) (literals_local ls parts.1)

  -- after an action all out of the frame is as before, and what is in it as after the action in the part
  after_local : (a : Action) → IsActionIn frame a → after s a ≡ lift frame s (after (within frame s) a)
  after_local a local =
      same_state (after s a) (lift frame s (after (within frame s) a))
      (λ x. contains-after s a x
      ∙ by (frame x) (contains a.adds x) (contains a.deletes x) (contains s x) (local.adds x) (local.deletes x)
      ∙ sym (ap (λ b. cond (frame x) (contains a.adds x || (b && not (contains a.deletes x))) (contains s x))
      (contains-within frame s x))
      ∙ sym (ap (λ b. cond (frame x) b (contains s x)) (contains-after (within frame s) a x))
      ∙ sym (contains-lift frame s (after (within frame s) a) x))
    where
      and_true : (x : Bool) → x ≡ (x && true)
      and_true true = refl
      and_true false = refl

      by : (f adds deletes x : Bool) → (adds ≡ true → f ≡ true) → (deletes ≡ true → f ≡ true)
          → (adds || (x && not deletes)) ≡ cond f (adds || ((x && f) && not deletes)) x
      by true adds deletes x h g = ap (λ b. adds || (b && not deletes)) (and_true x)
      by false true deletes x h g = let e = h refl in cc
      by false false true x h g = let e = g refl in cc
      by false false false x h g = sym (and_true x)

  -- a step leaves the state as it is
  step_local : (b : Bool) → cond b (Some s) None ≡ option_map (lift frame s) (cond b (Some (within frame s)) None)
  step_local true = ap Some (sym (whole frame s))
  step_local false = refl

  -- an action is carried out alike
  action_local : (o : Option Action) → ((a : Action) → o ≡ Some a → IsActionIn frame a)
      → perform_action s o ≡ option_map (lift frame s) (perform_action (within frame s) o)
  action_local None local = refl
  action_local (Some a) local =
      ap (λ b. cond b (Some (after s a)) None) (literals_local a.precondition (local a refl).reads)
      ∙ by (holds (within frame s) a.precondition)
    where
      by : (b : Bool) → cond b (Some (after s a)) None
          ≡ option_map (lift frame s) (cond b (Some (after (within frame s) a)) None)
      by true = ap Some (after_local a (local a refl))
      by false = refl

-- a node is carried out alike
pub nodes_are_local : NodesAreLocal
nodes_are_local problem (precondition literals) frame s local =
    ap (λ b. cond b (Some s) None) (literals_local frame s literals local)
    ∙ step_local frame s (holds (within frame s) literals)
nodes_are_local problem (action g) frame s local = action_local frame s (problem.action_of g) local
nodes_are_local problem (task g) frame s local = refl

-- literals hold alike
pub goals_are_local : GoalsAreLocal
goals_are_local literals frame s local = literals_local frame s literals local
