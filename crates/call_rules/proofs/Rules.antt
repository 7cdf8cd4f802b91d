-- The rules of nodes are local to frames of what the nodes read or write.
use Rattle.std.proofs.Common.{◌≡◌, Bool, true, false, cond, List, map, Option, Some, None, option_map, sym, refl, ap, ◌∙◌}
use Rattle.std.proofs.lemmas.Simd.{map-map}
use Rattle.htn_model.specs.Grounding.{problem_of}
use Rattle.htn_model.specs.Instance.{Instance}
use Rattle.htn_model.specs.Problem.{Child, precondition, action, task, perform}
use Rattle.htn_model.specs.State.{State}
use Rattle.htn_model.specs.Task.{Task}
use Rattle.htn_ground.specs.Distinct.{distinct, live_methods}
use Rattle.call_rules.specs.Frame.{Frame, within, lift}
use Rattle.call_rules.specs.Local.{IsFrameOf}
use Rattle.call_rules.proofs.Parts.{whole}
use Rattle.call_rules.proofs.Local.{nodes_are_local}
use Rattle.call_rules.specs.Lone.{are_total, rule_into, rules_after}
use Rattle.call_rules.specs.Rules.{in_whole, RulesAreLocal}

module _ (t : Task) (frame : Frame) (s : State) where
  -- what a leaf leads to in the part leads to that in the whole state
  after_local : (o : Option State)
      → rules_after (option_map (lift frame s) o) ≡ map (in_whole frame s) (rules_after o)
  after_local None = refl
  after_local (Some after) = refl

  -- so do the rules of a leaf
  leaf_local : (x : Child) → IsFrameOf (problem_of t) x frame
      → Some (rules_after (perform (problem_of t) s x))
      ≡ option_map (map (in_whole frame s)) (Some (rules_after (perform (problem_of t) (within frame s) x)))
  leaf_local x local =
      ap (λ (o : Option State). Some (rules_after o)) (nodes_are_local (problem_of t) x frame s local)
      ∙ ap Some (after_local (perform (problem_of t) (within frame s) x))

  -- the instances of a task leave the state as it is
  instances_local : (instances : List Instance)
      → map (rule_into s) instances ≡ map (in_whole frame s) (map (rule_into (within frame s)) instances)
  instances_local instances =
      ap (λ (q : State). map (rule_into q) instances) (sym (whole frame s))
      ∙ sym (map-map (in_whole frame s) (rule_into (within frame s)) instances)

  -- so do its rules, if they are known
  task_local : (b : Bool) (instances : List Instance)
      → cond b (Some (map (rule_into s) instances)) None
      ≡ option_map (map (in_whole frame s)) (cond b (Some (map (rule_into (within frame s)) instances)) None)
  task_local true instances = ap Some (instances_local instances)
  task_local false instances = refl

-- the rules of a node are local
pub rules_are_local : (t : Task) → RulesAreLocal t
rules_are_local t (precondition literals) frame s local = leaf_local t frame s (precondition literals) local
rules_are_local t (action g) frame s local = leaf_local t frame s (action g) local
rules_are_local t (task g) frame s local = task_local t frame s (are_total t g) (distinct (live_methods t g))
