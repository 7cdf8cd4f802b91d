-- What is known before a search gives a bound from below, and tells of what may be reached whether it may end.
use Rattle.std.proofs.Common.{◌≡◌, ℕ, ◌+◌, ◌≤◌, Bool, true, false, not, ◌&&◌, ◌||◌, cond, length, max, List, [], ◌∷◌, Option, None, Some, refl, sym, ap, ◌∙◌, arith}
use Rattle.std.specs.Prelude.{IfSome}
use Rattle.std.specs.List.{All, list_any}
use Rattle.std.proofs.lemmas.Bool.{and_parts, and_right, both_ways, false_from_ne_true, not_from_true, not-true}
use Rattle.htn_model.specs.Exhaustion.{live_step}
use Rattle.htn_model.specs.Literal.{holds}
use Rattle.htn_model.specs.Machine.{Config, IsDone}
use Rattle.htn_model.specs.Problem.{Child, IsGrounded, Problem}
use Rattle.heuristics.specs.Measure.{is_as_at_first}
use Rattle.heuristics.specs.Sizes.{out_of_reach}
use Rattle.heuristics.specs.Heuristic.{dead_end_bound}
use Rattle.heuristics.proofs.SizesBounds.{dead_ends_are_consistent, greater_is_estimate}
use Rattle.heuristics.proofs.SizesBounded.{dead_ends}
use Rattle.heuristics.specs.NeedsBounds.{needs_bound}
use Rattle.heuristics.specs.Needs.{may_end, needed, needed_goal, network_of}
use Rattle.heuristics.specs.Rows.{blocks, outlook_of}
use Rattle.heuristics.proofs.NeedsBounded.{needs_are_bounds}
use Rattle.heuristics.specs.Reach.{IsRelaxedReach, is_reached}
use Rattle.heuristics.specs.ReachTables.{reach_of}
use Rattle.heuristics.specs.declared.reach.RelaxedReach.{RelaxedReach}
use Rattle.heuristics.proofs.ReachLasting.{reach_stays, reached_stays}
use Rattle.heuristics.proofs.ReachLists.{any_or}
use Rattle.heuristics.specs.Prospects.{AllProspectsHold, is_out, is_unreached, may_be_reached, may_end_reached, outlook_by}
use Rattle.heuristics.specs.declared.prospects.Prospects.{Prospects}

-- ## What is reached, where that is known

-- what may end after a live step might before it
end_lasts : (problem : Problem) → IsGrounded problem → (reach : Option RelaxedReach) → IfSome reach (λ r. IsRelaxedReach problem (reach_of r)) → (c d : Config) (number : ℕ)
    → live_step problem c number ≡ Some d → is_as_at_first problem c.state ≡ true → may_end_reached reach d ≡ true → may_end_reached reach c ≡ true
end_lasts problem grounded None right c d number is first ends = refl
end_lasts problem grounded (Some r) right c d number is first ends = (reach_stays problem (reach_of r) grounded right).step c d number is first ends

-- what is done may end
done_ends : (problem : Problem) → IsGrounded problem → (reach : Option RelaxedReach) → IfSome reach (λ r. IsRelaxedReach problem (reach_of r)) → (c : Config) → IsDone problem c → may_end_reached reach c ≡ true
done_ends problem grounded None right c done = refl
done_ends problem grounded (Some r) right c done = (reach_stays problem (reach_of r) grounded right).done c done

-- a live step leads to what may be reached
reached_lasts : (problem : Problem) → IsGrounded problem → (reach : Option RelaxedReach) → IfSome reach (λ r. IsRelaxedReach problem (reach_of r)) → (c d : Config) (number : ℕ)
    → live_step problem c number ≡ Some d → is_as_at_first problem c.state ≡ true → may_be_reached reach c ≡ true → may_be_reached reach d ≡ true
reached_lasts problem grounded None right c d number is first reached = refl
reached_lasts problem grounded (Some r) right c d number is first reached = (reached_stays problem (reach_of r) grounded right).stays c d number is first reached

-- where nothing is known no node is lost
none_unreached : (xs : List Child) → list_any (is_unreached None) xs ≡ false
none_unreached [] = refl
none_unreached (x ∷ xs) = none_unreached xs

-- of what may be reached the nodes tell whether it may end
told_reached : (problem : Problem) → IsGrounded problem → (reach : Option RelaxedReach) → IfSome reach (λ r. IsRelaxedReach problem (reach_of r)) → (c : Config) → may_be_reached reach c ≡ true
    → may_end_reached reach c ≡ not (list_any (is_unreached reach) c.open_nodes)
told_reached problem grounded None right c reached = sym (ap not (none_unreached c.open_nodes))
told_reached problem grounded (Some r) right c reached = (reached_stays problem (reach_of r) grounded right).told c reached

-- one test and another, one before the rest and one behind it
told_joined : (a b rest : Bool) → ((not a && rest) && not b) ≡ (not (a || b) && rest)
told_joined true b rest = refl
told_joined false true true = refl
told_joined false true false = refl
told_joined false false true = refl
told_joined false false false = refl

-- and so all that is known tells it
told_by : (problem : Problem) → IsGrounded problem → (p : Prospects) → IfSome p.reach (λ r. IsRelaxedReach problem (reach_of r)) → (c : Config) → may_be_reached p.reach c ≡ true
    → (may_end problem (outlook_of p.needs) c && may_end_reached p.reach c) ≡ may_end problem (outlook_by p) c
told_by problem grounded p right c reached =
    let o = outlook_of p.needs in
    let n = network_of c in
    let rest = holds c.state (needed o n) && holds c.state (needed_goal o problem.goal n) in
    ap (λ b. may_end problem o c && b) (told_reached problem grounded p.reach right c reached)
    ∙ told_joined (list_any (blocks p.needs) c.open_nodes) (list_any (is_unreached p.reach) c.open_nodes) rest
    ∙ ap (λ b. not b && rest) (sym (any_or (blocks p.needs) (is_unreached p.reach) c.open_nodes))

-- where it is known of the configurations at the start that they are reached, they may be
start_reached : (reach : Option RelaxedReach) (starts : List Config) → IfSome reach (λ r. All (λ c. is_reached (reach_of r) c ≡ true) starts) → All (λ c. may_be_reached reach c ≡ true) starts
start_reached None starts right = λ k d inside. refl
start_reached (Some r) starts right = right

-- ## The law

-- right prospects hold
pub prospects_hold : AllProspectsHold
prospects_hold problem starts size cap p grounded measure right = record {
  first = start_reached p.reach starts right.first;
  bound = greater_is_estimate problem (needs_bound problem size cap (outlook_of p.needs)) (dead_end_bound out_of_reach (is_out problem p.reach))
      (needs_are_bounds problem size cap (outlook_of p.needs) grounded measure right.outlook)
      (dead_ends_are_consistent problem out_of_reach (is_out problem p.reach)
      (dead_ends problem grounded (may_end_reached p.reach) (end_lasts problem grounded p.reach right.reach) (done_ends problem grounded p.reach right.reach)));
  stays = reached_lasts problem grounded p.reach right.reach;
  told = told_by problem grounded p right.reach;
}
