-- Calls and values in frames that are checked by numbers have an admissible bound that is no less than the values.
use Rattle.std.proofs.Common.{◌≡◌, ℕ, ◌≤◌, Bool, true, cond, List, map, Some, option_map, sym, ap, ◌∙◌, arith}
use Rattle.std.specs.List.{sum_by}
use Rattle.std.proofs.lemmas.Simd.{map-map}
use Rattle.htn_model.specs.Grounding.{problem_of}
use Rattle.htn_model.specs.Problem.{Child, Network}
use Rattle.htn_model.specs.State.{State}
use Rattle.htn_model.specs.Task.{Task}
use Rattle.htn_calls.specs.Calls.{Rules, Table, estimate}
use Rattle.htn_calls.specs.Numbered.{rule_of}
use Rattle.htn_calls.specs.Series.{opened}
use Rattle.htn_calls.specs.Bounds.{is_goal}
use Rattle.htn_calls.specs.Ordered.{ordered, lone}
use Rattle.call_rules.specs.Frame.{Frame}
use Rattle.call_rules.proofs.Local.{goals_are_local}
use Rattle.call_rules.specs.Framed.{IsPart, AreLocal, framed, IsFramed}
use Rattle.call_rules.specs.Lifted.{AreLifted}
use Rattle.call_rules.specs.FramedValues.{list_frame}
use Rattle.call_rules.proofs.Framed.{framed_tables_stand}
use Rattle.call_rules.proofs.Closed.{frames_lift}
use Rattle.call_rules.proofs.Lifted.{estimates_lift}
use Rattle.call_rules.proofs.FramedValues.{framed_values_below}
use Rattle.call_rules.specs.Lone.{node_rules, lone_rules}
use Rattle.call_rules.specs.Bounds.{IsKept, IsStepSize, size_sum, IsSound, estimate_by}
use Rattle.call_rules.proofs.Lone.{lone_are_nodes}
use Rattle.call_rules.proofs.Within.{sizes_are_bounds, closed_are_checked, bounds_are_below, bounds_of_ordered}
use Rattle.call_rules.specs.Rules.{in_whole}
use Rattle.call_rules.specs.FramedNumbers.{AreFramedNumbersChecked, bound_by_framed, HaveFramedBound}
use Rattle.call_rules.proofs.Rules.{rules_are_local}

module _ (t : Task) (passes : State → Bool) (size : Child → ℕ) (state : ℕ → State) (node : ℕ → Child)
    (frame : ℕ → Frame) (goal_frame : Frame) (numbers : Rules ℕ ℕ) (listing : Table ℕ ℕ) (sites : List (ℕ × ℕ))
    (total : List ℕ → ℕ) (cap : ℕ) (value : List ℕ → ℕ → ℕ)
    (checked : AreFramedNumbersChecked t passes size state node frame goal_frame numbers listing sites total cap
    value) where
  -- the block of a number, and the table for which the calls stand
  abbrev block : ℕ → Network
  block j = lone (node j)

  abbrev table : Table State Network
  table = framed state block frame listing sites

  -- blocks by number are nodes, each alone
  blocks_are : (blocks : List ℕ) → map block blocks ≡ map lone (map node blocks)
  blocks_are blocks = sym (map-map lone node blocks)

  -- their nodes have at least the sizes that are counted
  counted : (blocks : List ℕ) → total blocks ≤ size_sum size (map block blocks)
  counted blocks =
      let same : size_sum size (map block blocks) ≡ sum_by size (map node blocks) =
      ap (size_sum size) (blocks_are blocks) ∙ (bounds_of_ordered t).size size (map node blocks) in
      let least = checked.counted blocks in
      omega arith

  -- the rules are local to the frames
  local : AreLocal state block frame numbers (lone_rules t)
  local i j rs s known part =
      lone_are_nodes t s (node j)
      ∙ rules_are_local t (node j) (frame j) s (checked.reads i j rs known)
      ∙ ap (λ (q : State). option_map (map (in_whole (frame j) s)) (node_rules t q (node j))) (sym part)
      ∙ ap (option_map (map (in_whole (frame j) s))) (checked.ruled i j rs known)
      ∙ ap Some (map-map (in_whole (frame j) s) (rule_of state block) rs)

  -- the table stands for the calls
  stands : IsFramed state block frame listing table
  stands = framed_tables_stand state block frame listing sites checked.at_sites

  module _ (lowers : IsStepSize t passes size) where
    -- it is sound
    sound : IsSound t passes table (λ s. size_sum size) (size_sum size)
    sound = record {
      bounds = sizes_are_bounds t passes size lowers;
      checked =
          closed_are_checked t table (λ s. size_sum size) (size_sum size)
          (frames_lift state block frame numbers (lone_rules t) listing table total (size_sum size) stands local
          counted checked.closed);
    }

    -- its bound of nodes, each alone, is the estimate by it
    bound_is : (blocks : List ℕ) (s : State) → passes s ≡ true
        → bound_by_framed t passes size state node frame goal_frame numbers listing sites total cap value
        (opened s (ordered (map node blocks)))
        ≡ estimate_by t passes table (λ q. size_sum size) (size_sum size) cap (map block blocks) s
    bound_is blocks s passed =
        (bounds_of_ordered t).bound passes table (λ q. size_sum size) (size_sum size) cap s (map node blocks) passed
        ∙ sym (ap (λ bs. estimate_by t passes table (λ q. size_sum size) (size_sum size) cap bs s) (blocks_are blocks))

    -- which is no less than the values
    above_values : (i : ℕ) (blocks : List ℕ) (s : State) → passes s ≡ true
        → IsPart (list_frame frame goal_frame blocks) s (state i)
        → value blocks i
        ≤ bound_by_framed t passes size state node frame goal_frame numbers listing sites total cap value
        (opened s (ordered (map node blocks)))
    above_values i blocks s passed part =
        let least =
        framed_values_below state block frame goal_frame listing table total (size_sum size) (is_goal (problem_of t))
        cap value stands counted (λ q. goals_are_local (problem_of t).goal goal_frame q checked.goal) checked.valued
        blocks i s part in
        let same = bound_is blocks s passed in
        omega arith

    -- and no less than the estimate by lifted calls
    above_lifted : (whole : Table ℕ ℕ) (ends : ℕ → Bool) → AreLifted state block frame listing whole
        → ((i : ℕ) → cond (ends i) 0 cap ≤ cond (is_goal (problem_of t) (state i)) 0 cap) → (i : ℕ) (blocks : List ℕ)
        → passes (state i) ≡ true
        → estimate whole (λ k. total) total ends cap blocks i
        ≤ bound_by_framed t passes size state node frame goal_frame numbers listing sites total cap value
        (opened (state i) (ordered (map node blocks)))
    above_lifted whole ends lifted ended i blocks passed =
        let least =
        estimates_lift state block frame listing whole table total (size_sum size) ends (is_goal (problem_of t)) cap
        stands counted lifted ended blocks i in
        let same = bound_is blocks (state i) passed in
        omega arith

    -- so the numbers have their bound
    pub have_framed_bound : IsKept t passes
        → HaveFramedBound t passes size state node frame goal_frame numbers listing sites total cap value
    have_framed_bound stays = record {
      below = bounds_are_below t passes table (λ s. size_sum size) (size_sum size) cap stays sound;
      above_values = above_values;
      above_lifted = above_lifted;
    }
