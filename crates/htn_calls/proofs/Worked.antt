-- A task that only leads to itself has a closed table without exits.
use Rattle.std.proofs.Common.{◌≡◌, ℕ, zero, suc, Bool, true, false, cond, List, [], ◌∷◌, ◌++◌, length, Some, None, inl, inr, sym, refl, ap, subst, arith}
use Rattle.std.specs.Prelude.{Contains}
use Rattle.htn_model.specs.State.{State}
use Rattle.htn_model.specs.Problem.{Network, network_eq}
use Rattle.htn_model.specs.Machine.{step_by}
use Rattle.htn_model.specs.Equality.{network_eq-decides}
use Rattle.htn_calls.specs.Calls.{Summary, Rule, Place, Covers, IsMet, IsCalled}
use Rattle.htn_calls.specs.Closed.{IsClosed, IsFollowedByCalls}
use Rattle.htn_calls.specs.Cuts.{split}
use Rattle.htn_calls.specs.Split.{rules_of, node_count, IsClosedTable}
use Rattle.htn_calls.specs.Worked.{endless, lone, no_exits, EndlessCalls}
use Rattle.htn_calls.proofs.Cuts.{cuts_split}
use Rattle.htn_calls.proofs.Rules.{all_closed_bound}

-- the rule of the task, which leads to itself
abbrev again : State → Rule State Network
again s = record { state = s; blocks = lone ∷ [] }

-- it is the only one
one_rule : (s : State) → rules_of endless (step_by endless) split s lone ≡ Some (again s ∷ [])
one_rule s = refl

-- what stands in a list of one is that
only : {X : Type 0} (y x : X) → Contains (y ∷ []) x → y ≡ x
only y x (zero, low, is) = is
only y x (suc k, low, is) = absurd (omega arith)

-- nothing stands in an empty list
nothing_in : {X : Type 0} (x : X) → Contains [] x → ⊥
nothing_in x h = (let k = h.1 in omega arith)

module _ (floor : ℕ) where
  -- the summary
  abbrev never_ends : Summary State
  never_ends = record { exits = []; floor = floor }

  -- the place after one step
  abbrev later : State → Place State Network
  later s = record { state = s; blocks = lone ∷ []; distance = 1 }

  -- what the rule leads to is that place
  met : (s : State) (r : Rule State Network) → again s ≡ r → IsMet (rules_of endless (step_by endless) split) (no_exits floor) (λ s blocks. node_count blocks) node_count never_ends (later s ∷ [])
      r.state (r.blocks ++ []) 1
  met s r same =
      inr (later s, (0, omega arith, refl), ap (λ (x : Rule State Network). x.state) same, ap (λ (x : Rule State Network). x.blocks ++ []) same, omega arith)

  -- the place is followed by the call of the task
  followed : (s : State) → IsCalled (rules_of endless (step_by endless) split) (no_exits floor) (λ s blocks. node_count blocks) node_count never_ends (later s ∷ []) s lone [] 1
  followed s = record {
    summary = never_ends;
    listed = refl;
    met = λ e h. absurd (nothing_in e h);
    floor = omega arith;
  }

  -- so the call is closed
  closed_call : (s : State) → IsClosed (rules_of endless (step_by endless) split) (no_exits floor) (λ s blocks. node_count blocks) node_count s lone never_ends
  closed_call s = record {
    places = later s ∷ [];
    begun = record { rules_of = again s ∷ []; known = one_rule s; met = λ r h. met s r (only (again s) r h) };
    followed = λ p h.
        subst (λ (x : Place State Network). IsFollowedByCalls (rules_of endless (step_by endless) split) (no_exits floor) (λ s blocks. node_count blocks) node_count never_ends (later s ∷ []) x.state x.blocks x.distance)
        (only (later s) p h) (followed s);
  }

  -- and so is the table, which lists only that
  closed : IsClosedTable endless (step_by endless) split (no_exits floor)
  closed s block u listed = by (network_eq block lone) refl listed
    where
      by : (b : Bool) → network_eq block lone ≡ b → cond b (Some never_ends) None ≡ Some u
          → IsClosed (rules_of endless (step_by endless) split) (no_exits floor) (λ s blocks. node_count blocks) node_count s block u
      by false e h = absurd cc
      by true e h =
          let same : block ≡ lone = (network_eq-decides block lone).0 e in
          let listed_one : never_ends ≡ u = cc in
          subst (λ x. IsClosed (rules_of endless (step_by endless) split) (no_exits floor) (λ s blocks. node_count blocks) node_count s x u) (sym same)
          (subst (λ v. IsClosed (rules_of endless (step_by endless) split) (no_exits floor) (λ s blocks. node_count blocks) node_count s lone v) listed_one (closed_call s))

-- no end of such a call is covered
pub endless_calls : EndlessCalls
endless_calls = record {
  closed = closed;
  never = λ word s t ends.
      (never word s t ((all_closed_bound endless split cuts_split).claims (no_exits (suc (length word))) (closed (suc (length word))) s lone (never_ends (suc (length word))) refl word t ends));
}
  where
    never : (word : List ℕ) (s t : State) → Covers (never_ends (suc (length word))) t (length word) → ⊥
    never word s t (inl floor) = omega arith
    never word s t (inr e) = nothing_in e.0 e.1
