use Rattle.std.proofs.Common.{◌≡◌, ◌∙◌, ◌+◌, ◌<◌, ℕ, List, Some, None, inl, inr, true, sym, ap, subst, arith}
use Rattle.std.specs.List.{All, list_any}
use Rattle.std.specs.Option.{option_map}
use Rattle.std.proofs.lemmas.Bool.{cases_lt}
use Rattle.std.proofs.lemmas.Option.{none-some, same_Some, slice_get_past}
use Rattle.indexmap.specs.IndexSet.{IndexSet, insert_key}
use Rattle.htn_model.specs.Problem.{GroundTask, ground_task_eq}
use Rattle.task_graph.specs.Graph.{barred_action_at}
use Rattle.task_graph.specs.declared.graph.TaskGraph.{TaskGraph}
use Rattle.task_graph.proofs.Listed.{barred_within}
use Rattle.task_graph.proofs.Sets.{put_all, put_among, put_stays}
use Rattle.task_graph.proofs.graph.TaskGraph.barred_actions.Goals as goal
use Rattle.task_graph.proofs.graph.TaskGraph.barred_actions.Goals.{in-Some+in_ok-clone+in_ok-insert, in_default}

-- what the loop keeps of a set
abbrev AreBelow : TaskGraph → ℕ → List GroundTask → Type 0
AreBelow g place keys = record {
  right : All (λ h. (id : ℕ) × (barred_action_at g id ≡ Some h)) keys;
  whole : (id : ℕ) (h : GroundTask) → id < place → barred_action_at g id ≡ Some h → list_any (ground_task_eq h) keys ≡ true;
}

-- one more is put in
below_put : (g : TaskGraph) (place : ℕ) (keys : List GroundTask) (h : GroundTask) → barred_action_at g place ≡ Some h → AreBelow g place keys → AreBelow g (place + 1) (insert_key ground_task_eq keys h)
below_put g place keys h here below = record {
  right = put_all (λ k. (id : ℕ) × (barred_action_at g id ≡ Some k)) keys h (place, here) below.right;
  whole = λ id k low at. elim (cases_lt id place) [
    | inl less ↦ put_stays keys h k (below.whole id k less at)
    | inr past ↦
        (let same : place ≡ id = omega (arith, low, past) in
        let is : h ≡ k = same_Some h k (sym here ∙ ap (barred_action_at g) same ∙ at) in
        subst (λ (x : GroundTask). list_any (ground_task_eq x) (insert_key ground_task_eq keys h) ≡ true) is (put_among keys h))
  ];
}

-- none is put in
below_skip : (g : TaskGraph) (place : ℕ) (keys : List GroundTask) → barred_action_at g place ≡ None → AreBelow g place keys → AreBelow g (place + 1) keys
below_skip g place keys none below = record {
  right = below.right;
  whole = λ id k low at. elim (cases_lt id place) [
    | inl less ↦ below.whole id k less at
    | inr past ↦ (let same : place ≡ id = omega (arith, low, past) in absurd (none-some k (sym none ∙ ap (barred_action_at g) same ∙ at)))
  ];
}

pub loop-place-preserved : goal.loop-place-preserved
loop-place-preserved c =
    let g = c.args.self.now in
    let place = c.loop-place.place in
    let old = c.loop-place.barred.keys in
    elim c.match-barred_action.branch [
      | in-Some+in_ok-clone+in_ok-insert w ↦
          (let keys : c.match-barred_action.barred.keys ≡ insert_key ground_task_eq old w.in-Some.goal.now =
          ap (λ s. s.keys) w.barred-is ∙ w.in_ok-insert.ensures.keys ∙ ap (insert_key ground_task_eq old) w.in_ok-clone.ensures.cases in
          subst (AreBelow g (place + 1)) (sym keys) (below_put g place old w.in-Some.goal.now (sym w.in-Some.ensures) c.loop-place.invariant))
      | in_default w ↦
          (let keys : c.match-barred_action.barred.keys ≡ old = ap (λ s. s.keys) w.barred-is in
          subst (AreBelow g (place + 1)) (sym keys) (below_skip g place old (sym w.in_default.ensures) c.loop-place.invariant))
    ]

pub returns : goal.returns
returns c = record {
  right = c.loop-place.invariant.right;
  whole = λ id h at.
      (let inside = barred_within c.args.self.now id h at in
      let long = c.len-place-end.ensures.len in
      c.loop-place.invariant.whole id h (omega (arith, inside, long, c.loop-place-test.false)) at);
}
