use Rattle.std.proofs.Common.{◌≡◌, ◌∷◌, [], ◌∙◌, ap, sym, subst, List, length, arith, slice_get, append-nil, length-append}
use Rattle.std.specs.Ordering.{on}
use Rattle.std.proofs.lemmas.List.{length-map, get_or-map}
use Rattle.htn_model.specs.Problem.{child_eq, precondition}
use Rattle.htn_model.specs.Equality.{child_eq-decides}
use Rattle.htn_ground.specs.Views.{child_view, children_of}
use Rattle.htn_ground.specs.declared.child.Child.{Child}
use Rattle.htn_ground.specs.declared.child.Child.TheVariants.{Precondition}
use Rattle.htn_model.specs.PlanFile.{IsWithoutRepeats}
use Rattle.network_table.specs.declared.child_table.ChildTable.{ChildTable}
use Rattle.network_table.proofs.Keys.{inserted_new, inserted_old, distinct_views, at_slice}
use Rattle.network_table.proofs.child_table.ChildTable.keep.Goals as goal
use Rattle.network_table.proofs.child_table.ChildTable.keep.Goals.{then-is_new+in_ok-push, else-is_new}

pub returns-clause-kept : goal.returns-clause-kept
returns-clause-kept c =
    let old = c.args.self.now in
    elim c.if-is_new.branch [
      | then-is_new+in_ok-push w ↦ record {
        more = c.args.child ∷ [];
        children = ap (λ (t : ChildTable). t.children.keys) w.self-is ∙ c.in_ok-place.ensures.keys ∙ inserted_new (on child_view child_eq) old.children.keys c.args.child c.in_ok-place.is_new c.in_ok-place.ensures.added w.if-is_new.true;
        more_bounds = c.args.bound ∷ [];
        bounds = ap (λ (t : ChildTable). t.bounds.items) w.self-is ∙ w.in_ok-push.ensures.items;
      }
      | else-is_new w ↦ record {
        more = [];
        children = ap (λ (t : ChildTable). t.children.keys) w.self-is ∙ c.in_ok-place.ensures.keys
            ∙ inserted_old (on child_view child_eq) old.children.keys c.args.child c.in_ok-place.is_new c.in_ok-place.ensures.added w.if-is_new.false ∙ sym (append-nil old.children.keys);
        more_bounds = [];
        bounds = ap (λ (t : ChildTable). t.bounds.items) w.self-is ∙ sym (append-nil old.bounds.items);
      }
    ]

-- the nodes are as after the insertion
keys_are : (c : goal.In-Ok) → c.if-is_new.self.children.keys ≡ c.insert_full.new.self.keys
keys_are c = elim c.if-is_new.branch [ then-is_new+in_ok-push w ↦ ap (λ (t : ChildTable). t.children.keys) w.self-is | else-is_new w ↦ ap (λ (t : ChildTable). t.children.keys) w.self-is ]

-- there are as many bounds as nodes
bounds_are : (c : goal.In-Ok) → length c.if-is_new.self.bounds.items ≡ length c.if-is_new.self.children.keys
bounds_are c =
    let old = c.args.self.now in
    let before = c.requires.bounded in
    let long = length-map old.children.keys child_view in
    elim c.if-is_new.branch [
      | then-is_new+in_ok-push w ↦ (
          let keys = ap length (ap (λ (t : ChildTable). t.children.keys) w.self-is ∙ c.in_ok-place.ensures.keys ∙ inserted_new (on child_view child_eq) old.children.keys c.args.child c.in_ok-place.is_new c.in_ok-place.ensures.added w.if-is_new.true) in
          let bounds = ap length (ap (λ (t : ChildTable). t.bounds.items) w.self-is ∙ w.in_ok-push.ensures.items) in
          omega (arith, length-append old.children.keys (c.args.child ∷ []), length-append old.bounds.items (c.args.bound ∷ [])))
      | else-is_new w ↦ (
          let keys = ap length (ap (λ (t : ChildTable). t.children.keys) w.self-is ∙ c.in_ok-place.ensures.keys ∙ inserted_old (on child_view child_eq) old.children.keys c.args.child c.in_ok-place.is_new c.in_ok-place.ensures.added w.if-is_new.false) in
          let bounds = ap length (ap (λ (t : ChildTable). t.bounds.items) w.self-is) in
          omega arith)
    ]

pub returns-clause-whole : goal.returns-clause-whole
returns-clause-whole c = record {
  distinct = subst (λ (ks : List Child). IsWithoutRepeats (children_of ks)) (sym (keys_are c))
      (distinct_views (on child_view child_eq) child_view (λ a b. child_eq-decides (child_view a) (child_view b)) (Precondition []) c.insert_full.new.self.keys c.in_ok-place.ensures.unique);
  bounded = bounds_are c ∙ sym (length-map c.if-is_new.self.children.keys child_view);
}

pub returns-clause-number : goal.returns-clause-number
returns-clause-number c =
    let keys = c.if-is_new.self.children.keys in
    let stored = c.in_ok-place.ensures.stored in
    let at = ap (λ (ks : List Child). slice_get ks c.in-Ok.id) (keys_are c) ∙ ap (λ i. slice_get c.insert_full.new.self.keys i) c.in-Ok.ensures.1 ∙ stored.1 in
    let seen = at_slice keys c.in-Ok.id stored.0 (Precondition []) at in
    let long = length-map keys child_view in (
      omega (arith, seen.0),
      get_or-map child_view keys c.in-Ok.id (Precondition []) (precondition []) seen.0 ∙ ap child_view seen.1
          ∙ sym ((child_eq-decides (child_view c.args.child) (child_view stored.0)).0 stored.2),
    )
