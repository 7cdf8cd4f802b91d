-- Children whose tasks, rearranged, are those of a network.
use Rattle.std.proofs.Common.{◌≡◌, ℕ, List, [], ◌∷◌, ◌++◌, get_or, refl, sym, ap, ◌∙◌, subst}
use Rattle.htn_model.specs.Problem.{GroundTask, Problem}
use Rattle.htn_model.specs.PlanFile.{PlanFile, Naming, IsRearrangementOf}
use Rattle.htn_model.specs.Verdict.{AreNamed, subtasks}
use Rattle.plan_text.proofs.Listed.{children_numbers}
use Rattle.htn_verify.specs.Instances.{InstancesByTasks}
use Rattle.htn_verify.proofs.Naming.{all_by_number, all_by_id}

module _ (naming : Naming) (file : PlanFile) where
  -- names of a list in two parts
  named_split : (left right : List ℕ) (tasks : List GroundTask) → AreNamed naming file (left ++ right) tasks
      → (before : List GroundTask) × (after : List GroundTask) × (tasks ≡ before ++ after) × AreNamed naming file left before × AreNamed naming file right after
  named_split [] right tasks named = ([], tasks, refl, refl, named)
  named_split (id ∷ left) right [] named = absurd named
  named_split (id ∷ left) right (t ∷ tasks) named =
      let (before, after, is, first, others) = named_split left right tasks named.1 in
      (t ∷ before, after, ap (λ ts. t ∷ ts) is, (named.0, first), others)

  -- and joined
  named_join : (left right : List ℕ) (before after : List GroundTask) → AreNamed naming file left before → AreNamed naming file right after → AreNamed naming file (left ++ right) (before ++ after)
  named_join [] right before after first others = subst (λ ts. AreNamed naming file right (ts ++ after)) (sym first) others
  named_join (id ∷ left) right [] after first others = absurd first
  named_join (id ∷ left) right (t ∷ before) after first others = (first.0, named_join left right before after first.1 others)

  -- the tasks of rearranged ids, as the ids are listed
  listed_tasks : (listed arranged : List ℕ) (tasks : List GroundTask) → IsRearrangementOf listed arranged → AreNamed naming file arranged tasks
      → (own : List GroundTask) × AreNamed naming file listed own × IsRearrangementOf own tasks
  listed_tasks [] arranged tasks r named = ([], refl, subst (λ ids. AreNamed naming file ids tasks) r named)
  listed_tasks (id ∷ listed) arranged tasks (left, right, e, r) named =
      by (named_split left (id ∷ right) tasks (subst (λ ids. AreNamed naming file ids tasks) e named)) (listed_tasks listed (left ++ right))
    where
      by : (before : List GroundTask) × (after : List GroundTask) × (tasks ≡ before ++ after) × AreNamed naming file left before × AreNamed naming file (id ∷ right) after
          → ((ts : List GroundTask) → IsRearrangementOf listed (left ++ right) → AreNamed naming file (left ++ right) ts
          → (own : List GroundTask) × AreNamed naming file listed own × IsRearrangementOf own ts)
          → (own : List GroundTask) × AreNamed naming file (id ∷ listed) own × IsRearrangementOf own tasks
      by (before, [], is, first, others) more = absurd others
      by (before, t ∷ after, is, first, others) more =
          let (own, names, arranged_so) = more (before ++ after) r (named_join left right before after first others.1) in
          (t ∷ own, (others.0, names), (before, after, is, arranged_so))

  -- tasks of one list in two parts have ids so
  task_split : (arranged : List ℕ) (before after : List GroundTask) → AreNamed naming file arranged (before ++ after)
      → (left : List ℕ) × (right : List ℕ) × (arranged ≡ left ++ right) × AreNamed naming file left before × AreNamed naming file right after
  task_split arranged [] after named = ([], arranged, refl, refl, named)
  task_split [] (t ∷ before) after named = absurd cc
  task_split (id ∷ arranged) (t ∷ before) after named =
      let (left, right, is, first, others) = task_split arranged before after named.1 in
      (id ∷ left, right, ap (λ ids. id ∷ ids) is, (named.0, first), others)

  -- ids rearranged as their tasks are
  arranged_ids : (listed : List ℕ) (own tasks : List GroundTask) → AreNamed naming file listed own → IsRearrangementOf own tasks
      → (arranged : List ℕ) × IsRearrangementOf listed arranged × AreNamed naming file arranged tasks
  arranged_ids [] own tasks names r = ([], refl, subst (λ ts. IsRearrangementOf ts tasks) names r)
  arranged_ids (id ∷ listed) [] tasks names r = absurd names
  arranged_ids (id ∷ listed) (t ∷ own) tasks names (before, after, e, r) =
      let (arranged, so, named) = arranged_ids listed own (before ++ after) names.1 r in
      let (left, right, is, first, others) = task_split arranged before after named in (
        left ++ id ∷ right,
        (left, right, refl, subst (IsRearrangementOf listed) is so),
        subst (AreNamed naming file (left ++ id ∷ right)) (sym e) (named_join left (id ∷ right) before (t ∷ after) first (names.0, others)),
      )

-- lines have instances as their tasks show them
pub instances_by_tasks : (naming : Naming) (problem : Problem) → InstancesByTasks naming problem
instances_by_tasks naming problem = record {
  action = λ file named_at are i line stands. (
    (λ (g, a, named, is). (g, sym (are.actions i line stands) ∙ named, a, is)),
    (λ (g, named, a, is). (g, a, are.actions i line stands ∙ named, is)),
  );
  decomposition = λ file forest named_at is are j line stands.
      (let once = is.is_forest.defined_once in
      let numbers = get_or forest.children j [] in
      let are_numbers = children_numbers _ forest.children file.decompositions is.children j line stands in (
        (λ (t, number, network, named, found, method, (arranged, r, names)).
            (let (own, own_names, own_r) = listed_tasks naming file line.children arranged (subtasks network.children) r names in
            (t, sym (are.decompositions j line stands) ∙ named, own, all_by_number naming file once named_at are numbers line.children own are_numbers own_names, (network, (number, found, method), own_r)))),
        (λ (t, named, own, have, (network, (number, found, method), own_r)). (
          t,
          number,
          network,
          are.decompositions j line stands ∙ named,
          found,
          method,
          arranged_ids naming file line.children own (subtasks network.children) (all_by_id naming file once named_at are numbers line.children own are_numbers have) own_r,
        )),
      ));
  roots = λ file forest named_at is are.
      (let once = is.is_forest.defined_once in (
        (λ (number, network, found, (arranged, r, names)).
            (let (own, own_names, own_r) = listed_tasks naming file file.roots arranged (subtasks network.children) r names in
            (own, all_by_number naming file once named_at are forest.roots file.roots own is.roots own_names, (network, (number, found), own_r)))),
        (λ (own, have, (network, (number, found), own_r)).
            (number, network, found, arranged_ids naming file file.roots own (subtasks network.children) (all_by_id naming file once named_at are forest.roots file.roots own is.roots have) own_r)),
      ));
}
