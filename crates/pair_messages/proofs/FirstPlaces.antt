-- The first places of names.
use Rattle.std.proofs.Common.{◌≡◌, ℕ, ◌+◌, ◌<◌, Bool, true, false, cond, Option, Some, None, IfSome, List, [], ◌∷◌, ◌++◌, length, get_or, drop, is_some, map, option_map, refl, sym, ap, ◌∙◌, add-one}
use Rattle.std.specs.Borrow.{Bor}
use Rattle.std.specs.List.{find, flat_map}
use Rattle.std.proofs.lemmas.List.{map-append}
use Rattle.std.proofs.Math.Seq.{drop-cons}
use Rattle.hddl_words.specs.Names.{Name}
use Rattle.hddl_words.specs.declared.network.SubtaskText.{SubtaskText}
use Rattle.hddl_words.specs.declared.domain.ActionText.{ActionText}
use Rattle.hddl_words.specs.declared.domain.DomainText.{DomainText}
use Rattle.hddl_words.specs.declared.domain.PredicateText.{PredicateText}
use Rattle.hddl_words.specs.declared.domain.TaskText.{TaskText}
use Rattle.hddl_words.specs.declared.term.VariableGroup.{VariableGroup}
use Rattle.hddl_meaning.specs.Mentions.{Mention, Text, Typed, mention_of, mentions_of, typed_variables}
use Rattle.hddl_meaning.specs.Names.{is_same_text, optional_mention}
use Rattle.hddl_meaning.specs.Items.{variable_mentions}
use Rattle.hddl_meaning.specs.Uses.{Variable, parameters_of, quantified_of}
use Rattle.pair_messages.specs.declared.stands.InForce.{InForce}
use Rattle.pair_messages.specs.declared.stands.Kind.TheVariants as kind
use Rattle.pair_messages.specs.Notes.{called_mentions, first_place}
use Rattle.pair_messages.specs.Stands.{in_force, section_parameters}
use Rattle.pair_messages.proofs.Folded.{map_map}

-- the first of some names, or else another
abbrev pub or_else : Option ℕ → Option ℕ → Option ℕ
or_else a b = cond (is_some a) a b

-- a name before others
pub first_cons : (m : Mention) (names : List Mention) (t : Text) → first_place (m ∷ names) t ≡ cond (is_same_text t m.text) (Some m.place) (first_place names t)
first_cons m names t = by (is_same_text t m.text)
  where
    by : (b : Bool) → option_map (λ m. m.place) (cond b (Some m) (find (λ m. is_same_text t m.text) names)) ≡ cond b (Some m.place) (first_place names t)
    by true = refl
    by false = refl

-- of two lists, the second counts where the first has none
pub first_append : (names others : List Mention) (t : Text) → first_place (names ++ others) t ≡ or_else (first_place names t) (first_place others t)
first_append [] others t = refl
first_append (m ∷ names) others t =
    first_cons m (names ++ others) t ∙ by (is_same_text t m.text) (first_append names others t) ∙ ap (λ o. or_else o (first_place others t)) (sym (first_cons m names t))
  where
    by : (b : Bool) → first_place (names ++ others) t ≡ or_else (first_place names t) (first_place others t)
        → cond b (Some m.place) (first_place (names ++ others) t) ≡ or_else (cond b (Some m.place) (first_place names t)) (first_place others t)
    by true e = refl
    by false e = e

-- one name more
pub first_more : (names : List Mention) (m : Mention) (t : Text)
    → first_place (names ++ m ∷ []) t ≡ cond (is_some (first_place names t)) (first_place names t) (cond (is_same_text t m.text) (Some m.place) None)
first_more names m t = first_append names (m ∷ []) t ∙ ap (or_else (first_place names t)) (first_cons m [] t)

-- the first from an index on
pub first_step : (names : List Mention) (k : ℕ) (d : Mention) (t : Text) → k < length names
    → first_place (drop k names) t ≡ cond (is_same_text t (get_or names k d).text) (Some (get_or names k d).place) (first_place (drop (k + 1) names) t)
first_step names k d t lt =
    ap (λ l. first_place l t) (drop-cons names k d lt)
    ∙ first_cons (get_or names k d) _ t
    ∙ ap (λ n. cond (is_same_text t (get_or names k d).text) (Some (get_or names k d).place) (first_place (drop n names) t)) (sym (add-one k))

-- where the first list has one, it is that
pub join_some : (names others : List Mention) (t : Text) (place : ℕ) → first_place names t ≡ Some place → Some place ≡ first_place (names ++ others) t
join_some names others t place is = sym (first_append names others t ∙ ap (λ o. or_else o (first_place others t)) is)

-- and else that of the second
pub join_none : (names others : List Mention) (t : Text) → first_place names t ≡ None → first_place others t ≡ first_place (names ++ others) t
join_none names others t none = sym (first_append names others t ∙ ap (λ o. or_else o (first_place others t)) none)

-- what is found is the first
pub found_first : (o : Option ℕ) (names others : List Mention) (t : Text) → o ≡ first_place names t → names ≡ others → IfSome o (λ place. first_place others t ≡ Some place)
found_first None names others t e same = tt
found_first (Some place) names others t e same = sym (e ∙ ap (λ l. first_place l t) same)

-- ## Labels

-- the labels from an index on
pub labels_step : (subtasks : List SubtaskText) (k : ℕ) (d : SubtaskText) (t : Text) → k < length subtasks
    → first_place (flat_map (λ s. optional_mention s.label) (drop k subtasks)) t
    ≡ or_else (first_place (optional_mention (get_or subtasks k d).label) t) (first_place (flat_map (λ s. optional_mention s.label) (drop (k + 1) subtasks)) t)
labels_step subtasks k d t lt =
    ap (λ l. first_place (flat_map (λ s. optional_mention s.label) l) t) (drop-cons subtasks k d lt)
    ∙ first_append (optional_mention (get_or subtasks k d).label) _ t
    ∙ ap (λ n. or_else (first_place (optional_mention (get_or subtasks k d).label) t) (first_place (flat_map (λ s. optional_mention s.label) (drop n subtasks)) t)) (sym (add-one k))

-- ## Variables in force

all_mentions : (gs : List (Bor (List VariableGroup))) → flat_map (λ g. mentions_of (typed_variables g.now)) gs ≡ variable_mentions (flat_map (λ g. quantified_of g.now) gs)
all_mentions [] = refl
all_mentions (g ∷ gs) =
    (λ i. sym (map_map (λ (v : Variable). v.typed.mention) (λ (t : Typed). record { typed = t; is_quantified = true }) (typed_variables g.now)) i ++ all_mentions gs i)
    ∙ sym (map-append (λ (v : Variable). v.typed.mention) (quantified_of g.now) (flat_map (λ g. quantified_of g.now) gs))

-- the mentions of the variables in force
pub force_mentions : (scope : InForce)
    → mentions_of (typed_variables (section_parameters scope.section)) ++ flat_map (λ g. mentions_of (typed_variables g.now)) scope.quantified.items
    ≡ variable_mentions (in_force scope)
force_mentions scope =
    (λ i. sym (map_map (λ (v : Variable). v.typed.mention) (λ (t : Typed). record { typed = t; is_quantified = false }) (typed_variables (section_parameters scope.section))) i
    ++ all_mentions scope.quantified.items i)
    ∙ sym (map-append (λ (v : Variable). v.typed.mention) (parameters_of (section_parameters scope.section)) (flat_map (λ g. quantified_of g.now) scope.quantified.items))

-- ## What uses of a kind name

abbrev pub called_predicate : PredicateText → Name × List VariableGroup
called_predicate x = (x.name, x.parameters)

abbrev pub called_task : TaskText → Name × List VariableGroup
called_task x = (x.name, x.parameters)

abbrev pub called_action : ActionText → Name × List VariableGroup
called_action x = (x.name, x.parameters)

module _ (d : DomainText) where
  -- the names of predicates
  pub predicates_called : map (λ x. mention_of x.name) d.predicates ≡ called_mentions d kind.Predicate
  predicates_called = sym (map_map (λ (x : Name × List VariableGroup). mention_of x.0) called_predicate d.predicates)

  -- the names of compound tasks, and then those of actions
  pub tasks_called : map (λ x. mention_of x.name) d.tasks ++ map (λ x. mention_of x.name) d.actions ≡ called_mentions d kind.Task
  tasks_called =
      (λ i. sym (map_map (λ (x : Name × List VariableGroup). mention_of x.0) called_task d.tasks) i
      ++ sym (map_map (λ (x : Name × List VariableGroup). mention_of x.0) called_action d.actions) i)
      ∙ sym (map-append (λ (x : Name × List VariableGroup). mention_of x.0) (map called_task d.tasks) (map called_action d.actions))
