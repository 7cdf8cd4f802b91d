-- The names of a task of two texts are words that a plan file can hold.
use Rattle.std.proofs.Common.{◌≡◌, ℕ, zero, suc, Bool, true, false, cond, List, [], ◌∷◌, ◌++◌, map, get_or, fold, Option, Some, None, sym, refl, ap, subst, arith}
use Rattle.std.specs.List.{AllByRecursion, AllZip, list_any}
use Rattle.htn_model.specs.PlanWord.{IsName}
use Rattle.htn_model.specs.Problem.{GroundTask}
use Rattle.htn_model.specs.Task.{Task, MethodSchema, task_names, method_names}
use Rattle.htn_ground.specs.Methods.{method_of}
use Rattle.htn_ground.specs.Naming.{unnamed, object_name, task_name, method_name, numbered_method_name}
use Rattle.hddl_words.specs.declared.term.NameGroup.{NameGroup}
use Rattle.hddl_words.specs.declared.domain.TaskText.{TaskText}
use Rattle.hddl_words.specs.declared.domain.ActionText.{ActionText}
use Rattle.hddl_words.specs.declared.domain.MethodText.{MethodText}
use Rattle.hddl_words.specs.Names.{Name}
use Rattle.hddl_meaning.specs.Building.{Vocabulary, vocabulary_of, compound_of, action_of, IsMethodOf}
use Rattle.hddl_meaning.specs.Mentions.{Text, Typed, mention_of, mentions_of, texts, typed_names}
use Rattle.hddl_meaning.specs.Names.{with_name, is_same_text}
use Rattle.hddl_names.proofs.PlanNames.{folded_name}
use Rattle.htn_review.specs.Headline.{IsTaskOfTexts}
use Rattle.htn_review.proofs.SpelledNames.{AreDomainNames, IsGood, AreGood, IsGoodTask, IsGoodAction, IsGoodMethod, all_join, domain_names, problem_names}

-- each of the texts is a name as a plan file can hold it
abbrev AreNames : List Text → Type 0
AreNames names = AllByRecursion IsName names

-- ## Objects

-- texts each once are names where all are
distinct_names : (names more : List Text) → AreNames names → AreNames more → AreNames (fold with_name names more)
distinct_names names [] h k = h
distinct_names names (text ∷ more) h k = distinct_names (with_name names text) more (by (list_any (is_same_text text) names)) k.1
  where
    by : (b : Bool) → AreNames (cond b names (names ++ text ∷ []))
    by true = h
    by false = all_join IsName names (text ∷ []) h (k.0, tt)

-- each of the typed names is one
abbrev AreTyped : List Typed → Type 0
AreTyped ts = AreNames (texts (mentions_of ts))

-- what two lists declare are names
typed_join : (xs ys : List Typed) → AreTyped xs → AreTyped ys → AreTyped (xs ++ ys)
typed_join [] ys h k = k
typed_join (x ∷ xs) ys h k = (h.0, typed_join xs ys h.1 k)

-- the names of a group
typed_group : (f : Name → Typed) → ((n : Name) → (f n).mention ≡ mention_of n) → (ns : List Name) → AllByRecursion IsGood ns → AreTyped (map f ns)
typed_group f is [] h = tt
typed_group f is (n ∷ ns) h = (subst IsName (sym (ap (λ m. m.text) (is n))) (folded_name n.text h.0), typed_group f is ns h.1)

-- the names of all groups
typed_groups : (groups : List NameGroup) → AreGood groups → AreTyped (typed_names groups)
typed_groups [] h = tt
typed_groups (g ∷ groups) h = typed_join _ (typed_names groups) (typed_group _ (λ n. refl) g.names h.0) (typed_groups groups h.1)

-- ## Tasks, actions, methods

-- compound tasks have names
tasks_named : (v : Vocabulary) (xs : List TaskText) → AllByRecursion IsGoodTask xs → AreNames (map (λ d. d.name) (map (compound_of v) xs))
tasks_named v [] h = tt
tasks_named v (x ∷ xs) h = (folded_name x.name.text h.0, tasks_named v xs h.1)

-- so have actions
actions_named : (v : Vocabulary) (xs : List ActionText) → AllByRecursion IsGoodAction xs → AreNames (map (λ a. a.name) (map (action_of v) xs))
actions_named v [] h = tt
actions_named v (x ∷ xs) h = (folded_name x.name.text h.0, actions_named v xs h.1)

-- and methods
methods_named : (v : Vocabulary) (xs : List MethodText) (ms : List MethodSchema) → AllZip (IsMethodOf v) xs ms → AllByRecursion IsGoodMethod xs
    → AreNames (map (λ m. m.name) ms)
methods_named v [] [] all h = tt
methods_named v [] (m ∷ ms) all h = absurd all
methods_named v (x ∷ xs) [] all h = absurd all
methods_named v (x ∷ xs) (m ∷ ms) all h = (subst IsName (sym all.0.name) (folded_name x.name.text h.0), methods_named v xs ms all.1 h.1)

-- ## The task

-- the names of all that a plan of the task can name
pub record IsNamed (t : Task) : Type 0 where
  pub objects : AreNames t.objects
  pub tasks : AreNames (task_names t)
  pub methods : AreNames (method_names t)

module _ (domain problem : List ℕ) (t : Task) (is : IsTaskOfTexts domain problem t) where
  -- the names that the two texts declare
  abbrev vocabulary : Vocabulary
  vocabulary = vocabulary_of is.domain_tree is.problem_tree

  -- the names of the domain
  of_domain : AreDomainNames is.domain_tree
  of_domain = domain_names domain is.domain_tree is.domain_spelled

  -- a task of two texts is named
  pub task_is_named : IsNamed t
  task_is_named = record {
    objects =
        subst AreNames (sym is.is_task.objects)
        (distinct_names [] _ tt
        (typed_join (typed_names is.domain_tree.constants) (typed_names is.problem_tree.objects)
        (typed_groups is.domain_tree.constants of_domain.constants) (typed_groups is.problem_tree.objects (problem_names problem is.problem_tree is.problem_spelled))));
    tasks =
        all_join IsName (map (λ d. d.name) t.tasks) (map (λ a. a.name) t.actions)
        (subst (λ xs. AreNames (map (λ d. d.name) xs)) (sym is.is_task.tasks) (tasks_named vocabulary is.domain_tree.tasks of_domain.tasks))
        (subst (λ xs. AreNames (map (λ a. a.name) xs)) (sym is.is_task.actions) (actions_named vocabulary is.domain_tree.actions of_domain.actions));
    methods = methods_named vocabulary is.domain_tree.methods t.methods is.is_task.methods of_domain.methods;
  }

-- ## The words of a plan

-- what stands for no name can be held too
unnamed_is : IsName unnamed
unnamed_is = record { filled = omega arith; bytes = refl; other = λ e. cc }

-- so can each name, by its number
name_at : (names : List Text) (n : ℕ) → AreNames names → IsName (get_or names n unnamed)
name_at [] n h = unnamed_is
name_at (x ∷ names) zero h = h.0
name_at (x ∷ names) (suc n) h = name_at names n h.1

module _ (t : Task) (is : IsNamed t) where
  -- the word of a task or action
  pub task_word : (n : ℕ) → IsName (task_name t n)
  task_word n = name_at (task_names t) n is.tasks

  -- the words of objects
  pub object_words : (os : List ℕ) → AllByRecursion IsName (map (object_name t) os)
  object_words [] = tt
  object_words (o ∷ os) = (name_at t.objects o is.objects, object_words os)

  -- the word of a method
  pub method_word : (g : GroundTask) (number : ℕ) → IsName (method_name t g number)
  method_word g number = by (method_of t g number)
    where
      by : (o : Option ℕ) → IsName (numbered_method_name t o)
      by None = unnamed_is
      by (Some m) = name_at (method_names t) m is.methods
