-- In a pair that fits together no two predicates, no two methods, and no two tasks or actions, have one name.
use Rattle.std.proofs.Common.{◌≡◌, List, [], ◌∷◌, ◌++◌, map, inl, inr, sym, refl, ap, ◌∙◌, subst, arith, max}
use Rattle.std.proofs.lemmas.List.{map-append}
use Rattle.std.proofs.lemmas.Simd.{map-map}
use Rattle.hddl_words.specs.declared.domain.DomainText.{DomainText}
use Rattle.hddl_words.specs.declared.problem.ProblemText.{ProblemText}
use Rattle.hddl_meaning.specs.Mentions.{IsIn, Mention, Text, folded, mention_of, texts}
use Rattle.hddl_meaning.specs.Names.{compound_names, distinct, predicate_names, task_names}
use Rattle.hddl_meaning.specs.Items.{IsWellTypedPair, declaration_groups, groups}
use Rattle.hddl_meaning.specs.declared.fault.Source.{Source}
use Rattle.hddl_meaning.specs.declared.fault.Source.TheVariants as source
use Rattle.hddl_meaning.specs.declared.fault.CheckFault.TheVariants as fault
use Rattle.hddl_meaning.proofs.Listed.{AreDifferent, distinct_itself, in_cases, in_left, in_nothing}

-- a mention with a text, and what stands around it
record Mentioned (t : Text) (mentions : List Mention) : Type 0 where
  pub before : List Mention
  pub m : Mention
  pub after : List Mention
  pub whole : mentions ≡ before ++ m ∷ after
  pub same : t ≡ m.text

-- a text among mentions is that of one
mentioned : (t : Text) (mentions : List Mention) → IsIn t (texts mentions) → Mentioned t mentions
mentioned t [] h = absurd (in_nothing t h)
mentioned t (m ∷ mentions) h =
    elim (in_cases m.text t (texts mentions) h) [
      | inl e ↦ record { before = []; m = m; after = mentions; whole = refl; same = sym e }
      | inr later ↦
          let found = mentioned t mentions later in
          record { before = m ∷ found.before; m = found.m; after = found.after; whole = ap (λ xs. m ∷ xs) found.whole; same = found.same }
    ]

-- no two of one text
abbrev pub HasNoTwo : List Mention → Type 0
HasNoTwo group =
    (before : List Mention) (first : Mention) (middle : List Mention) (second : Mention) (after : List Mention)
    → group ≡ before ++ first ∷ middle ++ second ∷ after → first.text ≡ second.text → ⊥

-- mentions of which no two have one name differ
different : (group : List Mention) → HasNoTwo group → AreDifferent (texts group)
different [] none = tt
different (m ∷ group) none = (
  λ h. let found = mentioned m.text group h in none [] m found.before found.m found.after (ap (λ xs. m ∷ xs) found.whole) found.same,
  different group (λ before first middle second after e same. none (m ∷ before) first middle second after (ap (λ xs. m ∷ xs) e) same),
)

module _ (d : DomainText) (p : ProblemText) (fits : IsWellTypedPair d p) where
  -- the mentions of each group differ
  pub different_in : (text : Source) (group : List Mention) → IsIn group (groups d p text) → AreDifferent (texts group)
  different_in text group h =
      different group
      (λ before first middle second after e same.
      fits (fault.Duplicate (record { source = text; place = max first.place second.place })) (group, before, first, middle, second, after, h, e, same, refl))

  -- declared names that must differ do
  declared_differ : (group : List Mention) → IsIn group (declaration_groups d source.Domain) → AreDifferent (texts group)
  declared_differ group h = different_in source.Domain group (in_left group (declaration_groups d source.Domain) _ h)

  -- the names of predicates differ
  pub predicates_differ : AreDifferent (predicate_names d)
  predicates_differ =
      subst AreDifferent (map-map (λ m. m.text) (λ x. mention_of x.name) d.predicates) (declared_differ (map (λ x. mention_of x.name) d.predicates) (0, omega arith, refl))

  -- the names of methods differ
  pub methods_differ : AreDifferent (map (λ x. folded x.name.text) d.methods)
  methods_differ =
      subst AreDifferent (map-map (λ m. m.text) (λ x. mention_of x.name) d.methods) (declared_differ (map (λ x. mention_of x.name) d.methods) (1, omega arith, refl))

  -- the names of tasks and actions differ
  pub tasks_differ : AreDifferent (task_names d)
  tasks_differ =
      subst AreDifferent
      (map-append (λ m. m.text) (map (λ x. mention_of x.name) d.tasks) (map (λ x. mention_of x.name) d.actions)
      ∙ ap (λ xs. xs ++ map (λ m. m.text) (map (λ x. mention_of x.name) d.actions)) (map-map (λ m. m.text) (λ x. mention_of x.name) d.tasks)
      ∙ ap (λ xs. compound_names d ++ xs) (map-map (λ m. m.text) (λ x. mention_of x.name) d.actions))
      (declared_differ (map (λ x. mention_of x.name) d.tasks ++ map (λ x. mention_of x.name) d.actions) (2, omega arith, refl))

  -- so the distinct names of predicates are all of them
  pub distinct_predicates : distinct (predicate_names d) ≡ predicate_names d
  distinct_predicates = distinct_itself (predicate_names d) predicates_differ

  -- so are the distinct names of tasks and actions
  pub distinct_tasks : distinct (task_names d) ≡ task_names d
  distinct_tasks = distinct_itself (task_names d) tasks_differ
