-- The parts of the two texts fail exactly where the items do.
use Rattle.std.proofs.Common.{◌≡◌, ℕ, List, ◌++◌, ◌⊎◌, Some, inl, inr, refl, sym, subst, arith}
use Rattle.std.specs.List.{flat_map, zip}
use Rattle.std.proofs.lemmas.List.Elements.{Contains-append_cases}
use Rattle.hddl_words.specs.declared.term.Term.{Term}
use Rattle.hddl_words.specs.declared.term.Term.TheVariants as term
use Rattle.hddl_words.specs.declared.network.NetworkText.{NetworkText}
use Rattle.hddl_words.specs.declared.domain.DomainText.{DomainText}
use Rattle.hddl_words.specs.declared.problem.ProblemText.{ProblemText}
use Rattle.hddl_words.specs.Names.{Variable}
use Rattle.hddl_meaning.specs.Mentions.{Text, Mention, Typed, IsIn}
use Rattle.hddl_meaning.specs.Uses.{Use, TermUse, Schema}
use Rattle.hddl_meaning.specs.Items as items
use Rattle.hddl_meaning.specs.Names.{object_names, predicate_names, compound_names, task_names}
use Rattle.hddl_meaning.specs.Items.{FailsAt, IsDuplicate, IsMissing, IsUnknownType, IsUnknownName, IsWrongArity, IsClash, IsTypeClash, IsTooMany, IsWellTypedPair, Signature, predicate_signatures, task_signatures, schemas_in, IsPast, terms_in, tasks_in, arguments_of, flattened, subtask_mentions, most_declarations, most_parameters, most_variables, most_subtasks, groups}
use Rattle.hddl_meaning.specs.declared.fault.Source.{Source}
use Rattle.hddl_meaning.specs.declared.fault.Source.TheVariants as source
use Rattle.hddl_meaning.specs.declared.fault.At.{At}
use Rattle.hddl_meaning.specs.declared.fault.CheckFault.{CheckFault}
use Rattle.hddl_meaning.specs.declared.fault.CheckFault.TheVariants as fault
use Rattle.hddl_meaning.proofs.Listed.{in_left, in_right, in_flat_map}
use Rattle.hddl_uses.specs.Known.{AreKnown, IsKnown}
use Rattle.hddl_uses.specs.Parts.{Part, FailsIn, UseFails, IsWrongCount, HasClash}
use Rattle.hddl_check.specs.TextParts.{PartFails}
use Rattle.hddl_check.specs.Cycles.{IsCycleFault}
use Rattle.hddl_check.specs.Faults.{IsFirst, IsLeftOut, IsNamed, IsOvertakenName}
use Rattle.hddl_scope.specs.Repeats.{IsRepeat, IsRepeatOfFirst}
use Rattle.hddl_scope.proofs.Repeating.{of_two, repeat_or_overtaken, some_repeat}
use Rattle.hddl_uses.specs.Parts.Part.{Different, Limited, TypeName, Atom, Decomposed, Subtask, Side, Network, Types, Objects}
use Rattle.hddl_scope.proofs.Finding.{flat_mapped}
use Rattle.hddl_check.proofs.Typing.{objects_known}
use Rattle.hddl_check.proofs.Repeats.{repeat_after}
use Rattle.hddl_check.proofs.TextParts.{IsPart, IsLimited, actions, is_part, has_part, of_declaration, tasks}

module _ (d : DomainText) (p : ProblemText) where
  -- ## A part that fails is a fault

  module _ (text : Source) where
    -- a place in the text
    abbrev at_place : ℕ → At
    at_place place = record { source = text; place = place }

    -- equal faults fail alike
    fails_by : (f g : CheckFault) → f ≡ g → FailsAt d p g → FailsAt d p f
    fails_by f g e h = subst (FailsAt d p) (sym e) h

    -- a network that fails is a fault of the pair
    network_fails : (at : ℕ) (n : NetworkText) (f : CheckFault) → IsPart d p text (Network at n) → FailsIn d p text (Network at n) f → FailsAt d p f
    network_fails at n f in' (inl (place, e, (a, cycle, is))) = fails_by f (fault.OrderCycle (at_place place)) e ((at, n), a, in', cycle, is)
    network_fails at n f in' (inr (place, e, (name, named, missing))) =
        fails_by f (fault.UnknownSubtask (at_place place)) e ((at, n), name, in', named, missing)

    -- a list past its limit is a fault of the pair
    limited_fails : (n : ℕ) (m : List Mention) (f : CheckFault) → IsLimited d p text n m → FailsIn d p text (Limited n m) f → FailsAt d p f
    limited_fails n m f (inl (limit, in')) (place, e, past) =
        fails_by f (fault.TooMany (at_place place)) e (inr (inr (inl (m, in', subst (λ k. IsPast k m place) limit past))))
    limited_fails n m f (inr (inl (limit, in'))) (place, e, past) =
        fails_by f (fault.TooMany (at_place place)) e (inr (inr (inr (inl (m, in', subst (λ k. IsPast k m place) limit past)))))
    limited_fails n m f (inr (inr (inl (limit, in')))) (place, e, past) =
        fails_by f (fault.TooMany (at_place place)) e (inr (inr (inr (inr (inl (m, in', subst (λ k. IsPast k m place) limit past))))))
    limited_fails n m f (inr (inr (inr (limit, (w, in', is))))) (place, e, past) =
        fails_by f (fault.TooMany (at_place place)) e
        (inr (inr (inr (inr (inr (w, in', subst (λ l. IsPast most_subtasks l place) is (subst (λ k. IsPast k m place) limit past)))))))

    -- types past their limit are a fault of the pair
    types_fail : (f : CheckFault) → text ≡ source.Domain → FailsIn d p text Types f → FailsAt d p f
    types_fail f is (place, e, past) = fails_by f (fault.TooMany (at_place place)) e (inl (is, past))

    -- an argument of an atom or a task of a schema is a term of the text
    term_in : (s : Schema) (u : Use) (t : TermUse) → IsIn s (schemas_in d p text) → IsIn u (s.atoms ++ s.decomposed ++ s.subtasks) → IsIn t (arguments_of u)
        → IsIn t (flattened terms_in (schemas_in d p text))
    term_in s u t has in' at =
        let uses : List Use = s.atoms ++ s.decomposed ++ s.subtasks in
        in_flat_map terms_in s t (schemas_in d p text) has (in_left t (flat_map arguments_of uses) s.sides (in_flat_map arguments_of u t uses in' at))

    -- a task of a method or of a network of a schema is one of the text
    task_in : (s : Schema) (u : Use) → IsIn s (schemas_in d p text) → IsIn u (tasks_in s) → IsIn u (flattened tasks_in (schemas_in d p text))
    task_in s u has in' = in_flat_map tasks_in s u (schemas_in d p text) has in'

    -- a use that fails is a fault of the pair, if each way in which it may is
    use_fails : (names : List Text) (signatures : List Signature) (u : Use) (f : CheckFault)
        → ((place : ℕ) → IsMissing names u.atom.name place → IsUnknownName d p (at_place place))
        → ((t : TermUse) → IsIn t (arguments_of u) → IsIn t (flattened terms_in (schemas_in d p text)))
        → ((place : ℕ) → IsWrongCount signatures u place → IsWrongArity d p (at_place place))
        → ((place : ℕ) → HasClash d p signatures u place → IsTypeClash d p (at_place place)) → UseFails d p text names signatures u f → FailsAt d p f
    use_fails names signatures u f missing argument count clash (inl (place, e, h)) = fails_by f (fault.UnknownName (at_place place)) e (missing place h)
    use_fails names signatures u f missing argument count clash (inr (inl (place, e, (t, at, unknown)))) =
        fails_by f (fault.UnknownName (at_place place)) e (inr (inr (inr (t, argument t at, unknown))))
    use_fails names signatures u f missing argument count clash (inr (inr (inl (place, e, h)))) = fails_by f (fault.Arity (at_place place)) e (count place h)
    use_fails names signatures u f missing argument count clash (inr (inr (inr (place, e, h)))) = fails_by f (fault.TypeClash (at_place place)) e (clash place h)

    -- an atom that fails is a fault of the pair
    atom_fails : (u : Use) (f : CheckFault) → IsPart d p text (Atom u) → FailsIn d p text (Atom u) f → FailsAt d p f
    atom_fails u f in' h =
        let (s, has, at) = flat_mapped (λ s. s.atoms) (schemas_in d p text) u in' in
        use_fails (predicate_names d) (predicate_signatures d) u f (λ place missing. inl (u, in', missing))
        (λ t is. term_in s u t has (in_left u (s.atoms ++ s.decomposed) s.subtasks (in_left u s.atoms s.decomposed at)) is)
        (λ place (x, e, wrong, is). inl (u, x, in', e, wrong, is))
        (λ place (x, argument, of_place, e, among, known). inl (u, x, argument, of_place, in', e, among, known.clash)) h

    -- the task of a method that fails is a fault of the pair
    decomposed_fails : (u : Use) (f : CheckFault) → IsPart d p text (Decomposed u) → FailsIn d p text (Decomposed u) f → FailsAt d p f
    decomposed_fails u f in' h =
        let (s, has, at) = flat_mapped (λ s. s.decomposed) (schemas_in d p text) u in' in
        let task = task_in s u has (in_left u s.decomposed s.subtasks at) in
        use_fails (compound_names d) (task_signatures d) u f (λ place missing. inr (inl (u, in', missing)))
        (λ t is. term_in s u t has (in_left u (s.atoms ++ s.decomposed) s.subtasks (in_right u s.atoms s.decomposed at)) is)
        (λ place (x, e, wrong, is). inr (u, x, task, e, wrong, is))
        (λ place (x, argument, of_place, e, among, known). inr (u, x, argument, of_place, task, e, among, known.clash)) h

    -- a subtask that fails is a fault of the pair
    subtask_fails : (u : Use) (f : CheckFault) → IsPart d p text (Subtask u) → FailsIn d p text (Subtask u) f → FailsAt d p f
    subtask_fails u f in' h =
        let (s, has, at) = flat_mapped (λ s. s.subtasks) (schemas_in d p text) u in' in
        let task = task_in s u has (in_right u s.decomposed s.subtasks at) in
        use_fails (task_names d) (task_signatures d) u f (λ place missing. inr (inr (inl (u, in', missing))))
        (λ t is. term_in s u t has (in_right u (s.atoms ++ s.decomposed) s.subtasks at) is)
        (λ place (x, e, wrong, is). inr (u, x, task, e, wrong, is))
        (λ place (x, argument, of_place, e, among, known). inr (u, x, argument, of_place, task, e, among, known.clash)) h

    -- a side of an equality that fails is a fault of the pair
    side_fails : (t : TermUse) (f : CheckFault) → IsPart d p text (Side t) → FailsIn d p text (Side t) f → FailsAt d p f
    side_fails t f in' (place, e, unknown) =
        let (s, has, at) = flat_mapped (λ s. s.sides) (schemas_in d p text) t in' in
        fails_by f (fault.UnknownName (at_place place)) e
        (inr (inr (inr (
          t,
          in_flat_map terms_in s t (schemas_in d p text) has (in_right t (flat_map arguments_of (s.atoms ++ s.decomposed ++ s.subtasks)) s.sides at),
          unknown,
        ))))

    -- names that must differ and don't are a fault of the pair
    repeat_fails : (g : List Mention) (place : ℕ) (f : CheckFault) → IsIn g (groups d p text) → f ≡ fault.Duplicate (at_place place) → IsRepeat g place → FailsAt d p f
    repeat_fails g place f in' e (before, first, middle, second, after, whole, same, is) =
        fails_by f (fault.Duplicate (at_place place)) e (g, before, first, middle, second, after, in', whole, same, is)

    -- whatever fails of a text is a fault of the pair
    part_fails : (x : Part) (f : CheckFault) → IsPart d p text x → FailsIn d p text x f → FailsAt d p f
    part_fails (Different g) f (inl in') (place, e, again) = repeat_fails g place f in' e (of_two g place again)
    part_fails (Different g) f (inr (is, actions_are)) (place, e, again) =
        repeat_fails (tasks d ++ actions d) place f (subst (λ text. IsIn (tasks d ++ actions d) (groups d p text)) (sym is) (of_declaration d p (tasks d ++ actions d) (2, omega arith, refl))) e
        (repeat_after (tasks d) (actions d) place (of_two (actions d) place (subst (λ g. IsRepeatOfFirst g place) actions_are again)))
    part_fails (Limited n m) f is h = limited_fails n m f is h
    part_fails (TypeName m) f in' (place, e, (undeclared, is)) = fails_by f (fault.UnknownType (at_place place)) e (m, in', undeclared, is)
    part_fails (Atom u) f in' h = atom_fails u f in' h
    part_fails (Decomposed u) f in' h = decomposed_fails u f in' h
    part_fails (Subtask u) f in' h = subtask_fails u f in' h
    part_fails (Side t) f in' h = side_fails t f in' h
    part_fails (Network at n) f in' h = network_fails at n f in' h
    part_fails Types f is h = types_fail f is h
    part_fails Objects f is (place, e, past) = fails_by f (fault.TooMany (at_place place)) e (inr (inl past))

  -- ## The parts fail only where the items do

  -- what fails of one of the texts is a fault of the pair
  parts_sound : (f : CheckFault) → PartFails d p f → FailsAt d p f
  parts_sound f (inl (x, at, fails)) = part_fails source.Domain x f (is_part d p source.Domain x at) fails
  parts_sound f (inr (x, at, fails)) = part_fails source.Problem x f (is_part d p source.Problem x at) fails

  -- ## A fault is a part that fails, or a cycle of types

  -- something of one of the texts fails so
  abbrev Failing : CheckFault → Type 0
  Failing f = (text : Source) × (x : Part) × IsPart d p text x × FailsIn d p text x f

  -- too many of a kind fail by the list that is past its limit
  many_failing : (text : Source) (place : ℕ) → IsTooMany d p (at_place text place) → Failing (fault.TooMany (at_place text place))
  many_failing text place (inl (is, past)) = (text, Types, is, (place, refl, past))
  many_failing text place (inr (inl past)) = (text, Objects, tt, (place, refl, past))
  many_failing text place (inr (inr (inl (m, in', past)))) = (text, Limited most_declarations m, inl (refl, in'), (place, refl, past))
  many_failing text place (inr (inr (inr (inl (m, in', past))))) = (text, Limited most_parameters m, inr (inl (refl, in')), (place, refl, past))
  many_failing text place (inr (inr (inr (inr (inl (m, in', past)))))) = (text, Limited most_variables m, inr (inr (inl (refl, in'))), (place, refl, past))
  many_failing text place (inr (inr (inr (inr (inr (w, in', past)))))) =
      (text, Limited most_subtasks (subtask_mentions w.1), inr (inr (inr (refl, (w, in', refl)))), (place, refl, past))

  -- what fails of a text fails among what has to fit in it
  failing_part : (f : CheckFault) (text : Source) (x : Part) → IsPart d p text x → FailsIn d p text x f → PartFails d p f
  failing_part f source.Domain x is fails = inl (x, has_part d p source.Domain x is, fails)
  failing_part f source.Problem x is fails = inr (x, has_part d p source.Problem x is, fails)

  -- ### Names that must differ

  -- two that don't fail by the first of their text, or are overtaken by it
  repeat_faults : (at : At) → IsDuplicate d p at → PartFails d p (fault.Duplicate at) ⊎ IsOvertakenName d p (fault.Duplicate at)
  repeat_faults at (g, before, first, middle, second, after, in', whole, same, is) =
      elim (repeat_or_overtaken g at.place (before, first, middle, second, after, whole, same, is)) [
        | inl again ↦ inl (failing_part (fault.Duplicate at) at.source (Different g) (inl in') (at.place, refl, again))
        | inr over ↦ inr (at, g, refl, in', over)
      ]

  -- where some don't, one fails by the first of its text
  some_fails : (f : CheckFault) → IsOvertakenName d p f → (g : CheckFault) × PartFails d p g
  some_fails f (at, g, e, in', (before, first, middle, second, after, third, whole, same, is, among, text, lt)) =
      let (place, again) = some_repeat g at.place (before, first, middle, second, after, whole, same, is) in
      let other = fault.Duplicate (at_place at.source place) in
      (other, failing_part other at.source (Different g) (inl in') (place, refl, again))

  -- ### Types and limits

  -- an unknown type fails in one of the texts
  type_faults : (at : At) → IsUnknownType d p at → PartFails d p (fault.UnknownType at)
  type_faults at (m, in', undeclared, is) =
      failing_part (fault.UnknownType at) at.source (TypeName m) in' (at.place, refl, (undeclared, is))

  -- too many of a kind fail in one of the texts
  many_faults : (at : At) → IsTooMany d p at → PartFails d p (fault.TooMany at)
  many_faults at h = let (text, x, is, fails) = many_failing at.source at.place h in failing_part (fault.TooMany at) text x is fails

  -- ### Names, arguments and their types

  -- a task of a method or of a network is a part
  task_part : (text : Source) (u : Use) → IsIn u (flattened tasks_in (schemas_in d p text)) → IsPart d p text (Decomposed u) ⊎ IsPart d p text (Subtask u)
  task_part text u in' =
      let (s, has, at) = flat_mapped tasks_in (schemas_in d p text) u in' in
      elim (Contains-append_cases s.decomposed s.subtasks u at) [
        | inl i ↦ inl (in_flat_map (λ s. s.decomposed) s u (schemas_in d p text) has i)
        | inr i ↦ inr (in_flat_map (λ s. s.subtasks) s u (schemas_in d p text) has i)
      ]

  -- how a task fails, whatever it may be named
  task_faults : (text : Source) (u : Use) (f : CheckFault) → IsIn u (flattened tasks_in (schemas_in d p text))
      → ((names : List Text) → UseFails d p text names (task_signatures d) u f) → PartFails d p f
  task_faults text u f in' fails =
      elim (task_part text u in') [
        | inl is ↦ failing_part f text (Decomposed u) is (fails (compound_names d))
        | inr is ↦ failing_part f text (Subtask u) is (fails (task_names d))
      ]

  -- an argument that fails does so in one of the texts
  argument_faults : (text : Source) (s : Schema) (u : Use) (f : CheckFault) → IsIn s (schemas_in d p text) → IsIn u (s.atoms ++ s.decomposed ++ s.subtasks)
      → ((names : List Text) (signatures : List Signature) → UseFails d p text names signatures u f) → PartFails d p f
  argument_faults text s u f has in' fails =
      elim (Contains-append_cases (s.atoms ++ s.decomposed) s.subtasks u in') [
        | inl before ↦ elim (Contains-append_cases s.atoms s.decomposed u before) [
          | inl i ↦ failing_part f text (Atom u) (in_flat_map (λ s. s.atoms) s u (schemas_in d p text) has i) (fails (predicate_names d) (predicate_signatures d))
          | inr i ↦ failing_part f text (Decomposed u) (in_flat_map (λ s. s.decomposed) s u (schemas_in d p text) has i) (fails (compound_names d) (task_signatures d))
        ]
        | inr i ↦ failing_part f text (Subtask u) (in_flat_map (λ s. s.subtasks) s u (schemas_in d p text) has i) (fails (task_names d) (task_signatures d))
      ]

  -- an unknown term fails in one of the texts
  term_faults : (at : At) (t : TermUse) → IsIn t (flattened terms_in (schemas_in d p at.source)) → items.IsUnknownTerm (object_names d p) t at.place
      → PartFails d p (fault.UnknownName at)
  term_faults at t in' unknown =
      let f = fault.UnknownName at in
      let (s, has, among) = flat_mapped terms_in (schemas_in d p at.source) t in' in
      elim (Contains-append_cases (flat_map arguments_of (s.atoms ++ s.decomposed ++ s.subtasks)) s.sides t among) [
        | inl i ↦ let (u, of, is) = flat_mapped arguments_of (s.atoms ++ s.decomposed ++ s.subtasks) t i in
            argument_faults at.source s u f has of (λ names signatures. inr (inl (at.place, refl, (t, is, unknown))))
        | inr i ↦ failing_part f at.source (Side t) (in_flat_map (λ s. s.sides) s t (schemas_in d p at.source) has i) (at.place, refl, unknown)
      ]

  -- an unknown name fails in one of the texts
  name_faults : (at : At) → IsUnknownName d p at → PartFails d p (fault.UnknownName at)
  name_faults at (inl (u, in', missing)) = failing_part (fault.UnknownName at) at.source (Atom u) in' (inl (at.place, refl, missing))
  name_faults at (inr (inl (u, in', missing))) = failing_part (fault.UnknownName at) at.source (Decomposed u) in' (inl (at.place, refl, missing))
  name_faults at (inr (inr (inl (u, in', missing)))) = failing_part (fault.UnknownName at) at.source (Subtask u) in' (inl (at.place, refl, missing))
  name_faults at (inr (inr (inr (t, in', unknown)))) = term_faults at t in' unknown

  -- a wrong number of arguments fails in one of the texts
  count_faults : (at : At) → IsWrongArity d p at → PartFails d p (fault.Arity at)
  count_faults at (inl (u, s, in', e, wrong, is)) =
      failing_part (fault.Arity at) at.source (Atom u) in' (inr (inr (inl (at.place, refl, (s, e, wrong, is)))))
  count_faults at (inr (u, s, in', e, wrong, is)) =
      task_faults at.source u (fault.Arity at) in' (λ names. inr (inr (inl (at.place, refl, (s, e, wrong, is)))))

  -- the objects are known
  module _ (known : AreKnown d p) where
    -- of each argument what its place asks is known
    is_known : (argument : Term) → IsKnown d p argument
    is_known (term.Variable x) = tt
    is_known (term.Object x) = ∣ known ∣₁

    -- a clash fails in one of the texts
    clash_faults : (at : At) → IsTypeClash d p at → PartFails d p (fault.TypeClash at)
    clash_faults at (inl (u, s, argument, of_place, in', e, among, clash)) =
        failing_part (fault.TypeClash at) at.source (Atom u) in'
        (inr (inr (inr (at.place, refl, (s, argument, of_place, e, among, record { clash = clash; known = is_known argument })))))
    clash_faults at (inr (u, s, argument, of_place, in', e, among, clash)) =
        task_faults at.source u (fault.TypeClash at) in'
        (λ names. inr (inr (inr (at.place, refl, (s, argument, of_place, e, among, record { clash = clash; known = is_known argument })))))

    -- each fault of the pair is a cycle of types or fails in one of the texts, or is overtaken
    pub faults_complete : (f : CheckFault) → FailsAt d p f → (IsCycleFault d f ⊎ PartFails d p f) ⊎ IsOvertakenName d p f
    faults_complete (fault.Duplicate at) h = elim (repeat_faults at h) [ inl fails ↦ inl (inr fails) | inr over ↦ inr over ]
    faults_complete (fault.UnknownType at) h = inl (inr (type_faults at h))
    faults_complete (fault.TypeCycle at) h = inl (inl (at, refl, h))
    faults_complete (fault.UnknownName at) h = inl (inr (name_faults at h))
    faults_complete (fault.Arity at) h = inl (inr (count_faults at h))
    faults_complete (fault.TypeClash at) h = inl (inr (clash_faults at h))
    faults_complete (fault.OrderCycle at) (w, a, in', cycle, is) =
        inl (inr (failing_part (fault.OrderCycle at) at.source (Network w.0 w.1) in' (inl (at.place, refl, (a, cycle, is)))))
    faults_complete (fault.UnknownSubtask at) (w, name, in', named, missing) =
        inl (inr (failing_part (fault.UnknownSubtask at) at.source (Network w.0 w.1) in' (inr (at.place, refl, (name, named, missing)))))
    faults_complete (fault.TooMany at) h = inl (inr (many_faults at h))
    faults_complete fault.OutOfMemory h = absurd h

  -- each fault of the pair is a cycle of types or fails in one of the texts, or isn't looked for
  pub faults_decided : AreKnown d p ⊎ (AreKnown d p → ⊥) → (f : CheckFault) → FailsAt d p f → (IsCycleFault d f ⊎ PartFails d p f) ⊎ IsLeftOut d p f
  faults_decided (inl known) f h = elim (faults_complete known f h) [ inl q ↦ inl q | inr over ↦ inr (inl over) ]
  faults_decided (inr unknown) (fault.Duplicate at) h = elim (repeat_faults at h) [ inl fails ↦ inl (inr fails) | inr over ↦ inr (inl over) ]
  faults_decided (inr unknown) (fault.UnknownType at) h = inl (inr (type_faults at h))
  faults_decided (inr unknown) (fault.TypeCycle at) h = inl (inl (at, refl, h))
  faults_decided (inr unknown) (fault.UnknownName at) h = inl (inr (name_faults at h))
  faults_decided (inr unknown) (fault.Arity at) h = inl (inr (count_faults at h))
  faults_decided (inr unknown) (fault.TypeClash at) h = by h
    where
      -- a clash of a variable fails in any case
      variable_clash : (names : List Text) (signatures : List Signature) (u : Use) (s : Signature) (x : Variable) (of_place : Typed)
          → items.declaration_in signatures u.atom.name ≡ Some s → IsIn (term.Variable x, of_place) (zip u.atom.terms s.places)
          → IsClash d p u.variables (term.Variable x) of_place at.place → UseFails d p at.source names signatures u (fault.TypeClash at)
      variable_clash names signatures u s x of_place e among clash =
          inr (inr (inr (at.place, refl, (s, term.Variable x, of_place, e, among, record { clash = clash; known = tt }))))

      atoms : (u : Use) (s : Signature) (argument : Term) (of_place : Typed) → IsIn u (flattened (λ s. s.atoms) (schemas_in d p at.source))
          → items.declaration_in (predicate_signatures d) u.atom.name ≡ Some s → IsIn (argument, of_place) (zip u.atom.terms s.places)
          → IsClash d p u.variables argument of_place at.place → (IsCycleFault d (fault.TypeClash at) ⊎ PartFails d p (fault.TypeClash at)) ⊎ IsLeftOut d p (fault.TypeClash at)
      atoms u s (term.Variable x) of_place in' e among clash =
          inl (inr (failing_part (fault.TypeClash at) at.source (Atom u) in' (variable_clash (predicate_names d) (predicate_signatures d) u s x of_place e among clash)))
      atoms u s (term.Object x) of_place in' e among clash = inr (inr (at, u.variables, x, of_place, refl, clash, unknown))

      tasks : (u : Use) (s : Signature) (argument : Term) (of_place : Typed) → IsIn u (flattened tasks_in (schemas_in d p at.source))
          → items.declaration_in (task_signatures d) u.atom.name ≡ Some s → IsIn (argument, of_place) (zip u.atom.terms s.places)
          → IsClash d p u.variables argument of_place at.place → (IsCycleFault d (fault.TypeClash at) ⊎ PartFails d p (fault.TypeClash at)) ⊎ IsLeftOut d p (fault.TypeClash at)
      tasks u s (term.Variable x) of_place in' e among clash =
          inl (inr (task_faults at.source u (fault.TypeClash at) in' (λ names. variable_clash names (task_signatures d) u s x of_place e among clash)))
      tasks u s (term.Object x) of_place in' e among clash = inr (inr (at, u.variables, x, of_place, refl, clash, unknown))

      by : IsTypeClash d p at → (IsCycleFault d (fault.TypeClash at) ⊎ PartFails d p (fault.TypeClash at)) ⊎ IsLeftOut d p (fault.TypeClash at)
      by (inl (u, s, argument, of_place, in', e, among, clash)) = atoms u s argument of_place in' e among clash
      by (inr (u, s, argument, of_place, in', e, among, clash)) = tasks u s argument of_place in' e among clash
  faults_decided (inr unknown) (fault.OrderCycle at) (w, a, in', cycle, is) =
      inl (inr (failing_part (fault.OrderCycle at) at.source (Network w.0 w.1) in' (inl (at.place, refl, (a, cycle, is)))))
  faults_decided (inr unknown) (fault.UnknownSubtask at) (w, name, in', named, missing) =
      inl (inr (failing_part (fault.UnknownSubtask at) at.source (Network w.0 w.1) in' (inr (at.place, refl, (name, named, missing)))))
  faults_decided (inr unknown) (fault.TooMany at) h = inl (inr (many_faults at h))
  faults_decided (inr unknown) fault.OutOfMemory h = absurd h

  -- a cycle of types, and what fails in one of the texts, is a fault of the pair
  pub faults_sound : (f : CheckFault) → IsCycleFault d f ⊎ PartFails d p f → FailsAt d p f
  faults_sound f (inl (at, is, cycle)) = subst (FailsAt d p) (sym is) cycle
  faults_sound f (inr fails) = parts_sound f fails

  -- ## Where no part fails

  -- the fault that is named is the first
  pub named_is_first : AreKnown d p ⊎ (AreKnown d p → ⊥) → (f : CheckFault) → IsNamed d p f → IsFirst d p f
  named_is_first known f named = λ g fails before.
      elim (faults_decided known g fails) [ inl q ↦ absurd (named.1 g q before) | inr out ↦ out ]

  module _ (none : (f : CheckFault) → IsCycleFault d f ⊎ PartFails d p f → ⊥) where
    -- no type is unknown
    no_type_fault : (at : At) → IsUnknownType d p at → ⊥
    no_type_fault at h = none (fault.UnknownType at) (inr (type_faults at h))

    -- the objects are known
    pub are_known : AreKnown d p
    are_known = objects_known d p no_type_fault (λ at h. none (fault.TooMany at) (inr (many_faults at h)))

    -- nothing fails
    pub pair_is_well_typed : AreKnown d p → IsWellTypedPair d p
    pair_is_well_typed known f h =
        elim (faults_complete known f h) [ inl q ↦ none f q | inr over ↦ let (g, fails) = some_fails f over in none g (inr fails) ]
