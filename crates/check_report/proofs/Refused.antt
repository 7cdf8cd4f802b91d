-- Reports with an error, and those without one.
use Rattle.std.proofs.Common.{◌≡◌, ◌≢◌, inl, inr, ℕ, Bool, true, false, cond, ◌||◌, ◌&&◌, not, ◌∙◌, ap, arith, sym, subst, refl, List, [], ◌∷◌, ◌++◌, map, Option, Some, None}
use Rattle.std.specs.List.{All, AllZip, list_any}
use Rattle.std.specs.Prelude.{slice_get}
use Rattle.std.proofs.lemmas.List.Elements.{All-append, All-cons, All-nil}
use Rattle.std.proofs.lemmas.List.Folds.{list_any-append, list_any_none}
use Rattle.std.proofs.lemmas.List.Sorted.{All-permutation}
use Rattle.diagnostics.specs.declared.diagnostic.Diagnostic.{Diagnostic}
use Rattle.diagnostics.specs.Written as report
use Rattle.diagnostics.specs.declared.reached.Reached.{Reached}
use Rattle.hddl_check.specs.Faults.{IsNamed}
use Rattle.hddl_meaning.specs.Items.{FailsAt}
use Rattle.hddl_meaning.specs.declared.fault.At.{At}
use Rattle.hddl_meaning.specs.declared.fault.CheckFault.{CheckFault}
use Rattle.hddl_scope.proofs.Least.{neither_before}
use Rattle.hddl_text.specs.Grammar.{DerivesDomain, DerivesProblem}
use Rattle.hddl_text.specs.Spelling.{Spells}
use Rattle.hddl_text.proofs.Laws.{domain_laws, problem_laws}
use Rattle.hddl_words.specs.declared.domain.DomainText.{DomainText}
use Rattle.hddl_words.specs.declared.problem.ProblemText.{ProblemText}
use Rattle.hddl_warnings.specs.declared.warning.Warning.{Warning}
use Rattle.check_report.specs.Alone.{IsOwnFault, Text, no_problem}
use Rattle.check_report.specs.Checks.{AreRefused, Checks, bytes_of}
use Rattle.check_report.specs.Reach.{Unplanned, never_applied, no_plan}
use Rattle.check_report.specs.Report.{is_error}
use Rattle.check_report.specs.Texts.{AllWarnings, AreFaultsOf, ArePairFaults, DomainFinds, Fault, Finds, FitTogether, IsRefused, PairFinds, alone, both, first, of_domain, of_pair, of_problem, second, together, unread}
use Rattle.check_report.specs.Told.{AreTextsWarned, AreTold, AreWarned, Named, Tells, TellsAt, Warns, WarnsOfPlans}
use Rattle.check_report.specs.declared.report.Checked.{Checked}
use Rattle.check_report.specs.declared.report.Finding.TheVariants.{Sound, Warned, Faulty}
use Rattle.check_report.specs.declared.report.Options.{Options}

-- ## Refutations

-- true isn't false
pub is_false : true ≡ false → ⊥
is_false is = cc

-- a list with an element isn't empty
pub no_cons : {A : Type 0} (x : A) (xs : List A) → x ∷ xs ≡ [] → ⊥
no_cons x xs is = cc

-- ## Errors among diagnostics

-- of two tests neither passes
neither : (a b : Bool) → (a || b) ≡ false → b ≡ false
neither true b none = absurd cc
neither false b none = none

-- where the report finds an error, one is among the diagnostics
has_error : (is_strict any : Bool) (len : Bool) → cond any Faulty (cond (is_strict && not len) Warned Sound) ≡ Faulty → any ≡ true
has_error is_strict true len is = refl
has_error true false true is = absurd cc
has_error true false false is = absurd cc
has_error false false len is = absurd cc

-- where it finds none, none is
has_none : (is_strict any : Bool) (len : Bool) → cond any Faulty (cond (is_strict && not len) Warned Sound) ≢ Faulty → any ≡ false
has_none is_strict true len other = absurd (other refl)
has_none is_strict false len other = refl

-- ## Faults and warnings that are told

module _ (d : Named) (p : Option Named) where
  -- a diagnostic that tells a fault of a pair is an error
  tells_at : (code : List ℕ) (o : Option At) (e : Diagnostic) → TellsAt d p code o e → is_error e ≡ true
  tells_at code None e told = absurd told
  tells_at code (Some at) e told = ap report.is_error told.2.severity

  -- a diagnostic that tells a fault is an error
  tells_error : (p : Option Named) (f : Fault) (e : Diagnostic) → ((code : List ℕ) (o : Option At) → TellsAt d p code o e → is_error e ≡ true) → Tells d p f e
      → is_error e ≡ true
  tells_error None (of_domain f) e at told = ap report.is_error told.severity
  tells_error (Some q) (of_domain f) e at told = ap report.is_error told.severity
  tells_error None (of_problem f) e at told = absurd told
  tells_error (Some q) (of_problem f) e at told = ap report.is_error told.severity
  tells_error None (of_pair f) e at told = at _ _ told
  tells_error (Some q) (of_pair f) e at told = at _ _ told

  -- diagnostics that tell warnings are no errors
  no_errors : {W : Type 0} (R : W → Diagnostic → Type 0) → ((w : W) (e : Diagnostic) → R w e → is_error e ≡ false) → (ws : List W) (ds : List Diagnostic)
      → AllZip R ws ds → All (λ e. is_error e ≡ false) ds
  no_errors R each [] [] told = All-nil (λ e. is_error e ≡ false)
  no_errors R each [] (e ∷ ds) told = absurd told
  no_errors R each (w ∷ ws) [] told = absurd told
  no_errors R each (w ∷ ws) (e ∷ ds) told = All-cons (λ e. is_error e ≡ false) e ds (each w e told.0) (no_errors R each ws ds told.1)

  -- nor is one of what no plan uses
  plans_no_error : (q : Named) (u : Unplanned) (e : Diagnostic) → WarnsOfPlans d q u e → is_error e ≡ false
  plans_no_error q (never_applied place) e told = ap report.is_error told.severity
  plans_no_error q (no_plan place) e told = ap report.is_error told.severity

  -- nor are those of texts
  texts_no_errors : (o : Option Named) (ws : List Warning) (ds : List Diagnostic) → AreTextsWarned d o ws ds → All (λ e. is_error e ≡ false) ds
  texts_no_errors o = no_errors (Warns d o) (λ w e told. ap report.is_error told.2.severity)

  -- nor any
  none_is_error : (o : Option Named) (ws : AllWarnings) (ds : List Diagnostic) → AreWarned d o ws ds → All (λ e. is_error e ≡ false) ds
  none_is_error None ws ds told = texts_no_errors None ws.of_texts ds told
  none_is_error (Some q) ws ds told =
      let some = texts_no_errors (Some q) ws.of_texts told.texts told.of_texts in
      let plans = no_errors (WarnsOfPlans d q) (plans_no_error q) ws.unplanned told.plans told.of_plans in
      let both = All-append (λ e. is_error e ≡ false) told.texts told.plans some plans in
      let others = All-permutation (λ e. is_error e ≡ false) (told.texts ++ told.plans) told.others told.by_place.same both in
      let first = texts_no_errors (Some q) ws.other told.first told.of_domain in
      subst (All (λ e. is_error e ≡ false)) (sym told.whole) (All-append (λ e. is_error e ≡ false) told.first told.others first others)

  warned_only : (ws : AllWarnings) (ds : List Diagnostic) → AreWarned d p ws ds → list_any is_error ds ≡ false
  warned_only ws ds told = list_any_none is_error ds (none_is_error p ws ds told)

  -- errors that tell no fault are none
  untold : (ds : List Diagnostic) → AreTold d p [] ds → ds ≡ []
  untold [] told = refl
  untold (x ∷ ds) told = absurd told

  -- where no error is told no fault is
  unsaid : (faults : List Fault) (ds : List Diagnostic) → AreTold d p faults ds → list_any is_error ds ≡ false → faults ≡ []
  unsaid [] ds told none = refl
  unsaid (f ∷ fs) [] told none = absurd told
  unsaid (f ∷ fs) (e ∷ ds) told none =
      let is : is_error e ≡ true = tells_error p f e (λ code o. tells_at code o e) told.0 in
      let never : true ≡ false = subst (λ b. (b || list_any is_error ds) ≡ false) is none in
      absurd (is_false never)

  -- where a report of warnings and errors has an error, a fault is told
  some_told : (ws : AllWarnings) (warned : List Diagnostic) (faults : List Fault) (errors : List Diagnostic) → AreWarned d p ws warned → AreTold d p faults errors
      → list_any is_error (warned ++ errors) ≡ true → faults ≢ []
  some_told ws warned faults errors warns told any none =
      let empty : errors ≡ [] = untold errors (subst (λ fs. AreTold d p fs errors) none told) in
      let never : true ≡ false =
      sym (sym (λ i. warned_only ws warned warns i || list_any is_error (empty i)) ∙ sym (list_any-append is_error warned errors) ∙ any) in
      absurd (is_false never)

  -- where it has none, no fault is
  none_told : (warned : List Diagnostic) (faults : List Fault) (errors : List Diagnostic) → AreTold d p faults errors → list_any is_error (warned ++ errors) ≡ false
      → faults ≡ []
  none_told warned faults errors told none =
      unsaid faults errors told (neither (list_any is_error warned) (list_any is_error errors) (sym (list_any-append is_error warned errors) ∙ none))

-- what holds of the first of some faults
abbrev FirstIs : (Fault → Type 0) → List Fault → Type 0
FirstIs P [] = Unit {0}
FirstIs P (f ∷ fs) = P f

-- ## The first fault

module _ (domain : Text) where
  -- the first fault of two trees
  first_of_pair : (problem : Text) (d : DomainText) (p : ProblemText) (faults : List CheckFault) → Spells DerivesDomain domain d
      → Spells DerivesProblem problem p → ArePairFaults d p faults → FirstIs (IsRefused domain (Some problem)) (map of_pair faults)
  first_of_pair problem d p [] spelled other are = tt
  first_of_pair problem d p (c ∷ cs) spelled other are = (d, p, spelled, other, are.all.sound c (0, omega arith, refl), are.named)

  -- the first fault of a domain's tree
  first_of_domain : (d : DomainText) (e : ProblemText) (LeftOut : CheckFault → Type 0) (faults : List CheckFault) → Spells DerivesDomain domain d
      → Spells DerivesProblem no_problem e → AreFaultsOf (IsOwnFault domain d e) LeftOut faults → FirstIs (IsRefused domain None) (map of_pair faults)
  first_of_domain d e LeftOut [] spelled other are = tt
  first_of_domain d e LeftOut (c ∷ cs) spelled other are = (d, e, spelled, other, are.sound c (0, omega arith, refl))

  -- the first fault of two texts
  first_of_both : (problem : Text) {faults : List Fault} {ws : AllWarnings} {counts : List (List ℕ)} {reached : Option Reached}
      → PairFinds domain problem faults ws counts reached → FirstIs (IsRefused domain (Some problem)) faults
  first_of_both problem (both h k) = h
  first_of_both problem (first h spelled) = h
  first_of_both problem (second spelled h) = (_, spelled, h)
  first_of_both problem (together found spelled other are reach warn) = first_of_pair problem _ _ _ spelled other are

  -- the first fault of a domain alone
  first_of_own : {faults : List Fault} {ws : AllWarnings} {counts : List (List ℕ)} {reached : Option Reached} → DomainFinds domain faults ws counts reached
      → FirstIs (IsRefused domain None) faults
  first_of_own (unread h) = h
  first_of_own (alone spelled other are warn) = first_of_domain _ _ _ _ spelled other are

  -- the first fault is one for which the texts are refused
  first_is_refused : (problem : Option Text) (faults : List Fault) (ws : AllWarnings) (counts : List (List ℕ)) (reached : Option Reached)
      → Finds domain problem faults ws counts reached → FirstIs (IsRefused domain problem) faults
  first_is_refused None faults ws counts reached found = first_of_own found
  first_is_refused (Some problem) faults ws counts reached found = first_of_both problem found

  -- ## The fault that is named

  -- of two trees no other fault is named
  one_named : (d : DomainText) (p : ProblemText) (f g : CheckFault) → IsNamed d p f → IsNamed d p g → f ≡ g
  one_named d p f g one other = neither_before f g (other.1 f one.0) (one.1 g other.0)

  -- the fault for which two trees are refused is the first of theirs
  named_leads : (d : DomainText) (p : ProblemText) (f : CheckFault) (faults : List CheckFault) → FailsAt d p f → IsNamed d p f → ArePairFaults d p faults
      → slice_get (map of_pair faults) 0 ≡ Some (of_pair f)
  named_leads d p f [] fails named are = absurd (are.none.0 refl f fails)
  named_leads d p f (c ∷ cs) fails named are = ap (λ g. Some (of_pair g)) (one_named d p c f are.named named)

  -- the fault for which two texts are refused, where it is one of their trees, is the first that is found
  pub named_is_listed_first : (problem : Text) (f : CheckFault) {faults : List Fault} {ws : AllWarnings} {counts : List (List ℕ)} {reached : Option Reached}
      → IsRefused domain (Some problem) (of_pair f) → PairFinds domain problem faults ws counts reached → slice_get faults 0 ≡ Some (of_pair f)
  named_is_listed_first problem f (d, p, spelled, other, fails, named) (both h k) = absurd (h.unspelled d spelled)
  named_is_listed_first problem f (d, p, spelled, other, fails, named) (first h also) = absurd (h.unspelled d spelled)
  named_is_listed_first problem f (d, p, spelled, other, fails, named) (second also h) = absurd (h.unspelled p other)
  named_is_listed_first problem f (d, p, spelled, other, fails, named) (together {d = e} {p = q} {faults = faults} found also too are reach warn) =
      let domain_is : d ≡ e = domain_laws.one domain d e spelled also in
      let problem_is : p ≡ q = problem_laws.one problem p q other too in
      named_leads e q f faults (subst (λ x. FailsAt x q f) domain_is (subst (λ x. FailsAt d x f) problem_is fails))
      (subst (λ x. IsNamed x q f) domain_is (subst (λ x. IsNamed d x f) problem_is named)) are

  -- ## No fault

  -- two texts without a fault
  both_fit : (problem : Text) {faults : List Fault} {ws : AllWarnings} {counts : List (List ℕ)} {reached : Option Reached}
      → PairFinds domain problem faults ws counts reached → faults ≡ [] → FitTogether domain (Some problem)
  both_fit problem (both h k) e = absurd (no_cons _ _ e)
  both_fit problem (first h spelled) e = absurd (no_cons _ _ e)
  both_fit problem (second spelled h) e = absurd (no_cons _ _ e)
  both_fit problem (together {faults = []} found spelled other are reach warn) e = (_, _, spelled, other, are.none.0 refl)
  both_fit problem (together {faults = c ∷ cs} found spelled other are reach warn) e = absurd (no_cons _ _ e)

  -- a fault that holds and isn't among none is one that isn't looked for
  left_out : (Fails LeftOut : CheckFault → Type 0) → AreFaultsOf Fails LeftOut [] → (f : CheckFault) → Fails f → LeftOut f
  left_out Fails LeftOut are f fails = elim (are.complete f fails) [
    | inl among ↦ absurd (omega (arith, among.1))
    | inr out ↦ out
  ]

  -- a domain without one
  alone_fits : {faults : List Fault} {ws : AllWarnings} {counts : List (List ℕ)} {reached : Option Reached} → DomainFinds domain faults ws counts reached → faults ≡ []
      → FitTogether domain None
  alone_fits (unread h) e = absurd (no_cons _ _ e)
  alone_fits (alone {faults = []} spelled other are warn) e = (_, _, spelled, other, left_out _ _ are)
  alone_fits (alone {faults = c ∷ cs} spelled other are warn) e = absurd (no_cons _ _ e)

  -- texts without a fault fit together
  faultless_fit : (problem : Option Text) (faults : List Fault) (ws : AllWarnings) (counts : List (List ℕ)) (reached : Option Reached)
      → Finds domain problem faults ws counts reached → faults ≡ [] → FitTogether domain problem
  faultless_fit None faults ws counts reached found = alone_fits found
  faultless_fit (Some problem) faults ws counts reached found = both_fit problem found

-- ## What a report finds

-- some of these faults
some_first : (P : Fault → Type 0) (faults : List Fault) → faults ≢ [] → FirstIs P faults → (f : Fault) × P f
some_first P [] some h = absurd (some refl)
some_first P (f ∷ fs) some h = (f, h)

module _ (d : Named) (p : Option Named) (o : Options) (c : Checked) (checks : Checks d p o c) where
  -- with an error the texts are refused
  pub faulty_is_refused : c.finding ≡ Faulty → AreRefused d.bytes (bytes_of p)
  faulty_is_refused is =
      let any : list_any is_error (checks.warned ++ checks.errors) ≡ true = has_error o.is_strict _ _ (sym checks.report.finding ∙ is) in
      let some : checks.faults ≢ [] =
      some_told d p checks.warnings checks.warned checks.faults checks.errors checks.are_warned checks.are_told any in
      some_first _ checks.faults some (first_is_refused d.bytes (bytes_of p) checks.faults checks.warnings checks.counts checks.reached checks.found)

  -- without one they fit together
  pub sound_fit : c.finding ≢ Faulty → FitTogether d.bytes (bytes_of p)
  sound_fit other =
      let none : list_any is_error (checks.warned ++ checks.errors) ≡ false = has_none o.is_strict _ _ (λ is. other (checks.report.finding ∙ is)) in
      let unfaulty : checks.faults ≡ [] = none_told d p checks.warned checks.faults checks.errors checks.are_told none in
      faultless_fit d.bytes (bytes_of p) checks.faults checks.warnings checks.counts checks.reached checks.found unfaulty
