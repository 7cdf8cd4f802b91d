-- Warnings of two trees and of what no plan of them uses, and the diagnostics that tell them.
use Rattle.std.proofs.Common.{◌≡◌, ◌≢◌, ℕ, Bool, true, false, List, [], ◌∷◌, ◌++◌, map, Option, Some, None, ap, refl, subst, sym}
use Rattle.std.specs.Prelude.{IsSomeAnd, is_some, option_map}
use Rattle.std.specs.List.{AllZip}
use Rattle.diagnostics.specs.declared.diagnostic.Diagnostic.{Diagnostic}
use Rattle.diagnostics.specs.declared.diagnostic.Source.{Source}
use Rattle.hddl_meaning.specs.declared.fault.CheckFault.{CheckFault}
use Rattle.hddl_meaning.specs.declared.fault.Source.TheVariants as side
use Rattle.hddl_words.specs.declared.domain.DomainText.{DomainText}
use Rattle.hddl_words.specs.declared.problem.ProblemText.{ProblemText}
use Rattle.hddl_warnings.specs.Warnings.{IsWarning}
use Rattle.hddl_warnings.specs.declared.warning.Warning.{Warning}
use Rattle.never_applied.specs.declared.answer.Findings.{Findings}
use Rattle.never_applied.specs.declared.answer.NoPlan.{NoPlan}
use Rattle.pair_messages.specs.Heads as pair
use Rattle.pair_messages.specs.declared.texts.PairTexts.{PairTexts}
use Rattle.check_report.specs.ReachWarnings.{AreNoPlanWarnings, IsNeverAppliedWarning, IsNoPlanWarning, action_places, causes, method_places, never_applied_code, no_plan_code}
use Rattle.check_report.specs.Asked.{AreToldOf, IsReachOf, findings_of}
use Rattle.check_report.specs.Reach.{AreOfProblem, AreReached, AreUnplanned, Unplanned, found_in, never_applied, no_plan}
use Rattle.check_report.specs.Texts.{AllWarnings, AreExactly, AreWarnings}
use Rattle.check_report.specs.Told.{ArePairWarned, IsWarned, WarnsOfPlans, named}
use Rattle.check_report.specs.Saying.{TellsExactly, TellsOthers, WarnsPair, WarnsPairBefore, WarnsPairByPlace}
use Rattle.check_report.specs.declared.reach.Reach.{Reach}
use Rattle.check_report.proofs.Errors.{are_warned, problem_is, told_place, warned_sides}
use Rattle.check_report.proofs.Refused.{is_false, no_cons}
use Rattle.check_report.proofs.Warned.{AllZip-append}

-- ## What is looked for

-- what no plan uses is looked for where there are no faults
pub reached_unless : (d : DomainText) (p : ProblemText) (faults : List CheckFault) (b : Bool) (o : Option Reach) → (b ≡ true → faults ≢ [])
    → (b ≡ false → faults ≡ []) → (b ≡ true → o ≡ None) → (b ≡ false → IsSomeAnd o (IsReachOf d p)) → AreReached d p faults (findings_of o)
reached_unless d p [] true o some none silent found = absurd (some refl refl)
reached_unless d p (f ∷ fs) true None some none silent found = tt
reached_unless d p (f ∷ fs) true (Some r) some none silent found = absurd (is_false (ap is_some (silent refl)))
reached_unless d p [] false None some none silent found = absurd (found refl)
reached_unless d p [] false (Some r) some none silent found = let h = found refl in (r.task, h.task, h.findings)
reached_unless d p (f ∷ fs) false o some none silent found = absurd (no_cons f fs (none refl))

-- ## Warnings by the texts

-- they are reported where there are no faults
pub others_unless : (texts : PairTexts) (faults : List CheckFault) (b : Bool) (told : List Diagnostic) → (b ≡ true → faults ≢ []) → (b ≡ false → faults ≡ [])
    → (b ≡ true → told ≡ []) → (b ≡ false → TellsExactly texts (IsWarning texts.domain_tree.now (Some texts.problem_tree.now)) told)
    → TellsOthers texts faults told
others_unless texts faults true told some none silent all = record { all = λ empty. absurd (some refl empty); silent = λ any. silent refl }
others_unless texts faults false told some none silent all = record { all = λ empty. all refl; silent = λ any. absurd (any (none refl)) }

module _ (texts : PairTexts) where
  -- the warnings that are reported
  others_told : (faults : List CheckFault) (some : List Diagnostic) → TellsOthers texts faults some
      → (ws : List Warning) × (faults ≡ [] → AreExactly (IsWarning texts.domain_tree.now (Some texts.problem_tree.now)) ws) × (faults ≢ [] → ws ≡ [])
      × AllZip (WarnsPair texts) ws some
  others_told [] some h = let e = h.all refl in (e.warnings, λ empty. e.are, λ any. absurd (any refl), e.tell)
  others_told (f ∷ fs) some h = (
    [],
    λ empty. absurd (no_cons f fs empty),
    λ any. refl,
    subst (AllZip (WarnsPair texts) []) (sym (h.silent (no_cons f fs))) tt,
  )

-- ## Warnings of what no plan uses

module _ (texts : PairTexts) (problem : Source) (is : option_map (λ p. p.now) texts.problem ≡ Some problem) where
  -- one of a method or an action
  never_told : (place : ℕ) (e : Diagnostic) → IsNeverAppliedWarning texts place e → IsWarned (named texts.domain.now) never_applied_code (Some place) e
  never_told place e h =
      record { severity = h.severity; code = h.code; about = told_place texts (record { source = side.Domain; place = place }) e.about h.about }

  -- one of the problem
  problem_told : (place : ℕ) (e : Diagnostic) → IsNoPlanWarning texts place e → IsWarned (named problem) no_plan_code (Some place) e
  problem_told place e h =
      let about = told_place texts (record { source = side.Problem; place = place }) e.about h.about in
      let same : named (pair.problem_text texts) ≡ named problem = ap named (problem_is texts.problem texts.domain.now problem is) in
      subst (λ t. IsWarned t no_plan_code (Some place) e) same (record { severity = h.severity; code = h.code; about = about })

  -- the diagnostics that report them
  abbrev TellsPlans : List Unplanned → List Diagnostic → Type 0
  TellsPlans = AllZip (WarnsOfPlans (named texts.domain.now) (named problem))

  -- those of methods and actions
  nevers_told : (places : List ℕ) (ds : List Diagnostic) → AllZip (IsNeverAppliedWarning texts) places ds → TellsPlans (map never_applied places) ds
  nevers_told [] [] told = tt
  nevers_told [] (e ∷ ds) told = absurd told
  nevers_told (place ∷ places) [] told = absurd told
  nevers_told (place ∷ places) (e ∷ ds) told = (never_told place e told.0, nevers_told places ds told.1)

  -- that of the problem, if there is one
  last_told : (why : Option NoPlan) (ds : List Diagnostic) → AreNoPlanWarnings texts why ds → (us : List Unplanned) × AreOfProblem why us × TellsPlans us ds
  last_told None ds told = ([], refl, subst (TellsPlans []) (sym told) tt)
  last_told (Some why) ds told = (
    no_plan told.0 ∷ [],
    (told.0, refl),
    subst (TellsPlans (no_plan told.0 ∷ [])) (sym told.2) (problem_told told.0 told.1 told.3, tt),
  )

  -- all of them
  plans_told : (found : Option Findings) (ds : List Diagnostic) → AreToldOf texts found ds
      → (us : List Unplanned) × AreUnplanned texts.domain_tree.now found us × TellsPlans us ds
  plans_told None ds told = ([], refl, subst (TellsPlans []) (sym told) tt)
  plans_told (Some f) ds told =
      let ms = causes (method_places texts.domain_tree.now) f.methods.items in
      let acts = causes (action_places texts.domain_tree.now) f.actions.items in
      let last = last_told f.no_plan told.last told.of_problem in
      let nevers = nevers_told (ms ++ acts) (told.methods ++ told.actions)
      (AllZip-append (IsNeverAppliedWarning texts) ms told.methods acts told.actions told.of_methods told.of_actions) in
      let us : List Unplanned = map never_applied (ms ++ acts) ++ last.0 in
      let all : TellsPlans us ((told.methods ++ told.actions) ++ told.last) =
      AllZip-append (WarnsOfPlans (named texts.domain.now) (named problem)) (map never_applied (ms ++ acts)) (told.methods ++ told.actions) last.0 told.last nevers last.2 in
      (us, (last.0, last.1, refl), subst (TellsPlans us) (sym told.whole) all)

  -- ## All warnings of two trees

  -- they are reported before the errors
  pub record PairWarned (faults : List CheckFault) (reach : Option Reach) (errors ds : List Diagnostic) : Type 0 where
    pub warnings : AllWarnings
    pub are : AreWarnings texts.domain_tree.now texts.problem_tree.now faults (found_in (findings_of reach)) warnings
    pub warned : List Diagnostic
    pub tell : ArePairWarned (named texts.domain.now) (named problem) warnings warned
    pub whole : ds ≡ warned ++ errors

  pub pair_warned : (faults : List CheckFault) (reach : Option Reach) (warned errors ds : List Diagnostic) → WarnsPairByPlace texts faults reach warned
      → WarnsPairBefore texts warned errors ds → PairWarned faults reach errors ds
  pair_warned faults reach warned errors ds warns before =
      let others = others_told texts faults warns.some warns.others in
      let plans = plans_told (found_in (findings_of reach)) warns.plans warns.of_plans in
      let tells = λ (ws : List Warning) (es : List Diagnostic) (all : AllZip (WarnsPair texts) ws es).
      are_warned texts (Some (named problem)) ws es (λ w among. warned_sides texts problem w is) all in
      record {
        warnings = record { other = before.of_domain.warnings; of_texts = others.0; unplanned = plans.0 };
        are = record { of_domain = before.of_domain.are; of_both = others.1; silent = others.2; of_plans = plans.1 };
        warned = before.first ++ warned;
        tell = record {
          first = before.first;
          texts = warns.some;
          plans = warns.plans;
          others = warned;
          of_domain = tells before.of_domain.warnings before.first before.of_domain.tell;
          of_texts = tells others.0 warns.some others.3;
          of_plans = plans.2;
          by_place = warns.by_place;
          whole = refl;
        };
        whole = before.whole;
      }
