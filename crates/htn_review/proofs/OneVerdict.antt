-- Three texts have one verdict, the text tells it, and it is valid where the plan shows a solution.
use Rattle.std.proofs.Common.{◌≡◌, ℕ, ◌-◌, ◌<◌, ◌^◌, false, cond, eqb, List, [], ◌∷◌, ◌++◌, length, drop, take, get_or, Option, Some, None, inl, inr, codes, sym, refl, ap, ◌∙◌, subst, arith}
use Rattle.std.proofs.Math.Seq.{take-append_seam}
use Rattle.std.proofs.lemmas.Bool.{cases_eq, ne_eqb}
use Rattle.std.proofs.lemmas.Fmt.{decimal_is_IsNumeral}
use Rattle.std.proofs.lemmas.List.{length-append}
use Rattle.std.specs.Char.{digit_value}
use Rattle.std.specs.Str.Parse.{AllDigits, digits_value}
use Rattle.std.specs.Fmt.{decimal}
use Rattle.hddl_text.proofs.Laws.{domain_laws, problem_laws}
use Rattle.hddl_meaning.specs.Items.{FailsAt}
use Rattle.htn_model.specs.Grounding.{problem_of}
use Rattle.htn_model.specs.Shadow.{IsAccepted}
use Rattle.htn_model.specs.Task.{Task}
use Rattle.htn_model.specs.Verdict as model
use Rattle.htn_model.specs.Verdict.{IsVerdict}
use Rattle.htn_model.proofs.Rooms.{valid_is_acceptance}
use Rattle.htn_model.proofs.Unique as model_laws
use Rattle.htn_ground.specs.Naming.{naming_of}
use Rattle.htn_verify.specs.Verdicts.{verdict_of}
use Rattle.htn_verify.specs.declared.verdict.Verdict.{Verdict}
use Rattle.htn_verify.specs.declared.verdict.Verdict.TheVariants.{Structure, NoInstance, NotExecutable, GoalFails, NoArrangement, Valid}
use Rattle.plan_text.proofs.FileLaws.{one_file}
use Rattle.htn_review.specs.Judgement.{Tells, verdict_text}
use Rattle.htn_review.specs.Laws.{FaultyHaveNoVerdict, IdFits, ValidIsSolved, VerdictsAreTold, VerdictsAreUnique, VerdictsExist}
use Rattle.htn_review.specs.declared.outcome.RunFault.TheVariants as fault
use Rattle.htn_review.proofs.OneAnswer.{is_grounded, texts_have_one_task}
use Rattle.htn_review.proofs.SomeVerdict.{has_verdict}

-- ## The two kinds of verdict are one

-- the verdict of the code
abbrev verdict_for : model.Verdict → Verdict
verdict_for model.structure = Structure
verdict_for (model.no_instance name) = NoInstance name
verdict_for (model.not_executable id) = NotExecutable id
verdict_for model.goal_fails = GoalFails
verdict_for model.no_arrangement = NoArrangement
verdict_for model.valid = Valid

-- there and back
back : (v : Verdict) → verdict_for (verdict_of v) ≡ v
back Structure = refl
back (NoInstance name) = refl
back (NotExecutable id) = refl
back GoalFails = refl
back NoArrangement = refl
back Valid = refl

-- and the other way round
forth : (v : model.Verdict) → verdict_of (verdict_for v) ≡ v
forth model.structure = refl
forth (model.no_instance name) = refl
forth (model.not_executable id) = refl
forth model.goal_fails = refl
forth model.no_arrangement = refl
forth model.valid = refl

-- ## One verdict

module _ (t : Task) (plan : List ℕ) where
  -- a plan has one verdict for a task
  one_telling : (verdict other : Verdict) (text second : List ℕ) → Tells t plan verdict text → Tells t plan other second → (verdict ≡ other) × (text ≡ second)
  one_telling verdict other text second (file, holds, is, told) (file_too, holds_too, is_too, told_too) =
      let same : verdict ≡ other =
      sym (back verdict)
      ∙ ap verdict_for
      (model_laws.verdicts_are_unique (naming_of t) (problem_of t) file (verdict_of verdict) (verdict_of other) is
      (subst (λ f. IsVerdict (naming_of t) (problem_of t) f (verdict_of other)) (one_file plan file file_too holds holds_too) is_too))
      ∙ back other in
      (same, told ∙ ap verdict_text same ∙ sym told_too)

-- three texts have one verdict
pub verdicts_are_unique : VerdictsAreUnique
verdicts_are_unique domain problem plan verdict other text second (t, is, tells) (u, also, telling) =
    one_telling t plan verdict other text second tells (subst (λ x. Tells x plan other second) (texts_have_one_task domain problem u t also is) telling)

-- and have one
pub verdicts_exist : VerdictsExist
verdicts_exist domain problem plan t file is holds =
    let found = has_verdict (naming_of t) (problem_of t) (is_grounded domain problem t is) file in (
      verdict_for found.0,
      verdict_text (verdict_for found.0),
      (t, is, (file, holds, subst (IsVerdict (naming_of t) (problem_of t) file) (sym (forth found.0)) found.1, refl)),
    )

-- ## Valid

-- it is valid where the plan shows a solution
pub valid_is_solved : ValidIsSolved
valid_is_solved domain problem plan verdict text (t, is, (file, holds, judged, told)) = (
  (λ valid. (
    t,
    is,
    file,
    holds,
    (valid_is_acceptance (naming_of t) (problem_of t) file).0 (subst (λ v. IsVerdict (naming_of t) (problem_of t) file (verdict_of v)) valid judged),
  )),
  (λ (u, also, other, holds_too, accepted).
      let same : u ≡ t = texts_have_one_task domain problem u t also is in
      let of_task : IsAccepted (naming_of t) (problem_of t) other = subst (λ x. IsAccepted (naming_of x) (problem_of x) other) same accepted in
      let of_file : IsAccepted (naming_of t) (problem_of t) file = subst (IsAccepted (naming_of t) (problem_of t)) (one_file plan file other holds holds_too) of_task in
      sym (back verdict)
      ∙ ap verdict_for
      (model_laws.verdicts_are_unique (naming_of t) (problem_of t) file (verdict_of verdict) model.valid judged
      ((valid_is_acceptance (naming_of t) (problem_of t) file).1 of_file))),
)

-- ## Faults

-- faulty texts have none
pub faulty_have_no_verdict : FaultyHaveNoVerdict
faulty_have_no_verdict domain problem plan (fault.Domain f) verdict text of refuses (t, is, tells) = refuses.0 is.domain_tree is.domain_spelled
faulty_have_no_verdict domain problem plan (fault.Problem f) verdict text of (d, spelled, faulty) (t, is, tells) = faulty.0 is.problem_tree is.problem_spelled
faulty_have_no_verdict domain problem plan (fault.Check f) verdict text of (d, p, spelled, spelled_too, fails) (t, is, tells) =
    is.fits f
    (subst (λ x. FailsAt is.domain_tree x f) (problem_laws.one problem p is.problem_tree spelled_too is.problem_spelled)
    (subst (λ x. FailsAt x p f) (domain_laws.one domain d is.domain_tree spelled is.domain_spelled) fails))
faulty_have_no_verdict domain problem plan (fault.Plan f) verdict text of (u, also, unread) (t, is, tells) = unread.0 tells.0 tells.1
faulty_have_no_verdict domain problem plan fault.OutOfMemory verdict text of refuses judges = of
faulty_have_no_verdict domain problem plan fault.NoThread verdict text of refuses judges = of
faulty_have_no_verdict domain problem plan fault.Output verdict text of refuses judges = of

-- ## The text

-- the byte of a text at a position
abbrev at : ℕ → List ℕ → ℕ
at n text = get_or text n 0

-- what was told, read from the text: the id before the line feed
id_in : List ℕ → ℕ
id_in text = digits_value 10 (take (length text - 1) text)

-- the line, or the root line
line_in : List ℕ → Option ℕ
line_in text = cond (eqb (at 0 text) 114) None (Some (id_in text))

-- the verdict, by bytes that tell it from the others
verdict_in : List ℕ → Verdict
verdict_in text =
    cond (eqb (at 0 text) 118) Valid
    (cond (eqb (at 9 text) 83) Structure
    (cond (eqb (at 9 text) 71) GoalFails
    (cond (eqb (at 11 text) 65) NoArrangement
    (cond (eqb (at 11 text) 73) (NoInstance (line_in (drop 20 text))) (NotExecutable (id_in (drop 23 text)))))))

-- what stands before the line feed
before_end : (ds : List ℕ) → take (length (ds ++ codes "\n") - 1) (ds ++ codes "\n") ≡ ds
before_end ds =
    let long = length-append ds (codes "\n") in
    let same : length (ds ++ codes "\n") - 1 ≡ length ds = omega (arith, long) in
    ap (λ n. take n (ds ++ codes "\n")) same ∙ take-append_seam ds (codes "\n")

-- an id is told
id_told : (id : ℕ) → id < 2 ^ 64 → id_in (decimal id ++ codes "\n") ≡ id
unfolding id_in
id_told id small = ap (digits_value 10) (before_end (decimal id)) ∙ (decimal_is_IsNumeral id small).1

-- no number begins with an `r`
no_root : (ds : List ℕ) → 0 < length ds → AllDigits 10 ds → eqb (at 0 (ds ++ codes "\n")) 114 ≡ false
no_root [] filled digits = absurd (omega arith)
no_root (d ∷ ds) filled digits = elim (cases_eq d 114) [
  | inl same ↦ (let low : digit_value 114 < 10 = subst (λ c. digit_value c < 10) same digits.0 in absurd (omega arith))
  | inr other ↦ ne_eqb d 114 other
]

-- so is a line
line_told : (id : ℕ) → id < 2 ^ 64 → line_in (decimal id ++ codes "\n") ≡ Some id
unfolding line_in
line_told id small =
    let numeral = (decimal_is_IsNumeral id small).0 in
    ap (λ b. cond b None (Some (id_in (decimal id ++ codes "\n")))) (no_root (decimal id) numeral.0 numeral.1) ∙ ap Some (id_told id small)

-- and a verdict
verdict_told : (v : Verdict) → IdFits v → verdict_in (verdict_text v) ≡ v
unfolding verdict_in line_in
verdict_told Structure has = refl
verdict_told (NoInstance None) has = refl
verdict_told (NoInstance (Some id)) has = ap NoInstance (line_told id has)
verdict_told (NotExecutable id) has = ap NotExecutable (id_told id has)
verdict_told GoalFails has = refl
verdict_told NoArrangement has = refl
verdict_told Valid has = refl

-- so different ones have different texts
pub verdicts_are_told : VerdictsAreTold
verdicts_are_told verdict other has has_too e = sym (verdict_told verdict has) ∙ ap verdict_in e ∙ verdict_told other has_too
