-- Faults and warnings of a pair, and the diagnostics that tell them.
use Rattle.std.proofs.Common.{◌≡◌, inl, inr, arith, suc, ℕ, false, true, List, [], ◌∷◌, map, Option, Some, None, ap, refl, sym, subst}
use Rattle.std.specs.Prelude.{is_some, option_map}
use Rattle.std.specs.Borrow.{Bor}
use Rattle.std.specs.List.{AllZip, Contains}
use Rattle.diagnostics.specs.declared.diagnostic.Diagnostic.{Diagnostic}
use Rattle.diagnostics.specs.declared.diagnostic.Source.{Source}
use Rattle.diagnostics.specs.declared.diagnostic.Where.{Where}
use Rattle.diagnostics.specs.declared.diagnostic.Where.TheVariants.{Text, Place}
use Rattle.hddl_meaning.specs.Items.{FailsAt}
use Rattle.hddl_meaning.specs.declared.fault.At.{At}
use Rattle.hddl_meaning.specs.declared.fault.CheckFault.{CheckFault}
use Rattle.hddl_meaning.specs.declared.fault.CheckFault.TheVariants as fault
use Rattle.hddl_meaning.specs.declared.fault.Source.{Source as Side}
use Rattle.hddl_meaning.specs.declared.fault.Source.TheVariants as side
use Rattle.hddl_words.specs.declared.domain.DomainText.{DomainText}
use Rattle.hddl_words.specs.declared.problem.ProblemText.{ProblemText}
use Rattle.pair_messages.specs.Heads as pair
use Rattle.pair_messages.specs.declared.texts.PairTexts.{PairTexts}
use Rattle.hddl_warnings.specs.Told as warning
use Rattle.hddl_warnings.specs.Warnings.{IsWarning}
use Rattle.hddl_warnings.specs.declared.warning.Warning.{Warning}
use Rattle.check_report.specs.Texts.{of_pair}
use Rattle.check_report.specs.Told.{AreTextsOf, AreTextsWarned, AreTold, Helps, IsAbout, Named, TellsAt, named, text_at}
use Rattle.check_report.specs.Saying.{TellsPair, WarnsPair}

-- ## Places

-- a fault that holds stands somewhere
pub standing : (d : DomainText) (p : ProblemText) (f : CheckFault) → FailsAt d p f → (at : At) × (pair.at_of f ≡ Some at)
standing d p (fault.Duplicate at) h = (at, refl)
standing d p (fault.UnknownType at) h = (at, refl)
standing d p (fault.TypeCycle at) h = (at, refl)
standing d p (fault.UnknownName at) h = (at, refl)
standing d p (fault.Arity at) h = (at, refl)
standing d p (fault.TypeClash at) h = (at, refl)
standing d p (fault.OrderCycle at) h = (at, refl)
standing d p (fault.UnknownSubtask at) h = (at, refl)
standing d p (fault.TooMany at) h = (at, refl)
standing d p fault.OutOfMemory h = absurd h

-- a place of a text is told as it is
pub told_place : (texts : PairTexts) (at : At) (w : Where) → pair.IsAbout texts (Some at) w → IsAbout (named (pair.text_of texts at.source)) (Some at.place) w
told_place texts at (Text source) h = absurd h
told_place texts at (Place spot) h = (ap named h.0, h.1)

module _ (texts : PairTexts) (problem : Option Named) where
  -- the error of a fault tells it, where the text of its side is one of the two
  tells_one : (f : CheckFault) (diagnostic : Diagnostic) (at : At) → pair.at_of f ≡ Some at
      → text_at (named texts.domain.now) problem at.source ≡ Some (named (pair.text_of texts at.source)) → TellsPair texts f diagnostic
      → TellsAt (named texts.domain.now) problem (pair.code_of f) (pair.at_of f) diagnostic
  tells_one f diagnostic at stands is told =
      subst (λ o. TellsAt (named texts.domain.now) problem (pair.code_of f) o diagnostic) (sym stands) (
        named (pair.text_of texts at.source),
        is,
        record {
          severity = told.severity;
          code = told.code;
          about = told_place texts at diagnostic.about (subst (λ o. pair.IsAbout texts o diagnostic.about) stands told.about);
        },
      )

  -- a fault stands in one of the two texts
  abbrev pub StandsIn : CheckFault → Type 0
  StandsIn f = (at : At) × (pair.at_of f ≡ Some at) × (text_at (named texts.domain.now) problem at.source ≡ Some (named (pair.text_of texts at.source)))

  -- the errors of faults tell them
  pub are_told : (faults : List CheckFault) (ds : List Diagnostic) → ((f : CheckFault) → Contains faults f → StandsIn f) → AllZip (TellsPair texts) faults ds
      → AreTold (named texts.domain.now) problem (map of_pair faults) ds
  are_told [] [] stand told = tt
  are_told [] (d ∷ ds) stand told = absurd told
  are_told (f ∷ fs) [] stand told = absurd told
  are_told (f ∷ fs) (d ∷ ds) stand told =
      let s = stand f (0, omega arith, refl) in
      (tells_one f d s.0 s.1 s.2 told.0, are_told fs ds (λ g among. stand g (suc among.0, omega (arith, among.1), among.2)) told.1)

-- the errors of faults of two trees have messages, offer only names that may be meant, and have notes at first declarations
pub are_helpful : (domain : Named) (problem : Option Named) (texts : PairTexts) → AreTextsOf domain problem texts → (faults : List CheckFault)
    (ds : List Diagnostic) → AllZip (TellsPair texts) faults ds → AllZip (Helps domain problem) (map of_pair faults) ds
are_helpful domain problem texts these [] [] told = tt
are_helpful domain problem texts these [] (d ∷ ds) told = absurd told
are_helpful domain problem texts these (f ∷ fs) [] told = absurd told
are_helpful domain problem texts these (f ∷ fs) (d ∷ ds) told =
    ((texts, these, told.0.message, told.0.offers, told.0.notes), are_helpful domain problem texts these fs ds told.1)

-- ## The text of a side

-- the problem of texts that have one
pub problem_is : (o : Option (Bor Source)) (domain problem : Source) → option_map (λ s. s.now) o ≡ Some problem
    → elim o [ None ↦ domain | Some s ↦ s.now ] ≡ problem
problem_is None domain problem is = absurd cc
problem_is (Some s) domain problem is = cc

-- by its name
pub named_is : (o : Option (Bor Source)) (problem : Source) → option_map (λ s. s.now) o ≡ Some problem → option_map (λ s. named s.now) o ≡ Some (named problem)
named_is None problem is = absurd (is_none (ap is_some is))
  where
    is_none : false ≡ true → ⊥
    is_none e = cc
named_is (Some s) problem is = ap (option_map named) is

-- with a problem each side has its text
pub both_sides : (texts : PairTexts) (problem : Source) (s : Side) → option_map (λ p. p.now) texts.problem ≡ Some problem
    → text_at (named texts.domain.now) (Some (named problem)) s ≡ Some (named (pair.text_of texts s))
both_sides texts problem side.Domain is = refl
both_sides texts problem side.Problem is = ap (λ t. Some (named t)) (sym (problem_is texts.problem texts.domain.now problem is))

-- without one the domain has
pub one_side : (texts : PairTexts) (s : Side) → s ≡ side.Domain → text_at (named texts.domain.now) None s ≡ Some (named (pair.text_of texts s))
one_side texts s is = subst (λ s. text_at (named texts.domain.now) None s ≡ Some (named (pair.text_of texts s))) (sym is) refl

-- ## Warnings

-- a place of a text is told as it is
warned_place : (s : Source) (place : ℕ) (w : Where) → warning.IsAbout s place w → IsAbout (named s) (Some place) w
warned_place s place (Text source) h = absurd h
warned_place s place (Place spot) h = (ap named h.0, h.1)

module _ (texts : PairTexts) (problem : Option Named) where
  -- a warning stands in one of the two texts
  abbrev pub WarnsIn : Warning → Type 0
  WarnsIn w =
      text_at (named texts.domain.now) problem w.at.source
      ≡ Some (named (warning.text_of texts.domain.now (option_map (λ p. p.now) texts.problem) w.at.source))

  -- the diagnostics of warnings tell them
  pub are_warned : (ws : List Warning) (ds : List Diagnostic) → ((w : Warning) → Contains ws w → WarnsIn w) → AllZip (WarnsPair texts) ws ds
      → AreTextsWarned (named texts.domain.now) problem ws ds
  are_warned [] [] stand told = tt
  are_warned [] (d ∷ ds) stand told = absurd told
  are_warned (w ∷ ws) [] stand told = absurd told
  are_warned (w ∷ ws) (d ∷ ds) stand told = (
    (
      named (warning.text_of texts.domain.now (option_map (λ p. p.now) texts.problem) w.at.source),
      stand w (0, omega arith, refl),
      record { severity = told.0.severity; code = told.0.code; about = warned_place _ w.at.place d.about told.0.about },
    ),
    are_warned ws ds (λ v among. stand v (suc among.0, omega (arith, among.1), among.2)) told.1,
  )

-- with a problem each side has its text
pub warned_sides : (texts : PairTexts) (problem : Source) (w : Warning) → option_map (λ p. p.now) texts.problem ≡ Some problem
    → WarnsIn texts (Some (named problem)) w
warned_sides texts problem w is = by w.at.source
  where
    by : (s : Side) → text_at (named texts.domain.now) (Some (named problem)) s ≡ Some (named (warning.text_of texts.domain.now (option_map (λ p. p.now) texts.problem) s))
    by side.Domain = refl
    by side.Problem = ap (λ o. Some (named (warning.text_of texts.domain.now o side.Problem))) (sym is)

-- without one the domain has
pub warned_side : (texts : PairTexts) (w : Warning) → w.at.source ≡ side.Domain → WarnsIn texts None w
warned_side texts w is =
    subst (λ s. text_at (named texts.domain.now) None s ≡ Some (named (warning.text_of texts.domain.now (option_map (λ p. p.now) texts.problem) s))) (sym is) refl

-- a warning of a domain alone stands in the domain
pub own_side : (d : DomainText) (w : Warning) → IsWarning d None w → w.at.source ≡ side.Domain
own_side d w (inl h) = ap (λ (v : Warning). v.at.source) h.2.3
own_side d w (inr (inl h)) = ap (λ (v : Warning). v.at.source) h.2.8
own_side d w (inr (inr (inl h))) = ap (λ (v : Warning). v.at.source) h.4
own_side d w (inr (inr (inr h))) = absurd h
