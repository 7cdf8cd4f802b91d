-- Reports of what is found of texts.
use Rattle.std.proofs.Common.{◌≡◌, ◌∙◌, arith, ℕ, List, [], ◌∷◌, ◌++◌, map, Option, Some, None, ap, refl, sym, subst}
use Rattle.std.specs.Prelude.{IsSomeAnd, option_map}
use Rattle.std.specs.Borrow.{Bor}
use Rattle.std.specs.List.{AllZip, Contains}
use Rattle.std.proofs.lemmas.List.Sorted.{IsPermutation-refl}
use Rattle.std.specs.declared.alloc.Global.{Global}
use Rattle.std.specs.declared.vec.Vec.{Vec}
use Rattle.diagnostics.specs.declared.diagnostic.Diagnostic.{Diagnostic}
use Rattle.diagnostics.specs.declared.diagnostic.Part.{Part}
use Rattle.diagnostics.specs.declared.diagnostic.Source.{Source}
use Rattle.diagnostics.specs.declared.diagnostic.Where.{Where}
use Rattle.diagnostics.specs.declared.diagnostic.Where.TheVariants.{Text, Place}
use Rattle.hddl_meaning.specs.declared.fault.CheckFault.{CheckFault}
use Rattle.hddl_meaning.specs.declared.fault.Source.TheVariants as side
use Rattle.hddl_text.specs.Grammar.{DerivesDomain, DerivesProblem}
use Rattle.hddl_text.specs.Spelling.{Spells}
use Rattle.hddl_words.specs.declared.domain.DomainText.{DomainText}
use Rattle.hddl_words.specs.declared.problem.ProblemText.{ProblemText}
use Rattle.hddl_warnings.specs.declared.warning.Warning.{Warning}
use Rattle.hddl_words.specs.declared.fault.TextFault.{TextFault}
use Rattle.hddl_words.specs.declared.fault.TextFault.TheVariants as spelling
use Rattle.pair_messages.specs.Counts.{domain_counts, problem_counts}
use Rattle.pair_messages.specs.declared.texts.PairTexts.{PairTexts}
use Rattle.text_messages.specs.Messages as text
use Rattle.check_report.specs.Alone.{no_problem}
use Rattle.check_report.specs.Checks.{Checks}
use Rattle.check_report.specs.Asked.{findings_of}
use Rattle.check_report.specs.Reach.{AreReached, counts_of, reached_of}
use Rattle.check_report.specs.Report.{IsReport, counts_in}
use Rattle.check_report.specs.Texts.{AreOwnFaults, AreOwnWarnings, ArePairFaults, IsFaulty, alone, both, first, no_warnings, of_domain, of_pair, of_problem, second, together, unread}
use Rattle.check_report.specs.Told.{ArePairWarned, AreTold, Helps, IsAbout, named, text_place}
use Rattle.check_report.specs.Saying.{AreErrors, TellsPairTrees, TellsText, TellsTrees}
use Rattle.check_report.specs.declared.reach.Reach.{Reach}
use Rattle.check_report.specs.declared.report.Checked.{Checked}
use Rattle.check_report.specs.declared.report.Options.{Options}
use Rattle.check_report.proofs.Errors.{are_helpful, are_told, are_warned, both_sides, named_is, one_side, own_side, standing, warned_side}
use Rattle.check_report.proofs.Planned.{pair_warned}
use Rattle.check_report.proofs.Refused.{no_cons}

-- ## The fault of a text

-- a place is told as it is
about_place : (s : Source) (place : ℕ) (w : Where) → text.IsPlace s place w → IsAbout (named s) (Some place) w
about_place s place (Text source) h = absurd h
about_place s place (Place spot) h = (ap named h.source, h.place)

-- and so is a text
about_whole : (s : Source) (w : Where) → text.IsText s w → IsAbout (named s) None w
about_whole s (Text source) h = ap named h
about_whole s (Place spot) h = absurd h

-- what the fault of a text is about
pub about_text : (s : Source) (f : TextFault) (w : Where) → text.IsAbout s f w → IsAbout (named s) (text_place f) w
about_text s (spelling.NotAscii place) w h = about_place s place w h
about_text s (spelling.BadWord place) w h = about_place s place w h
about_text s (spelling.Unclosed place) w h = about_place s place w h
about_text s (spelling.ExtraClose place) w h = about_place s place w h
about_text s (spelling.TooDeep place) w h = about_place s place w h
about_text s (spelling.Expected place) w h = about_place s place w h
about_text s (spelling.Unsupported place) w h = about_place s place w h
about_text s (spelling.TooLong place) w h = about_whole s w h
about_text s spelling.OutOfMemory w h = about_whole s w h

-- ## Warnings of a domain

-- each stands in the domain
own_warning : (d : DomainText) (faults : List CheckFault) (ws : List Warning) → AreOwnWarnings d faults ws → (w : Warning) → Contains ws w → w.at.source ≡ side.Domain
own_warning d [] ws are w among = own_side d w (((are.of_domain refl).all w).0 among)
own_warning d (f ∷ fs) ws are w among =
    let none : Contains [] w = subst (λ ws. Contains ws w) (are.silent (no_cons f fs)) among in
    let less = none.1 in
    absurd (omega arith)

-- ## Reports

module _ (domain problem : Source) (o : Options) (c : Checked) (ds : List Diagnostic) (summary : List (Vec Part Global)) (report : IsReport o ds summary None c) where
  -- nothing that is warned of
  silent : ArePairWarned (named domain) (named problem) no_warnings []
  silent = record {
    first = [];
    texts = [];
    plans = [];
    others = [];
    of_domain = tt;
    of_texts = tt;
    of_plans = tt;
    by_place = record { same = IsPermutation-refl []; order = λ k d low high. absurd (omega arith) };
    whole = refl;
  }

  -- of two texts that both spell no tree
  pub checks_both : (f g : TextFault) → IsFaulty DerivesDomain domain.lines f → IsFaulty DerivesProblem problem.lines g → (errors : List Diagnostic) (e : Diagnostic)
      → AreErrors (named domain) f errors → TellsText (named problem) g e → ds ≡ errors ++ e ∷ [] → counts_in summary ≡ []
      → Checks (named domain) (Some (named problem)) o c
  checks_both f g bad worse errors e one two is counted =
      let whole : ds ≡ one.0 ∷ e ∷ [] = is ∙ ap (λ xs. xs ++ e ∷ []) one.2 in
      record {
        faults = of_domain f ∷ of_problem g ∷ [];
        warnings = no_warnings;
        counts = [];
        reached = None;
        found = both bad worse;
        warned = [];
        are_warned = silent;
        errors = ds;
        are_told = subst (AreTold (named domain) (Some (named problem)) (of_domain f ∷ of_problem g ∷ [])) (sym whole) (one.1.error, (two.error, tt));
        help = subst (AllZip (Helps (named domain) (Some (named problem))) (of_domain f ∷ of_problem g ∷ [])) (sym whole) (one.1.helps, (two.helps, tt));
        summary = summary;
        counted = counted;
        report = report;
      }

  -- of two texts of which the domain's spells none
  pub checks_first : (f : TextFault) (p : ProblemText) → IsFaulty DerivesDomain domain.lines f → Spells DerivesProblem problem.lines p → AreErrors (named domain) f ds
      → counts_in summary ≡ problem_counts p ∷ [] → Checks (named domain) (Some (named problem)) o c
  checks_first f p bad spelled one counted =
      record {
        faults = of_domain f ∷ [];
        warnings = no_warnings;
        counts = problem_counts p ∷ [];
        reached = None;
        found = first bad spelled;
        warned = [];
        are_warned = silent;
        errors = ds;
        are_told = subst (AreTold (named domain) (Some (named problem)) (of_domain f ∷ [])) (sym one.2) (one.1.error, tt);
        help = subst (AllZip (Helps (named domain) (Some (named problem))) (of_domain f ∷ [])) (sym one.2) (one.1.helps, tt);
        summary = summary;
        counted = counted;
        report = report;
      }

  -- of two texts of which the problem's spells none
  pub checks_second : (g : TextFault) (d : DomainText) → Spells DerivesDomain domain.lines d → IsFaulty DerivesProblem problem.lines g → AreErrors (named problem) g ds
      → counts_in summary ≡ domain_counts d ∷ [] → Checks (named domain) (Some (named problem)) o c
  checks_second g d spelled bad one counted =
      record {
        faults = of_problem g ∷ [];
        warnings = no_warnings;
        counts = domain_counts d ∷ [];
        reached = None;
        found = second spelled bad;
        warned = [];
        are_warned = silent;
        errors = ds;
        are_told = subst (AreTold (named domain) (Some (named problem)) (of_problem g ∷ [])) (sym one.2) (one.1.error, tt);
        help = subst (AllZip (Helps (named domain) (Some (named problem))) (of_problem g ∷ [])) (sym one.2) (one.1.helps, tt);
        summary = summary;
        counted = counted;
        report = report;
      }

  -- of a domain alone that spells none
  pub checks_unread : (f : TextFault) → IsFaulty DerivesDomain domain.lines f → AreErrors (named domain) f ds → counts_in summary ≡ []
      → Checks (named domain) None o c
  checks_unread f bad one counted =
      record {
        faults = of_domain f ∷ [];
        warnings = no_warnings;
        counts = [];
        reached = None;
        found = unread bad;
        warned = [];
        are_warned = tt;
        errors = ds;
        are_told = subst (AreTold (named domain) None (of_domain f ∷ [])) (sym one.2) (one.1.error, tt);
        help = subst (AllZip (Helps (named domain) None) (of_domain f ∷ [])) (sym one.2) (one.1.helps, tt);
        summary = summary;
        counted = counted;
        report = report;
      }

module _ (texts : PairTexts) (o : Options) (c : Checked) (ds : List Diagnostic) (summary : List (Vec Part Global))
    (spelled : Spells DerivesDomain texts.domain.now.lines texts.domain_tree.now) where
  -- of two trees, with their problem's text
  checks_with : (problem : Source) → option_map (λ p. p.now) texts.problem ≡ Some problem → Spells DerivesProblem problem.lines texts.problem_tree.now
      → (faults : List CheckFault) → ArePairFaults texts.domain_tree.now texts.problem_tree.now faults
      → (reach : Option Reach) → AreReached texts.domain_tree.now texts.problem_tree.now faults (findings_of reach) → TellsPairTrees texts faults reach ds
      → counts_in summary ≡ (domain_counts texts.domain_tree.now ∷ problem_counts texts.problem_tree.now ∷ []) ++ counts_of (findings_of reach)
      → IsReport o ds summary (reached_of (findings_of reach)) c → Checks (named texts.domain.now) (Some (named problem)) o c
  checks_with problem is other faults are reach reached told counted report =
      let warned = pair_warned texts problem is faults reach told.warned told.errors ds told.warns told.before in
      record {
        faults = map of_pair faults;
        warnings = warned.warnings;
        counts = (domain_counts texts.domain_tree.now ∷ problem_counts texts.problem_tree.now ∷ []) ++ counts_of (findings_of reach);
        reached = reached_of (findings_of reach);
        found = together (findings_of reach) spelled other are reached warned.are;
        warned = warned.warned;
        are_warned = warned.tell;
        errors = told.errors;
        are_told =
            are_told texts (Some (named problem)) faults told.errors
            (λ f among.
            let at = standing texts.domain_tree.now texts.problem_tree.now f (are.all.sound f among) in (at.0, at.1, both_sides texts problem at.0.source is))
            told.tell;
        help =
            are_helpful (named texts.domain.now) (Some (named problem)) texts
            (record { is_domain = refl; is_problem = named_is texts.problem problem is; domain_spelled = spelled; problem_spelled = other })
            faults told.errors told.tell;
        summary = summary;
        counted = counted;
        report = subst (λ ds. IsReport o ds summary (reached_of (findings_of reach)) c) warned.whole report;
      }

  -- of two trees
  pub checks_pair : IsSomeAnd (option_map (λ p. p.now) texts.problem) (λ p. Spells DerivesProblem p.lines texts.problem_tree.now)
      → (faults : List CheckFault) → ArePairFaults texts.domain_tree.now texts.problem_tree.now faults
      → (reach : Option Reach) → AreReached texts.domain_tree.now texts.problem_tree.now faults (findings_of reach) → TellsPairTrees texts faults reach ds
      → counts_in summary ≡ (domain_counts texts.domain_tree.now ∷ problem_counts texts.problem_tree.now ∷ []) ++ counts_of (findings_of reach)
      → IsReport o ds summary (reached_of (findings_of reach)) c → Checks (named texts.domain.now) (option_map (λ p. named p.now) texts.problem) o c
  checks_pair other faults are reach reached told counted report = by texts.problem refl other
    where
      by : (problem : Option (Bor Source)) → texts.problem ≡ problem → IsSomeAnd (option_map (λ p. p.now) problem) (λ p. Spells DerivesProblem p.lines texts.problem_tree.now)
          → Checks (named texts.domain.now) (option_map (λ p. named p.now) problem) o c
      by None is spelled = absurd spelled
      by (Some p) is spelled = checks_with p.now (ap (option_map (λ p. p.now)) is) spelled faults are reach reached told counted report

  -- of a domain's tree
  pub checks_alone : texts.problem ≡ None → Spells DerivesProblem no_problem texts.problem_tree.now
      → TellsTrees texts (AreOwnFaults texts.domain.now.lines texts.domain_tree.now texts.problem_tree.now) (AreOwnWarnings texts.domain_tree.now) ds
      → counts_in summary ≡ domain_counts texts.domain_tree.now ∷ [] → IsReport o ds summary None c → Checks (named texts.domain.now) None o c
  checks_alone alone_is other told counted report =
      record {
        faults = map of_pair told.faults;
        warnings = record { other = []; of_texts = told.before.warnings; unplanned = [] };
        counts = domain_counts texts.domain_tree.now ∷ [];
        reached = None;
        found = alone spelled other told.are told.before.are;
        warned = told.before.warned;
        are_warned =
            are_warned texts None told.before.warnings told.before.warned
            (λ w among. warned_side texts w (own_warning texts.domain_tree.now told.faults told.before.warnings told.before.are w among)) told.before.tell;
        errors = told.errors;
        are_told =
            are_told texts None told.faults told.errors (λ f among. let at = (told.are.sound f among).1 in (at.0, at.1, one_side texts at.0.source at.2)) told.tell;
        help =
            are_helpful (named texts.domain.now) None texts
            (record { is_domain = refl; is_problem = ap (option_map (λ p. named p.now)) alone_is; domain_spelled = spelled; problem_spelled = other })
            told.faults told.errors told.tell;
        summary = summary;
        counted = counted;
        report = subst (λ ds. IsReport o ds summary None c) told.before.whole report;
      }
