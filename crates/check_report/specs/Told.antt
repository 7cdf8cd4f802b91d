-- Faults and warnings, and their diagnostics.
use Rattle.std.specs.Prelude.{◌≡◌, ◌≢◌, ℕ, min, length, List, [], ◌∷◌, ◌++◌, Option, Some, None, option_map}
use Rattle.std.specs.List.{All, AllZip}
use Rattle.hddl_words.specs.declared.fault.TextFault.{TextFault}
use Rattle.hddl_words.specs.declared.fault.TextFault.TheVariants as spelling
use Rattle.hddl_text.specs.Grammar.{DerivesDomain, DerivesProblem}
use Rattle.hddl_text.specs.Spelling.{Spells}
use Rattle.hddl_meaning.specs.declared.fault.At.{At}
use Rattle.hddl_meaning.specs.declared.fault.Source.{Source as Side}
use Rattle.hddl_meaning.specs.declared.fault.Source.TheVariants as side
use Rattle.diagnostics.specs.declared.diagnostic.Diagnostic.{Diagnostic}
use Rattle.diagnostics.specs.declared.diagnostic.Role.{Role}
use Rattle.diagnostics.specs.declared.diagnostic.Severity.{Severity}
use Rattle.diagnostics.specs.declared.diagnostic.Severity.TheVariants as severity
use Rattle.diagnostics.specs.declared.diagnostic.Source.{Source}
use Rattle.diagnostics.specs.declared.diagnostic.Where.{Where}
use Rattle.diagnostics.specs.declared.diagnostic.Where.TheVariants.{Text, Place}
use Rattle.hddl_warnings.specs.Told as warning
use Rattle.hddl_warnings.specs.declared.warning.Warning.{Warning}
use Rattle.pair_messages.specs.Heads as pair
use Rattle.pair_messages.specs.Notes.{AreNotes}
use Rattle.pair_messages.specs.Offers.{OffersMeant}
use Rattle.pair_messages.specs.declared.texts.PairTexts.{PairTexts}
use Rattle.text_messages.specs.Messages as text
use Rattle.text_messages.specs.Following as text_offers
use Rattle.text_messages.specs.Notes as text_notes
use Rattle.check_report.specs.ReachWarnings.{never_applied_code, no_plan_code}
use Rattle.check_report.specs.Alone.{Text as Bytes, no_problem}
use Rattle.check_report.specs.Order.{AreByPlace}
use Rattle.check_report.specs.Reach.{Unplanned, never_applied, no_plan}
use Rattle.check_report.specs.Texts.{AllWarnings, Fault, of_domain, of_problem, of_pair}

-- the place of a text's fault, but for that of a text that is too long
abbrev pub text_place : TextFault → Option ℕ
text_place (spelling.NotAscii place) = Some place
text_place (spelling.BadWord place) = Some place
text_place (spelling.Unclosed place) = Some place
text_place (spelling.ExtraClose place) = Some place
text_place (spelling.TooDeep place) = Some place
text_place (spelling.Expected place) = Some place
text_place (spelling.Unsupported place) = Some place
text_place (spelling.TooLong place) = None
text_place spelling.OutOfMemory = None

-- a text with its role and the name of its file
pub record Named : Type 0 where
  pub role : Role
  pub name : List ℕ
  pub bytes : List ℕ

-- a text of diagnostics as such
abbrev pub named : Source → Named
named s = record { role = s.role; name = s.name.now; bytes = s.lines }

-- what is about this place of a text, or its end where it is shorter, or about the text as a whole where there is no place
abbrev pub IsAbout : Named → Option ℕ → Where → Type 0
IsAbout t None (Text source) = named source.now ≡ t
IsAbout t None (Place spot) = ⊥
IsAbout t (Some place) (Text source) = ⊥
IsAbout t (Some place) (Place spot) = (named spot.source.now ≡ t) × (spot.place ≡ min place (length t.bytes))

-- a diagnostic of this severity, with this code, about this place
pub record IsSaid (s : Severity) (t : Named) (kind : List ℕ) (place : Option ℕ) (d : Diagnostic) : Type 0 where
  pub severity : d.severity ≡ s
  pub code : d.code.now ≡ kind
  pub about : IsAbout t place d.about

-- an error with this code about this place
abbrev pub IsError : Named → List ℕ → Option ℕ → Diagnostic → Type 0
IsError = IsSaid severity.Error

-- a warning with this code about this place
abbrev pub IsWarned : Named → List ℕ → Option ℕ → Diagnostic → Type 0
IsWarned = IsSaid severity.Warning

-- the text of a side, if there is one
abbrev pub text_at : Named → Option Named → Side → Option Named
text_at domain problem side.Domain = Some domain
text_at domain problem side.Problem = problem

-- the error of a fault of a pair, which stands in one of two texts
abbrev pub TellsAt : Named → Option Named → List ℕ → Option At → Diagnostic → Type 0
TellsAt domain problem code None d = ⊥
TellsAt domain problem code (Some at) d = (t : Named) × (text_at domain problem at.source ≡ Some t) × IsError t code (Some at.place) d

-- the diagnostic is that of the fault
abbrev pub Tells : Named → Option Named → Fault → Diagnostic → Type 0
Tells domain problem (of_domain f) d = IsError domain (text.code_of f) (text_place f) d
Tells domain None (of_problem f) d = ⊥
Tells domain (Some problem) (of_problem f) d = IsError problem (text.code_of f) (text_place f) d
Tells domain problem (of_pair f) d = TellsAt domain problem (pair.code_of f) (pair.at_of f) d

-- the bytes of a problem, or of one that declares nothing
abbrev pub problem_bytes : Option Named → Bytes
problem_bytes None = no_problem
problem_bytes (Some problem) = problem.bytes

-- these texts, with the trees that they spell
pub record AreTextsOf (domain : Named) (problem : Option Named) (texts : PairTexts) : Type 0 where
  pub is_domain : named texts.domain.now ≡ domain
  pub is_problem : option_map (λ p. named p.now) texts.problem ≡ problem
  pub domain_spelled : Spells DerivesDomain domain.bytes texts.domain_tree.now
  pub problem_spelled : Spells DerivesProblem (problem_bytes problem) texts.problem_tree.now

-- the error of a text's fault has a message, offers only keywords that may stand there, and has its notes where they may
-- be
abbrev pub HelpsText : Named → TextFault → Diagnostic → Type 0
HelpsText t f d =
    (source : Source) × (named source ≡ t) × (d.message.items ≢ []) × text_offers.OffersMeant source f d.remarks.items
    × All (λ note. text_notes.IsNote source f note.spot) d.notes.items

-- the error of a fault of two trees has a message, offers only names that may be meant, and has its notes at the first
-- declarations of names that the fault has or that are offered
abbrev pub Helps : Named → Option Named → Fault → Diagnostic → Type 0
Helps domain problem (of_domain f) d = HelpsText domain f d
Helps domain None (of_problem f) d = ⊥
Helps domain (Some problem) (of_problem f) d = HelpsText problem f d
Helps domain problem (of_pair f) d =
    (texts : PairTexts) × AreTextsOf domain problem texts × (d.message.items ≢ []) × OffersMeant texts f d.remarks.items
    × AreNotes texts f d.remarks.items d.notes.items

-- each fault has its diagnostic, in order
abbrev pub AreTold : Named → Option Named → List Fault → List Diagnostic → Type 0
AreTold domain problem [] [] = Unit {0}
AreTold domain problem (f ∷ fs) (d ∷ ds) = Tells domain problem f d × AreTold domain problem fs ds
AreTold domain problem _ _ = ⊥

-- the diagnostic is that of the warning, which is in one of two texts
abbrev pub Warns : Named → Option Named → Warning → Diagnostic → Type 0
Warns domain problem w d = (t : Named) × (text_at domain problem w.at.source ≡ Some t) × IsWarned t (warning.code_of w.kind) (Some w.at.place) d

-- each warning of texts has its diagnostic, in order
abbrev pub AreTextsWarned : Named → Option Named → List Warning → List Diagnostic → Type 0
AreTextsWarned domain problem = AllZip (Warns domain problem)

-- the diagnostic is that of a method or an action that no plan uses, at its name, or says that the problem has no plan
abbrev pub WarnsOfPlans : Named → Named → Unplanned → Diagnostic → Type 0
WarnsOfPlans domain problem (never_applied place) d = IsWarned domain never_applied_code (Some place) d
WarnsOfPlans domain problem (no_plan place) d = IsWarned problem no_plan_code (Some place) d

-- each warning of two texts has its diagnostic: that of another domain stands first, and all others by place
pub record ArePairWarned (domain problem : Named) (ws : AllWarnings) (ds : List Diagnostic) : Type 0 where
  pub first : List Diagnostic
  pub texts : List Diagnostic
  pub plans : List Diagnostic
  pub others : List Diagnostic
  pub of_domain : AreTextsWarned domain (Some problem) ws.other first
  pub of_texts : AreTextsWarned domain (Some problem) ws.of_texts texts
  pub of_plans : AllZip (WarnsOfPlans domain problem) ws.unplanned plans
  pub by_place : AreByPlace texts plans others
  pub whole : ds ≡ first ++ others

-- each warning has its diagnostic; those of a domain alone in their order
abbrev pub AreWarned : Named → Option Named → AllWarnings → List Diagnostic → Type 0
AreWarned domain None ws = AreTextsWarned domain None ws.of_texts
AreWarned domain (Some problem) ws = ArePairWarned domain problem ws
