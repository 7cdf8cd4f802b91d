-- The places of first declarations, as tables have them, and notes by what they stand at.
use Rattle.std.specs.Prelude.{◌≡◌, ℕ, List, [], ◌∷◌, map, Option, Some, None}
use Rattle.hddl_words.specs.declared.domain.DomainText.{DomainText}
use Rattle.hddl_words.specs.declared.problem.ProblemText.{ProblemText}
use Rattle.hddl_meaning.specs.Mentions.{IsIn, Mention, Text, folded, mention_of}
use Rattle.hddl_meaning.specs.Names.{type_mentions}
use Rattle.hddl_meaning.specs.declared.fault.At.{At}
use Rattle.hddl_meaning.specs.declared.fault.Source.TheVariants as source
use Rattle.hddl_scope.specs.Numbers.{Entries, number_at}
use Rattle.diagnostics.specs.declared.diagnostic.Note.{Note}
use Rattle.pair_messages.specs.declared.firsts.FirstCalled.{FirstCalled}
use Rattle.pair_messages.specs.declared.firsts.FirstTyped.{FirstTyped}
use Rattle.pair_messages.specs.declared.firsts.Sort.{Sort}
use Rattle.pair_messages.specs.declared.texts.PairTexts.{PairTexts}
use Rattle.pair_messages.specs.Heads.{IsSpotAt, text_of}
use Rattle.pair_messages.specs.Notes.{IsFirst, first_place, object_mentions}

-- each name has the place of the first that has it
abbrev pub AreFirstOf : List Mention → Entries → Type 0
AreFirstOf names places = (t : Text) → number_at places t ≡ first_place names t

-- the first places of types, constants and objects
pub record AreFirstTyped (d : DomainText) (p : ProblemText) (f : FirstTyped) : Type 0 where
  pub types : AreFirstOf (type_mentions d) f.types
  pub constants : AreFirstOf (object_mentions d p source.Domain) f.constants
  pub objects : AreFirstOf (object_mentions d p source.Problem) f.objects

-- the first places of what a domain declares with parameters
pub record AreFirstCalled (d : DomainText) (f : FirstCalled) : Type 0 where
  pub predicates : AreFirstOf (map (λ x. mention_of x.name) d.predicates) f.predicates
  pub tasks : AreFirstOf (map (λ x. mention_of x.name) d.tasks) f.tasks
  pub actions : AreFirstOf (map (λ x. mention_of x.name) d.actions) f.actions
  pub methods : AreFirstOf (map (λ x. mention_of x.name) d.methods) f.methods

-- a note at a place
abbrev pub StandsOn : PairTexts → At → Note → Type 0
StandsOn t at note = IsSpotAt (text_of t at.source) at.place note.spot

-- a note at one of some places
abbrev pub IsNoteAt : PairTexts → (At → Type 0) → Note → Type 0
IsNoteAt t P note = (at : At) × P at × StandsOn t at note

-- a note at the first declaration of one of some names
abbrev pub IsFirstNote : PairTexts → Sort → List (List ℕ) → Note → Type 0
IsFirstNote t of names note =
    IsNoteAt t (λ at. (name : List ℕ) × IsIn name names × IsFirst t.domain_tree.now t.problem_tree.now of (folded name) at) note

-- a note, if there is one
abbrev pub listed : Option Note → List Note
listed None = []
listed (Some note) = note ∷ []
