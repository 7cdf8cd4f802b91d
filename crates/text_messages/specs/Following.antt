-- The keywords that may follow some bytes of a text, and those that may be meant by another word there.
use Rattle.std.specs.Prelude.{◌≡◌, ◌⊎◌, ℕ, true, false, List, [], ◌∷◌, ◌++◌, drop, take, codes, Contains}
use Rattle.std.specs.List.{All, take_while}
use Rattle.hddl_words.specs.Word.{is_word_byte}
use Rattle.hddl_words.specs.declared.fault.TextFault.{TextFault}
use Rattle.hddl_words.specs.declared.fault.TextFault.TheVariants.{Expected, Unsupported}
use Rattle.hddl_words.specs.declared.domain.DomainText.{DomainText}
use Rattle.hddl_words.specs.declared.problem.ProblemText.{ProblemText}
use Rattle.hddl_text.specs.Grammar.{DerivesDomain, DerivesProblem}
use Rattle.hddl_text.specs.Spelling.{FaultAt, Spells}
use Rattle.diagnostics.specs.Near.{distance_of, is_nearer, may_be_meant}
use Rattle.diagnostics.specs.Offers.{offered}
use Rattle.diagnostics.specs.declared.diagnostic.Remark.{Remark}
use Rattle.diagnostics.specs.declared.diagnostic.Role.{Role}
use Rattle.diagnostics.specs.declared.diagnostic.Role.TheVariants as role
use Rattle.diagnostics.specs.declared.diagnostic.Source.{Source}

-- a text spells a tree of its role: that of a problem, or else of a domain
abbrev pub IsSpelled : Role → List ℕ → Type 0
IsSpelled role.Problem text = (p : ProblemText) × Spells DerivesProblem text p
IsSpelled role.Domain text = (d : DomainText) × Spells DerivesDomain text d
IsSpelled role.Plan text = (d : DomainText) × Spells DerivesDomain text d

-- some bytes with a word in a line of its own, and what comes after that
abbrev pub continued : List ℕ → List ℕ → List ℕ → List ℕ
continued before word rest = before ++ 10 ∷ word ++ 32 ∷ rest

-- a word may stand after some bytes: some text of the role begins with them and the word
abbrev pub MayFollow : Role → List ℕ → List ℕ → Type 0
MayFollow r before word = (rest : List ℕ) × IsSpelled r (continued before word rest)

-- the keywords of the grammar; those that have a second form by the first
abbrev pub keywords : List (List ℕ)
keywords =
    codes ":requirements" ∷ codes ":types" ∷ codes ":constants" ∷ codes ":predicates" ∷ codes ":task" ∷ codes ":method" ∷ codes ":action"
    ∷ codes ":domain" ∷ codes ":objects" ∷ codes ":init" ∷ codes ":goal" ∷ codes ":htn" ∷ codes ":parameters" ∷ codes ":precondition"
    ∷ codes ":effect" ∷ codes ":subtasks" ∷ codes ":ordered-subtasks" ∷ codes ":ordering" ∷ codes ":constraints" ∷ []

-- a keyword that may stand after some bytes and may be meant by a word; no keyword that may stand there is nearer to it
pub record IsNearestKeyword (r : Role) (before word name : List ℕ) : Type 0 where
  pub known : Contains keywords name
  pub follows : MayFollow r before name
  pub meant : may_be_meant word name ≡ true
  pub none_nearer : (other : List ℕ) → Contains keywords other → MayFollow r before other → is_nearer word (distance_of word name) other ≡ false

-- the word at a place of a text: none at a bracket, a blank or the end
abbrev pub word_from : Source → ℕ → List ℕ
word_from source place = take_while is_word_byte (drop place source.lines)

-- the words that may be offered for a fault: for one that the language has not, a keyword; for another fault none
abbrev pub MayBeMeant : Source → TextFault → List ℕ → Type 0
MayBeMeant source (Unsupported place) name = IsNearestKeyword source.role (take place source.lines) (word_from source place) name
MayBeMeant source _ name = ⊥

-- each offered word is one that may be meant
abbrev pub OffersMeant : Source → TextFault → List Remark → Type 0
OffersMeant source fault remarks = All (MayBeMeant source fault) (offered remarks)

-- ---- what the code computes

-- a fault of a text of this role
abbrev pub FaultIn : Role → List ℕ → TextFault → Type 0
FaultIn role.Problem text fault = FaultAt DerivesProblem text fault
FaultIn role.Domain text fault = FaultAt DerivesDomain text fault
FaultIn role.Plan text fault = FaultAt DerivesDomain text fault

-- the grammar refuses the text at this place
abbrev pub IsRefusedAt : Role → List ℕ → ℕ → Type 0
IsRefusedAt r text place = FaultIn r text (Expected place) ⊎ FaultIn r text (Unsupported place)

-- some of the candidates, among them each that may stand after some bytes
pub record HasFollowing (r : Role) (before : List ℕ) (candidates found : List (List ℕ)) : Type 0 where
  pub are : All (Contains candidates) found
  pub each : (word : List ℕ) → Contains candidates word → MayFollow r before word → Contains found word
