-- The meaning of a text that spells a tree, and of a fault at a place of a text.
use Rattle.std.specs.Prelude.{◌≡◌, ◌≢◌, ℕ, ◌-◌, ◌⊎◌, Bool, true, ◌&&◌, if◌then◌else◌, List, [], ◌∷◌, ◌++◌, length, map, drop, min, Ok}
use Rattle.std.specs.declared.alloc.Global.{Global}
use Rattle.std.specs.declared.vec.Vec.{Vec}
use Rattle.hddl_words.specs.declared.fault.TextFault.{TextFault}
use Rattle.hddl_words.specs.declared.fault.TextFault.TheVariants.{Unclosed, ExtraClose, TooDeep, Expected, Unsupported, OutOfMemory}
use Rattle.hddl_words.specs.declared.cursor.Stop.{Stop}
use Rattle.hddl_words.specs.declared.cursor.Stop.TheVariants.{Memory, Refused}
use Rattle.hddl_words.specs.declared.class.Class.{Class}
use Rattle.hddl_words.specs.declared.class.Class.TheVariants as class
use Rattle.hddl_words.specs.declared.token.Token.{Token}
use Rattle.hddl_words.specs.Words.{Word, words, word_of}
use Rattle.hddl_words.specs.Class.{class_of, is_reserved}
use Rattle.hddl_words.specs.Brackets.{Nests}
use Rattle.hddl_words.specs.Faults.{WordFaultAt, IsLeftmost, BracketFaultAt}

-- the text spells the tree: its brackets nest, and the grammar derives the tree from its words
pub record Spells {Tree : Type 0} (Derives : List Word → Tree → Type 0) (text : List ℕ) (tree : Tree) : Type 0 where
  pub parts : List Word
  pub lexed : words text ≡ Ok parts
  pub nested : Nests 0 parts
  pub derived : Derives parts tree

-- the words up to and including this one begin no list of words that the grammar derives
pub record BeginsNone {Tree : Type 0} (Derives : List Word → Tree → Type 0) (ws : List Word) (w : Word) : Type 0 where
  pub front : List Word
  pub rest : List Word
  pub whole : ws ≡ front ++ w ∷ rest
  pub never : (more : List Word) (tree : Tree) → Derives (front ++ w ∷ more) tree → ⊥

-- a keyword, a reserved word, `=` or an opening bracket
abbrev pub is_unsupportable : Class → Bool
is_unsupportable (class.Keyword k) = true
is_unsupportable class.Equal = true
is_unsupportable class.Open = true
is_unsupportable c = is_reserved c

-- the text has words, and their brackets nest
pub record HasNested (text : List ℕ) (ws : List Word) : Type 0 where
  pub lexed : words text ≡ Ok ws
  pub nested : Nests 0 ws

-- Faults of the words are considered first, those of brackets only where the words have none.
abbrev pub EarlyFaultAt : List ℕ → TextFault → Type 0
EarlyFaultAt text (TooDeep place) = (ws : List Word) × (words text ≡ Ok ws) × BracketFaultAt ws (TooDeep place)
EarlyFaultAt text (ExtraClose place) = (ws : List Word) × (words text ≡ Ok ws) × BracketFaultAt ws (ExtraClose place)
EarlyFaultAt text (Unclosed place) = (ws : List Word) × (words text ≡ Ok ws) × BracketFaultAt ws (Unclosed place)
EarlyFaultAt text fault = WordFaultAt text fault × IsLeftmost text fault

-- The fault is in the text, at its place. Faults of the grammar are considered only where the brackets nest.
abbrev pub FaultAt : {Tree : Type 0} → (List Word → Tree → Type 0) → List ℕ → TextFault → Type 0
FaultAt Derives text (Expected place) = (ws : List Word) × HasNested text ws × (((ws ≡ []) × (place ≡ length text)) ⊎ ((w : Word) × (w.place ≡ place) × BeginsNone Derives ws w))
FaultAt Derives text (Unsupported place) = (ws : List Word) × HasNested text ws × ((w : Word) × (w.place ≡ place) × BeginsNone Derives ws w × (is_unsupportable (class_of w) ≡ true))
FaultAt Derives text fault = EarlyFaultAt text fault

-- ---- what the code computes

-- the tokens are the words of the text, whose brackets nest
abbrev pub AreNested : List ℕ → Vec Token Global → Type 0
AreNested text tokens = HasNested text (map word_of tokens.items)

-- unless memory is refused, the text has no words whose brackets nest
abbrev pub HasNoNested : List ℕ → TextFault → Type 0
HasNoNested text fault = fault ≢ OutOfMemory → (ws : List Word) → HasNested text ws → ⊥

-- the fault at a word where reading stopped
abbrev pub refusal_of : Bool → Word → TextFault
refusal_of unsupported w = if unsupported && is_unsupportable (class_of w) then Unsupported w.place else Expected w.place

-- the fault at the first of these words, or at the end of the text
abbrev pub refusal_at : ℕ → Bool → List Word → TextFault
refusal_at len unsupported [] = Expected len
refusal_at len unsupported (w ∷ ws) = refusal_of unsupported w

-- the fault where reading stopped, with this many words left
abbrev pub refusal : ℕ → List Word → Bool → ℕ → TextFault
refusal len ws unsupported left = refusal_at len unsupported (drop (length ws - min left (length ws)) ws)

-- the fault of a text whose reading stopped so
abbrev pub fault_of : ℕ → List Word → Stop → TextFault
fault_of len ws Memory = OutOfMemory
fault_of len ws (Refused unsupported left) = refusal len ws unsupported left
