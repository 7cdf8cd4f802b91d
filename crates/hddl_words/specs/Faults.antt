-- The condition of each fault of words and brackets on a text and its words, without reading them from the left.
use Rattle.std.specs.Prelude.{◌≡◌, ◌≢◌, ℕ, zero, suc, ◌<◌, ◌≤◌, true, false, List, [], ◌∷◌, ◌++◌, length, None, ⊤}
use Rattle.std.specs.List.{take_while}
use Rattle.hddl_words.specs.declared.fault.TextFault.{TextFault}
use Rattle.hddl_words.specs.declared.fault.TextFault.TheVariants.{NotAscii, BadWord, Unclosed, ExtraClose, TooDeep, Expected, Unsupported, TooLong, OutOfMemory}
use Rattle.hddl_words.specs.declared.token.Kind.{Kind}
use Rattle.hddl_words.specs.declared.token.Kind.TheVariants as kind
use Rattle.hddl_words.specs.Standing.{IsOutsideComments, IsBetweenWords}
use Rattle.hddl_words.specs.Words.{Word, is_blank, is_printable, is_word_byte, kind_of, max_bytes}

-- ---- words

-- a byte is at this place, between the bytes before it and those after it
abbrev pub ByteAt : (List ℕ → ℕ → List ℕ → Type 0) → List ℕ → ℕ → Type 0
ByteAt Is text place = (front : List ℕ) × (byte : ℕ) × (rest : List ℕ) × (text ≡ front ++ byte ∷ rest) × (length front ≡ place) × Is front byte rest

-- a byte outside comments that is neither a blank nor printable
abbrev pub IsNotAscii : List ℕ → ℕ → List ℕ → Type 0
IsNotAscii front byte rest = IsOutsideComments front × (is_blank byte ≡ false) × (is_printable byte ≡ false)

-- the word that begins with this byte, outside comments, is of no kind
abbrev pub IsBadWord : List ℕ → ℕ → List ℕ → Type 0
IsBadWord front byte rest = IsOutsideComments front × IsBetweenWords front × (is_word_byte byte ≡ true) × (kind_of byte (length (take_while is_word_byte (byte ∷ rest))) ≡ None)

-- a fault of the words holds of the text at its place
abbrev pub WordFaultAt : List ℕ → TextFault → Type 0
WordFaultAt text (NotAscii place) = ByteAt IsNotAscii text place
WordFaultAt text (BadWord place) = ByteAt IsBadWord text place
WordFaultAt text (TooLong place) = (place ≡ max_bytes) × (max_bytes < length text)
WordFaultAt text OutOfMemory = ⊤
WordFaultAt text _ = ⊥

-- the place that a fault names, 0 for refused memory
abbrev pub place_of : TextFault → ℕ
place_of (NotAscii place) = place
place_of (BadWord place) = place
place_of (Unclosed place) = place
place_of (ExtraClose place) = place
place_of (TooDeep place) = place
place_of (Expected place) = place
place_of (Unsupported place) = place
place_of (TooLong place) = place
place_of OutOfMemory = 0

-- no fault of the words holds anywhere
abbrev pub HasNoWordFault : List ℕ → Type 0
HasNoWordFault text = (fault : TextFault) → fault ≢ OutOfMemory → WordFaultAt text fault → ⊥

-- no other fault of the words is before this one; a text that is too long is not examined further
abbrev pub IsLeftmost : List ℕ → TextFault → Type 0
IsLeftmost text (TooLong place) = ⊤
IsLeftmost text OutOfMemory = ⊤
IsLeftmost text fault = (other : TextFault) → other ≢ OutOfMemory → WordFaultAt text other → place_of fault ≤ place_of other

-- ---- brackets

-- a word of this kind is at this place, between the words before it and those after it
abbrev pub WordAt : Kind → (List Word → List Word → Type 0) → List Word → ℕ → Type 0
WordAt k Is ws place = (front : List Word) × (w : Word) × (rest : List Word) × (ws ≡ front ++ w ∷ rest) × (w.kind ≡ k) × (w.place ≡ place) × Is front rest

-- how many brackets are open after a word: one more, one less, or as many
abbrev pub LeadsBy : Kind → ℕ → (ℕ → Type 0) → Type 0
LeadsBy kind.Open open_now more = more (suc open_now)
LeadsBy kind.Close zero more = ⊥
LeadsBy kind.Close (suc open_now) more = more open_now
LeadsBy _ open_now more = more open_now

-- the words lead from one number of open brackets to another, and close none where none is open
abbrev pub Leads : ℕ → List Word → ℕ → Type 0
Leads open_now [] open_then = open_now ≡ open_then
Leads open_now (w ∷ ws) open_then = LeadsBy w.kind open_now (λ next. Leads next ws open_then)

-- the opening bracket would be the 65th open one
abbrev pub IsTooDeep : List Word → List Word → Type 0
IsTooDeep front rest = Leads 0 front 64

-- no bracket is open before the closing one
abbrev pub IsExtraClose : List Word → List Word → Type 0
IsExtraClose front rest = Leads 0 front 0

-- the opening bracket stays open, and the words after it close all that they open
abbrev pub IsUnclosed : List Word → List Word → Type 0
IsUnclosed front rest = ((open_now : ℕ) × Leads 0 front open_now) × Leads 0 rest 0

-- a fault of the brackets holds of the words at its place
abbrev pub BracketFaultAt : List Word → TextFault → Type 0
BracketFaultAt ws (TooDeep place) = WordAt kind.Open IsTooDeep ws place
BracketFaultAt ws (ExtraClose place) = WordAt kind.Close IsExtraClose ws place
BracketFaultAt ws (Unclosed place) = WordAt kind.Open IsUnclosed ws place
BracketFaultAt ws OutOfMemory = ⊤
BracketFaultAt ws _ = ⊥
