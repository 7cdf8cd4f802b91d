-- How words are read from left to right, and where reading stops.
use Rattle.std.specs.Prelude.{◌≡◌, ◌≢◌, ℕ, zero, suc, Bool, true, false, if◌then◌else◌, List, [], ◌∷◌, ◌++◌, length, Option, Some, None, Result, Ok, Err}
use Rattle.hddl_words.specs.declared.cursor.Stop.{Stop}
use Rattle.hddl_words.specs.declared.cursor.Stop.TheVariants.{Memory, Refused}
use Rattle.hddl_words.specs.declared.class.Class.{Class}
use Rattle.hddl_words.specs.declared.class.Class.TheVariants as class
use Rattle.hddl_words.specs.Words.{Word}
use Rattle.hddl_words.specs.Class.{class_of}

-- the value that was read with the words after it, or why reading stopped
pub data Outcome (A : Type 0) : Type 0 where
  read : A → List Word → Outcome A
  failed : Stop → Outcome A

-- a word is refused: whether it is unsupported, and how many words there are from it on
abbrev pub refused : {A : Type 0} → Bool → ℕ → Outcome A
refused unsupported left = failed (Refused unsupported left)

-- a reader takes a value from the front of the words
abbrev pub Reader : Type 0 → Type 0
Reader A = List Word → Outcome A

-- a further reader applied to the words that are left, unless reading stopped
abbrev pub and_then : {A B : Type 0} → Outcome A → (A → Reader B) → Outcome B
and_then (read a ws) f = f a ws
and_then (failed e) f = failed e

infixl 10 ◌>>=◌
-- a reader, and then the one that its value gives
abbrev pub ◌>>=◌ : {A B : Type 0} → Reader A → (A → Reader B) → Reader B
p >>= f = λ ws. and_then (p ws) f

-- a reader that takes no word
abbrev pub pure : {A : Type 0} → A → Reader A
pure a = λ ws. read a ws

infixl 10 ◌>>◌
-- a reader whose value is dropped, and then another
abbrev pub ◌>>◌ : {A B : Type 0} → Reader A → Reader B → Reader B
p >> q = p >>= (λ _. q)

-- no word is left
abbrev pub end : Reader (Unit {0})
end [] = read tt []
end (w ∷ ws) = refused false (suc (length ws))

-- the first word; reading stops where there is none
abbrev pub take_word : Reader Word
take_word [] = refused false 0
take_word (w ∷ ws) = read w ws

-- the word that was read last is refused
abbrev pub refuse : {A : Type 0} → Bool → Reader A
refuse unsupported = λ ws. refused unsupported (suc (length ws))

-- what follows a word: more words, or its refusal
pub data Step (A : Type 0) : Type 0 where
  go : Reader A → Step A
  stop : Bool → Step A

-- the step at a word, by its class
abbrev pub Item : Type 0 → Type 0
Item A = Class → Word → Step A

-- the reader that carries out the step at a word: reading goes on, or stops at the word
abbrev pub run : {A : Type 0} → Step A → Reader A
run (go p) = p
run (stop unsupported) = refuse unsupported

-- the first word is taken, and read by its class
abbrev pub next : {A : Type 0} → Item A → Reader A
next item = take_word >>= (λ w. run (item (class_of w) w))

-- a step at a word, and then a reader
abbrev pub followed : {A B : Type 0} → Step A → (A → Reader B) → Step B
followed (go p) f = go (p >>= f)
followed (stop u) f = stop u

-- whether a word is the closing bracket
abbrev pub is_close : Class → Bool
is_close class.Close = true
is_close _ = false

-- a step where a test holds; else reading stops
abbrev pub if_holds : {A : Type 0} → Bool → Step A → Step A
if_holds true s = s
if_holds false s = stop false

-- the value that the closing bracket completes, or its refusal where something required is missing
abbrev pub finished : {A : Type 0} → Option A → Step A
finished (Some a) = go (pure a)
finished None = stop false

-- the closing bracket ends the reading of a list; any other word begins an item, after which reading goes on
abbrev pub turn : {D A : Type 0} → (D → Option A) → (D → Reader A) → (D → Item D) → D → Item A
turn finish more item d c w = if is_close c then finished (finish d) else followed (item d c w) more

-- The number bounds the turns, each of which takes a word.
unfoldable pub ended_within : {D A : Type 0} → (D → Option A) → ℕ → (D → Item D) → D → Reader A
ended_within finish zero item d = λ ws. refused false 0
ended_within finish (suc n) item d = next (turn finish (ended_within finish n item) item d)

-- items up to the closing bracket, and what they complete
unfoldable pub until_ended : {D A : Type 0} → (D → Option A) → (D → Item D) → D → Reader A
until_ended finish item d = λ ws. ended_within finish (suc (length ws)) item d ws

-- items up to the closing bracket, each over what was read before it
abbrev pub until : {D : Type 0} → (D → Item D) → D → Reader D
until item d = until_ended Some item d

-- an item, added to those before it
abbrev pub adds : {A : Type 0} → Item A → List A → Item (List A)
adds item xs c w = followed (item c w) (λ x. pure (xs ++ x ∷ []))

-- items up to the closing bracket, as a list
abbrev pub list_of : {A : Type 0} → Item A → Reader (List A)
list_of item = until (adds item) []

-- an opening bracket, and then a reader
abbrev pub opened : {A : Type 0} → Reader A → Item A
opened p class.Open w = go p
opened p _ w = stop false

-- a closing bracket, which gives a value
abbrev pub closed : {A : Type 0} → A → Item A
closed x class.Close w = go (pure x)
closed x _ w = stop false

-- a reserved word where a name may stand is unsupported
abbrev pub named : {A : Type 0} → (Word → Reader A) → Item A
named p class.Name w = go (p w)
named p class.Forall w = stop true
named p class.Reserved w = stop true
named p _ w = stop false

-- a step where there is no value yet; else reading stops
abbrev pub if_absent : {X A : Type 0} → Option X → Step A → Step A
if_absent None s = s
if_absent (Some x) s = stop false

-- the result of a function that reads is the reader's outcome, unless memory ran out
abbrev pub Reads : {A : Type 0} → Outcome A → Result A Stop → List Word → Type 0
Reads outcome (Ok a) rest = outcome ≡ read a rest
Reads outcome (Err e) rest = e ≢ Memory → outcome ≡ failed e

-- the result of a function that adds to a value is the reader's outcome, unless memory ran out
abbrev pub Leaves : {A : Type 0} → Outcome A → Result (Unit {0}) Stop → A → List Word → Type 0
Leaves outcome (Ok done) a rest = outcome ≡ read a rest
Leaves outcome (Err e) a rest = e ≢ Memory → outcome ≡ failed e
