-- The operators in which the grammar is written.
use Rattle.std.specs.Prelude.{◌≡◌, Bool, true, false, List, [], ◌∷◌, ◌++◌, Option, Some, None}
use Rattle.hddl_words.specs.declared.class.Class.{Class}
use Rattle.hddl_words.specs.declared.class.Class.TheVariants as class
use Rattle.hddl_words.specs.Words.{Word}
use Rattle.hddl_words.specs.Class.{class_of}
use Rattle.hddl_words.specs.Reading.{is_close}

-- a phrase: the words that it stands at the front of, its tree, and the words after it
abbrev pub Phrase : Type 0 → Type 1
Phrase A = List Word → A → List Word → Type 0

-- a phrase whose first word is given, with its class
abbrev pub ItemPhrase : Type 0 → Type 1
ItemPhrase A = Class → Word → Phrase A

-- no words are this phrase
abbrev pub Nothing : {A : Type 0} → Phrase A
Nothing ws a rest = ⊥

-- no word, and this tree
abbrev pub Gives : {A : Type 0} → A → Phrase A
Gives x ws a rest = (a ≡ x) × (rest ≡ ws)

-- one phrase and then another
infixl 10 ◌>>=◌
-- a phrase, and then the one that its value gives
abbrev pub ◌>>=◌ : {A B : Type 0} → Phrase A → (A → Phrase B) → Phrase B
◌>>=◌ {A} {B} P Q ws b rest = (a : A) × (mid : List Word) × P ws a mid × Q a mid b rest

infixl 10 ◌>>◌
-- a phrase whose value is dropped, and then another
abbrev pub ◌>>◌ : {A B : Type 0} → Phrase A → Phrase B → Phrase B
◌>>◌ {A} {B} P Q = P >>= (λ _. Q)

-- a word, and what follows it by its class
abbrev pub Next : {A : Type 0} → ItemPhrase A → Phrase A
Next item ws a rest = (w : Word) × (mid : List Word) × (ws ≡ w ∷ mid) × item (class_of w) w mid a rest

-- items up to the closing bracket, each of which adds to what was read before it, and what they complete
pub data Ended {D A : Type 0} (finish : D → Option A) (item : D → Class → Word → List Word → D → List Word → Type 0) : D → List Word → A → List Word → Type 0 where
  closed : {d : D} {a : A} {w : Word} {ws : List Word} → is_close (class_of w) ≡ true → finish d ≡ Some a → Ended finish item d (w ∷ ws) a ws
  more : {d e : D} {a : A} {w : Word} {ws mid rest : List Word} → is_close (class_of w) ≡ false → item d (class_of w) w ws e mid → Ended finish item e mid a rest → Ended finish item d (w ∷ ws) a rest

-- items up to the closing bracket, each over what was read before it
abbrev pub Until : {D : Type 0} → (D → ItemPhrase D) → D → Phrase D
Until item = Ended Some item

-- a list of items up to the closing bracket
abbrev pub Adds : {A : Type 0} → ItemPhrase A → List A → ItemPhrase (List A)
Adds item xs c w = item c w >>= (λ x. Gives (xs ++ x ∷ []))

-- items up to the closing bracket, as a list
abbrev pub ListOf : {A : Type 0} → ItemPhrase A → Phrase (List A)
ListOf item = Until (Adds item) []

-- an opening bracket, a closing one, a name
abbrev pub Opened : {A : Type 0} → Phrase A → ItemPhrase A
Opened P class.Open w = P
Opened P _ w = Nothing

-- a closing bracket, which gives a value
abbrev pub Closed : {A : Type 0} → A → ItemPhrase A
Closed x class.Close w = Gives x
Closed x _ w = Nothing

-- a name, and then the phrase that it gives
abbrev pub Named : {A : Type 0} → (Word → Phrase A) → ItemPhrase A
Named P class.Name w = P w
Named P _ w = Nothing

-- a part that occurs at most once: a phrase if the part has not been read yet, else nothing
abbrev pub IfAbsent : {X A : Type 0} → Option X → Phrase A → Phrase A
IfAbsent None P = P
IfAbsent (Some x) P = Nothing

-- a phrase where a test holds, else nothing
abbrev pub IfHolds : {A : Type 0} → Bool → Phrase A → Phrase A
IfHolds true P = P
IfHolds false P = Nothing
