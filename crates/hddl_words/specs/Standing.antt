-- The words of a text, as conditions on each byte and the bytes before and after it.
use Rattle.std.specs.Prelude.{◌≡◌, ℕ, Bool, true, false, ◌||◌, ◌==◌, ◌⊎◌, if◌then◌else◌, List, [], ◌∷◌, ◌++◌, length, Some}
use Rattle.std.specs.List.{take_while}
use Rattle.hddl_words.specs.declared.token.Kind.TheVariants as kind
use Rattle.hddl_words.specs.Word.{Word, is_word_byte, kind_of}

-- whether a comment is open after these bytes: `;` begins one, and a line feed ends it
abbrev pub is_in_comment : Bool → List ℕ → Bool
is_in_comment inside [] = inside
is_in_comment inside (b ∷ bytes) = is_in_comment (if b == 10 then false else (inside || b == 59)) bytes

-- the bytes after this beginning of the text are not in a comment
abbrev pub IsOutsideComments : List ℕ → Type 0
IsOutsideComments front = is_in_comment false front ≡ false

-- the bytes do not end within a word
abbrev pub IsBetweenWords : List ℕ → Type 0
IsBetweenWords front = (before : List ℕ) (b : ℕ) → front ≡ before ++ b ∷ [] → is_word_byte b ≡ false

-- a bracket is a word
abbrev pub IsBracket : ℕ → Word → Type 0
IsBracket byte w = (((byte ≡ 40) × (w.kind ≡ kind.Open)) ⊎ ((byte ≡ 41) × (w.kind ≡ kind.Close))) × (w.text ≡ byte ∷ [])

-- a longest run of other printable bytes is a word; its first byte and its length determine its kind
abbrev pub IsRun : List ℕ → ℕ → List ℕ → Word → Type 0
IsRun front byte rest w = IsBetweenWords front × (is_word_byte byte ≡ true) × (w.text ≡ take_while is_word_byte (byte ∷ rest)) × (kind_of byte (length w.text) ≡ Some w.kind)

-- the word begins with this byte, between the bytes before it and those after it
abbrev pub Begins : List ℕ → ℕ → List ℕ → Word → Type 0
Begins front byte rest w = IsOutsideComments front × (w.place ≡ length front) × (IsBracket byte w ⊎ IsRun front byte rest w)

-- the words that begin in some bytes after others: at each byte, in order, the one that begins there, if one does
pub data AreWords : List ℕ → List ℕ → List Word → Type 0 where
  end : {front : List ℕ} → AreWords front [] []
  begins : {front bytes : List ℕ} {b : ℕ} {w : Word} {ws : List Word} → Begins front b bytes w → AreWords (front ++ b ∷ []) bytes ws → AreWords front (b ∷ bytes) (w ∷ ws)
  passes : {front bytes : List ℕ} {b : ℕ} {ws : List Word} → ((w : Word) → Begins front b bytes w → ⊥) → AreWords (front ++ b ∷ []) bytes ws → AreWords front (b ∷ bytes) ws
