-- Brackets.
use Rattle.std.specs.Prelude.{◌≡◌, ◌≢◌, ℕ, suc, pred, ◌<◌, ◌==◌, if◌then◌else◌, List, [], ◌∷◌, length, Option, Some, None, Result, Ok, Err, ⊤}
use Rattle.hddl_words.specs.declared.fault.TextFault.{TextFault}
use Rattle.hddl_words.specs.declared.fault.TextFault.TheVariants.{Unclosed, ExtraClose, TooDeep, OutOfMemory}
use Rattle.hddl_words.specs.declared.token.Kind.{Kind}
use Rattle.hddl_words.specs.declared.token.Kind.TheVariants as kind
use Rattle.hddl_words.specs.declared.class.Class.{Class}
use Rattle.hddl_words.specs.declared.class.Class.TheVariants as class
use Rattle.hddl_words.specs.Words.{Word}
use Rattle.hddl_words.specs.Class.{class_of}

-- how many brackets are open after a word
abbrev pub after : Class → ℕ → ℕ
after class.Open k = suc k
after class.Close k = pred k
after _ k = k

-- a bracket may stand where k are open: no more than 64 are open at once, and none is closed that isn't open
abbrev pub MayStand : Class → ℕ → Type 0
MayStand class.Open k = k < 64
MayStand class.Close k = 0 < k
MayStand _ k = ⊤

-- the words close the k brackets that are open before them, and all that they open, of which at most 64 are open at
-- once
abbrev pub Nests : ℕ → List Word → Type 0
Nests k [] = k ≡ 0
Nests k (w ∷ ws) = MayStand (class_of w) k × Nests (after (class_of w) k) ws

-- the fault of the innermost bracket that is open at the end, if any is
abbrev pub innermost : List ℕ → Option TextFault
innermost [] = None
innermost (place ∷ places) = Some (Unclosed place)

-- the fault of a bracket at its place, or else the result for the words after it
abbrev pub bracket_at : Kind → ℕ → List ℕ → (List ℕ → Option TextFault) → Option TextFault
bracket_at kind.Open place places more = if length places == 64 then Some (TooDeep place) else more (place ∷ places)
bracket_at kind.Close place [] more = Some (ExtraClose place)
bracket_at kind.Close place (p ∷ places) more = more places
bracket_at _ place places more = more places

-- the first fault of the brackets, where the places of those that are open before the words are given, the innermost
-- first
unfoldable pub bracket_fault : List ℕ → List Word → Option TextFault
bracket_fault places [] = innermost places
bracket_fault places (w ∷ ws) = bracket_at w.kind w.place places (λ p. bracket_fault p ws)

-- the brackets are right, or the fault is that of the words, unless memory ran out
abbrev pub Checks : Result (Unit {0}) TextFault → Option TextFault → Type 0
Checks (Ok done) found = found ≡ None
Checks (Err fault) found = fault ≢ OutOfMemory → found ≡ Some fault

-- one token takes the places that are open to these, or has a fault
abbrev pub Steps : Result (Unit {0}) TextFault → Kind → ℕ → List ℕ → List ℕ → Type 0
Steps (Ok done) kind place old new = (next : List ℕ → Option TextFault) → bracket_at kind place old next ≡ next new
Steps (Err fault) kind place old new = fault ≢ OutOfMemory → (next : List ℕ → Option TextFault) → bracket_at kind place old next ≡ Some fault
