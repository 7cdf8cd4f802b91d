-- The fault of the brackets, token by token.
use Rattle.std.proofs.Common.{◌≡◌, ◌≢◌, ℕ, ◌+◌, ◌<◌, ◌≤◌, List, [], ◌∷◌, ◌++◌, length, get_or, drop, map, reverse, Option, refl, add-one, drop-cons, arith}
use Rattle.std.proofs.lemmas.List.{drop_all, reverse-append}
use Rattle.hddl_words.specs.declared.fault.TextFault.{TextFault}
use Rattle.hddl_words.specs.declared.token.Kind.{Kind}
use Rattle.hddl_words.specs.declared.token.Kind.TheVariants as kind
use Rattle.hddl_words.specs.declared.token.Token.{Token}
use Rattle.hddl_words.specs.Words.{word_of}
use Rattle.hddl_words.specs.Brackets.{bracket_at, bracket_fault, innermost}

-- a word that is no bracket has no fault of its own
pub other_kind : (k : Kind) (place : ℕ) (places : List ℕ) (next : List ℕ → Option TextFault) → k ≢ kind.Open → k ≢ kind.Close → bracket_at k place places next ≡ next places
other_kind kind.Open place places next no_open no_close = absurd (no_open refl)
other_kind kind.Close place places next no_open no_close = absurd (no_close refl)
other_kind _ place places next no_open no_close = refl

-- the fault from a token on is that at the token or after it
pub bracket_here : (tokens : List Token) (i : ℕ) (d : Token) (places : List ℕ) → i < length tokens → bracket_fault places (map word_of (drop i tokens)) ≡ bracket_at (get_or tokens i d).kind (get_or tokens i d).place places (λ p. bracket_fault p (map word_of (drop (i + 1) tokens)))
unfolding bracket_fault
bracket_here tokens i d places inside = rw (add-one, drop-cons tokens i d)

-- at the end the fault is that of the innermost bracket
pub bracket_end : (tokens : List Token) (i : ℕ) (places : List ℕ) → length tokens ≤ i → bracket_fault places (map word_of (drop i tokens)) ≡ innermost places
unfolding bracket_fault
bracket_end tokens i places over = rw (drop_all i tokens over)

-- a list with one value more, turned round, has it first
pub reverse_push : (xs : List ℕ) (x : ℕ) → reverse (xs ++ x ∷ []) ≡ x ∷ reverse xs
reverse_push xs x = reverse-append xs (x ∷ [])

-- a list of length 0 is empty
pub empty : (xs : List ℕ) → length xs ≡ 0 → xs ≡ []
empty [] none = refl
empty (x ∷ xs) none = absurd (omega arith)
