-- Texts with numbers, where the first entry of a text counts.
use Rattle.std.specs.Prelude.{ℕ, cond, List, [], ◌∷◌, map, Vec, Option, Some, None}
use Rattle.hddl_meaning.specs.Mentions.{Text}
use Rattle.hddl_meaning.specs.Names.{is_same_text}
use Rattle.hddl_scope.specs.declared.numbers.Numbered.{Numbered}

-- texts, each with a number
abbrev pub Entries : Type 0
Entries = List (Text × ℕ)

-- the number of a text
abbrev pub number_at : Entries → Text → Option ℕ
number_at [] text = None
number_at (e ∷ es) text = cond (is_same_text text e.0) (Some e.1) (number_at es text)

-- what vectors with numbers hold, as entries
abbrev pub entries_of : {A : Type 0} → List (Vec ℕ A × ℕ) → Entries
entries_of es = map (λ e. (e.0.items, e.1)) es

-- a few texts with numbers, as entries
abbrev pub numbered : List Numbered → Entries
numbered ns = map (λ n. (n.text.items, n.number)) ns
