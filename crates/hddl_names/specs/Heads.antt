-- Heads: of numbers that lead to one another one, so that cycles are gone where heads stand for numbers.
use Rattle.std.specs.Prelude.{◌≡◌, ◌<◌, ◌↔◌, ◌⊎◌, ℕ, Bool, not, nat_eq, Option, IfSome, List, map, length, get_or}
use Rattle.std.specs.List.{filter}
use Rattle.hddl_words.specs.declared.domain.DomainText.{DomainText}
use Rattle.hddl_meaning.specs.Mentions.{Text}
use Rattle.hddl_names.specs.Closures.{Closure, LeadsTo, Meet}
use Rattle.hddl_names.specs.Reach.{Reaches}
use Rattle.hddl_names.specs.TypeNumbers.{AreTypesOf, numbered_pairs}

-- the head that is stored for a number: the number itself where none is
abbrev pub head_at : List ℕ → ℕ → ℕ
head_at heads number = get_or heads number number

-- each number and its head lead to one another
pub record AreHeads (pairs : List (ℕ × ℕ)) (count : ℕ) (heads : List ℕ) : Type 0 where
  pub small : (a : ℕ) → a < count → head_at heads a < count
  pub up : (a : ℕ) → Reaches pairs a (head_at heads a)
  pub down : (a : ℕ) → Reaches pairs (head_at heads a) a

-- whether both numbers of a pair have the same rank
abbrev pub is_level : List ℕ → ℕ × ℕ → Bool
is_level ranks p = nat_eq (get_or ranks p.0 0) (get_or ranks p.1 0)

-- the heads of both numbers of a pair
abbrev pub head_pair : List ℕ → ℕ × ℕ → ℕ × ℕ
head_pair heads p = (head_at heads p.0, head_at heads p.1)

-- whether the two numbers of a pair differ
abbrev pub differs : ℕ × ℕ → Bool
differs p = not (nat_eq p.0 p.1)

-- the pairs of heads that differ
abbrev pub head_pairs : List ℕ → List (ℕ × ℕ) → List (ℕ × ℕ)
head_pairs heads pairs = filter differs (map (head_pair heads) pairs)

-- heads, and the closure of the pairs of heads
pub record Condensed : Type 0 where
  pub heads : List ℕ
  pub closure : Closure

-- a leads to b, where all lead to 0: the head of b is 0, or that of a leads to it
abbrev pub HeadLeads : Condensed → ℕ → ℕ → Type 0
HeadLeads c a b = (head_at c.heads b ≡ 0) ⊎ LeadsTo c.closure (head_at c.heads a) (head_at c.heads b)

-- something leads to both, where all lead to 0
abbrev pub HeadsMeet : Condensed → ℕ → ℕ → Type 0
HeadsMeet c a b = (head_at c.heads a ≡ 0) ⊎ (head_at c.heads b ≡ 0) ⊎ Meet c.closure (head_at c.heads a) (head_at c.heads b)

-- heads and their closure decide which number leads to which along the pairs, and whether some number leads to both of
-- two
pub record TellsAll (pairs : List (ℕ × ℕ)) (count : ℕ) (c : Condensed) : Type 0 where
  pub leads : (a b : ℕ) → a < count → b < count → HeadLeads c a b ↔ Reaches pairs a b
  pub meet : (a b : ℕ) → a < count → b < count → HeadsMeet c a b ↔ ((s : ℕ) × (s < count) × Reaches pairs s a × Reaches pairs s b)

-- the names of a domain's types with their parents and children; and the heads with a closure, if there are some,
-- decide the same
pub record AreHierarchyOf (d : DomainText) (names : List Text) (up down : List (List ℕ)) (closure : Option Condensed) : Type 0 where
  pub types : AreTypesOf d names up down
  pub told : IfSome closure (TellsAll (numbered_pairs d) (length names))
