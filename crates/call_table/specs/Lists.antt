-- Lists of blocks that share their ends.
use Rattle.std.specs.Prelude.{◌≡◌, ℕ, ◌+◌, ◌<◌, ◌≤◌, ◌++◌, List, [], ◌∷◌, fold, length, get_or, refl}
use Rattle.std.specs.Coded.{Coded, code_by, coded×, coded_ℕ, coded_list}
use Rattle.call_table.specs.declared.lists.Link.{Link}

-- the nodes of each block, and lists of blocks, both by number
pub record Lists : Type 0 where
  pub counts : List ℕ
  pub lists : List (List ℕ)

-- lists of blocks as values: their parts in turn
abbrev pub lists_code : Coded Lists
lists_code = code_by (List ℕ × List (List ℕ)) (coded× (coded_list coded_ℕ) (coded_list (coded_list coded_ℕ))) (λ l. (l.counts, l.lists))
    (λ p. record { counts = p.0; lists = p.1 }) (λ _. refl)

-- the list of a number, empty where there is none
abbrev pub list_at : Lists → ℕ → List ℕ
list_at l number = get_or l.lists number []

-- the lists that links stand for: the empty list, and then for each link a block before one of the lists before it
abbrev pub lists_of : List Link → List (List ℕ)
lists_of links = fold (λ lists link. lists ++ (link.first ∷ get_or lists link.rest []) ∷ []) ([] ∷ []) links

-- the number of nodes of a block, 0 where no block has this number, and of several blocks together
abbrev pub count_of : List ℕ → ℕ → ℕ
count_of counts block = get_or counts block 0

abbrev pub nodes_of : List ℕ → List ℕ → ℕ
nodes_of counts [] = 0
nodes_of counts (block ∷ blocks) = count_of counts block + nodes_of counts blocks

-- a link stands for a list: its block, and then the blocks of a list before it; the list has at least the link's number
-- of nodes
pub record IsLink (counts : List ℕ) (lists : List (List ℕ)) (number : ℕ) (link : Link) : Type 0 where
  pub rest : link.rest < number
  pub is : get_or lists number [] ≡ link.first ∷ get_or lists link.rest []
  pub nodes : link.nodes ≤ nodes_of counts (get_or lists number [])

-- each link stands for the list of its number
abbrev pub AreLinked : List ℕ → List Link → Type 0
AreLinked counts links = (k : ℕ) (d : Link) → k < length links → IsLink counts (lists_of links) (k + 1) (get_or links k d)
