-- Totally ordered networks have one block for each node.
use Rattle.std.proofs.Common.{◌≡◌, ℕ, suc, ◌+◌, ◌-◌, ◌<◌, ◌≤◌, ◌&&◌, cond, eqb, ltb, inl, inr, List, [], ◌∷◌, ◌++◌, length, refl, sym, ap, ap₂, ◌∙◌, arith, lt-ltb, le-ltb}
use Rattle.std.proofs.lemmas.Bool.{cases_lt}
use Rattle.htn_model.specs.Problem.{Child, Order, is_before}
use Rattle.htn_model.specs.Machine.{no_network, origin, replaced, replaced_order}
use Rattle.htn_model.proofs.Splices.{table_within, table_square}
use Rattle.htn_order.specs.Shapes.{chain}
use Rattle.htn_calls.specs.Cuts.{split}
use Rattle.htn_calls.specs.Series.{series_before, series, opened}
use Rattle.htn_calls.specs.Split.{network_of}
use Rattle.htn_calls.proofs.Series.{before_first, before_across, before_back, before_second, same_tables}
use Rattle.htn_calls.proofs.Words.{series_square}
use Rattle.htn_calls.proofs.Blocks.{same_network, one_block}
use Rattle.htn_calls.proofs.Cuts.{cuts_split}
use Rattle.htn_calls.specs.Ordered.{ordered, lone, OrderedSplit, LoneReplaced}

-- two numbers compare as those before them do
same_test : (a b : ℕ) → 1 ≤ a → 1 ≤ b → ltb (a - 1) (b - 1) ≡ ltb a b
same_test a b some more = elim (cases_lt a b) [
  | inl low ↦ lt-ltb (a - 1) (b - 1) (omega arith) ∙ sym (lt-ltb a b low)
  | inr past ↦ le-ltb (a - 1) (b - 1) (omega arith) ∙ sym (le-ltb a b past)
]

-- a node before others in a row comes before each of them
front_before : (k a b : ℕ) → a < suc k → b < suc k → series_before 1 (chain 1) (chain k) a b ≡ ltb a b
front_before k a b h g = elim (cases_lt a 1) [
  | inl low ↦ elim (cases_lt b 1) [
    | inl near ↦ before_first 1 k (chain 1) (chain k) a b low near ∙ table_within 1 ltb a b low near
    | inr far ↦ before_across 1 k (chain 1) (chain k) a b low far ∙ sym (lt-ltb a b (omega arith))
  ]
  | inr up ↦ elim (cases_lt b 1) [
    | inl near ↦ before_back 1 k (chain 1) (chain k) a b up near ∙ sym (le-ltb a b (omega arith))
    | inr far ↦ before_second 1 k (chain 1) (chain k) a b up far ∙ table_within k ltb (a - 1) (b - 1) (omega arith) (omega arith) ∙ same_test a b up far
  ]
]

-- a totally ordered network is its first node and then the others in series
in_series : (node : Child) (nodes : List Child) → series (lone node) (ordered nodes) ≡ ordered (node ∷ nodes)
in_series node nodes =
    same_network (series (lone node) (ordered nodes)) (ordered (node ∷ nodes)) (series_square (lone node) (ordered nodes)) (table_square (suc (length nodes)) ltb) refl
    (same_tables (1 + length nodes) (suc (length nodes)) (series_before 1 (chain 1) (chain (length nodes))) ltb (omega arith)
    (λ a b h g. front_before (length nodes) a b (omega arith) (omega arith)))

-- a node alone is a block
lone_split : (node : Child) → split (lone node) ≡ lone node ∷ []
lone_split node = refl

-- the blocks of a totally ordered network are its nodes, each alone
pub ordered_split : OrderedSplit
ordered_split [] = refl
ordered_split (node ∷ nodes) =
    ap split (sym (in_series node nodes)) ∙ cuts_split.joined (lone node) (ordered nodes) ∙ ap₂ (λ a b. a ++ b) (lone_split node) (ordered_split nodes)

-- what comes in the place of a node alone stands at its place
origin_here : (m a : ℕ) → a < m → origin 0 m a ≡ 0
origin_here m a low =
    ap (λ t. cond t a (cond (ltb a (0 + m)) 0 (a + 1 - m))) (le-ltb a 0 (omega arith))
    ∙ ap (λ t. cond t 0 (a + 1 - m)) (lt-ltb a (0 + m) (omega arith))

-- and has the order that it had
replaced_here : (order : Order) (m : ℕ) (inner : Order) (a b : ℕ) → a < m → b < m → replaced_order order 0 m inner a b ≡ is_before inner a b
replaced_here order m inner a b h g =
    ap₂ (λ x y. cond (eqb x 0 && eqb y 0) (is_before inner (a - 0) (b - 0)) (is_before order x y)) (origin_here m a h) (origin_here m b g)
    ∙ ap₂ (is_before inner) (let e : a - 0 ≡ a = omega arith in e) (let e : b - 0 ≡ b = omega arith in e)

-- where one node alone is open, a network in its place is all that is open then
pub lone_replaced : LoneReplaced
lone_replaced before after node network square =
    let next = replaced (opened before (lone node)) 0 network after in
    let same : network_of next ≡ series network no_network =
    same_network (network_of next) (series network no_network) (table_square (length next.open_nodes) (replaced_order (chain 1) 0 (length network.children) network.order))
    (series_square network no_network) refl
    (same_tables (length (network.children ++ [])) (length network.children + 0) (replaced_order (chain 1) 0 (length network.children) network.order)
    (series_before (length network.children) network.order []) (long network.children)
    (λ a b h g. (let l = long network.children in
    replaced_here (chain 1) (length network.children) network.order a b (omega arith) (omega arith)
    ∙ sym (before_first (length network.children) 0 network.order [] a b (omega arith) (omega arith))))) in
    ap (opened after) (same ∙ one_block network square)
  where
    -- nothing more
    long : (xs : List Child) → length (xs ++ []) ≡ length xs + 0
    long [] = refl
    long (x ∷ xs) = let e = long xs in omega arith
