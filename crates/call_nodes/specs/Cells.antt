-- When two cells are equal, and what they feed a hasher.
use Rattle.std.specs.Prelude.{◌≡◌, Bool, ◌++◌, nat_eq}
use Rattle.std.specs.Bool.{Decides}
use Rattle.std.specs.Cmp.{IsEquivalence, IsPartialEquivalence, partial_equiv_from_equiv, unsigned_Decides, decided, first_so, second_so}
use Rattle.std.specs.Ordering.{on, eq_of_both}
use Rattle.std.specs.Hash as fed
use Rattle.std.specs.Hash.{HashWrites, Alike, same_Alike}
use Rattle.std.proofs.Common.{ap}
use Rattle.htn_model.specs.AtomOrder.{both_true}
use Rattle.call_nodes.specs.declared.cell.Cell.{Cell}

-- equal first nodes and equal lists behind
abbrev pub cell_eq : Cell → Cell → Bool
cell_eq = eq_of_both (on (λ q. q.first) nat_eq) (on (λ q. q.rest) nat_eq)

-- the test is true exactly of equal ones
pub cell_eq-decides : (p q : Cell) → Decides (cell_eq p q) (p ≡ q)
cell_eq-decides p q =
    let firsts = unsigned_Decides p.first q.first in
    let rests = unsigned_Decides p.rest q.rest in (
      λ e. let first = firsts.0 (first_so _ _ e) in let rest = rests.0 (second_so _ _ e) in λ i. record { first = first i; rest = rest i },
      λ e. both_true _ _ (firsts.1 (ap (λ (x : Cell). x.first) e)) (rests.1 (ap (λ (x : Cell). x.rest) e)),
    )

-- it has the laws of an equality
pub cell_eq-laws : IsEquivalence cell_eq
cell_eq-laws = decided cell_eq cell_eq-decides

-- and of a partial one
pub cell_eq-partial : IsPartialEquivalence cell_eq
cell_eq-partial = partial_equiv_from_equiv cell_eq-laws

-- what a cell feeds a hasher
abbrev pub cell_hash : Cell → HashWrites
cell_hash q = fed.u32 q.first ++ fed.u32 q.rest

-- equal ones feed it alike
pub cell_hash-Alike : Alike cell_eq cell_hash
cell_hash-Alike = same_Alike cell_hash cell_eq-decides
