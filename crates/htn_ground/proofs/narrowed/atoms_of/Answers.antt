use Rattle.std.proofs.Common.{List, drop, leb, length, ltb, rules, subst, sym, take, false, true, ◌-◌, ◌≡◌}
use Rattle.std.specs.List.{Contains}
use Rattle.std.specs.List.Sorted.{IsNonDecreasingBy, IsPartitionPoint}
use Rattle.std.proofs.lemmas.List.{take_rest}
use Rattle.std.proofs.lemmas.List.Sorted.{IsNonDecreasingBy-drop, IsPartitionPoint-from_clause, IsPartitionedBy-leb, IsPartitionedBy-ltb}
use Rattle.htn_model.specs.Atom.{Atom}
use Rattle.htn_ground.proofs.Marked.{of_predicate, rising}
use Rattle.htn_ground.proofs.narrowed.atoms_of.Goals as goal

pub returns : goal.returns
returns c a named has =
    let atoms = c.atoms-atoms.result.now in
    let first = c.partition_point-first.result in
    let count = c.partition_point-count.result in
    let p = c.args.predicate in
    let rest = take (length atoms - first) (drop first atoms) in
    let whole : rest ≡ drop first atoms = take_rest atoms first in
    let rises = rising atoms c.atoms-atoms.ensures.ascending in
    let starts = IsPartitionPoint-from_clause (λ (x : Atom). ltb x.predicate p) atoms first c.partition_point-first.ensures.partitioned
    (IsPartitionedBy-ltb (λ (x : Atom). x.predicate) atoms p rises) (λ x r q k. search rules) in
    let ends = IsPartitionPoint-from_clause (λ (x : Atom). leb x.predicate p) rest count c.partition_point-count.ensures.partitioned
    (IsPartitionedBy-leb (λ (x : Atom). x.predicate) rest p
    (subst (λ (l : List Atom). IsNonDecreasingBy (λ (x : Atom). x.predicate) l) (sym whole) (IsNonDecreasingBy-drop (λ (x : Atom). x.predicate) first atoms rises))) (λ x r q k. search rules) in
    subst (λ (l : List Atom). Contains (take count l) a) (sym whole)
    (of_predicate c.args.state.now atoms p first count c.atoms-atoms.ensures.value starts
    (subst (λ (l : List Atom). IsPartitionPoint (λ (x : Atom). leb x.predicate p ≡ true) (λ (x : Atom). leb x.predicate p ≡ false) l count) whole ends) a named has)
