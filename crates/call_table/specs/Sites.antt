-- The equality and the hash of sites.
use Rattle.std.specs.Prelude.{◌≡◌, Bool, ◌++◌, nat_eq}
use Rattle.std.specs.Bool.{Decides}
use Rattle.std.specs.Cmp.{IsEquivalence, IsPartialEquivalence, partial_equiv_from_equiv, unsigned_Decides, decided, first_so, second_so}
use Rattle.std.specs.Ordering.{on, eq_of_both}
use Rattle.std.specs.Hash as fed
use Rattle.std.specs.Hash.{HashWrites, Alike, same_Alike}
use Rattle.std.proofs.Common.{ap}
use Rattle.htn_model.specs.AtomOrder.{both_true}
use Rattle.call_table.specs.declared.site.Site.{Site}

-- two sites are equal if their states and their numbers are
abbrev pub site_eq : Site → Site → Bool
site_eq = eq_of_both (on (λ q. q.state) nat_eq) (on (λ q. q.number) nat_eq)

-- the test is true exactly of equal ones
pub site_eq-decides : (p q : Site) → Decides (site_eq p q) (p ≡ q)
site_eq-decides p q =
    let states = unsigned_Decides p.state q.state in
    let numbers = unsigned_Decides p.number q.number in (
      λ e. let state = states.0 (first_so _ _ e) in let number = numbers.0 (second_so _ _ e) in λ i. record { state = state i; number = number i },
      λ e. both_true _ _ (states.1 (ap (λ (x : Site). x.state) e)) (numbers.1 (ap (λ (x : Site). x.number) e)),
    )

-- the test has the laws of an equality
pub site_eq-laws : IsEquivalence site_eq
site_eq-laws = decided site_eq site_eq-decides

-- the test has the laws of a partial equality
pub site_eq-partial : IsPartialEquivalence site_eq
site_eq-partial = partial_equiv_from_equiv site_eq-laws

-- the writes by which a site feeds a hasher
abbrev pub site_hash : Site → HashWrites
site_hash q = fed.u32 q.state ++ fed.u32 q.number

-- equal sites feed a hasher alike
pub site_hash-Alike : Alike site_eq site_hash
site_hash-Alike = same_Alike site_hash site_eq-decides
