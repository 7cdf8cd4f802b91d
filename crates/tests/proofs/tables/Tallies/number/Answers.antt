use Rattle.std.proofs.Common.{rules, ◌≡◌, Bool, List, sym, arith, inl, inr}
use Rattle.std.specs.List.{IsDistinct}
use Rattle.std.proofs.lemmas.Bool.{cases_lt}
use Rattle.std.specs.Bool.{Decides}
use Rattle.std.proofs.lemmas.Map.Made.{AllPairs-from_IsDistinct}
use Rattle.tests.specs.declared.tallies.Tally.{Tally}
use Rattle.tests.specs.Tallies.{AreDistinct, nothing}
use Rattle.tests.proofs.tables.Tallies.number.Goals as goal

-- keys that differ are distinct tallies
distinct_of : {eq : Tally → Tally → Bool} (keys : List Tally) → IsDistinct eq keys → ((a b : Tally) → Decides (eq a b) (a ≡ b)) → AreDistinct keys
distinct_of keys distinct same i j here there alike =
    let apart = AllPairs-from_IsDistinct same keys distinct in
    elim (cases_lt i j) [
      | inl less ↦ absurd (apart i j nothing less there alike)
      | inr no_less ↦ elim (cases_lt j i) [
        | inl more ↦ absurd (apart j i nothing more here (sym alike))
        | inr no_more ↦ omega arith
      ]
    ]

pub returns-clause-distinct : goal.returns-clause-distinct
returns-clause-distinct c = distinct_of c.insert_full.new.self.keys c.insert_full.ensures.unique (λ a b. (search rules, search rules))
