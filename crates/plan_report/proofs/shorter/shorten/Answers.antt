use Rattle.std.proofs.Common.{◌≡◌, ℕ, zero, suc, ◌-◌, List, [], ◌∷◌, length, take, subst, sym, inl, inr}
use Rattle.htn_model.specs.PlanFile.{IsIn, IsWithoutRepeats}
use Rattle.plan_causes.specs.Reasons.{AreOnce}
use Rattle.plan_report.proofs.shorter.shorten.Goals as goal

-- what is among the first is there
among : {X : Type 0} (n : ℕ) (x : X) (xs : List X) → IsIn x (take n xs) → IsIn x xs
among zero x xs is = absurd is
among (suc n) x [] is = is
among (suc n) x (y ∷ ys) (inl same) = inl same
among (suc n) x (y ∷ ys) (inr later) = inr (among n x ys later)

-- the first of different ones are different
repeats_take : {X : Type 0} (n : ℕ) (xs : List X) → IsWithoutRepeats xs → IsWithoutRepeats (take n xs)
repeats_take zero xs once = tt
repeats_take (suc n) [] once = tt
repeats_take (suc n) (x ∷ xs) once = (λ is. once.0 (among n x xs is), repeats_take n xs once.1)

-- so are they where a list has just these
once_in : (n : ℕ) (old new : List ℕ) → new ≡ take n old → IsWithoutRepeats old → IsWithoutRepeats new
once_in n old new is once = subst IsWithoutRepeats (sym is) (repeats_take n old once)

pub returns-in-Structure-clause-once : goal.returns-in-Structure-clause-once
returns-in-Structure-clause-once c = λ once.
    let e = c.cut_ids.ensures in
    let ids = c.in-Structure.ids in
    let each = subst AreOnce c.in-Structure.is once in (
      once_in _ ids.defined_twice.items c.cut_ids.new.ids.defined_twice.items e.defined_twice each.0,
      once_in _ ids.listed_twice.items c.cut_ids.new.ids.listed_twice.items e.listed_twice each.1,
      once_in _ ids.undefined.items c.cut_ids.new.ids.undefined.items e.undefined each.2,
      once_in _ ids.unlisted.items c.cut_ids.new.ids.unlisted.items e.unlisted each.3,
    )
