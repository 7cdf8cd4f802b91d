-- What the machine's bound from below is by its tables.
use Rattle.std.proofs.Common.{◌≡◌, ◌∙◌, ◌<◌, ◌≤◌, ℕ, Bool, true, false, not, cond, length, max, sym, ap, ap₂, subst, arith}
use Rattle.htn_model.specs.Task.{Task}
use Rattle.heuristics.specs.StoredNeeds.{AreKept}
use Rattle.heuristics.specs.ListedNeeds.{AreNoted}
use Rattle.heuristics.proofs.StoredNeeds.{keeps_later}
use Rattle.heuristics.proofs.NotedNeeds.{noted_later}
use Rattle.heuristics.specs.Prospects.{outlook_by}
use Rattle.heuristics.specs.declared.prospects.Prospects.{Prospects}
use Rattle.network_table.specs.Networks.{IsWhole, Knows}
use Rattle.heuristics.specs.Sizes.{out_of_reach}
use Rattle.heuristics.specs.declared.tree_sizes.TreeSizes.{TreeSizes}
use Rattle.task_machine.specs.Owned.{AreOwned}
use Rattle.task_machine.specs.Tables.{AreLater}
use Rattle.task_machine.specs.declared.tables.Tables.{Tables}

-- the bound where a configuration may end
pub bound_ending : (least bound : ℕ) (ends told : Bool) → least ≡ bound → ends ≡ told → ends ≡ true → least ≡ max bound (cond (not told) out_of_reach 0)
bound_ending least bound ends told same tells ending =
    let none : cond (not told) out_of_reach 0 ≡ 0 = ap (λ b. cond (not b) out_of_reach 0) (sym tells ∙ ending) in
    omega (arith, same, none)

-- and where it never does
pub bound_lost : (least bound : ℕ) (ends told : Bool) → least ≡ bound → ends ≡ told → ends ≡ false → max least out_of_reach ≡ max bound (cond (not told) out_of_reach 0)
bound_lost least bound ends told same tells lost = ap₂ max same (sym (ap (λ b. cond (not b) out_of_reach 0) (sym tells ∙ lost)))

-- it is kept of each network what it needs
pub is_needed : (t : Task) (sizes : TreeSizes) (known : Prospects) (tables : Tables) → AreOwned t sizes known tables → (n : ℕ) → Knows tables.networks n → n < length tables.needs.needs.items
is_needed t sizes known tables own n low = subst (λ k. n < k) (sym own.needed.all) low

-- what is kept stays right in later tables
pub kept_still : (known : Prospects) (old new : Tables) → AreLater old new → new.needs ≡ old.needs → IsWhole old.networks → AreKept (outlook_by known) old.atoms old.networks old.needs
    → AreKept (outlook_by known) new.atoms new.networks new.needs
kept_still known old new later same whole kept =
    subst (AreKept (outlook_by known) new.atoms new.networks) (sym same)
    (keeps_later (outlook_by known) old.needs.goal old.atoms new.atoms old.networks new.networks old.needs.needs.items later.atoms whole later.networks kept)

-- and so does what is found once for nodes and the goal
pub noted_still : (known : Prospects) (old new : Tables) → AreLater old new → new.needs ≡ old.needs → IsWhole old.networks → length old.needs.needs.items ≤ length old.networks.networks
    → AreNoted known old.atoms old.networks old.needs → AreNoted known new.atoms new.networks new.needs
noted_still known old new later same whole within noted =
    subst (AreNoted known new.atoms new.networks) (sym same) (noted_later known old.atoms new.atoms old.networks new.networks old.needs later.atoms whole later.networks within noted)
