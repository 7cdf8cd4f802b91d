use Rattle.std.proofs.Common.{◌≡◌, ℕ, Bool, true, false, ◌<◌, ◌^◌, ◌-◌, refl, sym, subst, arith}
use Rattle.std.specs.Prelude.{IfOk}
use Rattle.std.proofs.lemmas.Result.{IfOk-weaker}
use Rattle.word_machine.specs.Answer.{IsEnding, NoneFinishesBefore}
use Rattle.word_machine.specs.declared.found.Ending.TheVariants.{GivenUp}
use Rattle.htn_walk.specs.Listed.{listing_machine}
use Rattle.task_machine.specs.Tables.{AreTables}
use Rattle.htn_search.proofs.solve.search_stage.Goals as goal

-- a search that is given up past its limit is given up past the stage's
less : (is_cut : Bool) (most_kept kept : ℕ) → (is_cut ≡ true → most_kept ≡ kept) → (is_cut ≡ false → most_kept ≡ 2 ^ 64 - 1)
    → most_kept < 2 ^ 64 - 1 → kept < 2 ^ 64 - 1
less true most_kept kept cut whole l = omega (arith, cut refl)
less false most_kept kept cut whole l = omega (arith, whole refl)

pub search_machine-requires-clause-known : goal.search_machine-requires-clause-known
search_machine-requires-clause-known g c = λ _ _.
    subst (λ t. NoneFinishesBefore (listing_machine t) c.args.known) (sym c.in_ok-machine.ensures) c.requires.known

pub search_machine-requires-clause-hears : goal.search_machine-requires-clause-hears
search_machine-requires-clause-hears g c = λ _ _.
    λ n none. c.requires.hears n (subst (λ t. NoneFinishesBefore (listing_machine t) n) c.in_ok-machine.ensures none)

pub returns-clause-ending : goal.returns-clause-ending
returns-clause-ending g c =
    subst (λ t. IfOk c.search_machine.result (λ s. IsEnding (listing_machine t) c.args.bounds.nodes s.ending)) c.in_ok-machine.ensures c.search_machine.ensures.ending

pub returns-clause-tables : goal.returns-clause-tables
returns-clause-tables g c =
    subst (λ t. IfOk c.search_machine.result (λ s. AreTables t s.tables)) c.in_ok-machine.ensures c.search_machine.ensures.tables

pub returns-clause-given_up : goal.returns-clause-given_up
returns-clause-given_up g c =
    let limit = c.effort_of.result.most_kept in
    IfOk-weaker c.search_machine.result (λ s. (n : ℕ) → s.ending ≡ GivenUp n → limit < 2 ^ 64 - 1) (λ s. (n : ℕ) → s.ending ≡ GivenUp n → c.args.stage.kept < 2 ^ 64 - 1)
    (λ s h n is. less c.is_cut-is_cut.result limit c.args.stage.kept c.effort_of.ensures.cut c.effort_of.ensures.whole (h n is))
    c.search_machine.ensures.given_up
