use Rattle.std.proofs.Common.{◌∙◌, ◌&&◌, Bool, ℕ, ap, ap₂, sym}
use Rattle.std.proofs.lemmas.List.{take_all}
use Rattle.std.proofs.lemmas.List.Folds.{list_all_more}
use Rattle.state_table.specs.Compiled.{is_met}
use Rattle.heuristics.specs.ListedNeeds.{all_pass, want_at}
use Rattle.heuristics.specs.declared.wants.Want.{Want}
use Rattle.heuristics.proofs.want_table.compiled_of.Goals as goal

pub loop-id-preserved : goal.loop-id-preserved
loop-id-preserved c = λ words.
    let i = c.loop-id.id-index in
    let ids = c.args.ids.now in
    let passes : ℕ → Bool = λ id. is_met words (want_at c.args.wants.now id).literal in
    c.in_ok-push.ensures words
    ∙ ap₂ (λ a b. a && b) (c.loop-id.invariant words) (ap (λ (w : Want). is_met words w.literal) c.want_at.ensures)
    ∙ sym (list_all_more passes ids i 0 c.loop-id-test.true)

pub returns : goal.returns
returns c = λ words.
    c.drop_repeats.ensures words
    ∙ c.loop-id.invariant words
    ∙ ap (all_pass (λ (w : Want). is_met words w.literal) c.args.wants.now) (take_all c.loop-id.id-index c.args.ids.now c.loop-id-test.false)
