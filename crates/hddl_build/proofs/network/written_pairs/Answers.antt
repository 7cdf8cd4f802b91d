use Rattle.std.proofs.Common.{◌≡◌, ◌++◌, ◌∙◌, List, ℕ, Option, ap, ap₂, rules}
use Rattle.std.specs.List.{flat_map, position}
use Rattle.hddl_words.specs.declared.network.NetworkText.{NetworkText}
use Rattle.hddl_words.specs.declared.network.OrderingText.{OrderingText}
use Rattle.hddl_words.specs.declared.network.SubtaskText.{SubtaskText}
use Rattle.hddl_meaning.specs.Mentions.{folded}
use Rattle.hddl_meaning.specs.Networks.{is_text, labelled, pair_of}
use Rattle.hddl_build.proofs.Steps.{flat_step, flat_end}
use Rattle.hddl_build.proofs.network.written_pairs.Goals as goal

-- the pair that an ordering gives
pair_at : NetworkText → OrderingText → List (ℕ × ℕ)
pair_at n o = pair_of (labelled n o.before) (labelled n o.after)

pub loop-ordering-preserved : goal.loop-ordering-preserved
unfolding pair_at
loop-ordering-preserved c =
    let n = c.args.network.now in
    let o = c.ordering-item.result in
    let before : c.in_ok-before.before ≡ labelled n o.before =
    c.in_ok-before.ensures ∙ c.in_ok-labels.ensures (folded o.before.text)
    ∙ ap (λ (l : List SubtaskText). position (λ (s : SubtaskText). is_text (folded o.before.text) s.label) l) c.as_slice.ensures in
    let after : c.in_ok-after.after ≡ labelled n o.after =
    c.in_ok-after.ensures ∙ c.in_ok-labels.ensures (folded o.after.text)
    ∙ ap (λ (l : List SubtaskText). position (λ (s : SubtaskText). is_text (folded o.after.text) s.label) l) c.as_slice.ensures in
    flat_step (pair_at n) c.new-pairs.result.items c.loop-ordering.pairs.items c.push_pair.new.pairs.items c.as_slice-ordering-items.result.now
    c.loop-ordering.ordering-index o (search rules) c.ordering-item.is c.loop-ordering.invariant
    (c.in_ok-push_pair.ensures ∙ ap₂ (λ (a b : Option ℕ). c.loop-ordering.pairs.items ++ pair_of a b) before after)

pub returns : goal.returns
unfolding pair_at
returns c =
    flat_end (pair_at c.args.network.now) c.new-pairs.result.items c.loop-ordering.pairs.items c.as_slice-ordering-items.result.now
    c.loop-ordering.ordering-index c.loop-ordering-test.false c.loop-ordering.invariant
    ∙ ap₂ (λ (old : List (ℕ × ℕ)) (l : List OrderingText). old ++ flat_map (pair_at c.args.network.now) l) c.new-pairs.ensures.items c.as_slice-ordering-items.ensures
