use Rattle.std.proofs.Common.{◌≡◌, ◌-◌, ◌<◌, ◌≤◌, suc, List, length, map, arith, subst}
use Rattle.std.proofs.lemmas.List.{length-map}
use Rattle.hddl_words.specs.Words.{Word, word_of}
use Rattle.text_messages.specs.Notes.{HasTwins}
use Rattle.text_messages.proofs.Leading.{leads_past}
use Rattle.text_messages.proofs.Twins.{back_to, none_open, none_past}
use Rattle.text_messages.proofs.words.first_twin.Goals as goal

pub loop-index-init : goal.loop-index-init
loop-index-init c =
    let ws : List Word = map word_of c.args.words.now in
    let same : length c.args.words.now ≤ length c.args.words.now = omega arith in
    let within : length ws ≤ length c.args.words.now = rw length-map same in
    record { below = same; leads = leads_past ws (length c.args.words.now) within; twins = none_past ws c.args.text.now (length c.args.words.now) within }

pub returns-in_default-open_before : goal.returns-in_default-open_before
returns-in_default-open_before c =
    none_open (map word_of c.args.words.now) c.args.text.now c.loop-index.index (word_of c.in-Some.word.now) c.loop-index.depth c.loop-index.found c.loop-index-test.true
    c.in-Some.ensures c.in_default-open_before.ensures.0 c.in_default-open_before.ensures.1 c.loop-index.invariant.leads c.loop-index.invariant.twins

pub loop-index-preserved : goal.loop-index-preserved
loop-index-preserved c =
    let ws : List Word = map word_of c.args.words.now in
    let index = c.loop-index.index in
    let inv = c.loop-index.invariant in
    let lt : 0 < index = c.loop-index-test.true in
    let e : index ≡ suc (index - 1) = omega (arith, lt) in
    let leads = back_to ws c.args.text.now index (word_of c.in-Some.word.now) c.in-Some-open_before.before c.loop-index.depth lt c.in-Some.ensures c.in-Some-open_before.ensures inv.leads in
    record {
      below = (let b = inv.below in omega (arith, b));
      leads = leads;
      twins = c.twin_with-found.ensures leads (subst (λ i. HasTwins ws c.args.text.now i c.loop-index.found) e inv.twins);
    }
