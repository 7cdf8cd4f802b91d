use Rattle.std.proofs.Common.{◌≤◌, List, length, map, subst}
use Rattle.std.proofs.lemmas.List.{length-map, take_all}
use Rattle.hddl_words.specs.Faults.{Leads}
use Rattle.hddl_words.specs.Words.{Word, word_of}
use Rattle.text_messages.proofs.Leading.{leads_next, word_here}
use Rattle.text_messages.proofs.words.open_after.Goals as goal

pub loop-word-preserved : goal.loop-word-preserved
loop-word-preserved c =
    let k = c.loop-word.word-index in
    leads_next (map word_of c.args.words.now) k (word_of c.word-item.result) c.loop-word.depth _ (word_here c.args.words.now k c.word-item.result c.loop-word-test.true c.word-item.is)
    c.loop-word.invariant c.in_ok-depth.ensures

pub returns : goal.returns
returns c =
    let ws : List Word = map word_of c.args.words.now in
    let within : length ws ≤ c.loop-word.word-index = rw length-map c.loop-word-test.false in
    subst (λ l. Leads 0 l c.loop-word.depth) (take_all c.loop-word.word-index ws within) c.loop-word.invariant
