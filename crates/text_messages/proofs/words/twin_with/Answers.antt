use Rattle.std.proofs.Common.{◌∙◌, map, sym}
use Rattle.hddl_words.specs.Words.{word_of}
use Rattle.text_messages.proofs.Twins.{step_other, step_out, step_same}
use Rattle.text_messages.proofs.words.twin_with.Goals as goal

pub returns-then-depth-gt0 : goal.returns-then-depth-gt0
returns-then-depth-gt0 c = λ leads later.
    step_out (map word_of c.args.words.now) c.args.text.now c.args.index c.args.depth c.args.found c.if-depth-gt0.true leads later

pub returns-then-is_same : goal.returns-then-is_same
returns-then-is_same c = λ leads later.
    step_same (map word_of c.args.words.now) c.args.text.now c.args.index c.args.depth (word_of c.args.word.now) c.if-depth-gt0.false c.requires
    (sym c.is_same.ensures ∙ c.if-is_same.true) leads

pub returns : goal.returns
returns c = λ leads later.
    step_other (map word_of c.args.words.now) c.args.text.now c.args.index (word_of c.args.word.now) c.args.found c.requires
    (sym c.is_same.ensures ∙ c.if-is_same.false) later
