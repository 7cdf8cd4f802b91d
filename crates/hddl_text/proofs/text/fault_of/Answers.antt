use Rattle.std.proofs.Common.{◌≡◌, ◌-◌, min, length, map, drop, refl, sym, ap, ◌∙◌}
use Rattle.std.proofs.lemmas.List.{length-map}
use Rattle.hddl_words.specs.Words.{word_of}
use Rattle.hddl_text.specs.Spelling.{fault_of, refusal_at}
use Rattle.hddl_text.proofs.Laws.{rest_at}
use Rattle.hddl_text.proofs.text.fault_of.Goals as goal

pub returns-in-len1-up : goal.returns-in-len1-up
returns-in-len1-up c =
    let words = c.args.words.now in
    let ws = map word_of words in
    let from = length words - c.min.result in
    let left = c.in-Refused.left in
    let same : length ws ≡ length words = length-map words word_of in
    let n : length ws - min left (length ws) ≡ from = rw (same, c.min.ensures) refl in
    let rest = rw (← c.word-item.is) at (rest_at words from c.word-item.result c.in-len1-up.len_at_least) in
    let here = ap (λ k. drop k ws) n ∙ rest in
    c.refusal_of.ensures ∙ sym (ap (fault_of c.args.len ws) c.in-Refused.is ∙ ap (refusal_at c.args.len c.in-Refused.unsupported) here)
