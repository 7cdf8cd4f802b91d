use Rattle.std.proofs.Common.{◌≡◌, ◌+◌, ◌∷◌, [], ◌++◌, length, get_or, map, drop, false, eqb, eq-eqb, sym, ap, ◌∙◌, arith, rules}
use Rattle.std.proofs.lemmas.Grind.{common_steps}
use Rattle.std.proofs.lemmas.List.{map-append}
use Rattle.std.specs.List.{prefix_len}
use Rattle.hddl_words.specs.Words.{words_from, word_of, before, is_blank, is_comment_byte}
use Rattle.hddl_words.proofs.WordsLemmas.{words_from-comment, words_from-word, before-push, words_at_end, words_at_fault}
use Rattle.std.proofs.lemmas.Result.{err_from_is_err_and}
use Rattle.hddl_words.proofs.WordFaults.{words_of, words_free, word_fault_stands}
use Rattle.hddl_words.proofs.lexer.lex.Goals as goal

pub loop-place-preserved-then-text-place-eq59 : goal.loop-place-preserved-then-text-place-eq59
loop-place-preserved-then-text-place-eq59 c =
    let text = c.args.text.now in
    let place = c.loop-place.place in
    let other : is_blank (get_or text place 0) ≡ false = cc in
    let step = words_from-comment text place (omega arith) other (eq-eqb _ _ c.if-text-place-eq59.true) in
    let len : c.comment_len-place.result ≡ prefix_len is_comment_byte (drop place text) = first_of (grind (arith, common_steps), search rules) in
    ap (before (map word_of c.loop-place.tokens.items)) (sym (rw (← len) at step)) ∙ c.loop-place.invariant

pub loop-place-preserved : goal.loop-place-preserved
loop-place-preserved c =
    let text = c.args.text.now in
    let place = c.loop-place.place in
    let token = c.in_ok-token.token in
    let front = c.loop-place.tokens.items in
    let rest = words_from 0 (place + length token.text.now) (drop (place + length token.text.now) text) in
    let other : is_blank (get_or text place 0) ≡ false = cc in
    let no_comment : eqb (get_or text place 0) 59 ≡ false = grind (arith, common_steps) in
    let step = words_from-word text place (omega arith) (word_of token) other no_comment c.in_ok-token.ensures.word c.in_ok-token.ensures.within.0 in
    let pushed : c.push.new.self.items ≡ front ++ token ∷ [] = search rules in
    ap (λ items. before (map word_of items) rest) pushed ∙ ap (λ ws. before ws rest) (map-append word_of front (token ∷ [])) ∙ before-push (map word_of front) (word_of token) rest
    ∙ ap (before (map word_of front)) (sym step) ∙ c.loop-place.invariant

pub returns-clause-ok : goal.returns-clause-ok
returns-clause-ok c =
    let all = words_at_end c.args.text.now c.loop-place.place (map word_of c.loop-place.tokens.items) c.if-text-gt-MAX_BYTES.false c.loop-place.invariant c.loop-place-test.false in
    words_free c.args.text.now _ all

pub returns-clause-all : goal.returns-clause-all
returns-clause-all c =
    let all = words_at_end c.args.text.now c.loop-place.place (map word_of c.loop-place.tokens.items) c.if-text-gt-MAX_BYTES.false c.loop-place.invariant c.loop-place-test.false in
    words_of c.args.text.now _ all

pub returns-in_err-token : goal.returns-in_err-token
returns-in_err-token c =
    let text = c.args.text.now in
    let place = c.loop-place.place in
    let other : is_blank (get_or text place 0) ≡ false = cc in
    let no_comment : eqb (get_or text place 0) 59 ≡ false = grind (arith, common_steps) in
    let first = words_at_fault text place (map word_of c.loop-place.tokens.items) _ c.if-text-gt-MAX_BYTES.false c.loop-place.invariant c.loop-place-test.true other no_comment c.in_err-token.ensures.word in
    let stands = word_fault_stands text c.in_err-token.field-0.0 (λ some. first) in
    let p = err_from_is_err_and c.from_residual.result c.from_residual.ensures.1 in
    rw (p.1, p.2) record { words = λ some. first; all = tt; ok = tt; fault = stands.0; leftmost = stands.1 }
