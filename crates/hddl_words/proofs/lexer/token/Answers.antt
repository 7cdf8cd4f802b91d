use Rattle.std.proofs.Common.{◌≡◌, ◌+◌, ◌-◌, drop, arith}
use Rattle.hddl_words.proofs.Tokens.{word_self}
use Rattle.hddl_words.proofs.lexer.token.Goals as goal

pub invariant_of-result-clause-is_word : goal.invariant_of-result-clause-is_word
invariant_of-result-clause-is_word c =
    let len : c.args.place + c.args.len - c.args.place ≡ c.args.len = omega arith in
    rw len (word_self c.args.place (drop c.args.place c.args.text.now) _ c.requires.is_word)
