use Rattle.std.proofs.Common.{◌≡◌, IsTrue}
use Rattle.hddl_words.specs.Names.{is_variable}
use Rattle.hddl_words.specs.Words.{word_of}
use Rattle.hddl_words.proofs.Tokens.{variable_self}
use Rattle.hddl_words.proofs.variable.Variable.new.Goals as goal

pub invariant_of-result : goal.invariant_of-result
invariant_of-result c =
    let own : IsTrue (is_variable c.args.token.now.text.now) = variable_self (word_of c.args.token.now) c.args.token.now.is_word c.requires in
    let same : c.in_ok-text.text.items ≡ c.args.token.now.text.now = c.in_ok-text.ensures.ok in
    rw same own
