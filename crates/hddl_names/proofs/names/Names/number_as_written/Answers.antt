use Rattle.std.proofs.Common.{◌≡◌, ◌∙◌, ap, sym}
use Rattle.std.specs.List.{position}
use Rattle.hddl_meaning.specs.Mentions.{folded}
use Rattle.hddl_meaning.specs.Names.{is_same_text}
use Rattle.hddl_names.proofs.Lowercase.{in_lower_case}
use Rattle.hddl_names.proofs.names.Names.number_as_written.Goals as goal

pub returns-then-not-has_capital : goal.returns-then-not-has_capital
returns-then-not-has_capital c =
    let same : c.args.bytes.now ≡ folded c.args.bytes.now = sym (in_lower_case c.args.bytes.now (sym c.has_capital.ensures ∙ c.if-not-has_capital.true)) in
    c.number_of.ensures ∙ ap (λ text. position (is_same_text text) c.args.self.now) same
