use Rattle.std.proofs.Common.{◌∙◌, sym}
use Rattle.hddl_names.proofs.Lowercase.{in_lower_case}
use Rattle.hddl_names.proofs.text.fold.Goals as goal

pub returns-then-not-has_capital : goal.returns-then-not-has_capital
returns-then-not-has_capital c = sym (in_lower_case c.args.bytes.now (sym c.has_capital.ensures ∙ c.if-not-has_capital.true))
