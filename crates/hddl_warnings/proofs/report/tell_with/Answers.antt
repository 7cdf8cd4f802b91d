use Rattle.std.proofs.Common.{sym, subst, option_map}
use Rattle.std.specs.Prelude.{IsSomeAnd}
use Rattle.hddl_warnings.specs.Tells.{Tells}
use Rattle.hddl_warnings.specs.Warnings.{IsWarningOfPair}
use Rattle.hddl_warnings.proofs.report.tell_with.Goals as goal

pub returns : goal.returns
returns c =
    subst (λ o. Tells c.args.out.now.items c.tell_pair.new.out.items (λ w. IsSomeAnd (option_map (λ p. p.now) o) (λ p. IsWarningOfPair c.args.domain.now p w)))
    (sym c.in-Some.is) c.in_ok-tell_pair.ensures
