use Rattle.std.proofs.Common.{[], sym, subst}
use Rattle.hddl_warnings.specs.Known.{Knows}
use Rattle.hddl_meaning.specs.Mentions.{texts}
use Rattle.hddl_meaning.specs.declared.fault.Source.TheVariants as source
use Rattle.hddl_warnings.proofs.Knowing.{Knows-none}
use Rattle.hddl_warnings.proofs.Again.{ToldAgain}
use Rattle.hddl_warnings.proofs.Telling.{Tells-then}
use Rattle.hddl_warnings.proofs.objects.tell_both.Goals as goal

pub returns : goal.returns
returns c =
    let start = subst (λ es. Knows es []) (sym c.in_ok-known.ensures) Knows-none in
    let constants = c.args.constants.now in
    let objects = c.args.objects.now in
    Tells-then c.args.out.now.items c.tell_again.new.out.items c.tell_again-2.new.out.items (ToldAgain source.Domain [] constants)
    (ToldAgain source.Problem (texts constants) objects) (c.in_ok-tell_again.ensures.told [] start)
    (c.in_ok-tell_again-2.ensures.told (texts constants) (c.in_ok-tell_again.ensures.known [] start))
