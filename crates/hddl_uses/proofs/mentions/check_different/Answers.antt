use Rattle.std.proofs.Common.{◌∙◌, List, ℕ, ap, map}
use Rattle.std.specs.List.{fold}
use Rattle.hddl_scope.specs.Findings.{keep}
use Rattle.hddl_uses.specs.Contexts.{duplicate_at}
use Rattle.hddl_uses.proofs.Duplicates.{repeats_added}
use Rattle.hddl_uses.proofs.mentions.check_different.Goals as goal

pub returns : goal.returns
returns c =
    repeats_added c.args.context.now.source c.args.mentions.now c.in_ok-places.places.items c.in_ok-places.ensures
    (c.in_ok-push_repeats.ensures ∙ ap (λ (l : List ℕ). fold keep c.args.found.now (map (duplicate_at c.args.context.now.source) l)) c.deref.ensures.value)
