use Rattle.std.proofs.Common.{◌∙◌, Bool, List, ℕ, ap, false, get_or}
use Rattle.std.specs.List.{filter}
use Rattle.hddl_names.specs.TypeNumbers.{numbered_pairs}
use Rattle.hddl_names.proofs.Ascending.{flagged-above}
use Rattle.hddl_names.proofs.members.flagged_above.Goals as goal

pub returns : goal.returns
returns c =
    let flags : List Bool = c.args.flags.now in
    flagged-above (numbered_pairs c.args.types.now) flags c.args.row.now c.in_ok-all.all.keys c.in_ok-found.found.items c.in_ok-all.ensures c.in_ok-found.ensures.different
    (c.in_ok-found.ensures.items ∙ ap (λ (l : List ℕ). filter (λ n. get_or flags n false) l) c.as_slice.ensures.keys)
