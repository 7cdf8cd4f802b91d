use Rattle.std.proofs.Common.{◌<◌, ◌∙◌, sym, ap, length, subst}
use Rattle.std.specs.List.{All}
use Rattle.hddl_words.specs.declared.domain.DomainText.{DomainText}
use Rattle.hddl_meaning.specs.Names.{type_names}
use Rattle.hddl_names.specs.Rows.{AreRows}
use Rattle.hddl_names.specs.TypeNumbers.{numbered_pairs}
use Rattle.hddl_names.proofs.hierarchy.TypeHierarchy.all_above.Goals as goal

pub all_reached-requires : goal.all_reached-requires
all_reached-requires c =
    subst (λ n. All (λ t. t < n) c.args.starts.now) (sym (c.self.invariant.types.up_count ∙ ap length c.self.invariant.types.all ∙ ap (λ (d : DomainText). length (type_names d)) c.self.view_is)) c.requires

pub returns : goal.returns
returns c = c.in_ok-found.ensures (numbered_pairs c.args.self.now) (subst (λ (d : DomainText). AreRows (numbered_pairs d) c.self.inside.parents) c.self.view_is c.self.invariant.types.parents)
