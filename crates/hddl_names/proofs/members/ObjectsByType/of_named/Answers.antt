use Rattle.std.proofs.Common.{◌≡◌, ◌∙◌, ◌<◌, ℕ, Bool, List, ap, false, get_or, length, nat_eq, subst, sym}
use Rattle.std.specs.List.{list_any}
use Rattle.hddl_meaning.specs.Building.{Vocabulary}
use Rattle.hddl_meaning.specs.Names.{type_names, object_names}
use Rattle.hddl_names.proofs.Typed.{filled-named}
use Rattle.hddl_names.proofs.members.ObjectsByType.of_named.Goals as goal

pub returns : goal.returns
returns c =
    let d = c.args.types.now in
    let p = c.args.problem.now in
    let objects : c.len-objects.result ≡ length (object_names d p) = c.len-objects.ensures.value ∙ ap length (c.objects.ensures ∙ ap (λ (v : Vocabulary). v.objects) c.requires.vocabulary) in
    let types : c.len-count.result ≡ length (type_names d) = c.len-count.ensures.value ∙ ap length (c.types.ensures ∙ ap (λ (v : Vocabulary). v.types) c.requires.vocabulary) in
    filled-named d p c.in_ok-declared.declared c.in_ok-all.all c.deref.result.now c.args.named.now c.len-count.result c.len-objects.result c.in_ok-declared.ensures
    (subst (λ (l : List Bool). (k : ℕ) → k < c.len-count.result → get_or l k false ≡ list_any (nat_eq k) c.args.named.now) (sym c.deref.ensures.value) c.in_ok-flags.ensures)
    types objects c.in_ok-all.ensures
