use Rattle.std.proofs.Common.{◌≡◌, ◌++◌, ◌∷◌, [], ap, subst, ◌∙◌}
use Rattle.hddl_warnings.specs.Tells.{IsUnlisted, Tells}
use Rattle.hddl_warnings.specs.Used.{name_texts, used_types}
use Rattle.hddl_meaning.specs.Mentions.{mentions_of, typed_names}
use Rattle.hddl_meaning.specs.Names.{object}
use Rattle.hddl_warnings.specs.declared.warning.WarningKind.TheVariants as kind
use Rattle.hddl_warnings.proofs.Unlisted.{unlisted_unused}
use Rattle.hddl_warnings.proofs.types.tell_types.Goals as goal

pub returns : goal.returns
returns c =
    let d = c.args.domain.now in
    let p = c.args.problem.now in
    let es = c.in_ok-known.known in
    let old = c.args.out.now.items in
    let new = c.tell_unlisted.new.out.items in
    let declared_is : c.deref.result.now ≡ mentions_of (typed_names d.types) =
    c.deref.ensures.value ∙ c.in_ok-declared.ensures ∙ ap (λ gs. mentions_of (typed_names gs)) c.as_slice.ensures in
    unlisted_unused old new kind.UnusedType (mentions_of (typed_names d.types)) es (name_texts (used_types d p) ++ object ∷ []) c.in_ok-known.ensures
    (subst (λ ms. Tells old new (IsUnlisted kind.UnusedType ms es)) declared_is c.in_ok-tell_unlisted.ensures)
