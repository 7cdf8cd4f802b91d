use Rattle.std.proofs.Common.{◌≡◌, subst, ap, sym, ◌∙◌}
use Rattle.hddl_warnings.specs.Tells.{IsUnlisted, Tells}
use Rattle.hddl_warnings.specs.Used.{term_texts}
use Rattle.hddl_meaning.specs.Mentions.{mentions_of, typed_variables}
use Rattle.hddl_warnings.specs.declared.warning.WarningKind.TheVariants as kind
use Rattle.hddl_warnings.proofs.Unlisted.{unlisted_unused}
use Rattle.hddl_warnings.proofs.parameters.tell_parameters.Goals as goal

pub returns : goal.returns
returns c = λ s is same.
    let es = c.in_ok-known.known in
    let old = c.args.out.now.items in
    let new = c.tell_unlisted.new.out.items in
    let declared_is : c.deref.result.now ≡ mentions_of (typed_variables c.args.parameters.now) = c.deref.ensures.value ∙ c.in_ok-declared.ensures in
    unlisted_unused old new kind.UnusedParameter (mentions_of (typed_variables s.parameters)) es (term_texts s) (c.in_ok-known.ensures s is)
    (subst (λ ms. Tells old new (IsUnlisted kind.UnusedParameter ms es)) (declared_is ∙ ap (λ gs. mentions_of (typed_variables gs)) (sym same)) c.in_ok-tell_unlisted.ensures)
