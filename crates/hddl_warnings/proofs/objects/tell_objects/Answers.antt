use Rattle.std.proofs.Common.{◌⊎◌, [], ap, subst, ◌∙◌}
use Rattle.hddl_warnings.specs.Tells.{Tells}
use Rattle.hddl_meaning.specs.Mentions.{mentions_of, texts, typed_names}
use Rattle.hddl_meaning.specs.declared.fault.Source.TheVariants as source
use Rattle.hddl_warnings.proofs.Again.{ToldAgain}
use Rattle.hddl_warnings.proofs.objects.tell_objects.Goals as goal

pub returns : goal.returns
returns c =
    let old = c.args.out.now.items in
    let new = c.tell_both.new.out.items in
    let constants = c.deref.ensures.value ∙ c.in_ok-constants.ensures ∙ ap (λ gs. mentions_of (typed_names gs)) c.as_slice.ensures in
    let objects = c.deref-2.ensures.value ∙ c.in_ok-objects.ensures ∙ ap (λ gs. mentions_of (typed_names gs)) c.as_slice-2.ensures in
    subst (λ ms. Tells old new (λ w. ToldAgain source.Domain [] ms w ⊎ ToldAgain source.Problem (texts ms) (mentions_of (typed_names c.args.problem.now.objects)) w)) constants
    (subst (λ ms. Tells old new (λ w. ToldAgain source.Domain [] c.deref.result.now w ⊎ ToldAgain source.Problem (texts c.deref.result.now) ms w)) objects c.in_ok-tell_both.ensures)
