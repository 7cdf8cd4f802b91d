use Rattle.std.proofs.Common.{◌∙◌, ◌∷◌, ◌++◌, ap, subst, sym, take}
use Rattle.diagnostics.specs.Offers.{named}
use Rattle.plan_messages.specs.Explanation.{named_in, texts_of}
use Rattle.plan_messages.specs.Places.{IsOnLineOf}
use Rattle.plan_messages.proofs.Names.{all_named}
use Rattle.plan_messages.proofs.run_errors.action_error.Goals as goal

pub returns : goal.returns
returns c =
    let p = c.args.texts.now.plan in
    let failed = c.args.failed.now in
    let ls = failed.literals.items in
    let said = c.in_ok-say_literals.ensures in
    let on = subst (λ o. IsOnLineOf p o c.words_or_whole-about.result) c.action_place.ensures c.words_or_whole-about.ensures in
    record {
      error = record { severity = c.error-found.ensures.error.severity; code = c.error-found.ensures.error.code };
      about = subst (IsOnLineOf p _) (sym c.error-found.ensures.about) on;
      before = said.0;
      others = said.1;
      remarks = said.2;
      names = ap (λ m. named m.items ++ named_in said.1) c.error-found.ensures.message ∙ ap (λ l. l ++ named_in said.1) c.in_ok-message.ensures
          ∙ ap (λ l. failed.text.items ∷ texts_of (take 1 ls) ++ l) said.3 ∙ ap (λ l. failed.text.items ∷ l) (all_named ls);
    }
