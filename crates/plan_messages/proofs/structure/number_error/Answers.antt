use Rattle.std.proofs.Common.{◌∙◌, ap, subst, sym}
use Rattle.pair_messages.specs.Counts.{numbers_of}
use Rattle.plan_messages.specs.Places.{IsOnLineWith}
use Rattle.plan_messages.proofs.About.{placed_about}
use Rattle.plan_messages.proofs.structure.number_error.Goals as goal

pub returns : goal.returns
returns c lines is =
    let p = c.args.plan.now in
    let id = c.args.id in
    let on = placed_about p lines id c.shown_place.result c.word_or_whole-about.result (c.shown_place.ensures p lines id is) c.word_or_whole-about.ensures in
    record {
      error = record { severity = c.error-found.ensures.error.severity; code = c.error-found.ensures.error.code };
      about = subst (IsOnLineWith p lines id) (sym c.error-found.ensures.about) on;
      number = ap (λ m. numbers_of m.items) c.error-found.ensures.message ∙ c.in_ok-message.ensures;
    }
