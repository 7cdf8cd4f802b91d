use Rattle.std.proofs.Common.{refl}
use Rattle.diagnostics.specs.Near.{names_of}
use Rattle.diagnostics.proofs.Asking.{question_of}
use Rattle.diagnostics.proofs.questions.did_you_mean.Goals as goal

pub returns : goal.returns
returns c =
    question_of _ _ _ _ _ (names_of c.args.names.now) c.in_ok-parts.ensures.items refl c.in_ok-push_names.ensures.begin c.in_ok-push_names.ensures.names c.in_ok-push.ensures.items
