-- Names that stand twice in the end of a list.
use Rattle.std.proofs.Common.{◌∙◌, ◌∷◌, ◌++◌, List, ap, append_assoc, sym, ℕ}
use Rattle.hddl_meaning.specs.Mentions.{Mention}
use Rattle.hddl_scope.specs.Repeats.{IsRepeat}

-- two of one text in a list stand in a longer one too
pub repeat_after : (first second : List Mention) (place : ℕ) → IsRepeat second place → IsRepeat (first ++ second) place
repeat_after first second place (before, a, middle, b, after, is, same, at) = (
  first ++ before,
  a,
  middle,
  b,
  after,
  ap (λ l. first ++ l) is ∙ sym (append_assoc first (before ++ a ∷ middle) (b ∷ after))
      ∙ ap (λ l. l ++ b ∷ after) (sym (append_assoc first before (a ∷ middle))),
  same,
  at,
)
