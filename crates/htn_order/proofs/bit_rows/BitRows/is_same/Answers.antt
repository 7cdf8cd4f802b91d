use Rattle.std.proofs.Common.{◌∙◌, ap₂, sym}
use Rattle.std.specs.Cmp.{unsigned_Decides}
use Rattle.std.proofs.lemmas.Bool.{eq-eqb, eqb-true}
use Rattle.std.proofs.lemmas.Slice.Eq.{slice_eq-Decides}
use Rattle.htn_order.specs.BitRows.{rows_of}
use Rattle.htn_order.proofs.Packed.{same_words}
use Rattle.htn_order.proofs.bit_rows.BitRows.is_same.Goals as goal

pub returns-then-self-other : goal.returns-then-self-other
returns-then-self-other c =
    let decides = slice_eq-Decides unsigned_Decides c.self.inside.words.items c.other.inside.words.items c.eq.result c.eq.ensures in (
      λ t. sym c.self.view_is ∙ ap₂ rows_of c.if-self-other.true (decides.0 t) ∙ c.other.view_is,
      λ e. decides.1 (same_words c.self.inside.size c.other.inside.size c.self.inside.words.items c.other.inside.words.items c.self.invariant c.other.invariant (c.self.view_is ∙ e ∙ sym c.other.view_is)).1,
    )

pub returns-else-self-other : goal.returns-else-self-other
returns-else-self-other c = (
  λ t. absurd (c.if-self-other.false (eqb-true c.self.inside.size c.other.inside.size t)),
  λ e. eq-eqb c.self.inside.size c.other.inside.size (same_words c.self.inside.size c.other.inside.size c.self.inside.words.items c.other.inside.words.items c.self.invariant c.other.invariant (c.self.view_is ∙ e ∙ sym c.other.view_is)).0,
)
