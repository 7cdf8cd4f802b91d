use Rattle.std.proofs.Common.{◌≡◌, ◌∙◌, Some, ap, arith, length, slice_get, subst, sym}
use Rattle.std.specs.Option.{option_copied}
use Rattle.htn_model.specs.Atom.{Atom}
use Rattle.plan_lines.specs.EverTrue.{IsListed}
use Rattle.plan_lines.specs.declared.ever_true.Lists.{Lists}
use Rattle.plan_lines.proofs.Listing.{ever_placed, placed_in}
use Rattle.plan_lines.proofs.Seeded.{place_in}
use Rattle.plan_lines.proofs.Slotted.{each_more}
use Rattle.htn_model.specs.PlanFile.{IsIn}
use Rattle.plan_lines.proofs.ever_true.lists_of.Goals as goal
use Rattle.plan_lines.proofs.ever_true.lists_of.Goals.{then-is_ever_true+in_ok-add_all, else-is_ever_true}

pub loop-place-preserved : goal.loop-place-preserved
loop-place-preserved c =
    let h = c.args.turns.now in
    let keys = c.atoms-atoms.result.now.keys in
    let n = c.loop-place.place in
    let x = c.unwrap-atom.result.now in
    let inv = c.loop-place.invariant in
    let here : slice_get keys n ≡ Some x = sym c.get_index.ensures.key ∙ ap option_copied c.unwrap-atom.ensures in
    elim c.if-is_ever_true.branch [
      | then-is_ever_true+in_ok-add_all w ↦
          let added = w.in_ok-add_all.ensures in
          record {
            as_many = ap (λ (l : Lists). length l.atoms.items) w.lists-is ∙ added.0.as_many ∙ sym (ap (λ (l : Lists). length l.slots.keys) w.lists-is);
            each = λ k a below at ever. subst (λ (l : Lists). IsListed l a) (sym w.lists-is)
                (each_more h keys n x (IsListed w.add_all.new.self) here (λ j b low is e slot has. added.0.kept slot b (inv.each j b low is e slot has)) (λ e. added.1) k a below at ever);
          }
      | else-is_ever_true w ↦ record {
        as_many = ap (λ (l : Lists). length l.atoms.items) w.lists-is ∙ inv.as_many ∙ sym (ap (λ (l : Lists). length l.slots.keys) w.lists-is);
        each = λ k a below at ever. subst (λ (l : Lists). IsListed l a) (sym w.lists-is)
            (each_more h keys n x (IsListed c.loop-place.lists) here inv.each (λ e. let clash = c.is_ever_true.ensures.1 e in let is = w.if-is_ever_true.false in absurd cc) k a below at ever);
      }
    ]

pub returns : goal.returns
returns c =
    let h = c.args.turns.now in
    let inv = c.loop-place.invariant in
    let keys = c.atoms-atoms.result.now.keys in
    record {
      history = c.requires;
      as_many = inv.as_many;
      each = λ a ever.
          let m = placed_in a keys (subst (IsIn a) (sym c.atoms-atoms.ensures) (place_in a h.atoms (ever_placed h a c.requires ever))) in
          inv.each m.0 a (let below = m.1 in let end = c.len-place-end.ensures.len in omega (arith, below, end, c.loop-place-test.false)) m.2 ever;
    }
