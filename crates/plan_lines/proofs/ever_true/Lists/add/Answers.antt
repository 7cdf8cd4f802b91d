use Rattle.std.proofs.Common.{◌≡◌, ◌∙◌, ◌<◌, ◌++◌, ◌∷◌, Bor, Global, List, Vec, [], ap, arith, get_or, length, map, not, set, sym}
use Rattle.std.specs.List.{position_or_len}
use Rattle.std.proofs.lemmas.List.{length-map, map-append, map-set}
use Rattle.htn_model.specs.Atom.{Atom}
use Rattle.htn_task.specs.declared.atom.Atom as declared
use Rattle.plan_lines.specs.EverTrue.{slot_eq}
use Rattle.plan_lines.specs.declared.ever_true.Lists.{Lists}
use Rattle.plan_lines.proofs.Slotted.{IsPut, put_new, put_old, viewed_at}
use Rattle.plan_lines.proofs.Truths.{not_false, not_true}
use Rattle.plan_lines.proofs.ever_true.Lists.add.Goals as goal
use Rattle.plan_lines.proofs.ever_true.Lists.add.Goals.{then-is_new+in_ok-push, else-is_new}

abbrev at : Bor declared.Atom → Atom
at r = r.now

abbrev view : Vec (Bor declared.Atom) Global → List Atom
view v = map at v.items

pub returns : goal.returns
returns c =
    let slots = c.args.self.now.slots.keys in
    let keys = c.if-is_new.self.slots.keys in
    let lists = map view c.args.self.now.atoms.items in
    let mid = map view c.if-is_new.self.atoms.items in
    let place = c.in_ok-place.place in
    let a = c.args.atom.now in
    let done = map view (set c.if-is_new.self.atoms.items place c.push-2.new.self) in
    let many : length lists ≡ length slots = length-map c.args.self.now.atoms.items view ∙ c.requires in
    let within = c.in_ok-place.ensures.within in
    let is : place < length mid → done ≡ set mid place (get_or mid place [] ++ a ∷ []) = λ low.
    let long = length-map c.if-is_new.self.atoms.items view in
    map-set view c.if-is_new.self.atoms.items place c.push-2.new.self
    ∙ ap (λ (l : List (Bor declared.Atom)). set mid place (map at l)) c.in_ok-push-2.ensures.items
    ∙ ap (set mid place) (map-append at c.index_mut.result.now.items (c.args.atom ∷ []))
    ∙ ap (λ (l : List Atom). set mid place (l ++ a ∷ [])) (viewed_at view c.if-is_new.self.atoms.items place c.index_mut.result.now (omega (arith, low, long)) c.index_mut.ensures.value) in
    let put : IsPut slots keys lists done c.args.slot a =
    elim c.if-is_new.branch [
      | then-is_new+in_ok-push w ↦
          let same = ap (λ (l : Lists). l.slots.keys) w.self-is in
          let mids : mid ≡ lists ++ [] ∷ [] =
          ap (λ (l : Lists). map view l.atoms.items) w.self-is ∙ ap (map view) w.in_ok-push.ensures.items
          ∙ map-append view c.args.self.now.atoms.items (w.new.result ∷ []) ∙ ap (λ (l : List (Bor declared.Atom)). lists ++ map at l ∷ []) w.new.ensures.items in
          let alike = ap length same in
          put_new slots keys lists mid done c.args.slot a place many (same ∙ c.in_ok-place.ensures.keys) (not_true _ (sym c.in_ok-place.ensures.added ∙ w.if-is_new.true)) mids
          c.in_ok-place.ensures.index (omega (arith, within, alike)) is
      | else-is_new w ↦
          let same = ap (λ (l : Lists). l.slots.keys) w.self-is in
          let mids : mid ≡ lists = ap (λ (l : Lists). map view l.atoms.items) w.self-is in
          let alike = ap length same in
          put_old slots keys lists mid done c.args.slot a place many (same ∙ c.in_ok-place.ensures.keys) (not_false _ (sym c.in_ok-place.ensures.added ∙ w.if-is_new.false)) mids
          c.in_ok-place.ensures.index (omega (arith, within, alike)) is
    ] in (
      record { as_many = sym (length-map (set c.if-is_new.self.atoms.items place c.push-2.new.self) view) ∙ put.as_many; kept = put.kept },
      put.there,
    )
