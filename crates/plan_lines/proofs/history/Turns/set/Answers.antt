use Rattle.std.proofs.Common.{◌≡◌, ◌<◌, ap, ap₂, sym, subst, ◌∙◌, arith, length, get_or, ltb, map, set, []}
use Rattle.std.specs.List.{position_or_len}
use Rattle.std.proofs.lemmas.List.{length-map, map-set}
use Rattle.htn_model.specs.Atom.{atom_eq}
use Rattle.htn_model.specs.State.{atoms_of, contains}
use Rattle.plan_lines.specs.Turns.{History, IsTurnedOver, is_turned, turns_of}
use Rattle.plan_lines.proofs.Setting.{IsTouched, stays, turns_over}
use Rattle.plan_lines.proofs.Touched.{items_at}
use Rattle.plan_lines.proofs.Truths.{beq_same, beq_other, not_false, not_true}
use Rattle.plan_lines.proofs.history.Turns.set.Goals as goal

pub returns-in_ok-turn_over : goal.returns-in_ok-turn_over
returns-in_ok-turn_over c =
    let old = c.args.self.now in
    let mid = c.touch.new.self in
    let a = c.args.atom.now in
    let place = c.in_ok-place.place in
    let is_place = c.in_ok-place.ensures.place in
    let touched : IsTouched old mid a = record {
      history = c.in_ok-place.ensures.history;
      initial = c.in_ok-place.ensures.initial;
      last = c.in_ok-place.ensures.last;
      same = c.in_ok-place.ensures.same;
      within = subst (λ n. n < length mid.turns) is_place c.in_ok-place.ensures.within;
    } in
    let lists = ap (λ (h : History). h.turns) c.self.view_is in
    let many = ap length lists in
    let same = length-map c.self.inside.turns.items (λ v. v.items) in
    let within = c.in_ok-place.ensures.within in
    let low : place < length c.self.inside.turns.items = omega arith in
    let its : c.index.result.now.items ≡ turns_of mid a =
    items_at c.self.inside.turns.items place c.index.result.now low c.index.ensures ∙ ap₂ (λ ls n. get_or ls n []) lists is_place in
    let its_own : c.index_mut.result.now.items ≡ turns_of mid a =
    items_at c.self.inside.turns.items place c.index_mut.result.now low c.index_mut.ensures.value ∙ ap₂ (λ ls n. get_or ls n []) lists is_place in
    let now : c.is_turned.result ≡ is_turned (contains mid.initial a) (length (turns_of mid a)) =
    c.is_turned.ensures
    ∙ ap₂ is_turned (c.is_first-first.ensures ∙ ap (λ n. ltb n (length (atoms_of mid.initial))) is_place ∙ sym (c.in_ok-place.ensures.history.first a)) (c.len.ensures ∙ c.index.result.now.ok.0 ∙ ap length its) in
    let turns = c.turn_over.new.turns.items in
    let over : IsTurnedOver (turns_of mid a) turns mid.last =
    subst (IsTurnedOver (turns_of mid a) turns) (ap (λ (h : History). h.last) c.self.view_is) (subst (λ ts. IsTurnedOver ts turns c.self.inside.last) its_own c.in_ok-turn_over.ensures) in
    let new : History = record {
      initial = c.self.inside.initial.now;
      last = c.self.inside.last;
      atoms = c.self.inside.atoms.keys;
      turns = map (λ v. v.items) (set c.self.inside.turns.items place c.turn_over.new.turns);
    } in
    let are : new.turns ≡ set mid.turns (position_or_len (atom_eq a) mid.atoms) turns =
    map-set (λ v. v.items) c.self.inside.turns.items place c.turn_over.new.turns ∙ ap₂ (λ ls n. set ls n turns) lists is_place in
    let both = turns_over old mid a c.args.value touched new turns (ap (λ (h : History). h.initial) c.self.view_is) (ap (λ (h : History). h.last) c.self.view_is)
    (ap (λ (h : History). h.atoms) c.self.view_is) are over (λ so. beq_other c.is_turned.result c.args.value (not_true _ c.if-is_turned-value.true) (now ∙ so)) in
    record { history = both.0; turned = both.1 }

pub returns-else-is_turned-value-clause-turned : goal.returns-else-is_turned-value-clause-turned
returns-else-is_turned-value-clause-turned c =
    let old = c.args.self.now in
    let mid = c.touch.new.self in
    let a = c.args.atom.now in
    let place = c.in_ok-place.place in
    let is_place = c.in_ok-place.ensures.place in
    let touched : IsTouched old mid a = record {
      history = c.in_ok-place.ensures.history;
      initial = c.in_ok-place.ensures.initial;
      last = c.in_ok-place.ensures.last;
      same = c.in_ok-place.ensures.same;
      within = subst (λ n. n < length mid.turns) is_place c.in_ok-place.ensures.within;
    } in
    let lists = ap (λ (h : History). h.turns) c.self.view_is in
    let many = ap length lists in
    let same = length-map c.self.inside.turns.items (λ v. v.items) in
    let within = c.in_ok-place.ensures.within in
    let low : place < length c.self.inside.turns.items = omega arith in
    let its : c.index.result.now.items ≡ turns_of mid a =
    items_at c.self.inside.turns.items place c.index.result.now low c.index.ensures ∙ ap₂ (λ ls n. get_or ls n []) lists is_place in
    let now : c.is_turned.result ≡ is_turned (contains mid.initial a) (length (turns_of mid a)) =
    c.is_turned.ensures
    ∙ ap₂ is_turned (c.is_first-first.ensures ∙ ap (λ n. ltb n (length (atoms_of mid.initial))) is_place ∙ sym (c.in_ok-place.ensures.history.first a)) (c.len.ensures ∙ c.index.result.now.ok.0 ∙ ap length its) in
    stays old mid a c.args.value touched (sym now ∙ beq_same c.is_turned.result c.args.value (not_false _ c.if-is_turned-value.false))
