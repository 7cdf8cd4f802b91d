use Rattle.std.proofs.Common.{◌≡◌, ◌∙◌, ◌++◌, ◌∷◌, [], ap, cond, length, not, option_and_then, option_map, slice_get, subst, sym}
use Rattle.std.specs.List.{position}
use Rattle.std.proofs.lemmas.List.{map-append}
use Rattle.hddl_meaning.specs.Mentions.{Text}
use Rattle.hddl_scope.specs.Numbers.{number_at}
use Rattle.hddl_scope.specs.Repeats.{repeat_of}
use Rattle.hddl_scope.specs.InForce.{IsScope, variables_of}
use Rattle.hddl_scope.specs.Scopes.{has_text}
use Rattle.hddl_scope.specs.declared.in_force.Entry.{Entry}
use Rattle.hddl_scope.proofs.InForce.{place_in, scope_more}
use Rattle.hddl_scope.proofs.Positions.{found_by_position, next_number}
use Rattle.hddl_scope.proofs.in_force.Scope.push.Goals as goal

pub invariant_of-self-2 : goal.invariant_of-self-2
invariant_of-self-2 c =
    let entries = c.self.inside.entries.items in
    let known = c.self.inside.positions in
    let after = c.number_text.new.positions in
    let v = c.args.variable in
    let text = v.typed.mention.text in
    let next = c.least-self-inside.result in
    let e : Entry = record { variable = v; texts = c.len-texts.result; repeat = c.self.inside.repeat } in
    let items : c.push_entry.new.entries.items ≡ entries ++ e ∷ [] =
    subst (λ b. c.push_entry.new.entries.items ≡ cond b (entries ++ e ∷ []) entries) (c.is_err.ensures.negation ∙ ap not c.if-is_err.false) c.push_entry.ensures in
    let long : c.len-position.result ≡ length entries = c.len-position.ensures ∙ c.self.inside.entries.ok.0 in
    let step : (t : Text) → number_at after t ≡ next_number known text (length entries) t = λ t.
    c.in_ok-number_text.ensures.numbers t ∙ (λ i. next_number known (c.text-2.ensures i) (long i) t) in
    let first : c.get-first.result ≡ position (has_text text) (variables_of entries) =
    c.get-first.ensures ∙ ap (number_at known) c.text.ensures ∙ c.self.invariant.whole.positions text in
    let place : option_map (λ v. v.typed.mention.place) (option_and_then (slice_get c.args.self.now) c.get-first.result) ≡ place_in (variables_of entries) text =
    (λ i. option_map (λ v. v.typed.mention.place) (option_and_then (slice_get (sym c.self.view_is i)) (first i)))
    ∙ ap (option_map (λ v. v.typed.mention.place)) (found_by_position (has_text text) (variables_of entries)) in
    let is : c.later-here.result ≡ repeat_of (place_in (variables_of entries) text) v.typed.mention.place =
    c.later-here.ensures ∙ (λ i. repeat_of ((c.place_at.ensures ∙ place) i) (c.place.ensures i)) in
    subst (λ l. IsScope l after next) (sym items)
    (scope_more entries e known after c.self.inside.repeat c.later-here.result next c.len-texts.ensures (λ _. c.self.inside.repeat) step c.in_ok-number_text.ensures.kept is
    c.least-self-inside.ensures c.self.invariant)

pub returns : goal.returns
returns c =
    let entries = c.self.inside.entries.items in
    let v = c.args.variable in
    let e : Entry = record { variable = v; texts = c.len-texts.result; repeat = c.self.inside.repeat } in
    let items : c.push_entry.new.entries.items ≡ entries ++ e ∷ [] =
    subst (λ b. c.push_entry.new.entries.items ≡ cond b (entries ++ e ∷ []) entries) (c.is_err.ensures.negation ∙ ap not c.if-is_err.false) c.push_entry.ensures in
    record {
      ok = ap variables_of items ∙ map-append (λ (e : Entry). e.variable) entries (e ∷ []) ∙ ap (λ l. l ++ v ∷ []) c.self.view_is;
      err = tt;
    }
