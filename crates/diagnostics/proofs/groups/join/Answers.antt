use Rattle.std.proofs.Common.{◌≡◌, ◌<◌, ◌≤◌, [], ◌∷◌, ◌++◌, length, map, refl, sym, ap, ◌∙◌, arith}
use Rattle.std.proofs.lemmas.List.{length-map, map_push}
use Rattle.std.proofs.lemmas.Option.{get_or_from_slice_get, slice_get_read}
use Rattle.diagnostics.specs.Groups.{members_of, first_saying, joined, picked}
use Rattle.diagnostics.specs.Written.{saying}
use Rattle.diagnostics.proofs.Joins.{joined_below, joined_end, joins_by_keys, as_many_keys, keys_stay, keys_grow, sayings_stay, members_set, members_push}
use Rattle.diagnostics.proofs.groups.join.Goals as goal

pub returns-then-at-len-clause-said : goal.returns-then-at-len-clause-said
returns-then-at-len-clause-said c =
    let ds = c.args.diagnostics.now in
    let keys = c.args.said.now.keys in
    let gs = members_of ds c.args.groups.now.items in
    let e = c.index-diagnostics-index.result in
    let is = slice_get_read ds (length ds) c.args.index e refl c.requires.inside c.index-diagnostics-index.is in
    let at = joins_by_keys keys c.in_ok-key.key gs e c.in_ok-at.at c.requires.same c.in_ok-key.ensures c.in_ok-at.ensures.index in
    let below : c.in_ok-at.at < length gs = omega (arith, length-map c.args.groups.now.items (λ g. picked ds g.items), c.if-at-len.true, c.len.ensures, c.args.groups.now.ok) in
    let stay = keys_stay keys c.in_ok-key.key c.in_ok-at.at c.in_ok-at.ensures.index (omega (arith, below, as_many_keys keys gs c.requires.same)) in
    let set = members_set ds c.args.index e is c.args.groups.now.items c.in_ok-at.at c.index_mut.result.now c.push.new.self (omega (arith, c.if-at-len.true, c.len.ensures, c.args.groups.now.ok)) c.index_mut.ensures.value c.in_ok-push.ensures.items in
    ap (map (λ v. v.items)) (c.in_ok-at.ensures.keys ∙ stay) ∙ c.requires.same ∙ sym (ap (map (first_saying saying)) set ∙ sayings_stay e gs c.in_ok-at.at at below)

pub returns-then-at-len-clause-joined : goal.returns-then-at-len-clause-joined
returns-then-at-len-clause-joined c d isd =
    let ds = c.args.diagnostics.now in
    let keys = c.args.said.now.keys in
    let gs = members_of ds c.args.groups.now.items in
    let e = c.index-diagnostics-index.result in
    let is = slice_get_read ds (length ds) c.args.index e refl c.requires.inside c.index-diagnostics-index.is in
    let at = joins_by_keys keys c.in_ok-key.key gs e c.in_ok-at.at c.requires.same c.in_ok-key.ensures c.in_ok-at.ensures.index in
    let below : c.in_ok-at.at < length gs = omega (arith, length-map c.args.groups.now.items (λ g. picked ds g.items), c.if-at-len.true, c.len.ensures, c.args.groups.now.ok) in
    let set = members_set ds c.args.index e is c.args.groups.now.items c.in_ok-at.at c.index_mut.result.now c.push.new.self (omega (arith, c.if-at-len.true, c.len.ensures, c.args.groups.now.ok)) c.index_mut.ensures.value c.in_ok-push.ensures.items in
    let same : e ≡ d = c.index-diagnostics-index.is ∙ get_or_from_slice_get ds c.args.index d e isd in
    set ∙ sym (joined_below e gs c.in_ok-at.at at below) ∙ ap (λ x. joined saying x gs) same

pub returns-clause-said : goal.returns-clause-said
returns-clause-said c =
    let ds = c.args.diagnostics.now in
    let keys = c.args.said.now.keys in
    let groups = c.args.groups.now.items in
    let gs = members_of ds groups in
    let e = c.index-diagnostics-index.result in
    let is = slice_get_read ds (length ds) c.args.index e refl c.requires.inside c.index-diagnostics-index.is in
    let over : length gs ≤ c.in_ok-at.at = omega (arith, length-map groups (λ g. picked ds g.items), c.if-at-len.false, c.len.ensures, c.args.groups.now.ok) in
    let grow = keys_grow keys c.in_ok-key.key c.in_ok-at.at c.in_ok-at.ensures.index (omega (arith, over, as_many_keys keys gs c.requires.same)) in
    let own : c.push-2.new.self.items ≡ c.args.index ∷ [] = c.in_ok-push-2.ensures.items ∙ ap (λ l. l ++ c.args.index ∷ []) c.new-group.ensures.items in
    let pushed = ap (members_of ds) c.in_ok-push-3.ensures.items ∙ members_push ds c.args.index e is groups c.push-2.new.self own in
    ap (map (λ v. v.items)) (c.in_ok-at.ensures.keys ∙ grow) ∙ map_push (λ v. v.items) keys c.in_ok-key.key ∙ ap (λ l. l ++ c.in_ok-key.key.items ∷ []) c.requires.same
    ∙ ap (λ t. map (first_saying saying) gs ++ t ∷ []) c.in_ok-key.ensures
    ∙ sym (ap (map (first_saying saying)) pushed ∙ map_push (first_saying saying) gs (e ∷ []))

pub returns-clause-joined : goal.returns-clause-joined
returns-clause-joined c d isd =
    let ds = c.args.diagnostics.now in
    let keys = c.args.said.now.keys in
    let groups = c.args.groups.now.items in
    let gs = members_of ds groups in
    let e = c.index-diagnostics-index.result in
    let is = slice_get_read ds (length ds) c.args.index e refl c.requires.inside c.index-diagnostics-index.is in
    let at = joins_by_keys keys c.in_ok-key.key gs e c.in_ok-at.at c.requires.same c.in_ok-key.ensures c.in_ok-at.ensures.index in
    let over : length gs ≤ c.in_ok-at.at = omega (arith, length-map groups (λ g. picked ds g.items), c.if-at-len.false, c.len.ensures, c.args.groups.now.ok) in
    let own : c.push-2.new.self.items ≡ c.args.index ∷ [] = c.in_ok-push-2.ensures.items ∙ ap (λ l. l ++ c.args.index ∷ []) c.new-group.ensures.items in
    let pushed = ap (members_of ds) c.in_ok-push-3.ensures.items ∙ members_push ds c.args.index e is groups c.push-2.new.self own in
    let same : e ≡ d = c.index-diagnostics-index.is ∙ get_or_from_slice_get ds c.args.index d e isd in
    pushed ∙ sym (joined_end e gs c.in_ok-at.at at over) ∙ ap (λ x. joined saying x gs) same
