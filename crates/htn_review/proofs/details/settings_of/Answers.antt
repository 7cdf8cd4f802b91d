use Rattle.std.proofs.Common.{ℕ, ◌∙◌, ◌++◌, ◌<◌, [], ◌∷◌, ap, arith, length, map, sym}
use Rattle.std.specs.declared.alloc.Global.{Global}
use Rattle.std.specs.declared.vec.Vec.{Vec}
use Rattle.std.proofs.lemmas.List.{length-map, map-append}
use Rattle.hddl_names.proofs.Vectors.{list_any-map}
use Rattle.htn_ground.specs.Naming.{object_name}
use Rattle.htn_task.specs.Views.{term_of, terms_of}
use Rattle.plan_findings.proofs.Falses.{get_map}
use Rattle.plan_text.specs.Forest.{lists_of}
use Rattle.htn_review.specs.Details.{is_parameter, seen_setting}
use Rattle.htn_review.proofs.Detailed.{one_hidden, one_shown}
use Rattle.htn_review.proofs.details.settings_of.Goals as goal

pub loop-place-preserved-then-is_among : goal.loop-place-preserved-then-is_among
loop-place-preserved-then-is_among c =
    let names = c.args.names.now in
    let i = c.loop-place.place in
    let name = c.index-names-place.result in
    let size = length-map names (λ (v : Vec ℕ Global). v.items) in
    let test = c.loop-place-test.true in
    let low : i < length (lists_of names) = omega arith in
    one_shown c.args.task.now (terms_of c.args.arguments.now) c.args.values.now (lists_of names) i name.items low
    (get_map (λ (v : Vec ℕ Global). v.items) names i name test c.index-names-place.is) (map seen_setting c.loop-place.settings.items)
    (list_any-map (is_parameter i) term_of c.args.arguments.now ∙ sym c.is_among.ensures ∙ c.if-is_among.true) c.loop-place.invariant

pub loop-place-preserved : goal.loop-place-preserved
loop-place-preserved c =
    let names = c.args.names.now in
    let t = c.args.task.now in
    let i = c.loop-place.place in
    let name = c.index-names-place.result in
    let old = c.loop-place.settings.items in
    let setting = c.in_ok-setting.setting in
    let size = length-map names (λ (v : Vec ℕ Global). v.items) in
    let test = c.loop-place-test.true in
    let low : i < length (lists_of names) = omega arith in
    let value = c.in_ok-setting.ensures ∙ ap (λ n. (n, object_name t c.value_at.result)) c.as_slice.ensures.value ∙ ap (λ v. (name.items, object_name t v)) c.value_at.ensures in
    ap (map seen_setting) c.in_ok-push.ensures.items
    ∙ map-append seen_setting old (setting ∷ [])
    ∙ ap (λ p. map seen_setting old ++ p ∷ []) value
    ∙ one_hidden t (terms_of c.args.arguments.now) c.args.values.now (lists_of names) i name.items low
    (get_map (λ (v : Vec ℕ Global). v.items) names i name test c.index-names-place.is) (map seen_setting old)
    (list_any-map (is_parameter i) term_of c.args.arguments.now ∙ sym c.is_among.ensures ∙ c.if-is_among.false) c.loop-place.invariant
