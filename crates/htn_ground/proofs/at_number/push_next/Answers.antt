use Rattle.std.proofs.Common.{◌≡◌, ◌∙◌, List, ℕ, ◌++◌, ◌∷◌, [], ◌<◌, ◌+◌, ap, arith, drop, get_or, length, length-append, slice_get, sym, take}
use Rattle.std.specs.List.{flat_map}
use Rattle.std.proofs.lemmas.List.{take_all}
use Rattle.htn_ground.specs.Counted.{fitting}
use Rattle.htn_ground.specs.Search.{completions}
use Rattle.htn_ground.proofs.AtNumber.{at_piece, split_pieces, stands}
use Rattle.htn_ground.proofs.Completions.{completions_step}
use Rattle.htn_ground.proofs.Counting.{popped}
use Rattle.htn_ground.proofs.Lists.{flat_map_more}
use Rattle.htn_ground.proofs.at_number.push_next.Goals as goal

pub loop-object-preserved : goal.loop-object-preserved
loop-object-preserved c =
    let domains = c.args.domains.now in
    let relations = c.args.relations.now in
    let values = c.args.values.now in
    let objects = c.as_slice-objects.result.now in
    let i = c.loop-object.object-index in
    let object = get_or objects i 0 in
    let pieces : ℕ → List (List ℕ) = λ o. completions domains relations (values ++ o ∷ []) in
    let pushed : c.push.new.self ≡ values ++ object ∷ [] = c.in_ok-push.ensures.ok ∙ ap (λ (v : List ℕ). v ++ object ∷ []) c.loop-object.invariant.0 in
    let counted : c.in_ok-count.count ≡ fitting (length (pieces object)) =
    c.in_ok-count.ensures.count ∙ ap (λ (v : List ℕ). fitting (length (completions domains relations v))) pushed in
    let past : c.loop-object.number ≡ length (pieces object) + c.in-Some.left = c.in-Some.ensures.past (length (pieces object)) counted in
    let long : length (flat_map pieces (take (i + 1) objects)) ≡ length (flat_map pieces (take i objects)) + length (pieces object) =
    ap length (flat_map_more pieces objects i object c.loop-object-test.true (stands objects i c.loop-object-test.true)) ∙ length-append (flat_map pieces (take i objects)) (pieces object) in (
      popped values c.count_completions.new.values c.pop.new.self object (c.in_ok-count.ensures.values ∙ pushed) c.pop.ensures,
      omega (arith, c.loop-object.invariant.1, past, long),
    )

pub returns-in_default-clause-longer : goal.returns-in_default-clause-longer
returns-in_default-clause-longer c =
    let values = c.args.values.now in
    let object = get_or c.as_slice-objects.result.now c.loop-object.object-index 0 in
    let pushed : c.push.new.self ≡ values ++ object ∷ [] = c.in_ok-push.ensures.ok ∙ ap (λ (v : List ℕ). v ++ object ∷ []) c.loop-object.invariant.0 in
    ap length (c.in_ok-count.ensures.values ∙ pushed) ∙ length-append values (object ∷ [])

pub returns-in_default-clause-within : goal.returns-in_default-clause-within
returns-in_default-clause-within c =
    let domains = c.args.domains.now in
    let relations = c.args.relations.now in
    let counted : c.in_ok-count.count ≡ fitting (length (completions domains relations c.count_completions.new.values)) =
    c.in_ok-count.ensures.count ∙ ap (λ (v : List ℕ). fitting (length (completions domains relations v))) (sym c.in_ok-count.ensures.values) in
    c.in_default.ensures.within (length (completions domains relations c.count_completions.new.values)) counted

pub returns-in_default-clause-same : goal.returns-in_default-clause-same
returns-in_default-clause-same c =
    let domains = c.args.domains.now in
    let relations = c.args.relations.now in
    let values = c.args.values.now in
    let objects = c.as_slice-objects.result.now in
    let domain = c.index-domains-depth.result in
    let here : domain ≡ get_or domains (length values) domain = c.index-domains-depth.is ∙ ap (λ (n : ℕ). get_or domains n domain) c.len-depth.ensures in
    let i = c.loop-object.object-index in
    let object = get_or objects i 0 in
    let number = c.loop-object.number in
    let pieces : ℕ → List (List ℕ) = λ o. completions domains relations (values ++ o ∷ []) in
    let pushed : c.push.new.self ≡ values ++ object ∷ [] = c.in_ok-push.ensures.ok ∙ ap (λ (v : List ℕ). v ++ object ∷ []) c.loop-object.invariant.0 in
    let counted : c.in_ok-count.count ≡ fitting (length (pieces object)) =
    c.in_ok-count.ensures.count ∙ ap (λ (v : List ℕ). fitting (length (completions domains relations v))) pushed in
    let within : number < length (pieces object) = c.in_default.ensures.within (length (pieces object)) counted in
    let whole : completions domains relations values ≡ flat_map pieces objects =
    completions_step domains relations values domain c.requires.small here ∙ ap (flat_map pieces) (sym c.as_slice-objects.ensures) in
    ap (λ (v : List ℕ). slice_get (completions domains relations v) number) (c.in_ok-count.ensures.values ∙ pushed)
    ∙ sym (at_piece (flat_map pieces (take i objects)) (pieces object) (flat_map pieces (drop (i + 1) objects)) (completions domains relations values) c.args.number.now number
    (whole ∙ split_pieces pieces objects i object c.loop-object-test.true (stands objects i c.loop-object-test.true)) c.loop-object.invariant.1 within)

pub unreachable-requires : goal.unreachable-requires
unreachable-requires c =
    let domains = c.args.domains.now in
    let relations = c.args.relations.now in
    let values = c.args.values.now in
    let objects = c.as_slice-objects.result.now in
    let domain = c.index-domains-depth.result in
    let here : domain ≡ get_or domains (length values) domain = c.index-domains-depth.is ∙ ap (λ (n : ℕ). get_or domains n domain) c.len-depth.ensures in
    let pieces : ℕ → List (List ℕ) = λ o. completions domains relations (values ++ o ∷ []) in
    let all : length (flat_map pieces (take c.loop-object.object-index objects)) ≡ length (completions domains relations values) =
    ap (λ (l : List ℕ). length (flat_map pieces l)) (take_all c.loop-object.object-index objects c.loop-object-test.false ∙ c.as_slice-objects.ensures)
    ∙ ap length (sym (completions_step domains relations values domain c.requires.small here)) in
    omega (arith, c.requires.number, c.loop-object.invariant.1, all)
