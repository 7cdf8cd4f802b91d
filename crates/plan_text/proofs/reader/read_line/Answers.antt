use Rattle.std.proofs.Common.{◌≡◌, ap, ◌∙◌, refl}
use Rattle.std.proofs.lemmas.Result.{err_from_is_err_and, IfErr-weaker}
use Rattle.plan_text.specs.Piece.{words}
use Rattle.plan_text.specs.Line.{IsOfKind, IsLegal}
use Rattle.plan_text.specs.Reading.{kind}
use Rattle.plan_text.specs.Seen.{seen, seen_all, seen_kind}
use Rattle.plan_text.proofs.KindLaws.{found_kind, no_kind, numbers_are}
use Rattle.plan_text.proofs.LineLaws.{both_ok, byte_fault, kind_fault}
use Rattle.plan_text.proofs.reader.read_line.Goals as goal

pub returns-in_err-check_bytes-clause-fault : goal.returns-in_err-check_bytes-clause-fault
returns-in_err-check_bytes-clause-fault c =
    let p = err_from_is_err_and c.from_residual.result c.from_residual.ensures.1 in
    rw (p.1, p.2) (byte_fault _ _ _ c.in_err-check_bytes.ensures.fault)

pub add-requires : goal.add-requires
add-requires c =
    let same : seen_all c.as_slice.result.now ≡ words (seen c.args.line) = ap seen_all c.as_slice.ensures.value ∙ c.in_ok-words.ensures in
    numbers_are (words (seen c.args.line)) (seen_kind c.in-Some.kind) (found_kind _ _ (c.in-Some.ensures ∙ ap kind same))

pub returns-in-Some-clause-read : goal.returns-in-Some-clause-read
returns-in-Some-clause-read c =
    let same : seen_all c.as_slice.result.now ≡ words (seen c.args.line) = ap seen_all c.as_slice.ensures.value ∙ c.in_ok-words.ensures in
    let is : IsOfKind (words (seen c.args.line)) (seen_kind c.in-Some.kind) = found_kind _ _ (c.in-Some.ensures ∙ ap kind same) in
    let legal : IsLegal (seen c.args.line) = c.in_ok-check_bytes.ensures.legal in
    both_ok c.add.result c.add.ensures.added c.add.ensures.small (λ added small. (seen_kind c.in-Some.kind, record { legal = legal; of_kind = is; small = small }, added))

pub returns-in-Some-clause-fault : goal.returns-in-Some-clause-fault
returns-in-Some-clause-fault c =
    let same : seen_all c.as_slice.result.now ≡ words (seen c.args.line) = ap seen_all c.as_slice.ensures.value ∙ c.in_ok-words.ensures in
    let is : IsOfKind (words (seen c.args.line)) (seen_kind c.in-Some.kind) = found_kind _ _ (c.in-Some.ensures ∙ ap kind same) in
    let legal : IsLegal (seen c.args.line) = c.in_ok-check_bytes.ensures.legal in
    IfErr-weaker c.add.result _ _ (λ fault h. kind_fault c.args.draft.now.root_lists (seen c.args.line) (seen_kind c.in-Some.kind) legal is fault h) c.add.ensures.fault

pub returns-clause-fault : goal.returns-clause-fault
returns-clause-fault c =
    let same : seen_all c.as_slice.result.now ≡ words (seen c.args.line) = ap seen_all c.as_slice.ensures.value ∙ c.in_ok-words.ensures in
    let legal : IsLegal (seen c.args.line) = c.in_ok-check_bytes.ensures.legal in
    record { legal = legal; no_kind = no_kind _ (c.in-None.ensures ∙ ap kind same); place_is = refl }
