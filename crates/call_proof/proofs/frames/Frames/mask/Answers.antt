use Rattle.std.proofs.Common.{◌≡◌, ◌∙◌, ℕ, List, Some, slice_get, sym, ap}
use Rattle.std.proofs.lemmas.Option.{slice_get-get_or}
use Rattle.call_nodes.proofs.Leading.{lent}
use Rattle.call_proof.specs.Parts.{masks_of}
use Rattle.call_proof.proofs.Lifting.{mask_at}
use Rattle.call_proof.proofs.frames.Frames.mask.Goals as goal

pub returns : goal.returns
returns c =
    let f = c.args.self.now in
    let place = c.in-Some.place.now in
    let seen = c.in-Some.ensures.lookup in
    let at : slice_get f.of.items c.args.node ≡ Some place =
    ap (λ (l : List ℕ). slice_get l c.args.node) (sym c.deref.ensures.value)
    ∙ slice_get-get_or c.deref.result.now c.args.node place seen.3.0 ∙ ap Some (sym seen.1) in
    lent (λ (m : List ℕ). slice_get (masks_of f) c.args.node ≡ Some m) c.deref-2.result.now place c.get-2.result
    c.get-2.ensures.lookup
    (λ m there. mask_at f.of.items f.masks.items c.args.node place m at
    (ap (λ (l : List (List ℕ)). slice_get l place) (sym c.deref-2.ensures.value) ∙ there))
