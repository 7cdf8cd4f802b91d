use Rattle.std.proofs.Common.{◌≡◌, ◌∙◌, ap, subst, sym}
use Rattle.hddl_meaning.specs.Names.{object_names}
use Rattle.diagnostics.specs.Near.{names_of}
use Rattle.pair_messages.specs.Offers.{AreNearest, nearest_in}
use Rattle.pair_messages.proofs.Meant.{found_are}
use Rattle.pair_messages.proofs.objects.near_objects.Goals as goal

pub returns : goal.returns
returns c =
    let word = c.args.word.now in
    let t = c.args.index.now.texts.now in
    let names = object_names t.domain_tree.now t.problem_tree.now in
    let is : names_of c.in_ok-near.near.items ≡ nearest_in word names =
    c.in_ok-near.ensures ∙ ap (λ l. nearest_in word (names_of l)) c.as_slice.ensures.value ∙ ap (nearest_in word) (c.in_ok-names.ensures ∙ c.args.index.now.objects) in
    subst (AreNearest word names) (sym is) (found_are word names names (λ text at. at) (λ text at. at))
