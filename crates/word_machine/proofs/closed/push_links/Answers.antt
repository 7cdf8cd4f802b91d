use Rattle.std.proofs.Common.{◌≡◌, ◌+◌, ◌<◌, ◌≤◌, ◌∷◌, ◌++◌, Bool, true, false, [], length, take, get_or, if◌then◌else◌, ap, sym, ◌∙◌, arith, length-append, append_assoc}
use Rattle.std.proofs.lemmas.List.{length-take-le, take_more}
use Rattle.word_machine.specs.declared.closed.Link.{Link}
use Rattle.word_machine.specs.Contents.{picked}
use Rattle.word_machine.proofs.Keeping.{picked-push}
use Rattle.word_machine.proofs.closed.push_links.Goals as goal

-- at most one is added
one_more : (b : Bool) (l : Link) → length (if b then l ∷ [] else []) ≤ 1
one_more true l = omega arith
one_more false l = omega arith

pub loop-place-preserved : goal.loop-place-preserved
loop-place-preserved c =
    let more = c.args.more.now in
    let marks = c.args.is_new.now in
    let place = c.loop-place.place in
    let i = c.loop-place.invariant in
    let none : Link = record { parent = 0; number = 0 } in
    let link = get_or more place none in
    let fresh = get_or marks place false in
    let low : place < length more = c.loop-place-test.true in
    let long : length more ≡ length marks = c.requires.long in
    let inside : place < length marks = omega arith in
    let pushed = c.push_link.ensures.items in
    let as_many : length (take place more) ≡ length (take place marks) =
    length-take-le place more (omega arith) ∙ sym (length-take-le place marks (omega arith)) in
    let together : picked (take (place + 1) more) (take (place + 1) marks) ≡ picked (take place more) (take place marks) ++ (if fresh then link ∷ [] else []) =
    ap (λ l. picked l (take (place + 1) marks)) (take_more more place none low)
    ∙ ap (picked (take place more ++ link ∷ [])) (take_more marks place false inside)
    ∙ picked-push (take place more) (take place marks) link fresh as_many in
    let size = ap length pushed ∙ length-append c.loop-place.links.items (if fresh then link ∷ [] else []) in
    record {
      items = pushed ∙ ap (λ l. l ++ (if fresh then link ∷ [] else [])) i.items
          ∙ append_assoc c.args.links.now.items (picked (take place more) (take place marks)) (if fresh then link ∷ [] else [])
          ∙ ap (λ l. c.args.links.now.items ++ l) (sym together);
      room = omega (arith, size, one_more fresh link, i.room, c.push_link.ensures.room);
    }
