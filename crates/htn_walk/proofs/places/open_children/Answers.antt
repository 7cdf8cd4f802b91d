use Rattle.std.proofs.Common.{◌≡◌, ◌+◌, ◌-◌, ◌++◌, suc, drop, length, take, ap, ◌∙◌, arith}
use Rattle.htn_walk.proofs.ChildPlaces.{put_children}
use Rattle.htn_walk.proofs.places.open_children.Goals as goal

pub returns : goal.returns
returns c =
    let old = c.args.places.now.items in
    let at = c.len.result - 1 - c.args.position in
    let long : suc at + c.args.position ≡ length old = omega (arith, c.requires, c.len.ensures) in
    let next : at + 1 ≡ suc at = omega arith in
    put_children old c.split_off.new.self.items c.in_ok-earlier.earlier.items c.append-2.new.self.items c.in_ok-children.children.items c.remove-place.result
    at c.args.position c.args.count long
    (c.in_ok-earlier.ensures.items ∙ ap (λ k. take k old) next) (c.in_ok-earlier.ensures.tail ∙ ap (λ k. drop k old) next) c.remove-place.ensures.value c.in_ok-children.ensures
    (c.in_ok-append-2.ensures.items ∙ ap (λ xs. xs ++ c.in_ok-earlier.earlier.items) (c.in_ok-append.ensures.items ∙ ap (λ xs. xs ++ c.in_ok-children.children.items) c.remove-place.ensures.items))
