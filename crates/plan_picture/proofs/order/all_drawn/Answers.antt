use Rattle.std.proofs.Common.{◌≡◌, ◌<◌, ◌+◌, ◌++◌, ◌∷◌, [], ℕ, List, length, get_or, take, None, sym, ap, subst, ◌∙◌}
use Rattle.std.proofs.lemmas.List.{take_more, map-append}
use Rattle.plan_text.specs.Forest.{lists_of}
use Rattle.plan_picture.specs.Order.{AreDrawn, AreAllDrawn}
use Rattle.plan_picture.proofs.Ordered.{one_list_more}
use Rattle.plan_picture.proofs.order.all_drawn.Goals as goal

-- one list more
taken : {X : Type 0} (xs : List X) (i : ℕ) (x : X) → i < length xs → x ≡ get_or xs i x → take (i + 1) xs ≡ take i xs ++ x ∷ []
taken xs i x h is = take_more xs i x h ∙ ap (λ y. take i xs ++ y ∷ []) (sym is)

pub loop-listed-preserved : goal.loop-listed-preserved
loop-listed-preserved c =
    let first = λ (line : ℕ). get_or c.args.firsts.now line None in
    let lists = c.args.lists.now in
    let i = c.loop-listed.listed-index in
    let listed = c.listed-item.result in
    let all = c.loop-listed.all.items in
    let one = c.in_ok-drawn.field-0 in
    let here = subst (λ ls. AreDrawn first ls one.items) c.as_slice.ensures.value c.in_ok-drawn.ensures in
    let more = one_list_more first (lists_of (take i lists)) (lists_of all) listed.items one.items c.loop-listed.invariant here in
    let old : lists_of (take (i + 1) lists) ≡ lists_of (take i lists) ++ listed.items ∷ [] =
    ap lists_of (taken lists i listed c.loop-listed-test.true c.listed-item.is) ∙ map-append (λ v. v.items) (take i lists) (listed ∷ []) in
    let new = ap lists_of c.in_ok-push.ensures.items ∙ map-append (λ v. v.items) all (one ∷ []) in
    subst (λ ls. AreAllDrawn first ls (lists_of c.push.new.self.items)) (sym old) (subst (AreAllDrawn first (lists_of (take i lists) ++ listed.items ∷ [])) (sym new) more)
