use Rattle.std.proofs.Common.{◌≡◌, ◌<◌, ℕ, List, length, ◌+◌, ◌++◌, ◌∷◌, [], ◌∙◌, ap, get_or, take, sym, subst, MatchOption}
use Rattle.std.proofs.lemmas.List.{take_more, map-append}
use Rattle.plan_text.specs.Forest.{lists_of}
use Rattle.plan_text.specs.Numbers.{AreNumbersOf, AreNumbersOfChildren, IsUnknown}
use Rattle.plan_text.proofs.Listed.{one_list_more, unknown_child}
use Rattle.plan_text.proofs.ids.numbers_of_children.Goals as goal

pub returns-in-None : goal.returns-in-None
returns-in-None c =
    let ids = c.args.ids.now.keys in
    let children = c.children.result.now in
    unknown_child ids children c.args.lines.now c.loop-line.line-index c.line-item.result c.loop-line-test.true (c.children.ensures ∙ ap (λ line. line.children) c.line-item.is)
    (subst (λ o. MatchOption o (IsUnknown ids children) (λ numbers. AreNumbersOf ids numbers.items children)) c.in-None.is c.in_ok-children.ensures)

-- one line more
taken : {X : Type 0} (xs : List X) (i : ℕ) (x : X) → i < length xs → x ≡ get_or xs i x → take (i + 1) xs ≡ take i xs ++ x ∷ []
taken xs i x h is = take_more xs i x h ∙ ap (λ y. take i xs ++ y ∷ []) (sym is)

pub loop-line-preserved : goal.loop-line-preserved
loop-line-preserved c =
    let ids = c.args.ids.now.keys in
    let lists = lists_of c.loop-line.numbers.items in
    let line = c.line-item.result in
    let here = rw c.in-Some.is at c.in_ok-children.ensures in
    let more = one_list_more ids lists (take c.loop-line.line-index c.args.lines.now) c.in-Some.children.items line c.loop-line.invariant
    (subst (AreNumbersOf ids c.in-Some.children.items) c.children.ensures here) in
    subst (λ xs. AreNumbersOfChildren ids (lists_of xs) (take (c.loop-line.line-index + 1) c.args.lines.now)) (sym c.in_ok-push-in-Some.ensures.items)
    (subst (λ xs. AreNumbersOfChildren ids xs (take (c.loop-line.line-index + 1) c.args.lines.now)) (sym (map-append (λ v. v.items) c.loop-line.numbers.items (c.in-Some.children ∷ [])))
    (subst (AreNumbersOfChildren ids (lists ++ c.in-Some.children.items ∷ [])) (sym (taken c.args.lines.now c.loop-line.line-index line c.loop-line-test.true c.line-item.is)) more))
