use Rattle.std.proofs.Common.{◌<◌, ℕ, sym, subst, ap, length, arith}
use Rattle.std.specs.List.{All}
use Rattle.std.proofs.lemmas.Bool.{both_ways}
use Rattle.htn_model.specs.PlanFile.{IsWithoutRepeats, all_children, defined_ids}
use Rattle.plan_text.specs.Forest.{lists_of}
use Rattle.plan_text.specs.Numbers.{AreNumbersOf, AreNumbersOfChildren, IsUnknown}
use Rattle.plan_text.specs.Reached.{IsReachedFrom}
use Rattle.plan_text.proofs.Bridged.{forest_lists_once, forest_knows, root_is_listed, child_is_listed, forest_reaches, is_forest}
use Rattle.plan_text.proofs.Listed.{numbers_within, lists_within}
use Rattle.plan_text.proofs.forest.forest_of.Goals as goal

pub returns-then-not-branch : goal.returns-then-not-branch
returns-then-not-branch c = λ forest. (rw c.if-not-branch.true at c.in_ok-is_listed_once.ensures) (forest_lists_once c.args.file.now forest)

pub returns-in_default-2 : goal.returns-in_default-2
returns-in_default-2 c =
    let file = c.args.file.now in
    let known = rw c.in-Some.is at c.in_ok-ids.ensures in
    let unknown = rw c.in_default-2.is at c.in_ok-roots.ensures in
    λ forest. forest_knows file file.roots forest (root_is_listed file)
    (subst (λ ids. IsUnknown ids file.roots) known.0 (subst (IsUnknown c.in-Some.ids.keys) c.roots.ensures.value unknown))

pub returns-in_default-3 : goal.returns-in_default-3
returns-in_default-3 c =
    let file = c.args.file.now in
    let known = rw c.in-Some.is at c.in_ok-ids.ensures in
    let unknown = rw c.in_default-3.is at c.in_ok-children.ensures in
    λ forest. forest_knows file (all_children file.decompositions) forest (child_is_listed file)
    (subst (λ ids. IsUnknown ids (all_children file.decompositions)) known.0
    (subst (λ lines. IsUnknown c.in-Some.ids.keys (all_children lines)) c.decompositions.ensures.value unknown))

pub reaches_all-requires : goal.reaches_all-requires
reaches_all-requires c =
    let ids = c.in-Some.ids.keys in
    let roots = rw c.in-Some-2.is at c.in_ok-roots.ensures in
    let children = rw c.in-Some-3.is at c.in_ok-children.ensures in
    let low = numbers_within ids c.in-Some-2.roots.items c.roots.result.now roots in
    let lists = lists_within ids (lists_of c.in-Some-3.children.items) c.decompositions.result.now children in (
      subst (All (λ n. n < c.len.result)) (sym c.deref.ensures.value) (subst (λ m. All (λ n. n < m) c.in-Some-2.roots.items) (sym c.len.ensures.len) low),
      subst (λ xs. All (All (λ n. n < c.len.result)) (lists_of xs)) (sym c.deref-2.ensures.value)
          (subst (λ m. All (All (λ n. n < m)) (lists_of c.in-Some-3.children.items)) (sym c.len.ensures.len) lists),
    )

pub returns-then-not-branch-2 : goal.returns-then-not-branch-2
returns-then-not-branch-2 c =
    let file = c.args.file.now in
    let known = rw c.in-Some.is at c.in_ok-ids.ensures in
    let ids = c.in-Some.ids.keys in
    let roots : AreNumbersOf ids c.in-Some-2.roots.items c.roots.result.now = rw c.in-Some-2.is at c.in_ok-roots.ensures in
    let children : AreNumbersOfChildren ids (lists_of c.in-Some-3.children.items) c.decompositions.result.now = rw c.in-Some-3.is at c.in_ok-children.ensures in
    let are_roots = subst (λ xs. AreNumbersOf xs c.in-Some-2.roots.items file.roots) known.0 (subst (AreNumbersOf ids c.in-Some-2.roots.items) c.roots.ensures.value roots) in
    let are_children = subst (λ xs. AreNumbersOfChildren xs (lists_of c.in-Some-3.children.items) file.decompositions) known.0
    (subst (AreNumbersOfChildren ids (lists_of c.in-Some-3.children.items)) c.decompositions.ensures.value children) in
    λ forest. both_ways _ c.if-not-branch-2.true (c.in_ok-reaches_all.ensures.1
    (λ line h.
    (let all = forest_reaches file (subst IsWithoutRepeats known.0 known.1) c.in-Some-2.roots.items (lists_of c.in-Some-3.children.items) are_roots are_children forest line
    (let count = c.len.ensures.len in let same = ap length known.0 in omega arith) in
    subst (λ xs. IsReachedFrom (length c.actions.result.now) xs (lists_of c.deref-2.result.now) line) (sym c.deref.ensures.value)
    (subst (λ xs. IsReachedFrom (length c.actions.result.now) c.in-Some-2.roots.items (lists_of xs) line) (sym c.deref-2.ensures.value)
    (subst (λ lines. IsReachedFrom (length lines) c.in-Some-2.roots.items (lists_of c.in-Some-3.children.items) line) (sym c.actions.ensures.value) all)))))

pub returns : goal.returns
returns c =
    let file = c.args.file.now in
    let known = rw c.in-Some.is at c.in_ok-ids.ensures in
    let ids = c.in-Some.ids.keys in
    let roots : AreNumbersOf ids c.in-Some-2.roots.items c.roots.result.now = rw c.in-Some-2.is at c.in_ok-roots.ensures in
    let children : AreNumbersOfChildren ids (lists_of c.in-Some-3.children.items) c.decompositions.result.now = rw c.in-Some-3.is at c.in_ok-children.ensures in
    let are_roots = subst (λ xs. AreNumbersOf xs c.in-Some-2.roots.items file.roots) known.0 (subst (AreNumbersOf ids c.in-Some-2.roots.items) c.roots.ensures.value roots) in
    let are_children = subst (λ xs. AreNumbersOfChildren xs (lists_of c.in-Some-3.children.items) file.decompositions) known.0
    (subst (AreNumbersOfChildren ids (lists_of c.in-Some-3.children.items)) c.decompositions.ensures.value children) in
    let once = rw c.if-not-branch.false at c.in_ok-is_listed_once.ensures in
    let all : (line : ℕ) → line < length (defined_ids file) → IsReachedFrom (length file.actions) c.in-Some-2.roots.items (lists_of c.in-Some-3.children.items) line = λ line h.
    (let reached = c.in_ok-reaches_all.ensures.0 c.if-not-branch-2.false line (let count = c.len.ensures.len in let same = ap length known.0 in omega arith) in
    subst (λ lines. IsReachedFrom (length lines) c.in-Some-2.roots.items (lists_of c.in-Some-3.children.items) line) c.actions.ensures.value
    (subst (λ xs. IsReachedFrom (length c.actions.result.now) c.in-Some-2.roots.items (lists_of xs) line) c.deref-2.ensures.value
    (subst (λ xs. IsReachedFrom (length c.actions.result.now) xs (lists_of c.deref-2.result.now) line) c.deref.ensures.value reached))) in
    record {
      is_forest = is_forest file (subst IsWithoutRepeats known.0 known.1) c.in-Some-2.roots.items (lists_of c.in-Some-3.children.items) are_roots are_children once all;
      roots = are_roots;
      children = are_children;
    }
