-- How many nodes are compound, and lines gathered from the last node on.
use Rattle.std.proofs.Common.{◌≡◌, ℕ, suc, ◌+◌, List, [], ◌∷◌, ◌++◌, length, take, slice_index_or, refl, ap, arith, ◌<◌}
use Rattle.htn_model.specs.Task.{Task}
use Rattle.htn_plan.specs.declared.preorder.Item.{Item as RustItem}
use Rattle.htn_plan.specs.Gathered.{Gathered, MethodNaming, gather, gather_all}
use Rattle.htn_plan.specs.Items.{item_of, items_of}
use Rattle.htn_plan.specs.Preorder.{Item, action, step_item, task, compound_count}
use Rattle.htn_plan.proofs.Lists.{take_map}

-- the compound items of two lists
pub count_join : {Method : Type 0} (xs ys : List (Item Method)) → compound_count (xs ++ ys) ≡ compound_count xs + compound_count ys
count_join [] ys = omega arith
count_join (action id ∷ xs) ys = count_join xs ys
count_join (step_item ∷ xs) ys = count_join xs ys
count_join (task goal number count ∷ xs) ys = let e = count_join xs ys in omega (arith, e)

-- the compound items among one more
pub count_one : (xs : List RustItem) (k : ℕ) (x : RustItem) (m n : ℕ) → k < length xs → x ≡ slice_index_or xs k x → m ≡ compound_count (items_of (take k xs))
    → n ≡ m + compound_count (item_of x ∷ []) → n ≡ compound_count (items_of (take (k + 1) xs))
count_one xs k x m n h e before now =
    let one : suc k ≡ k + 1 = omega arith in
    let a = ap compound_count (take_map item_of xs k x h e) in
    let b = count_join (items_of (take k xs)) (item_of x ∷ []) in
    let c = ap (λ j. compound_count (items_of (take j xs))) one in
    omega (arith, a, b, c, before, now)

-- the last item is gathered first
pub gather_last : {Method : Type 0} (t : Task) (names : MethodNaming Method) (end : ℕ) (xs : List (Item Method)) (x : Item Method) (g : Gathered)
    → gather_all t names end (xs ++ x ∷ []) g ≡ gather_all t names end xs (gather t names end x g)
gather_last t names end [] x g = refl
gather_last t names end (y ∷ xs) x g = ap (gather t names end y) (gather_last t names end xs x g)
