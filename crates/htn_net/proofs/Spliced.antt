-- A list of nodes with others in the place of one, put together from its parts.
use Rattle.std.proofs.Common.{◌≡◌, ℕ, suc, ◌+◌, ◌-◌, List, [], ◌++◌, length, take, drop, sym, ap, ap₂, ◌∙◌, append_assoc, arith}
use Rattle.std.proofs.lemmas.List.{take-map, drop-map, take_rest}
use Rattle.htn_ground.specs.declared.child.Child.{Child as Node}
use Rattle.htn_ground.specs.Views.{child_view, children_of}
use Rattle.htn_model.specs.Problem.{Child}
use Rattle.htn_model.specs.Choice.{splice}

-- what is before, the others, and what is after are the list with the others in the place of one
pub parts_spliced : (seen : List Node) (nodes others first second third : List Child) (at : ℕ) → children_of seen ≡ nodes
    → first ≡ [] ++ children_of (take at seen) → second ≡ first ++ others → third ≡ second ++ children_of (take (length seen - (at + 1)) (drop (at + 1) seen))
    → third ≡ splice at others nodes
parts_spliced seen nodes others first second third at same one two three =
    let front : children_of (take at seen) ≡ take at nodes = sym (take-map child_view at seen) ∙ ap (take at) same in
    let back : children_of (take (length seen - (at + 1)) (drop (at + 1) seen)) ≡ drop (suc at) nodes =
    ap children_of (take_rest seen (at + 1)) ∙ sym (drop-map child_view (at + 1) seen) ∙ ap (drop (at + 1)) same ∙ ap (λ k. drop k nodes) (let e : at + 1 ≡ suc at = omega arith in e) in
    three ∙ ap₂ (λ xs ys. xs ++ ys) (two ∙ ap (λ xs. xs ++ others) (one ∙ front)) back ∙ append_assoc (take at nodes) others (drop (suc at) nodes)
