use Rattle.std.proofs.Common.{subst, sym, ◌≡◌, ◌+◌, ◌∙◌, [], length, ap, arith}
use Rattle.htn_ground.specs.Trees.{number_of, nodes_view, solution_of}
use Rattle.htn_model.specs.Tree.{AreTrees, nodes_of}
use Rattle.htn_plan.specs.Gathered.{Gathered, somes}
use Rattle.htn_plan.specs.Ids.{id_of}
use Rattle.htn_plan.specs.Items.{items_of, numbered_items}
use Rattle.htn_plan.specs.Preorder.{compound_count, items_from}
use Rattle.htn_model.specs.Grounding.{problem_of}
use Rattle.htn_model.specs.Numbered.{numbered}
use Rattle.htn_model.specs.Shadow.{IsShadow}
use Rattle.htn_model.proofs.Numbered.{numbered_is_shadow}
use Rattle.htn_ground.specs.Naming.{naming_of}
use Rattle.htn_plan.proofs.Methods.{count_numbered, named_alike}
use Rattle.htn_plan.proofs.Named.{names_nodes}
use Rattle.htn_plan.proofs.Filed.{filed}
use Rattle.htn_plan.proofs.Lists.{length_map}
use Rattle.htn_plan.proofs.file.file_of.Goals as goal

pub returns : goal.returns
returns c = record {
  value = the_value;
  shadow =
      λ solves. subst (λ file. IsShadow (naming_of c.args.task.now) file (solution_of c.args.task.now c.args.solution.now)) (sym (the_value solves.are_trees))
      (numbered_is_shadow (naming_of c.args.task.now) (problem_of c.args.task.now) (solution_of c.args.task.now c.args.solution.now) solves
      (names_nodes c.args.task.now (solution_of c.args.task.now c.args.solution.now) c.objects-typed.ensures.typed solves));
}
  where
    the_end : c.in_ok-end.end ≡ length c.in_ok-actions.actions.items + compound_count (numbered_items (number_of c.args.task.now) c.in_ok-items.items.items)
    the_end =
        let a = c.in_ok-end.ensures in
        let b = c.count_compounds.ensures.count in
        let d = ap (λ xs. compound_count (items_of xs)) c.deref-2.ensures.value in
        let e = c.len.ensures ∙ c.in_ok-actions.actions.ok.0 in
        let f = count_numbered c.args.task.now (items_of c.in_ok-items.items.items) in
        omega (arith, a, b, d, e, f)

    the_items : numbered_items (number_of c.args.task.now) c.in_ok-items.items.items ≡ items_from (id_of c.in_ok-actions.ids) [] 0 (solution_of c.args.task.now c.args.solution.now).trees
    the_items =
        c.in_ok-items.ensures (number_of c.args.task.now)
        ∙ ap (λ xs. items_from (id_of c.in_ok-actions.ids) [] 0 (nodes_of (nodes_view (number_of c.args.task.now) xs))) c.deref.ensures.value

    the_value : AreTrees (problem_of c.args.task.now) (solution_of c.args.task.now c.args.solution.now).trees → c.plan_file.result ≡ numbered (naming_of c.args.task.now) (solution_of c.args.task.now c.args.solution.now)
    the_value trees =
        let t = c.args.task.now in
        let s = solution_of t c.args.solution.now in
        let alike = named_alike t c.in_ok-end.end (items_of c.in_ok-items.items.items) (id_of c.in_ok-actions.ids) s.trees the_items trees in
        c.plan_file.ensures
        ∙ filed t s c.in_ok-actions.ids c.in_ok-actions.actions.items (length c.args.solution.now.linearisation.items)
        (numbered_items (number_of t) c.in_ok-items.items.items) c.in_ok-end.end c.in_ok-roots.roots.items c.in_ok-roots.decompositions.items
        (let e = length_map (λ p. p.items) c.args.solution.now.linearisation.items in omega (arith, e))
        c.in_ok-actions.ensures
        the_items
        the_end
        (c.in_ok-roots.ensures.roots ∙ ap (λ (b : Gathered). somes b.ids) alike) (c.in_ok-roots.ensures.lines ∙ ap (λ (b : Gathered). b.lines) alike)
