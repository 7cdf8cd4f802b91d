use Rattle.std.proofs.Common.{◌≡◌, [], ◌∷◌, ◌++◌, ◌+◌, map, take, drop, refl, sym, ap, ◌∙◌, append_assoc}
use Rattle.std.proofs.lemmas.Result.{err_from_is_err_and}
use Rattle.plan_text.proofs.Taken.{appends_none, appends_more, fails_after, finishes, written_is, grouped}
use Rattle.plan_text.specs.Written.{spaced, line_of, action_words, root_words, decomposition_words}
use Rattle.plan_text.specs.Parts.{head_text, tail_text, action_text, decomposition_text}
use Rattle.std.specs.List.{flat_map}
use Rattle.std.specs.Fmt.{decimal}
use Rattle.std.specs.Prelude.{codes}
use Rattle.plan_text.proofs.writer.write_plan.Goals as goal

pub returns-in_err-put_all : goal.returns-in_err-put_all
returns-in_err-put_all g c =
    let p = err_from_is_err_and c.from_residual.result c.from_residual.ensures.1 in
    rw p.1 (fails_after _ _ _ [] (codes "==>\n") ((flat_map action_text c.args.file.now.actions) ++ ((line_of (root_words c.args.file.now.roots)) ++ ((flat_map decomposition_text c.args.file.now.decompositions) ++ (codes "<==\n")))) _ (appends_none _) c.in_err-put_all.ensures.0 (written_is c.args.file.now), c.in_err-put_all.ensures.1)

pub returns-in_err-put_actions : goal.returns-in_err-put_actions
returns-in_err-put_actions g c =
    let p = err_from_is_err_and c.from_residual-in_err-put_actions.result c.from_residual-in_err-put_actions.ensures.1 in
    let actions = rw c.actions.ensures.value at c.in_err-put_actions.ensures.0 in
    rw p.1 (fails_after _ _ _ (codes "==>\n") (flat_map action_text c.args.file.now.actions) ((line_of (root_words c.args.file.now.roots)) ++ ((flat_map decomposition_text c.args.file.now.decompositions) ++ (codes "<==\n"))) _ c.in_ok-put_all.ensures.0 actions (written_is c.args.file.now), c.in_err-put_actions.ensures.1)

pub returns-in_err-put_roots : goal.returns-in_err-put_roots
returns-in_err-put_roots g c =
    let p = err_from_is_err_and c.from_residual-in_err-put_roots.result c.from_residual-in_err-put_roots.ensures.1 in
    let actions = rw c.actions.ensures.value at c.in_ok-put_actions.ensures.0 in
    let roots = rw c.roots.ensures.value at c.in_err-put_roots.ensures.0 in
    rw p.1 (fails_after _ _ _ ((codes "==>\n") ++ (flat_map action_text c.args.file.now.actions)) (line_of (root_words c.args.file.now.roots)) ((flat_map decomposition_text c.args.file.now.decompositions) ++ (codes "<==\n")) _ (appends_more _ _ _ _ _ c.in_ok-put_all.ensures.0 actions) roots (written_is c.args.file.now ∙ sym (append_assoc (codes "==>\n") (flat_map action_text c.args.file.now.actions) ((line_of (root_words c.args.file.now.roots)) ++ ((flat_map decomposition_text c.args.file.now.decompositions) ++ (codes "<==\n"))))), c.in_err-put_roots.ensures.1)

pub returns-in_err-put_decompositions : goal.returns-in_err-put_decompositions
returns-in_err-put_decompositions g c =
    let p = err_from_is_err_and c.from_residual-in_err-put_decompositions.result c.from_residual-in_err-put_decompositions.ensures.1 in
    let actions = rw c.actions.ensures.value at c.in_ok-put_actions.ensures.0 in
    let roots = rw c.roots.ensures.value at c.in_ok-put_roots.ensures.0 in
    let decompositions = rw c.decompositions.ensures.value at c.in_err-put_decompositions.ensures.0 in
    rw p.1 (fails_after _ _ _ (((codes "==>\n") ++ (flat_map action_text c.args.file.now.actions)) ++ (line_of (root_words c.args.file.now.roots))) (flat_map decomposition_text c.args.file.now.decompositions) (codes "<==\n") _ (appends_more _ _ _ _ _ (appends_more _ _ _ _ _ c.in_ok-put_all.ensures.0 actions) roots) decompositions (written_is c.args.file.now ∙ grouped (codes "==>\n") (flat_map action_text c.args.file.now.actions) (line_of (root_words c.args.file.now.roots)) ((flat_map decomposition_text c.args.file.now.decompositions) ++ (codes "<==\n"))), c.in_err-put_decompositions.ensures.1)

pub returns : goal.returns
returns g c =
    let actions = rw c.actions.ensures.value at c.in_ok-put_actions.ensures.0 in
    let roots = rw c.roots.ensures.value at c.in_ok-put_roots.ensures.0 in
    let decompositions = rw c.decompositions.ensures.value at c.in_ok-put_decompositions.ensures.0 in
    finishes _ _ _ _ _ _ c.put_all-2.result ((((codes "==>\n") ++ (flat_map action_text c.args.file.now.actions)) ++ (line_of (root_words c.args.file.now.roots))) ++ (flat_map decomposition_text c.args.file.now.decompositions)) (codes "<==\n") _ (appends_more _ _ _ _ _ (appends_more _ _ _ _ _ (appends_more _ _ _ _ _ c.in_ok-put_all.ensures.0 actions) roots) decompositions) (c.in_ok-put_decompositions.ensures.1 ∙ c.in_ok-put_roots.ensures.1 ∙ c.in_ok-put_actions.ensures.1 ∙ c.in_ok-put_all.ensures.1) c.put_all-2.ensures (written_is c.args.file.now ∙ grouped (codes "==>\n") (flat_map action_text c.args.file.now.actions) (line_of (root_words c.args.file.now.roots)) ((flat_map decomposition_text c.args.file.now.decompositions) ++ (codes "<==\n")) ∙ sym (append_assoc (((codes "==>\n") ++ (flat_map action_text c.args.file.now.actions)) ++ (line_of (root_words c.args.file.now.roots))) (flat_map decomposition_text c.args.file.now.decompositions) (codes "<==\n")))
