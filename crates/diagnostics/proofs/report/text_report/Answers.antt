use Rattle.std.proofs.Common.{◌≡◌, ℕ, ◌-◌, List, [], ◌∷◌, ◌++◌, refl, length, take, count_by, ap, ◌∙◌, sym, arith}
use Rattle.std.specs.List.{flat_map}
use Rattle.std.proofs.lemmas.List.{take-map, length-map}
use Rattle.diagnostics.specs.Ink.{Ink, written}
use Rattle.diagnostics.specs.Groups.{members_of, folded, picked}
use Rattle.diagnostics.specs.Written.{saying, group_inks, shown_count, cut_inks, summary_inks, counts_inks, is_error}
use Rattle.std.specs.declared.alloc.Global.{Global}
use Rattle.std.specs.declared.vec.Vec.{Vec}
use Rattle.diagnostics.specs.declared.diagnostic.Diagnostic.{Diagnostic}
use Rattle.diagnostics.proofs.Adds.{adds}
use Rattle.diagnostics.proofs.report.text_report.Goals as goal

-- what is written of each group, by its diagnostics
each_members : (ds : List Diagnostic) (gs : List (Vec ℕ Global)) → flat_map group_inks (members_of ds gs) ≡ flat_map (λ g. group_inks (picked ds g.items)) gs
each_members ds [] = refl
each_members ds (g ∷ gs) = ap (λ l. group_inks (picked ds g.items) ++ l) (each_members ds gs)

pub returns : goal.returns
returns c =
    let col = c.args.colour in
    let ds = c.args.diagnostics.now in
    let groups : List (List Diagnostic) = folded saying ds in
    let now = c.in_ok-groups.groups.items in
    let size : length now ≡ length groups = sym (length-map now (λ g. picked ds g.items)) ∙ ap length c.in_ok-groups.ensures in
    let o : List ℕ = [] in
    let n = shown_count c.args.limit (length groups) in
    let errors = count_by (λ d. is_error d.severity) ds in
    let listed : List Ink = flat_map group_inks (take n groups) in
    let cut : List Ink = cut_inks (length groups - n) in
    let summary : List Ink = flat_map summary_inks c.args.summary.now in
    let counts : List Ink = counts_inks errors (length ds - errors) in
    let many : c.shown_count-count.result ≡ n = c.shown_count-count.ensures ∙ ap (shown_count c.args.limit) (c.len.ensures ∙ c.in_ok-groups.groups.ok.0 ∙ size) in
    let taken : members_of ds (take c.shown_count-count.result c.as_slice.result.now) ≡ take n groups =
    sym (take-map (λ g. picked ds g.items) c.shown_count-count.result c.as_slice.result.now) ∙ ap (λ l. take c.shown_count-count.result (members_of ds l)) c.as_slice.ensures.value
    ∙ ap (take c.shown_count-count.result) c.in_ok-groups.ensures ∙ ap (λ k. take k groups) many in
    let first : c.say_groups.new.out.items ≡ o ++ written col listed =
    c.in_ok-say_groups.ensures ∙ ap (λ l. l ++ written col (flat_map (λ g. group_inks (picked ds g.items)) (take c.shown_count-count.result c.as_slice.result.now))) c.new-out.ensures.items
    ∙ ap (written col) (sym (each_members ds (take c.shown_count-count.result c.as_slice.result.now))) ∙ ap (λ l. written col (flat_map group_inks l)) taken in
    let rest : c.len-2.result - c.shown_count-count.result ≡ length groups - n = omega (arith, many, c.len-2.ensures, c.in_ok-groups.groups.ok.0, size) in
    let left : c.say_cut.new.out.items ≡ c.say_groups.new.out.items ++ written col cut = c.in_ok-say_cut.ensures ∙ ap (λ k. c.say_groups.new.out.items ++ written col (cut_inks k)) rest in
    let counted : c.say_counts.new.out.items ≡ c.say_summary.new.out.items ++ written col counts =
    c.in_ok-say_counts.ensures ∙ ap (λ e. c.say_summary.new.out.items ++ written col (counts_inks e (length ds - e))) c.count_errors-errors.ensures in
    let two = adds col o c.say_groups.new.out.items c.say_cut.new.out.items listed cut first left in
    let three = adds col o c.say_cut.new.out.items c.say_summary.new.out.items (listed ++ cut) summary two c.in_ok-say_summary.ensures in
    adds col o c.say_summary.new.out.items c.say_counts.new.out.items (listed ++ cut ++ summary) counts three counted
