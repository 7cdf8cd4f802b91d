use Rattle.std.proofs.Common.{◌≡◌, ◌<◌, ◌∷◌, [], ◌++◌, ◌∙◌, get_or, take, true, false, set, arith, length, ap, sym, subst}
use Rattle.std.proofs.lemmas.List.{take_more, length-set, get_or_read}
use Rattle.plan_text.specs.Reached.{AreAdded, AreMet}
use Rattle.plan_text.proofs.Walked.{known_added, new_added, one_met}
use Rattle.plan_text.proofs.walk.meet.Goals as goal
use Rattle.plan_text.proofs.walk.meet.Goals.{then-not-index+in_ok-push, else-not-index}

pub loop-line-preserved : goal.loop-line-preserved
loop-line-preserved c =
    let more = c.args.more.now in
    let i = c.loop-line.line-index in
    let x = get_or more i 0 in
    let met = c.loop-line.met.items in
    let lines = c.loop-line.lines.items in
    let inv = c.loop-line.invariant in
    let within = c.requires.within i 0 c.loop-line-test.true in
    let size = inv.size in
    let low : x < length met = omega arith in
    let is_marked = get_or_read met x c.index.result.now low c.index.ensures false in
    let next = take_more more i 0 c.loop-line-test.true in
    elim c.if-not-index.branch [
      | then-not-index+in_ok-push w ↦ let marks = ap (λ v. v.items) w.met-is in
          let all = ap (λ v. v.items) w.lines-is ∙ w.in_ok-push.ensures.items in
          let unmarked : get_or met x false ≡ false = sym is_marked ∙ w.if-not-index.true in
          record {
            met = subst (λ m. AreMet m c.if-not-index.lines.items) (sym marks) (subst (AreMet (set met x true)) (sym all) (one_met met lines x inv.met low unmarked));
            added = subst (AreAdded c.args.lines.now.items c.if-not-index.lines.items) (sym next)
                (subst (λ ls. AreAdded c.args.lines.now.items ls (take i more ++ x ∷ [])) (sym all) (new_added c.args.lines.now.items lines (take i more) x inv.added));
            size = ap length marks ∙ length-set met x true ∙ inv.size;
          }
      | else-not-index w ↦ let marks = ap (λ v. v.items) w.met-is in
          let all = ap (λ v. v.items) w.lines-is in
          let marked : get_or met x false ≡ true = sym is_marked ∙ w.if-not-index.false in
          record {
            met = subst (λ m. AreMet m c.if-not-index.lines.items) (sym marks) (subst (AreMet met) (sym all) inv.met);
            added = subst (AreAdded c.args.lines.now.items c.if-not-index.lines.items) (sym next)
                (subst (λ ls. AreAdded c.args.lines.now.items ls (take i more ++ x ∷ [])) (sym all)
                (known_added c.args.lines.now.items lines (take i more) x inv.added (inv.met.only x marked)));
            size = ap length marks ∙ inv.size;
          }
    ]
