use Rattle.std.proofs.Common.{◌≡◌, sym, subst, Global, IfSome, List, Option, Vec}
use Rattle.std.specs.List.{All}
use Rattle.std.proofs.lemmas.List.Elements.{All-push}
use Rattle.htn_ground.specs.declared.candidates.Candidates.{Candidates}
use Rattle.htn_ground.specs.Candidates.{AgreesWith, Excludes}
use Rattle.htn_ground.proofs.Excluded.{excludes_from}
use Rattle.htn_ground.proofs.candidates.push_candidates.Goals as goal
use Rattle.htn_ground.proofs.candidates.push_candidates.Goals.{then-literal+then-is_bound+in_ok-found+in-Some-2+in_ok-push, then-literal+then-is_bound+in_ok-found+in_default, else-literal}

pub loop-literal-preserved : goal.loop-literal-preserved
loop-literal-preserved c =
    let state = c.args.state.now in
    let literals = c.args.literals.now in
    let literal = c.literal-item.result in
    elim c.if-literal.branch [
      | then-literal+then-is_bound+in_ok-found+in-Some-2+in_ok-push w ↦
          let found = w.in-Some-2.found in
          let agrees : AgreesWith state literal found = subst (λ (o : Option Candidates). IfSome o (AgreesWith state literal)) w.in-Some-2.is w.in_ok-found.ensures.agrees in
          let at : found.depth ≡ c.args.depth = subst (λ (o : Option Candidates). IfSome o (λ f. f.depth ≡ c.args.depth)) w.in-Some-2.is w.in_ok-found.ensures.depth in
          let is : Excludes state literals found = excludes_from state literals c.loop-literal.literal-index c.args.depth literal found c.loop-literal-test.true c.literal-item.is at (sym w.if-is_bound.ensures) agrees in
          subst (λ (v : Vec Candidates Global). All (Excludes state literals) v.items) (sym w.all-is)
          (subst (λ (all : List Candidates). All (Excludes state literals) all) (sym w.in_ok-push.ensures.items) (All-push (Excludes state literals) c.loop-literal.all.items found c.loop-literal.invariant is))
      | then-literal+then-is_bound+in_ok-found+in_default w ↦ subst (λ (v : Vec Candidates Global). All (Excludes state literals) v.items) (sym w.all-is) c.loop-literal.invariant
      | else-literal w ↦ subst (λ (v : Vec Candidates Global). All (Excludes state literals) v.items) (sym w.all-is) c.loop-literal.invariant
    ]
