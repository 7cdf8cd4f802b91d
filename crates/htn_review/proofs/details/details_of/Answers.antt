use Rattle.std.proofs.Common.{Option, Some, None, subst}
use Rattle.std.specs.Prelude.{IfSome}
use Rattle.htn_review.specs.Sights.{ShowEntries}
use Rattle.htn_review.proofs.Detailed.{show_lines}
use Rattle.htn_review.proofs.details.details_of.Goals as goal

-- what follows of a value follows of an option that may hold one
some_more : {X : Type 0} (P Q : X → Type 0) (o : Option X) → ((x : X) → P x → Q x) → IfSome o P → IfSome o Q
some_more P Q (Some x) more h = more x h
some_more P Q None more h = tt

pub returns : goal.returns
returns c =
    let d = c.args.domain.now in
    let t = c.args.task.now in
    let found = rw c.in-Some.is at c.in_ok-entries.ensures in
    some_more _ _ c.in_ok-found.found
    (λ x h. record {
      details = found.details;
      are = found.are;
      each = show_lines d t found.details c.args.file.now.decompositions c.in-Some.entries.lines.items x.items found.many found.each (subst (λ es. ShowEntries d t es x.items) c.deref.ensures.value h);
    })
    c.in_ok-found.ensures
