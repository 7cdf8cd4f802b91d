use Rattle.std.proofs.Common.{subst, sym}
use Rattle.call_search.specs.Right.{IsRight}
use Rattle.htn_search.proofs.solve.search_beside.Goals as goal

pub search_with_watch-requires-clause-right : goal.search_with_watch-requires-clause-right
search_with_watch-requires-clause-right g c κs within = subst IsRight (sym c.new-watch.ensures.same_calls) c.requires.right
