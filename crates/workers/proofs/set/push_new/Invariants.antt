use Rattle.std.proofs.Common.{◌≡◌, ℕ, ◌<◌, ◌++◌, false, not, List, length, get_or, take}
use Rattle.std.specs.List.{list_any}
use Rattle.indexmap.specs.IndexSet.{insert_all}
use Rattle.workers.proofs.set.push_new.Given as goal

-- the values so far were inserted in turn
abbrev pub invariant-loop-place : goal.invariant-loop-place
invariant-loop-place g l =
    record {
      values : l.values.items ≡ insert_all g.T.PartialEq.eq l.fn.values.items (take l.place l.batch);
      grown : (more : List g.row.T.Denot) × (l.values.items ≡ l.fn.values.items ++ more);
      len : length l.is_new.items ≡ l.place;
      marks : (i : ℕ) (d : g.row.T.Denot) → i < l.place
          → get_or l.is_new.items i false ≡ not (list_any (g.T.PartialEq.eq (get_or l.batch i d)) (insert_all g.T.PartialEq.eq l.fn.values.items (take i l.batch)));
    }
