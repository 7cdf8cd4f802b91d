use Rattle.std.proofs.Common.{◌≡◌, ◌++◌, ◌+◌, ℕ, length, map, take}
use Rattle.network_table.specs.Networks.{expansion_at}
use Rattle.network_table.specs.declared.keep_all.Measure.{Measure}
use Rattle.network_table.proofs.table.NetworkTable.put_measures.Given as goal

abbrev pub invariant-loop-one : goal.invariant-loop-one
invariant-loop-one l = record {
  children : l.self.children ≡ l.initial.self.children;
  networks : l.self.networks ≡ l.initial.self.networks;
  open_lens : l.self.open_lens.items ≡ l.initial.self.open_lens.items ++ map (λ (m : Measure). m.open_len) (take l.one-index l.all);
  bounds : l.self.bounds.items ≡ l.initial.self.bounds.items ++ map (λ (m : Measure). m.bound) (take l.one-index l.all);
  many : length l.self.expansions.items ≡ length l.initial.self.expansions.items + l.one-index;
  expansions : (n : ℕ) → expansion_at l.self n ≡ expansion_at l.initial.self n;
}
