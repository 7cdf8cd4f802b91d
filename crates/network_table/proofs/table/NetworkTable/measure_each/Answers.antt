use Rattle.std.proofs.Common.{◌≡◌, ◌∙◌, arith, drop, get_or, subst}
use Rattle.network_table.specs.Measures.{measure_of}
use Rattle.network_table.specs.Numbered.{nothing}
use Rattle.network_table.specs.declared.keep_all.Measure.{Measure}
use Rattle.network_table.proofs.Keeping.{slots_are}
use Rattle.network_table.proofs.table.NetworkTable.measure_each.Goals as goal

pub returns : goal.returns
returns g c =
    let t = c.args.self.now in
    let networks = drop c.args.first t.networks in
    let measure = measure_of t.children in
    let long = c.for_each_mut.auto.s in
    slots_are measure networks c.for_each_mut.new.s (long ∙ c.requires.many)
    (λ k d low. let done = (c.for_each_mut.ensures k d (omega (arith, low, long))).1 in
    subst (λ (m : Measure). m ≡ measure (get_or networks k nothing)) done.left done.call)
