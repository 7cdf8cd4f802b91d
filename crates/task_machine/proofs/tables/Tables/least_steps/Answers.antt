use Rattle.std.proofs.Common.{rules, ◌≡◌, ◌-◌, ◌^◌, arith, length, max, min}
use Rattle.std.specs.List.{sum_by}
use Rattle.network_table.specs.Networks.{network_at}
use Rattle.heuristics.specs.Sizes.{size_of}
use Rattle.task_machine.specs.Bounds.{most_steps}
use Rattle.task_machine.proofs.tables.Tables.least_steps.Goals as goal

pub returns : goal.returns
returns c = λ sizes state sized.
    let nodes = (network_at c.args.self.now.networks c.args.network).children in
    let count : c.open_len-open_len.result ≡ length nodes = c.open_len-open_len.ensures in
    let sum : c.bound-bound.result ≡ min (sum_by (size_of sizes) nodes) (2 ^ 64 - 1) = c.bound-bound.ensures.measured (size_of sizes) sized in
    let capped : min c.bound-bound.result most_steps ≡ c.min.result = search rules in
    let most : max c.open_len-open_len.result c.min.result ≡ c.max.result = search rules in
    omega (arith, count, sum, capped, most)
