use Rattle.std.proofs.Common.{◌≡◌, rules}
use Rattle.htn_model.specs.Machine.{config_eq}
use Rattle.htn_model.specs.Equality.{config_eq-decides}
use Rattle.htn_task.proofs.Equal.{told}
use Rattle.htn_net.proofs.config.ConfigPartialEq.eq.Goals as goal

pub returns-then-eq-2-clause-same : goal.returns-then-eq-2-clause-same
returns-then-eq-2-clause-same c =
    let value : c.eq-then-eq-2.result ≡ config_eq c.args.self.now c.args.other.now = search rules in
    told c.eq-then-eq-2.result (config_eq c.args.self.now c.args.other.now) value (config_eq-decides c.args.self.now c.args.other.now)

pub returns-else-eq-2-clause-same : goal.returns-else-eq-2-clause-same
returns-else-eq-2-clause-same c =
    let value : c.if-eq.value ≡ config_eq c.args.self.now c.args.other.now = search rules in
    told c.if-eq.value (config_eq c.args.self.now c.args.other.now) value (config_eq-decides c.args.self.now c.args.other.now)
