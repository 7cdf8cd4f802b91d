use Rattle.std.proofs.Common.{◌≤◌, ◌∙◌, ap, length, subst, sym}
use Rattle.network_table.specs.Networks.{children}
use Rattle.heuristics.proofs.FoundNeeds.{followed_itself, followed_then}
use Rattle.heuristics.proofs.needs_table.NeedsTable.keep_until.Goals as goal

pub loop-number-init : goal.loop-number-init
loop-number-init c = record {
  followed = followed_itself c.args.prospects.now c.args.networks.now c.args.self.now;
  count = sym (c.len-number.ensures ∙ c.args.self.now.needs.ok.0);
}

pub keep_number-requires-clause-next : goal.keep_number-requires-clause-next
keep_number-requires-clause-next c = sym c.loop-number.invariant.count

pub keep_number-requires-clause-all : goal.keep_number-requires-clause-all
keep_number-requires-clause-all c =
    subst (λ k. length (children c.args.networks.now) ≤ k) (ap (λ v. length v.items) (sym c.loop-number.invariant.followed.nodes)) c.requires.all

pub loop-number-preserved : goal.loop-number-preserved
loop-number-preserved c = record {
  followed = followed_then c.args.prospects.now c.args.networks.now c.args.self.now c.loop-number.self c.keep_number.new.self c.loop-number.invariant.followed c.in_ok-keep_number.ensures.followed;
  count = c.in_ok-keep_number.ensures.count;
}
