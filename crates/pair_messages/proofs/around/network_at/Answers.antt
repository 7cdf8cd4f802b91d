use Rattle.std.proofs.Common.{ℕ, IfSome, subst, sym}
use Rattle.hddl_words.specs.declared.network.NetworkText.{NetworkText}
use Rattle.hddl_meaning.specs.Items.{networks_in}
use Rattle.hddl_meaning.specs.Mentions.{IsIn}
use Rattle.hddl_meaning.specs.declared.fault.Source.{Source}
use Rattle.pair_messages.proofs.around.network_at.Goals as goal

pub returns-in-Domain : goal.returns-in-Domain
returns-in-Domain c =
    let t = c.args.index.now.texts.now in
    subst (λ (s : Source). IfSome c.method_network.result (λ n. IsIn {X = ℕ × NetworkText} (c.args.at.place, n.now) (networks_in t.domain_tree.now t.problem_tree.now s))) (sym c.in-Domain.is) c.method_network.ensures

pub returns-in-Problem : goal.returns-in-Problem
returns-in-Problem c =
    let t = c.args.index.now.texts.now in
    subst (λ (s : Source). IfSome c.htn_network.result (λ n. IsIn {X = ℕ × NetworkText} (c.args.at.place, n.now) (networks_in t.domain_tree.now t.problem_tree.now s))) (sym c.in-Problem.is) c.htn_network.ensures
