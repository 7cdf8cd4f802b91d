-- The network of a section is one of its text.
use Rattle.std.proofs.Common.{◌∙◌, ℕ, [], ◌∷◌, map, subst, sym, ap}
use Rattle.hddl_words.specs.declared.domain.DomainText.{DomainText}
use Rattle.hddl_words.specs.declared.domain.MethodText.{MethodText}
use Rattle.hddl_words.specs.declared.network.NetworkText.{NetworkText}
use Rattle.hddl_words.specs.declared.problem.HtnText.{HtnText}
use Rattle.hddl_words.specs.declared.problem.ProblemText.{ProblemText}
use Rattle.hddl_meaning.specs.Mentions.{IsIn}
use Rattle.hddl_meaning.specs.declared.fault.Source.{Source}
use Rattle.hddl_meaning.specs.declared.fault.Source.TheVariants as source
use Rattle.hddl_meaning.proofs.Listed.{at_head, in_map}
use Rattle.pair_messages.specs.declared.phrases.Section.{Section}
use Rattle.pair_messages.specs.declared.phrases.Section.TheVariants.{Method, Action, Htn, States}
use Rattle.pair_messages.specs.Stands.{IsNetworkIn, IsNetworkOf, IsSectionOf}

abbrev placed : ℕ → NetworkText → ℕ × NetworkText
placed place n = (place, n)

abbrev own : MethodText → ℕ × NetworkText
own m = (m.place, m.network)

pub network_at : (d : DomainText) (p : ProblemText) (text : Source) (section : Section) (n : NetworkText) → IsSectionOf d p text section → IsNetworkOf section n → IsNetworkIn d p text n
network_at d p source.Domain (Method m) n here is =
    (m.now.place, subst (λ (x : NetworkText). IsIn (placed m.now.place x) (map own d.methods)) (sym is) (in_map own m.now d.methods here))
network_at d p source.Domain (Action a) n here is = absurd is
network_at d p source.Domain (Htn h) n here is = absurd here
network_at d p source.Domain States n here is = absurd here
network_at d p source.Problem (Method m) n here is = absurd here
network_at d p source.Problem (Action a) n here is = absurd here
network_at d p source.Problem (Htn h) n here is =
    let all : IsIn (placed p.htn.place p.htn.network) (placed p.htn.place p.htn.network ∷ []) = at_head (placed p.htn.place p.htn.network) [] in
    (p.htn.place, subst (λ (x : NetworkText). IsIn (placed p.htn.place x) (placed p.htn.place p.htn.network ∷ [])) (sym (is ∙ ap (λ (h : HtnText). h.network) here)) all)
network_at d p source.Problem States n here is = absurd here
