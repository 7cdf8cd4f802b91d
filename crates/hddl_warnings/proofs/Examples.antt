-- What the examples come to.
use Rattle.std.proofs.Common.{ℕ, List, [], codes, inl, inr, refl, Some}
use Rattle.hddl_words.specs.declared.domain.ActionText.{ActionText}
use Rattle.hddl_meaning.specs.Mentions.{Mention}
use Rattle.hddl_meaning.specs.Uses.{schema_of_action}
use Rattle.hddl_meaning.specs.Examples.{action, called, empty_domain, empty_problem, untyped, variable}
use Rattle.hddl_meaning.proofs.Listed.{at_head, in_nothing}
use Rattle.hddl_warnings.specs.Examples.{WarningsHold}
use Rattle.hddl_warnings.specs.Warnings.{IsWarning}
use Rattle.hddl_warnings.specs.declared.warning.Warning.{Warning}
use Rattle.hddl_warnings.proofs.Members.{nothing_cut}

-- a mention at a place
abbrev mentioned : ℕ → List ℕ → Mention
mentioned place text = record { text = text; place = place }

-- the empty domain warns of nothing
nothing : (w : Warning) → IsWarning empty_domain (Some empty_problem) w → ⊥
nothing w (inl (s, at, rest)) = in_nothing s at
nothing w (inr (inl (a, at, rest))) = in_nothing a at
nothing w (inr (inr (inl (m, at, used, wanted, e)))) = in_nothing m at
nothing w (inr (inr (inr (inl (m, at, unused, e))))) = in_nothing m at
nothing w (inr (inr (inr (inr (inl (m, at, unused, e)))))) = in_nothing m at
nothing w (inr (inr (inr (inr (inr (inl (m, at, used, wanted, e))))))) = in_nothing m at
nothing w (inr (inr (inr (inr (inr (inr (inl (m, at, unused, e)))))))) = in_nothing m at
nothing w (inr (inr (inr (inr (inr (inr (inr (inl (m, at, unused, e))))))))) = in_nothing m at
nothing w (inr (inr (inr (inr (inr (inr (inr (inr (inl (m, (before, after, cut, at), e)))))))))) = nothing_cut before m after cut
nothing w (inr (inr (inr (inr (inr (inr (inr (inr (inr (m, (before, after, cut, at), e)))))))))) = nothing_cut before m after cut

-- the action with a parameter
abbrev an_action : ActionText
an_action = action (called 28 (codes "a")) (untyped (variable 43 (codes "?x"))) []

-- the examples hold
pub examples : WarningsHold
examples = record {
  unused_parameter =
      inl (
        schema_of_action an_action,
        at_head (schema_of_action an_action) [],
        (mentioned 43 (codes "?x"), at_head (mentioned 43 (codes "?x")) [], (λ h. in_nothing (codes "?x") h), refl),
      );
  unused_predicate = inr (inr (inr (inr (inl (mentioned 33 (codes "p"), at_head (mentioned 33 (codes "p")) [], (λ h. in_nothing (codes "p") h), refl)))));
  unused_action = inr (inr (inr (inr (inr (inr (inr (inl (mentioned 28 (codes "a"), at_head (mentioned 28 (codes "a")) [], (λ h. in_nothing (codes "a") h), refl))))))));
  no_warning = nothing;
}
