use Rattle.std.proofs.Common.{◌≡◌, ◌∙◌, Bor, List, ap, map, subst, sym, take}
use Rattle.std.specs.Cmp.Derive.Mapped.{lex_map}
use Rattle.std.specs.Cmp.Lexicographic.{slice_cmp}
use Rattle.std.specs.List.Sorted.{IsPermutation}
use Rattle.std.specs.Ordering.{nat_cmp}
use Rattle.std.proofs.lemmas.List.{take_all}
use Rattle.std.proofs.lemmas.List.Sorted.{IsPermutation-map}
use Rattle.htn_model.specs.Atom.{Atom}
use Rattle.htn_model.specs.PlanFile.{Word}
use Rattle.plan_causes.specs.Facts.{words_of}
use Rattle.plan_findings.specs.Runs.{fact_words}
use Rattle.plan_findings.proofs.Ordered.{sorted_words}
use Rattle.plan_findings.proofs.run.facts_of.Goals as goal

pub returns : goal.returns
returns c =
    let t = c.args.task.now in
    let atoms = c.args.atoms.now in
    let whole : take c.loop-atom.atom-index atoms ≡ atoms = take_all c.loop-atom.atom-index atoms c.loop-atom-test.false in
    let words : map words_of c.loop-atom.facts.items ≡ map (fact_words t) (map (λ a. a.now) atoms) =
    c.loop-atom.invariant ∙ ap (λ (xs : List (Bor Atom)). map (fact_words t) (map (λ a. a.now) xs)) whole in
    record {
      same = subst (λ (l : List (List Word)). IsPermutation l (map words_of c.sort_unstable.new.self.items)) words
          (IsPermutation-map words_of _ _ c.sort_unstable.ensures.permutation);
      sorted = sorted_words _ (λ f g. sym (lex_map (λ w. w.now) (slice_cmp nat_cmp) f.words.items g.words.items)) _ c.sort_unstable.ensures.sorted;
    }
