use Rattle.std.proofs.Common.{◌≤◌, [], ◌∷◌, inl, inr, refl, sym, subst, arith}
use Rattle.picture_html.specs.Example.{numbers}
use Rattle.picture_html.proofs.Covering.{runs_are, Ascend, IsLow}
use Rattle.picture_html.proofs.laws.small_page.Goals as goal

after_two : IsLow 2 (3 ∷ [])
after_two m (inl same) = subst (λ k. 2 ≤ k) (sym same) (omega arith)
after_two m (inr i) = absurd i

after_none : IsLow 0 (2 ∷ 3 ∷ [])
after_none m i = omega arith

ascend : Ascend numbers
ascend = (after_none, (after_two, ((λ m i. absurd i), tt)))

pub returns-clause-bars : goal.returns-clause-bars
returns-clause-bars c = runs_are numbers ascend

pub returns-clause-words : goal.returns-clause-words
returns-clause-words c = refl

pub returns-clause-outline : goal.returns-clause-outline
returns-clause-outline c = refl

pub returns-clause-line : goal.returns-clause-line
returns-clause-line c = refl
