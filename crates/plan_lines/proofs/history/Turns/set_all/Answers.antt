use Rattle.std.proofs.Common.{◌≡◌, ◌<◌, ℕ, List, length, get_or, ◌+◌, ◌++◌, ◌∷◌, [], ◌∙◌, take, ap, sym, subst}
use Rattle.std.proofs.lemmas.List.{take_more}
use Rattle.plan_lines.specs.Turns.{AreTurned}
use Rattle.plan_lines.proofs.Setting.{more_turned}
use Rattle.plan_lines.proofs.history.Turns.set_all.Goals as goal

-- one more of a list
taken : {X : Type 0} (xs : List X) (i : ℕ) (x : X) → i < length xs → x ≡ get_or xs i x → take (i + 1) xs ≡ take i xs ++ x ∷ []
taken xs i x h is = take_more xs i x h ∙ ap (λ y. take i xs ++ y ∷ []) (sym is)

pub loop-atom-preserved : goal.loop-atom-preserved
loop-atom-preserved c = record {
  history = c.in_ok-set.ensures.history;
  turned = subst (λ xs. AreTurned c.args.self.now c.set.new.self xs c.args.value) (sym (taken c.args.atoms.now c.loop-atom.atom-index c.atom-item.result c.loop-atom-test.true c.atom-item.is))
      (more_turned c.args.self.now c.loop-atom.self c.set.new.self (take c.loop-atom.atom-index c.args.atoms.now) c.atom-item.result c.args.value c.loop-atom.invariant.turned c.in_ok-set.ensures.turned);
}
