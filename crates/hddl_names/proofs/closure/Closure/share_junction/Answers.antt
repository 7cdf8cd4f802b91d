use Rattle.std.proofs.Common.{◌≡◌, ◌∙◌, ℕ, List, [], sym, ap}
use Rattle.std.proofs.lemmas.Bool.{ltb-true}
use Rattle.std.proofs.lemmas.List.{get_or_read}
use Rattle.hddl_names.specs.Closures.{Closure, set_of}
use Rattle.hddl_names.specs.NumberSets.{has}
use Rattle.hddl_names.proofs.closure.Closure.share_junction.Goals as goal

pub returns-in-Some-Some : goal.returns-in-Some-Some
returns-in-Some-Some c =
    let sets = ap (λ (v : Closure). v.sets) c.self.view_is in
    let one : c.in-Some-Some.these.now ≡ set_of c.args.self.now.sets c.args.a =
    get_or_read c.deref.result.now c.args.a c.in-Some-Some.these.now (ltb-true c.args.a _ (sym c.in-Some-Some.ensures.lookup.0)) c.in-Some-Some.ensures.lookup.1 []
    ∙ ap (λ (xs : List (List ℕ)). set_of xs c.args.a) (c.deref.ensures.value ∙ sets) in
    let two : c.in-Some-Some.those.now ≡ set_of c.args.self.now.sets c.args.b =
    get_or_read c.deref-2.result.now c.args.b c.in-Some-Some.those.now (ltb-true c.args.b _ (sym c.in-Some-Some.ensures'.lookup.0)) c.in-Some-Some.ensures'.lookup.1 []
    ∙ ap (λ (xs : List (List ℕ)). set_of xs c.args.b) (c.deref-2.ensures.value ∙ sets) in (
      λ h. let found = c.meets.ensures.0 h in (found.0, ap (λ (xs : List ℕ). has xs found.0) (sym one) ∙ found.1, ap (λ (xs : List ℕ). has xs found.0) (sym two) ∙ found.2),
      λ (i, here, there). c.meets.ensures.1 (i, ap (λ (xs : List ℕ). has xs i) one ∙ here, ap (λ (xs : List ℕ). has xs i) two ∙ there),
    )
