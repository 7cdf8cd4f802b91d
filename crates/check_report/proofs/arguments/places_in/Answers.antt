use Rattle.std.proofs.Common.{◌≡◌, ◌≢◌, ◌+◌, ◌∙◌, ◌≤◌, ℕ, suc, nat_eq, false, true, List, map, length, add-one, ap, sym, subst, Some}
use Rattle.std.specs.Prelude.{slice_get}
use Rattle.std.proofs.lemmas.List.{length-map}
use Rattle.indexmap.specs.IndexSet.{insert_key}
use Rattle.hddl_words.specs.Words.{Word, word_of}
use Rattle.hddl_words.specs.declared.token.Kind.{Kind}
use Rattle.hddl_words.specs.declared.token.Kind.TheVariants as kind
use Rattle.check_report.proofs.Places.{Found, all_found, kind_before, kind_of_last, look_name, look_other, word_here}
use Rattle.check_report.proofs.arguments.places_in.Goals as goal
use Rattle.check_report.proofs.arguments.places_in.Goals.{then-is_argument+in_ok-insert, else-is_argument}

false_is_true : false ≡ true → ⊥
false_is_true is = absurd cc

pub loop-token-preserved : goal.loop-token-preserved
loop-token-preserved c =
    let ws : List Word = map word_of c.args.tokens.now in
    let k : ℕ = c.loop-token.token-index in
    let v : Word = word_of c.token-item.result in
    let here : slice_get ws k ≡ Some v = word_here c.args.tokens.now k c.token-item.result c.loop-token-test.true c.token-item.is in
    let before : Kind = c.loop-token.before in
    let keys : List ℕ = c.loop-token.places.keys in
    let was : before ≡ kind_before ws k = c.loop-token.invariant.before in
    let old : Found ws k keys = c.loop-token.invariant.found in
    let found : Found ws (k + 1) c.if-is_argument.places.keys = elim c.if-is_argument.branch [
      | then-is_argument+in_ok-insert w ↦
          let named = c.is_argument.ensures.0 w.if-is_argument.true in
          let more : Found ws (suc k) (insert_key nat_eq keys v.place) = look_name ws k v before keys here was old named.0 named.1 in
          let next : Found ws (k + 1) (insert_key nat_eq keys v.place) = subst (λ n. Found ws n (insert_key nat_eq keys v.place)) (sym (add-one k)) more in
          subst (Found ws (k + 1)) (sym (ap (λ s. s.keys) w.places-is ∙ w.in_ok-insert.ensures.keys)) next
      | else-is_argument w ↦
          let other : before ≢ kind.Open → v.kind ≡ kind.Name → ⊥ = λ inside named. absurd (false_is_true (sym w.if-is_argument.false ∙ c.is_argument.ensures.1 (inside, named))) in
          let same : Found ws (suc k) keys = look_other ws k v before keys here was old other in
          let next : Found ws (k + 1) keys = subst (λ n. Found ws n keys) (sym (add-one k)) same in
          subst (Found ws (k + 1)) (sym (ap (λ s. s.keys) w.places-is)) next
    ] in
    record {
      found = found;
      before = subst (λ n. c.token-item.result.kind ≡ kind_before ws n) (sym (add-one k)) (kind_of_last ws k v here);
    }

pub returns : goal.returns
returns c =
    let within : length (map word_of c.args.tokens.now) ≤ c.loop-token.token-index = rw length-map c.loop-token-test.false in
    all_found (map word_of c.args.tokens.now) c.loop-token.token-index c.loop-token.places.keys within c.loop-token.invariant.found
