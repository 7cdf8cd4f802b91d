use Rattle.std.proofs.Common.{◌≡◌, ◌++◌, ◌∷◌, ◌∙◌, [], List, ℕ, Vec, Global, Some, None, true, false, ap, cond, rules}
use Rattle.std.specs.Option.{is_some}
use Rattle.std.specs.Map.{lookup}
use Rattle.indexmap.proofs.CallerLemmas.{insert_entry-new}
use Rattle.hddl_meaning.specs.Mentions.{Text, folded}
use Rattle.hddl_meaning.specs.Names.{is_same_text}
use Rattle.hddl_build.specs.Labels.{first_of, position_in}
use Rattle.hddl_build.proofs.Labelled.{known_stays, lookup_push, not_some}
use Rattle.hddl_build.proofs.labels.Labels.add_label.Goals as goal

pub returns-then-contains_key : goal.returns-then-contains_key
returns-then-contains_key c =
    let known : is_some (position_in c.args.self.now (folded c.args.label.now.text)) ≡ true = search rules in
    λ text. known_stays c.args.self.now (folded c.args.label.now.text) c.args.position text known

pub returns : goal.returns
returns c =
    let key = c.in_ok-text.text in
    let same : key.items ≡ folded c.args.label.now.text = search rules in
    let entries = c.args.self.now.positions.entries in
    let unknown : is_some (lookup (λ (k : Vec ℕ Global). is_same_text key.items k.items) entries) ≡ false = search rules in
    let added : c.insert.new.self.entries ≡ entries ++ (key, c.args.position) ∷ [] =
    c.in_ok-insert.ensures.entries
    ∙ insert_entry-new (λ (a b : Vec ℕ Global). is_same_text a.items b.items) c.args.self.now.positions key c.args.position (not_some (lookup (λ (k : Vec ℕ Global). is_same_text key.items k.items) entries) unknown) in
    λ text.
    ap (λ (l : List (Vec ℕ Global × ℕ)). lookup (λ (k : Vec ℕ Global). is_same_text text k.items) l) added
    ∙ lookup_push (λ (k : Vec ℕ Global). is_same_text text k.items) entries key c.args.position
    ∙ ap (λ (t : Text). first_of (position_in c.args.self.now text) (cond (is_same_text text t) (Some c.args.position) None)) same
