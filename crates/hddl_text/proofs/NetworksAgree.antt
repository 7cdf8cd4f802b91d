-- Networks: each reader agrees with its phrase.
use Rattle.std.proofs.Common.{ℕ, suc, true, false, [], ◌∷◌, ◌++◌, Some, None, arith}
use Rattle.hddl_words.specs.declared.class.Keyword.TheVariants as key
use Rattle.hddl_words.specs.declared.class.Class.TheVariants as class
use Rattle.hddl_words.specs.Phrase.{Gives, Next, Until, Adds, ◌>>=◌}
use Rattle.hddl_words.proofs.Agree.{Agrees, ItemAgrees, reads, gives, nothing, agrees_seq, agrees_map}
use Rattle.hddl_words.proofs.AgreeMore.{agrees_at, agrees_word, agrees_items, agrees_list, agrees_opened, step_map, step_absent}
use Rattle.hddl_words.specs.Names.{name_of, Name}
use Rattle.hddl_words.specs.declared.term.Term.{Term}
use Rattle.hddl_text.specs.declared.parts.NetworkParts.{NetworkParts}
use Rattle.hddl_text.specs.Grammar.{subtask_of, IsTerm, IsSubtaskTail, IsSubtaskRest, IsNetBody, IsNet, IsPairBody, IsOrderingsBody, IsOrderings, IsNetworkPart}
use Rattle.hddl_text.specs.Readers.{labelled_subtask, unlabelled, subtask_tail, named_subtask, subtask_rest, net_body, net, prefix_pair, infix_pair, pair_body, pair_rest, orderings_body, orderings, network_part}
use Rattle.hddl_text.proofs.TermsAgree.{out, opening_agrees, closing_agrees, any_name_agrees, less_agrees, term_agrees, atom_rest_agrees}
use Rattle.hddl_text.proofs.ConditionsAgree.{constraint_agrees}

module _ (N : ℕ) where
  -- the reader of a subtask without label agrees with its rule
  unlabelled_agrees : (name : Name) (first : Term) → Agrees N suc out (Until (Adds IsTerm) (first ∷ []) >>= (λ ts. Gives (subtask_of None name ts))) (unlabelled name first)
  unfolding unlabelled
  unlabelled_agrees name first = agrees_map _ (agrees_items (λ xs c w. step_map (λ x. xs ++ x ∷ []) (term_agrees N c w)) (first ∷ []))

  -- the reader of what follows a subtask's first name agrees with its rule
  tail_agrees : (name : Name) → ItemAgrees N suc out (IsSubtaskTail name) (subtask_tail name)
  unfolding labelled_subtask
  tail_agrees name class.Open w =
      reads (λ k h. omega arith) (agrees_seq (λ k. omega arith) (any_name_agrees N (λ k. suc (suc k))) (λ task_name. agrees_seq (λ k. omega arith) (agrees_at suc (atom_rest_agrees N task_name))
      (λ task. agrees_map (λ _. record { label = Some name; task = task }) (closing_agrees N out))))
  tail_agrees name class.Close w = gives N suc out _
  tail_agrees name class.Variable w = reads (λ k h. h) (unlabelled_agrees name _)
  tail_agrees name class.Name w = reads (λ k h. h) (unlabelled_agrees name _)
  tail_agrees name class.Forall w = nothing N _ _ out true
  tail_agrees name class.Reserved w = nothing N _ _ out true
  tail_agrees name _ w = nothing N _ _ out false

  -- the reader of a subtask after its first name agrees with its rule
  named_subtask_agrees : (name : Name) → Agrees N suc out (Next (IsSubtaskTail name)) (named_subtask name)
  unfolding named_subtask
  named_subtask_agrees name = agrees_word (tail_agrees name)

  -- the reader of a subtask agrees with its rule
  pub subtask_agrees : Agrees N suc out IsSubtaskRest subtask_rest
  unfolding subtask_rest
  subtask_agrees = agrees_seq (λ k. omega arith) (any_name_agrees N suc) named_subtask_agrees

  -- the reader of subtasks after their bracket agrees with its rule
  net_body_agrees : ItemAgrees N suc out IsNetBody net_body
  net_body_agrees class.Close w = gives N suc out []
  net_body_agrees class.And w = reads (λ k h. h) (agrees_list (agrees_opened (agrees_at suc subtask_agrees)))
  net_body_agrees class.Name w = reads (λ k h. h) (agrees_map _ (named_subtask_agrees (name_of w)))
  net_body_agrees class.Forall w = nothing N _ _ out true
  net_body_agrees class.Reserved w = nothing N _ _ out true
  net_body_agrees _ w = nothing N _ _ out false

  -- the reader of subtasks agrees with its rule
  net_agrees : Agrees N suc suc IsNet net
  unfolding net
  net_agrees = agrees_seq (λ k. omega arith) (opening_agrees N suc) (λ _. agrees_at suc (agrees_word net_body_agrees))

  -- the reader of an ordering's first word agrees with its rule
  pair_body_agrees : ItemAgrees N suc out IsPairBody pair_body
  unfolding prefix_pair infix_pair
  pair_body_agrees class.Less w =
      reads (λ k h. h) (agrees_seq (λ k. omega arith) (any_name_agrees N suc) (λ before. agrees_seq (λ k. omega arith) (any_name_agrees N suc)
      (λ after. agrees_map (λ _. record { before = before; after = after }) (closing_agrees N out))))
  pair_body_agrees class.Name w =
      reads (λ k h. h) (agrees_seq (λ k. omega arith) (less_agrees N) (λ _. agrees_seq (λ k. omega arith) (any_name_agrees N suc)
      (λ after. agrees_map (λ _. record { before = name_of w; after = after }) (closing_agrees N out))))
  pair_body_agrees class.Forall w = nothing N _ _ out true
  pair_body_agrees class.Reserved w = nothing N _ _ out true
  pair_body_agrees _ w = nothing N _ _ out false

  -- the reader of an ordering agrees with its rule
  pub pair_agrees : Agrees N suc out (Next IsPairBody) pair_rest
  unfolding pair_rest
  pair_agrees = agrees_word pair_body_agrees

  -- the reader of orderings after their bracket agrees with its rule
  orderings_body_agrees : ItemAgrees N suc out IsOrderingsBody orderings_body
  orderings_body_agrees class.Close w = gives N suc out []
  orderings_body_agrees class.And w = reads (λ k h. h) (agrees_list (agrees_opened (agrees_at suc pair_agrees)))
  orderings_body_agrees c w = step_map (λ p. p ∷ []) (pair_body_agrees c w)

  -- the reader of orderings agrees with its rule
  orderings_agree : Agrees N suc suc IsOrderings orderings
  unfolding orderings
  orderings_agree = agrees_seq (λ k. omega arith) (opening_agrees N suc) (λ _. agrees_at suc (agrees_word orderings_body_agrees))

  -- the reader of a network's section agrees with its rule
  pub network_part_agrees : (d : NetworkParts) → ItemAgrees N suc suc (IsNetworkPart d) (network_part d)
  network_part_agrees d (class.Keyword key.Subtasks) w = step_absent d.subtasks (reads (λ k h. h) (agrees_map _ net_agrees))
  network_part_agrees d (class.Keyword key.OrderedSubtasks) w = step_absent d.subtasks (reads (λ k h. h) (agrees_map _ net_agrees))
  network_part_agrees d (class.Keyword key.Ordering) w = step_absent d.orderings (reads (λ k h. h) (agrees_map _ orderings_agree))
  network_part_agrees d (class.Keyword key.Constraints) w = step_absent d.constraints (reads (λ k h. h) (agrees_map _ (constraint_agrees N)))
  network_part_agrees d (class.Keyword _) w = nothing N _ _ suc true
  network_part_agrees d _ w = nothing N _ _ suc false
