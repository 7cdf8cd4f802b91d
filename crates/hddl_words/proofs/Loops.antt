-- The loops of the readers.
use Rattle.std.proofs.Common.{◌≡◌, ℕ, suc, true, false, List, [], ◌∷◌, ◌++◌, ap, ◌∙◌}
use Rattle.hddl_words.specs.declared.cursor.Stop.{Stop}
use Rattle.hddl_words.specs.Words.{Word}
use Rattle.hddl_words.specs.Class.{class_of}
use Rattle.hddl_words.specs.Reading.{Item, take_word, read, failed, run, until, adds, is_close, pure, and_then}
use Rattle.hddl_words.specs.Phrase.{ItemPhrase, Adds}
use Rattle.hddl_words.proofs.Agree.{ItemAgrees, followed_run}
use Rattle.hddl_words.proofs.AgreeMore.{step_map, until_failed, until_close, until_item_failed, until_more}

-- a loop that collects items up to the closing bracket
module _ {A : Type 0} (R : ItemPhrase A) (item : Item A) (g : (N : ℕ) → ItemAgrees N suc suc R item) where
  -- an item that is added to those before it agrees with its rule
  adds_agree : (N : ℕ) (xs : List A) → ItemAgrees N suc suc (Adds R xs) (adds item xs)
  adds_agree N xs c w = step_map (λ x. xs ++ x ∷ []) (g N c w)

  -- where no word is left, the list stops
  pub list_failed : (xs : List A) (ws : List Word) (e : Stop) → take_word ws ≡ failed e → until (adds item) xs ws ≡ failed e
  list_failed = until_failed (Adds R) (adds item) adds_agree

  -- at the closing bracket the list is what was read
  pub list_close : (xs : List A) (ws rest : List Word) (w : Word) → take_word ws ≡ read w rest → is_close (class_of w) ≡ true → until (adds item) xs ws ≡ read xs rest
  list_close = until_close (Adds R) (adds item) adds_agree

  -- where an item stops, the list does
  pub list_item_failed : (xs : List A) (ws rest : List Word) (w : Word) (e : Stop) → take_word ws ≡ read w rest → is_close (class_of w) ≡ false → run (item (class_of w) w) rest ≡ failed e → until (adds item) xs ws ≡ failed e
  list_item_failed xs ws rest w e is inside stops =
      until_item_failed (Adds R) (adds item) adds_agree xs ws rest w e is inside (followed_run (item (class_of w) w) _ rest ∙ ap (λ o. and_then o (λ x. pure (xs ++ x ∷ []))) stops)

  -- where an item is read, it is added and the list goes on
  pub list_more : (xs : List A) (x : A) (ws rest mid : List Word) (w : Word) → take_word ws ≡ read w rest → is_close (class_of w) ≡ false → run (item (class_of w) w) rest ≡ read x mid → until (adds item) xs ws ≡ until (adds item) (xs ++ x ∷ []) mid
  list_more xs x ws rest mid w is inside goes =
      until_more (Adds R) (adds item) adds_agree xs (xs ++ x ∷ []) ws rest mid w is inside (followed_run (item (class_of w) w) _ rest ∙ ap (λ o. and_then o (λ x. pure (xs ++ x ∷ []))) goes)

-- what one turn of such a loop does
pub record ListTurns {A : Type 0} (item : Item A) : Type 0 where
  pub fails : (xs : List A) (ws : List Word) (e : Stop) → take_word ws ≡ failed e → until (adds item) xs ws ≡ failed e
  pub closes : (xs : List A) (ws rest : List Word) (w : Word) → take_word ws ≡ read w rest → is_close (class_of w) ≡ true → until (adds item) xs ws ≡ read xs rest
  pub item_fails : (xs : List A) (ws rest : List Word) (w : Word) (e : Stop) → take_word ws ≡ read w rest → is_close (class_of w) ≡ false → run (item (class_of w) w) rest ≡ failed e → until (adds item) xs ws ≡ failed e
  pub goes_on : (xs : List A) (x : A) (ws rest mid : List Word) (w : Word) → take_word ws ≡ read w rest → is_close (class_of w) ≡ false → run (item (class_of w) w) rest ≡ read x mid → until (adds item) xs ws ≡ until (adds item) (xs ++ x ∷ []) mid

-- a list whose items agree with a rule is read turn by turn
pub list_turns : {A : Type 0} (R : ItemPhrase A) (item : Item A) → ((N : ℕ) → ItemAgrees N suc suc R item) → ListTurns item
list_turns R item g = record { fails = list_failed R item g; closes = list_close R item g; item_fails = list_item_failed R item g; goes_on = list_more R item g }

-- the same of a loop that adds to a draft
pub record DraftTurns {D : Type 0} (item : D → Item D) : Type 0 where
  pub fails : (d : D) (ws : List Word) (e : Stop) → take_word ws ≡ failed e → until item d ws ≡ failed e
  pub closes : (d : D) (ws rest : List Word) (w : Word) → take_word ws ≡ read w rest → is_close (class_of w) ≡ true → until item d ws ≡ read d rest
  pub item_fails : (d : D) (ws rest : List Word) (w : Word) (e : Stop) → take_word ws ≡ read w rest → is_close (class_of w) ≡ false → run (item d (class_of w) w) rest ≡ failed e → until item d ws ≡ failed e
  pub goes_on : (d f : D) (ws rest mid : List Word) (w : Word) → take_word ws ≡ read w rest → is_close (class_of w) ≡ false → run (item d (class_of w) w) rest ≡ read f mid → until item d ws ≡ until item f mid

-- a draft whose items agree with a rule is read turn by turn
pub draft_turns : {D : Type 0} (F : D → ItemPhrase D) (item : D → Item D) → ((N : ℕ) (d : D) → ItemAgrees N suc suc (F d) (item d)) → DraftTurns item
draft_turns F item g = record { fails = until_failed F item g; closes = until_close F item g; item_fails = until_item_failed F item g; goes_on = until_more F item g }
