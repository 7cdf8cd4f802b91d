-- Messages are ASCII, and a report as JSON has no float and nests little.
use Rattle.std.proofs.Common.{◌≡◌, ℕ, zero, suc, ◌-◌, ◌<◌, ◌≤◌, ◌||◌, ◌&&◌, Bool, true, false, not, nat_eq, nat_le, codes, subst, Option, Some, None, List, [], ◌∷◌, ◌++◌, map, filter, length, count_by, refl, sym, ap, ◌∙◌, ⊎_elim, Ordering, Less, Equal, Greater, arith, append-nil}
use Rattle.std.proofs.lemmas.Bool.{cases_Bool}
use Rattle.std.proofs.lemmas.Bool.Decides.{nat_tests}
use Rattle.std.proofs.lemmas.List.Sums.{fold-append}
use Rattle.std.proofs.lemmas.Str.{IsAscii-append, IsUtf8-from_ascii}
use Rattle.std.specs.Str.{IsAscii, IsUtf8}
use Rattle.std.specs.Fmt.{decimal}
use Rattle.std.specs.Ordering.{match_ordering}
use Rattle.diagnostics.specs.Shown.{shown}
use Rattle.serde_json.specs.Data.{Data, null, string, Members, member, no_members, put, depth, items_depth, members_depth}
use Rattle.serde_json.specs.View.{items_of}
use Rattle.serde_json.specs.Written.{has_float, items_have_float, members_have_float}
use Rattle.diagnostics.specs.declared.diagnostic.Part.{Part}
use Rattle.diagnostics.specs.declared.diagnostic.Part.TheVariants.{Words, Name, Number}
use Rattle.diagnostics.specs.declared.diagnostic.Spot.{Spot}
use Rattle.diagnostics.specs.declared.diagnostic.Where.{Where}
use Rattle.diagnostics.specs.declared.diagnostic.Where.TheVariants.{Text, Place}
use Rattle.diagnostics.specs.declared.diagnostic.Remark.{Remark}
use Rattle.diagnostics.specs.declared.diagnostic.Note.{Note}
use Rattle.diagnostics.specs.declared.diagnostic.Diagnostic.{Diagnostic}
use Rattle.diagnostics.specs.declared.reached.Reached.{Reached}
use Rattle.diagnostics.specs.Ink.{Ink, written, said}
use Rattle.diagnostics.specs.Parts.{message_inks, part_inks}
use Rattle.diagnostics.specs.Written.{is_error}
use Rattle.diagnostics.specs.Json.{Named, with_members, object_of, array_of, count, message_json, severity_name, no_place, spot_members, where_members, is_help, remark_json, note_json, help_json, notes_json, diagnostic_json, reached_json, reached_members, report_json}
use Rattle.diagnostics.specs.Verdicts.{explained_json, verdict_json}
use Rattle.diagnostics.proofs.Adds.{written-append}

-- ---- messages

shown_ascii : (b : ℕ) → shown b < 128
shown_ascii b = ⊎_elim (λ as_is. rw as_is (grind (arith, nat_tests, as_is))) (λ hidden. rw hidden (omega arith)) (cases_Bool (nat_eq b 9 || (nat_le 32 b && nat_le b 126)))

words_ascii : (bytes : List ℕ) → IsAscii (map shown bytes)
words_ascii [] i = omega arith
words_ascii (b ∷ bytes) zero = shown_ascii b
words_ascii (b ∷ bytes) (suc i) = words_ascii bytes i

said_ascii : (bytes : List ℕ) → IsAscii (written false (said bytes))
said_ascii bytes = subst IsAscii (sym (append-nil (map shown bytes))) (words_ascii bytes)

two_ascii : (xs ys : List Ink) → IsAscii (written false xs) → IsAscii (written false ys) → IsAscii (written false (xs ++ ys))
two_ascii xs ys p q = subst IsAscii (sym (written-append false xs ys)) (IsAscii-append (written false xs) (written false ys) p q)

part_ascii : (p : Part) → IsAscii (written false (part_inks p))
part_ascii (Words bytes) = said_ascii bytes.now
part_ascii (Name bytes) =
    let tick = said_ascii (codes "`") in
    two_ascii (said (codes "`")) (said bytes.now ++ said (codes "`")) tick (two_ascii (said bytes.now) (said (codes "`")) (said_ascii bytes.now) tick)
part_ascii (Number n) = said_ascii (decimal n)

message_ascii : (parts : List Part) → IsAscii (written false (message_inks parts))
message_ascii [] = λ i. omega arith
message_ascii (p ∷ parts) = two_ascii (part_inks p) (message_inks parts) (part_ascii p) (message_ascii parts)

pub message_utf8 : (parts : List Part) → IsUtf8 (written false (message_inks parts))
message_utf8 parts = IsUtf8-from_ascii (written false (message_inks parts)) (message_ascii parts)

-- ---- members

pub members-append : (ms : Members) (xs ys : List Named) → with_members ms (xs ++ ys) ≡ with_members (with_members ms xs) ys
members-append ms xs ys = fold-append _ ms xs ys

-- ---- no float, and little depth

abbrev pub IsPlain : ℕ → Data → Type 0
IsPlain n d = (has_float d ≡ false) × (depth d ≤ n)

abbrev pub ArePlain : ℕ → List Named → Type 0
ArePlain n [] = Unit {0}
ArePlain n (m ∷ ms) = IsPlain n m.1 × ArePlain n ms

abbrev AreMembers : ℕ → Members → Type 0
AreMembers n ms = (members_have_float ms ≡ false) × (members_depth ms ≤ n)

neither : (a b : Bool) → a ≡ false → b ≡ false → (a || b) ≡ false
neither a b f g = rw (f, g) refl

left_of : (a b : Bool) → (a || b) ≡ false → a ≡ false
left_of true b h = absurd (cc)
left_of false b h = refl

right_of : (a b : Bool) → (a || b) ≡ false → b ≡ false
right_of true b h = absurd (cc)
right_of false b h = h

put_at : (n : ℕ) (o : Ordering) (k l : List ℕ) (d e : Data) (ms more : Members) → IsPlain n d → AreMembers n (member l e ms) → AreMembers n more
    → AreMembers n (match_ordering o (member k d (member l e ms)) (member l d ms) (member l e more))
put_at n Less k l d e ms more p q r = (neither (has_float d) _ p.0 q.0, omega arith)
put_at n Equal k l d e ms more p q r = (neither (has_float d) _ p.0 (right_of (has_float e) _ q.0), omega arith)
put_at n Greater k l d e ms more p q r = (neither (has_float e) _ (left_of (has_float e) (members_have_float ms) q.0) r.0, omega arith)

put_plain : (n : ℕ) (k : List ℕ) (d : Data) (ms : Members) → IsPlain n d → AreMembers n ms → AreMembers n (put k d ms)
put_plain n k d no_members p q = (neither (has_float d) false p.0 refl, omega arith)
put_plain n k d (member l e ms) p q =
    put_at n _ k l d e ms (put k d ms) p q (put_plain n k d ms p (right_of (has_float e) _ q.0, omega arith))

with_plain : (n : ℕ) (ms : Members) (more : List Named) → AreMembers n ms → ArePlain n more → AreMembers n (with_members ms more)
with_plain n ms [] q r = q
with_plain n ms (m ∷ more) q r = with_plain n (put m.0 m.1 ms) more (put_plain n m.0 m.1 ms r.0 q) r.1

object_plain : (n : ℕ) (ms : List Named) → ArePlain n ms → IsPlain (suc n) (object_of ms)
object_plain n ms r = let q : AreMembers n (with_members no_members ms) = with_plain n no_members ms (refl, omega arith) r in (q.0, omega (arith, q.1))

items_plain : {X : Type 0} (n : ℕ) (f : X → Data) → ((x : X) → IsPlain n (f x)) → (xs : List X) (ds : List Data)
    → (items_have_float (items_of ds) ≡ false) × (items_depth (items_of ds) ≤ n)
    → (items_have_float (items_of (map f xs ++ ds)) ≡ false) × (items_depth (items_of (map f xs ++ ds)) ≤ n)
items_plain n f each [] ds rest = rest
items_plain n f each (x ∷ xs) ds rest =
    let more = items_plain n f each xs ds rest in
    (neither (has_float (f x)) _ (each x).0 more.0, omega (arith, (each x).1, more.1))

array_plain : {X : Type 0} (n : ℕ) (f : X → Data) → ((x : X) → IsPlain n (f x)) → (xs : List X) → IsPlain (suc n) (array_of (map f xs))
array_plain n f each xs =
    let all = items_plain n f each xs [] (refl, omega arith) in
    let e = append-nil (map f xs) in
    (ap (λ ds. items_have_float (items_of ds)) (sym e) ∙ all.0, omega (arith, all.1, ap (λ ds. items_depth (items_of ds)) e))

-- a string, a number or nothing
leaf : (n : ℕ) → (false ≡ false) × (0 ≤ n)
leaf n = (refl, omega arith)

deeper : (m n : ℕ) (d : Data) → m ≤ n → IsPlain m d → IsPlain n d
deeper m n d h p = (p.0, omega (arith, p.1))

spot_plain : (n : ℕ) (s : Spot) (more : List Named) → ArePlain n more → ArePlain n (spot_members s ++ more)
spot_plain n s more r = (leaf n, (leaf n, (leaf n, (leaf n, (leaf n, r)))))

where_plain : (n : ℕ) (w : Where) (more : List Named) → ArePlain n more → ArePlain n (where_members w ++ more)
where_plain n (Text source) more r = (leaf n, (leaf n, (leaf n, (leaf n, (leaf n, (leaf n, r))))))
where_plain n (Place spot) more r = (leaf n, (leaf n, (leaf n, (leaf n, (leaf n, (leaf n, r))))))

remark_plain : (r : Remark) → IsPlain 1 (remark_json r)
remark_plain r =
    let last : List Named = (codes "message", message_json r.message.items) ∷ [] in
    object_plain 0 ((codes "text", null) ∷ (codes "file", null) ∷ no_place ++ last) (leaf 0, (leaf 0, (leaf 0, (leaf 0, (leaf 0, (leaf 0, tt))))))

note_plain : (n : Note) → IsPlain 1 (note_json n)
note_plain n =
    let last : List Named = (codes "message", message_json n.message.items) ∷ [] in
    object_plain 0 (spot_members n.spot ++ last) (spot_plain 0 n.spot last (leaf 0, tt))

help_plain : (rs : List Remark) → IsPlain 1 (help_json rs)
help_plain rs = array_plain 0 (λ (r : Remark). message_json r.message.items) (λ (r : Remark). leaf 0) (filter (λ (r : Remark). is_help r.kind) rs)

notes_plain : (d : Diagnostic) → IsPlain 2 (notes_json d)
notes_plain d =
    let placed = array_plain 1 note_json note_plain d.notes.items in
    let all = items_plain 1 remark_json remark_plain (filter (λ (r : Remark). not (is_help r.kind)) d.remarks.items) (map note_json d.notes.items) (placed.0, omega (arith, placed.1)) in
    (all.0, omega (arith, all.1))

diagnostic_plain : (d : Diagnostic) → IsPlain 3 (diagnostic_json d)
diagnostic_plain d =
    let last : List Named = (codes "message", message_json d.message.items) ∷ (codes "help", help_json d.remarks.items) ∷ (codes "notes", notes_json d) ∷ [] in
    let more : ArePlain 2 last = (leaf 2, (deeper 1 2 (help_json d.remarks.items) (omega arith) (help_plain d.remarks.items), (notes_plain d, tt))) in
    object_plain 2 ((codes "severity", string (severity_name d.severity)) ∷ (codes "code", string d.code.now) ∷ where_members d.about ++ last)
    (leaf 2, (leaf 2, where_plain 2 d.about last more))

reached_plain : (r : Reached) → IsPlain 1 (reached_json r)
reached_plain r =
    object_plain 0 ((codes "actions", count r.actions) ∷ (codes "methods", count r.methods) ∷ (codes "facts", count r.facts) ∷ []) (leaf 0, (leaf 0, (leaf 0, tt)))

known_plain : (o : Option Reached) → ArePlain 4 (reached_members o)
known_plain None = tt
known_plain (Some r) = (deeper 1 4 (reached_json r) (omega arith) (reached_plain r), (leaf 4, tt))

pub report_plain : (ds : List Diagnostic) (reached : Option Reached) → IsPlain 5 (report_json ds reached)
report_plain ds reached =
    let errors = count_by (λ (d : Diagnostic). is_error d.severity) ds in
    let ms : List Named = (codes "format", string (codes "htnplan-check")) ∷ (codes "version", count 1) ∷ (codes "errors", count errors)
    ∷ (codes "warnings", count (length ds - errors)) ∷ (codes "diagnostics", array_of (map diagnostic_json ds)) ∷ reached_members reached in
    object_plain 4 ms (leaf 4, (leaf 4, (leaf 4, (leaf 4, (array_plain 3 diagnostic_json diagnostic_plain ds, known_plain reached)))))

pub explained_plain : (verdict : Option (List ℕ)) (ds : List Diagnostic) → IsPlain 5 (explained_json verdict ds)
explained_plain verdict ds = object_plain 4 (members verdict) (leaf 4, (leaf 4, (judged verdict, (array_plain 3 diagnostic_json diagnostic_plain ds, tt))))
  where
    members : Option (List ℕ) → List Named
    members v = (codes "format", string (codes "htnplan-explain")) ∷ (codes "version", count 1) ∷ (codes "verdict", verdict_json v) ∷ (codes "diagnostics", array_of (map diagnostic_json ds)) ∷ []

    judged : (v : Option (List ℕ)) → IsPlain 4 (verdict_json v)
    judged None = leaf 4
    judged (Some words) = leaf 4
