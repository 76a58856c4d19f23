-- The octets of items: each is above the comma and the dash.
use Rattle.std.proofs.Common.{◌≡◌, ◌≢◌, ℕ, ◌+◌, ◌*◌, ◌/◌, ◌%◌, ◌<◌, ◌≤◌, ◌^◌, true, Option, Some, None, List, [], ◌∷◌, ◌++◌, refl, ap, sym, ◌∙◌, arith, All, codes, decimal}
use Rattle.std.specs.Prelude.{nat_le}
use Rattle.std.specs.Int.{to_be_bytes, w32, w64}
use Rattle.std.specs.List.{list_all, AllByRecursion}
use Rattle.std.proofs.lemmas.Bool.{and_parts}
use Rattle.std.proofs.lemmas.Bool.Decides.{nat_tests}
use Rattle.std.proofs.lemmas.List.Elements.{All-cons, All-nil, All-append}
use Rattle.hex.specs.Hex.{encode_lower, IsBytes}
use Rattle.base_words.specs.Reads.{HasNo}
use Rattle.base_words.specs.Words.{hex_u32, hex_u64, hex_u128, is_hex_mark}
use Rattle.base_words.proofs.Hexadecimal.{marks-encode}
use Rattle.base_words.proofs.Numbers.{IsBytes-be_4, IsBytes-be_8}
use Rattle.base_words.proofs.Wide.{hex_u128-halves}
use Rattle.rpc_base.specs.declared.identifiers.WireHandle.{WireHandle}
use Rattle.handle_model.specs.declared.entry.Slot.{Slot}
use Rattle.handle_model.specs.declared.entry.Slot.TheVariants.{Shares, Holds, Changes, Opens}
use Rattle.handle_model.specs.declared.entry.Outcome.{Outcome}
use Rattle.handle_model.specs.declared.entry.Outcome.TheVariants.{Keep, Close, Issue, Nothing}
use Rattle.handle_model.specs.declared.entry.DueItem.{DueItem}
use Rattle.journal_text.specs.Texts.{wire_text, use_word, slot_text, outcome_text, cookie_text, due_text, list_text, tail_text}
use Rattle.journal_reader.specs.Fits.{FitsSlot, FitsOutcome, FitsCookie, FitsDue, FitsConn}
use Rattle.journal_reader.specs.Lists.{IsItemText}
use Rattle.journal_reader.proofs.Marks.{marks_decimal}

abbrev pub IsAbove : List ℕ → Type 0
IsAbove w = All (λ b. 46 ≤ b) w

joined : (a b : List ℕ) → IsAbove a → IsAbove b → IsAbove (a ++ b)
joined a b h k = All-append (λ b. 46 ≤ b) a b h k

-- literals: `name (codes "close") refl`
name : (w : List ℕ) → list_all (nat_le 46) w ≡ true → IsAbove w
name [] h = All-nil (λ b. 46 ≤ b)
name (b ∷ w) h =
    let parts = and_parts (nat_le 46 b) (list_all (nat_le 46) w) h in
    All-cons (λ b. 46 ≤ b) b w (let first = parts.0 in grind (arith, nat_tests)) (name w parts.1)

mark_above : (c : ℕ) → is_hex_mark c ≡ true → 46 ≤ c
mark_above c h = grind (arith, nat_tests)

number : (n : ℕ) → n < 2 ^ 64 → IsAbove (decimal n)
number n h = let marks = marks_decimal n h in λ k d lt. mark_above _ (marks k d lt)

above_marks : (w : List ℕ) → list_all is_hex_mark w ≡ true → IsAbove w
above_marks [] h = All-nil (λ b. 46 ≤ b)
above_marks (b ∷ w) h =
    let parts = and_parts (is_hex_mark b) (list_all is_hex_mark w) h in
    All-cons (λ b. 46 ≤ b) b w (mark_above b parts.0) (above_marks w parts.1)

above_hex : (xs : List ℕ) → IsBytes xs → IsAbove (encode_lower xs)
above_hex xs bytes = above_marks (encode_lower xs) (marks-encode xs bytes)

above_u32 : (n : ℕ) → IsAbove (hex_u32 n)
unfolding hex_u32
above_u32 n = above_hex (to_be_bytes w32 n) (IsBytes-be_4 n)

above_u64 : (n : ℕ) → IsAbove (hex_u64 n)
unfolding hex_u64
above_u64 n = above_hex (to_be_bytes w64 n) (IsBytes-be_8 n)

above_u128 : (n : ℕ) → IsAbove (hex_u128 n)
above_u128 n =
    let high = n / 2 ^ 64 in
    let low = n % 2 ^ 64 in
    let whole : high * 2 ^ 64 + low ≡ n = omega arith in
    let both : hex_u128 n ≡ hex_u64 high ++ hex_u64 low = ap hex_u128 (sym whole) ∙ hex_u128-halves high low (omega arith) in
    rw both (joined (hex_u64 high) (hex_u64 low) (above_u64 high) (above_u64 low))

above_wire : (w : WireHandle) → IsAbove (wire_text w)
above_wire w = joined (hex_u32 w.attributes) (hex_u128 w.id) (above_u32 w.attributes) (above_u128 w.id)

-- ITEMS

of_slot : (use_of object : List ℕ) (k : ℕ) → k < 2 ^ 32 → IsAbove use_of → IsAbove object → IsAbove (((use_of ++ decimal k) ++ codes ":") ++ object)
of_slot use_of object k lt a b =
    joined ((use_of ++ decimal k) ++ codes ":") object (joined (use_of ++ decimal k) (codes ":") (joined use_of (decimal k) a (number k (omega arith))) (name (codes ":") refl)) b

pub above_slot : (s : Slot) → FitsSlot s → IsAbove (slot_text s)
unfolding use_word
above_slot (Shares k w) f = of_slot (codes "shares:") (wire_text w) k f.0 (name (codes "shares:") refl) (above_wire w)
above_slot (Holds k w) f = of_slot (codes "holds:") (wire_text w) k f.0 (name (codes "holds:") refl) (above_wire w)
above_slot (Changes k w) f = of_slot (codes "changes:") (wire_text w) k f.0 (name (codes "changes:") refl) (above_wire w)
above_slot (Opens k s) f = let small = f.1 in of_slot (codes "opens:") (decimal s) k f.0 (name (codes "opens:") refl) (number s (omega arith))

pub above_outcome : (o : Outcome) → FitsOutcome o → IsAbove (outcome_text o)
above_outcome (Keep c) f = joined (codes "keep:") (decimal c) (name (codes "keep:") refl) (number c f)
above_outcome Close f = name (codes "close") refl
above_outcome (Issue s c) f =
    let small = f.0 in
    joined ((codes "issue:" ++ decimal s) ++ codes ":") (decimal c) (joined (codes "issue:" ++ decimal s) (codes ":") (joined (codes "issue:") (decimal s) (name (codes "issue:") refl) (number s (omega arith))) (name (codes ":") refl)) (number c f.1)
above_outcome Nothing f = name (codes "none") refl

pub above_cookie : (c : Option ℕ) → FitsCookie c → IsAbove (cookie_text c)
above_cookie None f = name (codes "none") refl
above_cookie (Some c) f = number c f

pub above_due : (d : DueItem) → FitsDue d → IsAbove (due_text d)
above_due d f =
    let a = f.0 in
    let b = f.1 in
    joined (((decimal d.serial ++ codes ":") ++ decimal d.kind) ++ codes ":") (decimal d.cookie) (joined ((decimal d.serial ++ codes ":") ++ decimal d.kind) (codes ":") (joined (decimal d.serial ++ codes ":") (decimal d.kind) (joined (decimal d.serial) (codes ":") (number d.serial (omega arith)) (name (codes ":") refl)) (number d.kind (omega arith))) (name (codes ":") refl)) (number d.cookie f.2)

pub above_conn : (c : ℕ) → FitsConn c → IsAbove (decimal c)
above_conn c f = number c (omega arith)

-- such a text may be an item's
item : (w : List ℕ) → IsAbove w → IsItemText w
item w h = ((λ k d lt e. let over = h k d lt in omega arith), λ e. let over = h 0 0 (rw e (omega arith)) in let f = rw e at over in absurd (omega arith))

pub slot_item : (s : Slot) → FitsSlot s → IsItemText (slot_text s)
slot_item s f = item (slot_text s) (above_slot s f)

pub outcome_item : (o : Outcome) → FitsOutcome o → IsItemText (outcome_text o)
outcome_item o f = item (outcome_text o) (above_outcome o f)

pub cookie_item : (c : Option ℕ) → FitsCookie c → IsItemText (cookie_text c)
cookie_item c f = item (cookie_text c) (above_cookie c f)

pub due_item : (d : DueItem) → FitsDue d → IsItemText (due_text d)
due_item d f = item (due_text d) (above_due d f)

pub conn_item : (c : ℕ) → FitsConn c → IsItemText (decimal c)
conn_item c f = item (decimal c) (above_conn c f)

-- LISTS: no space and no line feed stands in one

HasNo-above : (c : ℕ) (w : List ℕ) → c < 46 → IsAbove w → HasNo c w
HasNo-above c w low h = λ k d lt e. let over = h k d lt in omega arith

tail_no : {X : Type 0} (fits : X → Type 0) (text : X → List ℕ) (c : ℕ) → c < 44 → ((x : X) → fits x → IsAbove (text x)) → (xs : List X) → AllByRecursion fits xs → HasNo c (tail_text text xs)
tail_no fits text c low above [] f = All-nil (λ b. b ≢ c)
tail_no fits text c low above (x ∷ xs) f =
    All-cons (λ b. b ≢ c) 44 (text x ++ tail_text text xs) (λ e. omega arith) (All-append (λ b. b ≢ c) (text x) (tail_text text xs) (HasNo-above c (text x) (omega arith) (above x f.0)) (tail_no fits text c low above xs f.1))

pub list_no : {X : Type 0} (fits : X → Type 0) (text : X → List ℕ) (c : ℕ) → c < 44 → ((x : X) → fits x → IsAbove (text x)) → (xs : List X) → AllByRecursion fits xs → HasNo c (list_text text xs)
list_no fits text c low above [] f = All-cons (λ b. b ≢ c) 45 [] (λ e. omega arith) (All-nil (λ b. b ≢ c))
list_no fits text c low above (x ∷ xs) f =
    All-append (λ b. b ≢ c) (text x) (tail_text text xs) (HasNo-above c (text x) (omega arith) (above x f.0)) (tail_no fits text c low above xs f.1)
