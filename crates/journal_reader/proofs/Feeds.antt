-- No line of an entry has a line feed.
use Rattle.std.proofs.Common.{◌≢◌, ℕ, List, [], ◌∷◌, ◌++◌, refl, subst, arith, codes, decimal}
use Rattle.std.specs.List.{join_with_byte, AllByRecursion}
use Rattle.std.proofs.lemmas.List.Elements.{All-cons, All-nil, All-append}
use Rattle.base_words.specs.Reads.{HasNo}
use Rattle.base_words.specs.Words.{octets_text, hex_u32}
use Rattle.base_words.proofs.Ink.{HasNo-ink, ink_octets, ink_hex_u32}
use Rattle.handle_model.specs.declared.entry.Asked.{Asked}
use Rattle.handle_model.specs.declared.entry.Said.{Said}
use Rattle.handle_model.specs.declared.entry.Said.TheVariants.{Out, Fault}
use Rattle.handle_model.specs.declared.entry.Entry.{Entry}
use Rattle.handle_model.specs.declared.entry.Entry.TheVariants.{Join, Accept, Take, Deny, Cancel, Orphan, End, Leave, Shut}
use Rattle.journal_text.specs.Texts.{slot_text, outcome_text, cookie_text, due_text, said_text, asked_text, list_text}
use Rattle.journal_reader.specs.Fits.{FitsSlot, FitsOutcome, FitsCookie, FitsDue, FitsSaid, FitsAsked, FitsEntry}
use Rattle.journal_reader.specs.Parts.{asked_parts, entry_parts}
use Rattle.journal_reader.proofs.Above.{above_slot, above_outcome, above_cookie, above_due, list_no}
use Rattle.journal_reader.proofs.Marks.{no_name, no_decimal}
use Rattle.journal_reader.proofs.Words.{no_operation, no_order_feed, no_reply_feed, asked_joined}

-- two words with a space between them
pub pair : (x y : List ℕ) → HasNo 10 x → HasNo 10 y → HasNo 10 (x ++ (32 ∷ y))
pair x y h k = All-append (λ b. b ≢ 10) x (32 ∷ y) h (All-cons (λ b. b ≢ 10) 32 y (λ e. omega arith) k)

pub row : (ws : List (List ℕ)) → AllByRecursion (HasNo 10) ws → HasNo 10 (join_with_byte 32 ws)
row [] h = All-nil (λ b. b ≢ 10)
row (w ∷ []) h = h.0
row (w ∷ v ∷ vs) h = pair w (join_with_byte 32 (v ∷ vs)) h.0 (row (v ∷ vs) h.1)

feed_said : (s : Said) → FitsSaid s → HasNo 10 (said_text s)
feed_said (Out stub) f = All-append (λ b. b ≢ 10) (codes "out:") (octets_text stub) (no_name 10 (codes "out:") refl) (HasNo-ink 10 (octets_text stub) (omega arith) (ink_octets stub f))
feed_said (Fault status) f = All-append (λ b. b ≢ 10) (codes "fault:") (hex_u32 status.0) (no_name 10 (codes "fault:") refl) (HasNo-ink 10 (hex_u32 status.0) (omega arith) (ink_hex_u32 status.0))

feed_asked : (a : Asked) → FitsAsked a → HasNo 10 (asked_text a)
feed_asked a f =
    let conn = f.0 in
    subst (λ t. HasNo 10 t) (asked_joined a) (row (asked_parts a) (no_decimal 10 a.conn refl (omega arith), (no_operation 10 refl (λ e. omega arith) (a.iface, a.op) f.1, (no_order_feed a.order, (no_reply_feed a.reply, (list_no FitsSlot slot_text 10 (omega arith) above_slot a.slots f.2, (HasNo-ink 10 (octets_text a.stub) (omega arith) (ink_octets a.stub f.3), tt)))))))

pub HasNo-parts : (e : Entry) → FitsEntry e → AllByRecursion (HasNo 10) (entry_parts e)
HasNo-parts (Join c) f = (no_name 10 (codes "join") refl, (no_decimal 10 c refl (omega arith), tt))
HasNo-parts (Accept k a) f = let n = f.0 in (no_name 10 (codes "accept") refl, (pair (decimal k) (asked_text a) (no_decimal 10 k refl (omega arith)) (feed_asked a f.1), tt))
HasNo-parts (Take k cs) f = let n = f.0 in (no_name 10 (codes "take") refl, (pair (decimal k) (list_text cookie_text cs) (no_decimal 10 k refl (omega arith)) (list_no FitsCookie cookie_text 10 (omega arith) above_cookie cs f.1), tt))
HasNo-parts (Deny k j) f = let n = f.0 in let m = f.1 in (no_name 10 (codes "deny") refl, (pair (decimal k) (decimal j) (no_decimal 10 k refl (omega arith)) (no_decimal 10 j refl (omega arith)), tt))
HasNo-parts (Cancel k) f = (no_name 10 (codes "cancel") refl, (no_decimal 10 k refl (omega arith), tt))
HasNo-parts (Orphan k) f = (no_name 10 (codes "orphan") refl, (no_decimal 10 k refl (omega arith), tt))
HasNo-parts (End k rs said) f =
    let n = f.0 in
    (no_name 10 (codes "end") refl, (pair (decimal k) (list_text outcome_text rs ++ (32 ∷ said_text said)) (no_decimal 10 k refl (omega arith)) (pair (list_text outcome_text rs) (said_text said) (list_no FitsOutcome outcome_text 10 (omega arith) above_outcome rs f.1) (feed_said said f.2)), tt))
HasNo-parts (Leave c) f = (no_name 10 (codes "leave") refl, (no_decimal 10 c refl (omega arith), tt))
HasNo-parts (Shut items) f = (no_name 10 (codes "shut") refl, (list_no FitsDue due_text 10 (omega arith) above_due items f, tt))
