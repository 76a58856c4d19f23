-- The words of a line.
use Rattle.std.proofs.Common.{◌≡◌, ◌≢◌, ℕ, Bool, true, false, Option, List, [], ◌∷◌, ◌++◌, length, refl, sym, ◌∙◌, ap, arith, append_assoc, get_or, codes, decimal}
use Rattle.std.specs.List.{join_with_byte}
use Rattle.std.proofs.lemmas.List.Elements.{All-cons, All-append}
use Rattle.base_words.specs.Reads.{HasNo}
use Rattle.base_words.specs.Words.{octets_text, is_hex_mark}
use Rattle.rpc_base.specs.declared.identifiers.Order.{Order}
use Rattle.rpc_base.specs.declared.identifiers.Order.TheVariants.{Big, Little}
use Rattle.handle_model.specs.declared.entry.Asked.{Asked}
use Rattle.handle_model.specs.declared.entry.Outcome.{Outcome}
use Rattle.handle_model.specs.declared.entry.Said.{Said}
use Rattle.handle_model.specs.declared.entry.Entry.{Entry}
use Rattle.handle_model.specs.declared.entry.Entry.TheVariants.{Join, Accept, Take, Deny, Cancel, Orphan, End, Leave, Shut}
use Rattle.journal_text.specs.Texts.{headed, line, slot_text, outcome_text, cookie_text, said_text, order_text, reply_text, asked_text, list_text}
use Rattle.journal_reader.specs.Fits.{FitsSlot, FitsOutcome, FitsOperation, FitsAsked, FitsAccept, FitsTake, FitsDeny, FitsEnd, FitsEntry}
use Rattle.journal_reader.specs.Parts.{Apart, operation_parts, operation_text, asked_parts, accept_parts, accept_text, take_parts, take_text, deny_parts, deny_text, end_parts, end_text, entry_parts}
use Rattle.journal_reader.proofs.Above.{above_slot, above_outcome, list_no}
use Rattle.journal_reader.proofs.Marks.{no_name, no_decimal, three, second, mark}

-- WHAT A CALL ASKS

pub operation_own : (x : ℕ × ℕ) → FitsOperation x → (length (operation_parts x) ≡ 2) × Apart 46 (operation_parts x)
operation_own x f = let a = f.0 in (refl, (no_decimal 46 x.0 refl (omega arith), tt))

pub no_operation : (c : ℕ) → is_hex_mark c ≡ false → (46 ≡ c → ⊥) → (x : ℕ × ℕ) → FitsOperation x → HasNo c (operation_text x)
no_operation c off other x f =
    let a = f.0 in
    let b = f.1 in
    All-append (λ b. b ≢ c) (decimal x.0) (46 ∷ decimal x.1) (no_decimal c x.0 off (omega arith)) (All-cons (λ b. b ≢ c) 46 (decimal x.1) other (no_decimal c x.1 off (omega arith)))

pub no_order : (o : Order) → HasNo 32 (order_text o)
unfolding order_text
no_order Big = no_name 32 (codes "big") refl
no_order Little = no_name 32 (codes "little") refl

pub no_order_feed : (o : Order) → HasNo 10 (order_text o)
unfolding order_text
no_order_feed Big = no_name 10 (codes "big") refl
no_order_feed Little = no_name 10 (codes "little") refl

pub no_reply : (b : Bool) → HasNo 32 (reply_text b)
unfolding reply_text
no_reply true = no_name 32 (codes "answer") refl
no_reply false = no_name 32 (codes "maybe") refl

pub no_reply_feed : (b : Bool) → HasNo 10 (reply_text b)
unfolding reply_text
no_reply_feed true = no_name 10 (codes "answer") refl
no_reply_feed false = no_name 10 (codes "maybe") refl

pub asked_own : (a : Asked) → FitsAsked a → (length (asked_parts a) ≡ 6) × Apart 32 (asked_parts a)
asked_own a f =
    let conn = f.0 in
    (refl, (no_decimal 32 a.conn refl (omega arith), (no_operation 32 refl (λ e. omega arith) (a.iface, a.op) f.1, (no_order a.order, (no_reply a.reply, (list_no FitsSlot slot_text 32 (omega arith) above_slot a.slots f.2, tt))))))

four : (o r l s : List ℕ) → o ++ (32 ∷ (r ++ (32 ∷ (l ++ (32 ∷ s))))) ≡ (((((o ++ (32 ∷ [])) ++ r) ++ (32 ∷ [])) ++ l) ++ (32 ∷ [])) ++ s
four o r l s =
    let y = 32 ∷ (l ++ (32 ∷ s)) in
    sym (append_assoc (o ++ (32 ∷ [])) r y ∙ append_assoc o (32 ∷ []) (r ++ y)) ∙ three 32 ((o ++ (32 ∷ [])) ++ r) l s

front : (d i p e : List ℕ) → d ++ (32 ∷ ((i ++ (46 ∷ p)) ++ e)) ≡ ((((d ++ (32 ∷ [])) ++ i) ++ (46 ∷ [])) ++ p) ++ e
front d i p e =
    ap (λ t. d ++ (32 ∷ t)) (append_assoc i (46 ∷ p) e) ∙ sym (append_assoc (((d ++ (32 ∷ [])) ++ i) ++ (46 ∷ [])) p e ∙ (append_assoc ((d ++ (32 ∷ [])) ++ i) (46 ∷ []) (p ++ e) ∙ (append_assoc (d ++ (32 ∷ [])) i (46 ∷ (p ++ e)) ∙ append_assoc d (32 ∷ []) (i ++ (46 ∷ (p ++ e))))))

pub asked_joined : (a : Asked) → join_with_byte 32 (asked_parts a) ≡ asked_text a
asked_joined a =
    let o = order_text a.order in
    let r = reply_text a.reply in
    let l = list_text slot_text a.slots in
    let s = octets_text a.stub in
    ap (λ t. decimal a.conn ++ (32 ∷ (operation_text (a.iface, a.op) ++ (32 ∷ t)))) (four o r l s) ∙ front (decimal a.conn) (decimal a.iface) (decimal a.op) (32 ∷ ((((((o ++ (32 ∷ [])) ++ r) ++ (32 ∷ [])) ++ l) ++ (32 ∷ [])) ++ s))

-- THE REST OF A LINE

pub accept_own : (x : ℕ × Asked) → FitsAccept x → (length (accept_parts x) ≡ 2) × Apart 32 (accept_parts x)
accept_own x f = let a = f.0 in (refl, (no_decimal 32 x.0 refl (omega arith), tt))

pub take_own : (x : ℕ × List (Option ℕ)) → FitsTake x → (length (take_parts x) ≡ 2) × Apart 32 (take_parts x)
take_own x f = let a = f.0 in (refl, (no_decimal 32 x.0 refl (omega arith), tt))

pub deny_own : (x : ℕ × ℕ) → FitsDeny x → (length (deny_parts x) ≡ 2) × Apart 32 (deny_parts x)
deny_own x f = let a = f.0 in (refl, (no_decimal 32 x.0 refl (omega arith), tt))

pub end_own : (x : ℕ × List Outcome × Said) → FitsEnd x → (length (end_parts x) ≡ 3) × Apart 32 (end_parts x)
end_own x f =
    let a = f.0 in
    (refl, (no_decimal 32 x.0 refl (omega arith), (list_no FitsOutcome outcome_text 32 (omega arith) above_outcome x.1 f.1, tt)))

pub end_joined : (x : ℕ × List Outcome × Said) → join_with_byte 32 (end_parts x) ≡ end_text x
end_joined x = refl

-- LINES

pub entry_own : (e : Entry) → FitsEntry e → (length (entry_parts e) ≡ 2) × Apart 32 (entry_parts e)
entry_own (Join c) f = (refl, (no_name 32 (codes "join") refl, tt))
entry_own (Accept k a) f = (refl, (no_name 32 (codes "accept") refl, tt))
entry_own (Take k cs) f = (refl, (no_name 32 (codes "take") refl, tt))
entry_own (Deny k j) f = (refl, (no_name 32 (codes "deny") refl, tt))
entry_own (Cancel k) f = (refl, (no_name 32 (codes "cancel") refl, tt))
entry_own (Orphan k) f = (refl, (no_name 32 (codes "orphan") refl, tt))
entry_own (End k rs said) f = (refl, (no_name 32 (codes "end") refl, tt))
entry_own (Leave c) f = (refl, (no_name 32 (codes "leave") refl, tt))
entry_own (Shut items) f = (refl, (no_name 32 (codes "shut") refl, tt))

pub entry_joined : (e : Entry) → join_with_byte 32 (entry_parts e) ≡ line e
unfolding headed
entry_joined (Join c) = refl
entry_joined (Accept k a) = ap (λ t. codes "accept " ++ t) (sym (append_assoc (decimal k) (codes " ") (asked_text a)))
entry_joined (Take k cs) = ap (λ t. codes "take " ++ t) (sym (append_assoc (decimal k) (codes " ") (list_text cookie_text cs)))
entry_joined (Deny k j) = ap (λ t. codes "deny " ++ t) (sym (append_assoc (decimal k) (codes " ") (decimal j)))
entry_joined (Cancel k) = refl
entry_joined (Orphan k) = refl
entry_joined (End k rs said) = ap (λ t. codes "end " ++ t) (three 32 (decimal k) (list_text outcome_text rs) (said_text said))
entry_joined (Leave c) = refl
entry_joined (Shut items) = refl

-- an entry by its first word
pub accept_alone : (e : Entry) (name rest : List ℕ) → FitsEntry e → name ≡ codes "accept" → entry_parts e ≡ name ∷ rest ∷ [] → ((x : ℕ × Asked) → FitsAccept x → accept_text x ≡ rest → ⊥) → ⊥
accept_alone (Accept k a) name rest fits e f none = none (k, a) fits (ap second f)
accept_alone o name rest fits e f none =
    let first : mark (entry_parts o) ≡ 97 = ap mark f ∙ ap (λ w. get_or w 0 0) e in absurd (omega arith)

pub take_alone : (e : Entry) (name rest : List ℕ) → FitsEntry e → name ≡ codes "take" → entry_parts e ≡ name ∷ rest ∷ [] → ((x : ℕ × List (Option ℕ)) → FitsTake x → take_text x ≡ rest → ⊥) → ⊥
take_alone (Take k cs) name rest fits e f none = none (k, cs) fits (ap second f)
take_alone o name rest fits e f none =
    let first : mark (entry_parts o) ≡ 116 = ap mark f ∙ ap (λ w. get_or w 0 0) e in absurd (omega arith)

pub deny_alone : (e : Entry) (name rest : List ℕ) → FitsEntry e → name ≡ codes "deny" → entry_parts e ≡ name ∷ rest ∷ [] → ((x : ℕ × ℕ) → FitsDeny x → deny_text x ≡ rest → ⊥) → ⊥
deny_alone (Deny k j) name rest fits e f none = none (k, j) fits (ap second f)
deny_alone o name rest fits e f none =
    let first : mark (entry_parts o) ≡ 100 = ap mark f ∙ ap (λ w. get_or w 0 0) e in absurd (omega arith)

pub end_alone : (e : Entry) (name rest : List ℕ) → FitsEntry e → name ≡ codes "end" → entry_parts e ≡ name ∷ rest ∷ [] → ((x : ℕ × List Outcome × Said) → FitsEnd x → end_text x ≡ rest → ⊥) → ⊥
end_alone (End k rs said) name rest fits e f none = none (k, rs, said) fits (ap second f)
end_alone o name rest fits e f none =
    let first : mark (entry_parts o) ≡ 101 = ap mark f ∙ ap (λ w. get_or w 0 0) e in absurd (omega arith)
