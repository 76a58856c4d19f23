-- The words of the lines that begin a journal.
use Rattle.std.proofs.Common.{◌≡◌, ℕ, Bool, true, false, List, [], ◌∷◌, ◌++◌, length, refl, sym, ◌∙◌, ap, arith, append_assoc, codes, decimal}
use Rattle.std.specs.List.{join_with_byte, AllByRecursion}
use Rattle.base_words.specs.Reads.{HasNo}
use Rattle.base_words.specs.Words.{octets_text, hex_u64}
use Rattle.base_words.proofs.Ink.{HasNo-ink, ink_octets, ink_hex_u64}
use Rattle.handle_model.specs.declared.entry.Home.{Home}
use Rattle.handle_model.specs.declared.entry.Asked.{Asked}
use Rattle.handle_model.specs.declared.base.BaseCall.{BaseCall}
use Rattle.handle_model.specs.declared.base.Base.{Base}
use Rattle.journal_text.specs.Texts.{headed, slot_text, due_text, order_text, reply_text, asked_text, list_text, stage_text, base_lists, base_end, base_line, call_line}
use Rattle.journal_reader.specs.Fits.{FitsSlot, FitsDue, FitsConn, FitsHome, FitsBase, FitsCalled, FitsCall}
use Rattle.journal_reader.specs.Parts.{Apart, home_parts, home_text, base_parts, base_rest, operation_text, called_parts, called_text, call_parts, call_text}
use Rattle.journal_reader.proofs.Above.{above_slot, above_due, above_conn, list_no}
use Rattle.journal_reader.proofs.Marks.{no_name, no_decimal, three}
use Rattle.journal_reader.proofs.Words.{asked_joined, no_operation, no_order, no_reply, no_order_feed, no_reply_feed}

-- PARTS WITHOUT SPACES

pub home_own : (h : Home) → FitsHome h → (length (home_parts h) ≡ 3) × Apart 32 (home_parts h)
home_own h f = let a = f.0 in (refl, (no_decimal 32 h.group refl (omega arith), (no_name 32 (codes "boot") refl, tt)))

pub base_own : (b : Base) → FitsBase b → (length (base_parts b) ≡ 6) × Apart 32 (base_parts b)
base_own b f =
    let count = f.0.1 in
    let joins = f.1 in
    let accepts = f.2 in
    let opens = f.3 in
    (refl, (no_decimal 32 b.count refl (omega arith), (no_decimal 32 b.joins refl (omega arith), (no_decimal 32 b.accepts refl (omega arith), (no_decimal 32 b.opens refl (omega arith), (list_no FitsConn decimal 32 (omega arith) above_conn b.conns f.4, tt))))))

pub called_own : (x : Asked × (Bool × Bool × Bool)) → FitsCalled x → (length (called_parts x) ≡ 7) × Apart 32 (called_parts x)
called_own x f =
    let a = x.0 in
    let conn = f.0.0 in
    (refl, (no_decimal 32 a.conn refl (omega arith), (no_operation 32 refl (λ e. omega arith) (a.iface, a.op) f.0.1, (no_order a.order, (no_reply a.reply, (list_no FitsSlot slot_text 32 (omega arith) above_slot a.slots f.0.2, (HasNo-ink 32 (octets_text a.stub) (omega arith) (ink_octets a.stub f.0.3), tt)))))))

pub call_own : (c : BaseCall) → FitsCall c → (length (call_parts c) ≡ 2) × Apart 32 (call_parts c)
call_own c f = let a = f.0 in (refl, (no_decimal 32 c.call refl (omega arith), tt))

-- PARTS JOINED: texts go on from the left, cuts from the right

join_last : (w : List ℕ) (ws : List (List ℕ)) (v : List ℕ) → join_with_byte 32 (w ∷ ws ++ v ∷ []) ≡ join_with_byte 32 (w ∷ ws) ++ (32 ∷ v)
join_last w [] v = refl
join_last w (u ∷ us) v =
    ap (λ t. w ++ (32 ∷ t)) (join_last u us v) ∙ sym (append_assoc w (32 ∷ join_with_byte 32 (u ∷ us)) (32 ∷ v))

pub home_joined : (h : Home) → codes "group" ++ (32 ∷ home_text h) ≡ (headed (codes "group") h.group ++ codes " boot ") ++ hex_u64 h.boot
unfolding headed
home_joined h = ap (λ t. codes "group " ++ t) (sym (append_assoc (decimal h.group) (codes " boot ") (hex_u64 h.boot)))

pairs : (x y z : List ℕ) → x ++ (32 ∷ (y ++ z)) ≡ ((x ++ (32 ∷ [])) ++ y) ++ z
pairs x y z = sym (append_assoc (x ++ (32 ∷ [])) y z ∙ append_assoc x (32 ∷ []) (y ++ z))

lists_joined : (b : Base) → 32 ∷ (list_text decimal b.conns ++ (32 ∷ list_text due_text b.handles)) ≡ base_lists b
lists_joined b = ap (λ t. 32 ∷ t) (sym (append_assoc (list_text decimal b.conns) (32 ∷ []) (list_text due_text b.handles)))

end_joined : (b : Base) (lists : List ℕ) → lists ≡ base_lists b → 32 ∷ (decimal b.accepts ++ (32 ∷ (decimal b.opens ++ lists))) ≡ base_end b
end_joined b lists e =
    ap (λ t. 32 ∷ t) (pairs (decimal b.accepts) (decimal b.opens) lists) ∙ ap (λ t. 32 ∷ (((decimal b.accepts ++ (32 ∷ [])) ++ decimal b.opens) ++ t)) e

pub base_joined : (b : Base) → codes "base" ++ (32 ∷ base_rest b) ≡ base_line b
unfolding headed
base_joined b =
    let lists : List ℕ = 32 ∷ (list_text decimal b.conns ++ (32 ∷ list_text due_text b.handles)) in
    let numbers : List ℕ = 32 ∷ (decimal b.accepts ++ (32 ∷ (decimal b.opens ++ lists))) in
    ap (λ t. codes "base " ++ t) (pairs (decimal b.count) (decimal b.joins) numbers) ∙ ap (λ t. codes "base " ++ (((decimal b.count ++ (32 ∷ [])) ++ decimal b.joins) ++ t)) (end_joined b lists (lists_joined b))

abbrev asked_rest : Asked → List (List ℕ)
asked_rest a =
    operation_text (a.iface, a.op) ∷ order_text a.order ∷ reply_text a.reply ∷ list_text slot_text a.slots ∷ octets_text a.stub ∷ []

called_joined : (a : Asked) (t c o : Bool) → called_text (a, (t, c, o)) ≡ asked_text a ++ (32 ∷ stage_text (t, c, o))
called_joined a t c o =
    let rest : List (List ℕ) = asked_rest a in
    join_last (decimal a.conn) rest (stage_text (t, c, o)) ∙ ap (λ x. x ++ (32 ∷ stage_text (t, c, o))) (asked_joined a)

pub call_joined : (c : BaseCall) → codes "base-call" ++ (32 ∷ call_text c) ≡ call_line c
unfolding headed
call_joined c =
    ap (λ t. codes "base-call " ++ (decimal c.call ++ (32 ∷ t))) (called_joined c.asked c.taken c.cancelled c.orphaned) ∙ ap (λ t. codes "base-call " ++ t) (three 32 (decimal c.call) (asked_text c.asked) (stage_text (c.taken, c.cancelled, c.orphaned)))

-- PARTS WITHOUT LINE FEEDS

pub feed_home : (h : Home) → FitsHome h → AllByRecursion (HasNo 10) (home_parts h)
feed_home h f =
    let a = f.0 in
    (no_decimal 10 h.group refl (omega arith), (no_name 10 (codes "boot") refl, (HasNo-ink 10 (hex_u64 h.boot) (omega arith) (ink_hex_u64 h.boot), tt)))

pub feed_base : (b : Base) → FitsBase b → AllByRecursion (HasNo 10) (base_parts b)
feed_base b f =
    let count = f.0.1 in
    let joins = f.1 in
    let accepts = f.2 in
    let opens = f.3 in
    (no_decimal 10 b.count refl (omega arith), (no_decimal 10 b.joins refl (omega arith), (no_decimal 10 b.accepts refl (omega arith), (no_decimal 10 b.opens refl (omega arith), (list_no FitsConn decimal 10 (omega arith) above_conn b.conns f.4, (list_no FitsDue due_text 10 (omega arith) above_due b.handles f.5, tt))))))

no_stage_feed : (s : Bool × Bool × Bool) → HasNo 10 (stage_text s)
unfolding stage_text
no_stage_feed (false, c, o) = no_name 10 (codes "waiting") refl
no_stage_feed (true, false, false) = no_name 10 (codes "taken") refl
no_stage_feed (true, true, false) = no_name 10 (codes "taken-cancel") refl
no_stage_feed (true, false, true) = no_name 10 (codes "taken-orphan") refl
no_stage_feed (true, true, true) = no_name 10 (codes "taken-cancel-orphan") refl

pub feed_called : (x : Asked × (Bool × Bool × Bool)) → FitsCalled x → AllByRecursion (HasNo 10) (called_parts x)
feed_called x f =
    let a = x.0 in
    let conn = f.0.0 in
    (no_decimal 10 a.conn refl (omega arith), (no_operation 10 refl (λ e. omega arith) (a.iface, a.op) f.0.1, (no_order_feed a.order, (no_reply_feed a.reply, (list_no FitsSlot slot_text 10 (omega arith) above_slot a.slots f.0.2, (HasNo-ink 10 (octets_text a.stub) (omega arith) (ink_octets a.stub f.0.3), (no_stage_feed x.1, tt)))))))
