-- A line of a journal is that of one value, and a text begins with one line.
use Rattle.std.proofs.Common.{◌≡◌, ℕ, Bool, Option, List, ◌++◌, refl, ap, sym, ◌∙◌, arith, decimal}
use Rattle.std.specs.List.{AllByRecursion}
use Rattle.std.proofs.lemmas.Fmt.{decimal_injective}
use Rattle.rpc_base.specs.declared.identifiers.Order.{Order}
use Rattle.base_words.proofs.Cuts.{same_cut}
use Rattle.base_words.proofs.Numbers.{hex_u64_injective}
use Rattle.base_words.proofs.Octets.{octets_text_injective}
use Rattle.handle_model.specs.declared.entry.Home.{Home}
use Rattle.handle_model.specs.declared.entry.Slot.{Slot}
use Rattle.handle_model.specs.declared.entry.Asked.{Asked}
use Rattle.handle_model.specs.declared.entry.Outcome.{Outcome}
use Rattle.handle_model.specs.declared.entry.Said.{Said}
use Rattle.handle_model.specs.declared.entry.DueItem.{DueItem}
use Rattle.handle_model.specs.declared.entry.Entry.{Entry}
use Rattle.handle_model.specs.declared.entry.Entry.TheVariants.{Join, Accept, Take, Deny, Cancel, Orphan, End, Leave, Shut}
use Rattle.handle_model.specs.declared.base.BaseCall.{BaseCall}
use Rattle.handle_model.specs.declared.base.Base.{Base}
use Rattle.journal_text.specs.Texts.{list_text, slot_text, outcome_text, cookie_text, due_text, asked_text, group_text, base_text, base_call_text, entry_text, line, base_line, call_line}
use Rattle.journal_reader.specs.Fits.{FitsSlot, FitsOutcome, FitsCookie, FitsDue, FitsAsked, FitsAccept, FitsTake, FitsDeny, FitsEnd, FitsEntry, FitsConn, FitsHome, FitsBase, FitsCalled, FitsCall}
use Rattle.journal_reader.specs.Parts.{asked_parts, accept_parts, accept_text, take_parts, take_text, deny_parts, deny_text, end_parts, end_text, entry_parts, home_parts, home_text, base_parts, base_rest, called_parts, called_text, call_parts, call_text, group_line, group_parts, headed_base, headed_call}
use Rattle.journal_reader.proofs.Above.{slot_item, outcome_item, cookie_item, due_item, conn_item}
use Rattle.journal_reader.proofs.BaseWords.{home_own, base_own, called_own, call_own, home_joined, base_joined, call_joined}
use Rattle.journal_reader.proofs.Heads.{group_own, base_head_own, call_head_own, feed_group_line, feed_base_line, feed_call_line, feed_line, group_fed, base_fed, call_fed, entry_fed}
use Rattle.journal_reader.proofs.Words.{asked_own, asked_joined, accept_own, take_own, deny_own, end_own, end_joined, entry_own, entry_joined}
use Rattle.journal_audit.proofs.Items.{parts_same, mark, nth, number_same, slot_same, outcome_same, cookie_same, due_same, said_same, order_same, reply_same, operation_same, stage_same, list_same}

slots_same : (xs ys : List Slot) → AllByRecursion FitsSlot xs → AllByRecursion FitsSlot ys → list_text slot_text xs ≡ list_text slot_text ys → xs ≡ ys
slots_same xs ys f g e = list_same FitsSlot slot_text slot_item slot_same xs ys f g e

-- WHAT A CALL ASKS

abbrev asking : ℕ → ℕ → ℕ → Order → Bool → List Slot → List ℕ → Asked
asking c i o order reply slots stub =
    record { conn = c; iface = i; op = o; order = order; reply = reply; slots = slots; stub = stub }

abbrev first : ℕ × ℕ → ℕ
first x = x.0

abbrev other : ℕ × ℕ → ℕ
other x = x.1

same_asking : (a b : Asked) → a.conn ≡ b.conn → a.iface ≡ b.iface → a.op ≡ b.op → a.order ≡ b.order → a.reply ≡ b.reply → a.slots ≡ b.slots → a.stub ≡ b.stub → a ≡ b
same_asking a b conn iface op order reply slots stub =
    ap (λ x. asking x a.iface a.op a.order a.reply a.slots a.stub) conn ∙ (ap (λ x. asking b.conn x a.op a.order a.reply a.slots a.stub) iface ∙ (ap (λ x. asking b.conn b.iface x a.order a.reply a.slots a.stub) op ∙ (ap (λ x. asking b.conn b.iface b.op x a.reply a.slots a.stub) order ∙ (ap (λ x. asking b.conn b.iface b.op b.order x a.slots a.stub) reply ∙ (ap (λ x. asking b.conn b.iface b.op b.order b.reply x a.stub) slots ∙ ap (λ x. asking b.conn b.iface b.op b.order b.reply b.slots x) stub)))))

asked_same : (a b : Asked) → FitsAsked a → FitsAsked b → asked_text a ≡ asked_text b → a ≡ b
asked_same a b f g e =
    let p = parts_same FitsAsked asked_parts asked_text 32 6 asked_own asked_joined a b f g e in
    let operation = operation_same (a.iface, a.op) (b.iface, b.op) f.1 g.1 (ap (nth 1) p) in
    same_asking a b (number_same a.conn b.conn f.0 g.0 (ap (nth 0) p)) (ap first operation) (ap other operation) (order_same a.order b.order (ap (nth 2) p)) (reply_same a.reply b.reply (ap (nth 3) p)) (slots_same a.slots b.slots f.2 g.2 (ap (nth 4) p)) (octets_text_injective a.stub b.stub f.3 g.3 (ap (nth 5) p))

-- ENTRIES

accept_same : (x y : ℕ × Asked) → FitsAccept x → FitsAccept y → accept_text x ≡ accept_text y → x ≡ y
accept_same x y f g e =
    let p = parts_same FitsAccept accept_parts accept_text 32 2 accept_own (λ z. refl) x y f g e in
    ap (λ v. (v, x.1)) (number_same x.0 y.0 f.0 g.0 (ap (nth 0) p)) ∙ ap (λ v. (y.0, v)) (asked_same x.1 y.1 f.1 g.1 (ap (nth 1) p))

take_same : (x y : ℕ × List (Option ℕ)) → FitsTake x → FitsTake y → take_text x ≡ take_text y → x ≡ y
take_same x y f g e =
    let p = parts_same FitsTake take_parts take_text 32 2 take_own (λ z. refl) x y f g e in
    ap (λ v. (v, x.1)) (number_same x.0 y.0 f.0 g.0 (ap (nth 0) p)) ∙ ap (λ v. (y.0, v)) (list_same FitsCookie cookie_text cookie_item cookie_same x.1 y.1 f.1 g.1 (ap (nth 1) p))

deny_same : (x y : ℕ × ℕ) → FitsDeny x → FitsDeny y → deny_text x ≡ deny_text y → x ≡ y
deny_same x y f g e =
    let p = parts_same FitsDeny deny_parts deny_text 32 2 deny_own (λ z. refl) x y f g e in
    let small = f.1 in
    let other_small = g.1 in
    ap (λ v. (v, x.1)) (number_same x.0 y.0 f.0 g.0 (ap (nth 0) p)) ∙ ap (λ v. (y.0, v)) (decimal_injective x.1 y.1 (omega arith) (omega arith) (ap (nth 1) p))

end_same : (x y : ℕ × List Outcome × Said) → FitsEnd x → FitsEnd y → end_text x ≡ end_text y → x ≡ y
end_same x y f g e =
    let p = parts_same FitsEnd end_parts end_text 32 3 end_own end_joined x y f g e in
    ap (λ v. (v, x.1, x.2)) (number_same x.0 y.0 f.0 g.0 (ap (nth 0) p)) ∙ (ap (λ v. (y.0, v, x.2)) (list_same FitsOutcome outcome_text outcome_item outcome_same x.1 y.1 f.1 g.1 (ap (nth 1) p)) ∙ ap (λ v. (y.0, y.1, v)) (said_same x.2 y.2 f.2 g.2 (ap (nth 2) p)))

entry_by : (a b : Entry) → FitsEntry a → FitsEntry b → entry_parts a ≡ entry_parts b → a ≡ b
entry_by (Join c) (Join d) f g e = ap Join (number_same c d f g (ap (nth 1) e))
entry_by (Accept k a) (Accept l b) f g e = ap (λ (x : ℕ × Asked). Accept x.0 x.1) (accept_same (k, a) (l, b) f g (ap (nth 1) e))
entry_by (Take k xs) (Take l ys) f g e = ap (λ (x : ℕ × List (Option ℕ)). Take x.0 x.1) (take_same (k, xs) (l, ys) f g (ap (nth 1) e))
entry_by (Deny k i) (Deny l j) f g e = ap (λ (x : ℕ × ℕ). Deny x.0 x.1) (deny_same (k, i) (l, j) f g (ap (nth 1) e))
entry_by (Cancel k) (Cancel l) f g e = ap Cancel (number_same k l f g (ap (nth 1) e))
entry_by (Orphan k) (Orphan l) f g e = ap Orphan (number_same k l f g (ap (nth 1) e))
entry_by (End k xs s) (End l ys t) f g e = ap (λ (x : ℕ × List Outcome × Said). End x.0 x.1 x.2) (end_same (k, xs, s) (l, ys, t) f g (ap (nth 1) e))
entry_by (Leave c) (Leave d) f g e = ap Leave (number_same c d f g (ap (nth 1) e))
entry_by (Shut xs) (Shut ys) f g e = ap Shut (list_same FitsDue due_text due_item due_same xs ys f g (ap (nth 1) e))
entry_by a b f g e = let no = ap mark e in absurd (omega arith)

entry_same : (a b : Entry) → FitsEntry a → FitsEntry b → line a ≡ line b → a ≡ b
entry_same a b f g e = entry_by a b f g (parts_same FitsEntry entry_parts line 32 2 entry_own entry_joined a b f g e)

-- WHAT BEGINS A JOURNAL

abbrev home_of : ℕ → ℕ → Home
home_of group boot = record { boot = boot; group = group }

home_same : (a b : Home) → FitsHome a → FitsHome b → group_line a ≡ group_line b → a ≡ b
home_same a b f g e =
    let p = parts_same FitsHome group_parts group_line 32 2 group_own home_joined a b f g e in
    let q = parts_same FitsHome home_parts home_text 32 3 home_own (λ x. refl) a b f g (ap (nth 1) p) in
    ap (λ x. home_of x a.boot) (number_same a.group b.group f.0 g.0 (ap (nth 0) q)) ∙ ap (λ x. home_of b.group x) (hex_u64_injective a.boot b.boot f.1 g.1 (ap (nth 2) q))

abbrev base_of : ℕ → ℕ → ℕ → ℕ → List ℕ → List BaseCall → List DueItem → Base
base_of count joins accepts opens conns calls handles =
    record { count = count; joins = joins; accepts = accepts; opens = opens; conns = conns; calls = calls; handles = handles }

same_base : (a b : Base) → a.count ≡ b.count → a.joins ≡ b.joins → a.accepts ≡ b.accepts → a.opens ≡ b.opens → a.conns ≡ b.conns → a.calls ≡ b.calls → a.handles ≡ b.handles → a ≡ b
same_base a b count joins accepts opens conns calls handles =
    ap (λ x. base_of x a.joins a.accepts a.opens a.conns a.calls a.handles) count ∙ (ap (λ x. base_of b.count x a.accepts a.opens a.conns a.calls a.handles) joins ∙ (ap (λ x. base_of b.count b.joins x a.opens a.conns a.calls a.handles) accepts ∙ (ap (λ x. base_of b.count b.joins b.accepts x a.conns a.calls a.handles) opens ∙ (ap (λ x. base_of b.count b.joins b.accepts b.opens x a.calls a.handles) conns ∙ (ap (λ x. base_of b.count b.joins b.accepts b.opens b.conns x a.handles) calls ∙ ap (λ x. base_of b.count b.joins b.accepts b.opens b.conns b.calls x) handles)))))

base_same : (a b : Base) → FitsBase a → FitsBase b → base_line a ≡ base_line b → a ≡ b
base_same a b f g e =
    let p = parts_same FitsBase headed_base base_line 32 2 base_head_own base_joined a b f g e in
    let q = parts_same FitsBase base_parts base_rest 32 6 base_own (λ x. refl) a b f g (ap (nth 1) p) in
    let small = f.0.1 in
    let other_small = g.0.1 in
    same_base a b (decimal_injective a.count b.count (omega arith) (omega arith) (ap (nth 0) q)) (number_same a.joins b.joins f.1 g.1 (ap (nth 1) q)) (number_same a.accepts b.accepts f.2 g.2 (ap (nth 2) q)) (number_same a.opens b.opens f.3 g.3 (ap (nth 3) q)) (list_same FitsConn decimal conn_item (λ x y h k d. number_same x y h k d) a.conns b.conns f.4 g.4 (ap (nth 4) q)) (f.6 ∙ sym g.6) (list_same FitsDue due_text due_item due_same a.handles b.handles f.5 g.5 (ap (nth 5) q))

called_same : (x y : Asked × (Bool × Bool × Bool)) → FitsCalled x → FitsCalled y → called_text x ≡ called_text y → x ≡ y
called_same x y f g e =
    let p = parts_same FitsCalled called_parts called_text 32 7 called_own (λ z. refl) x y f g e in
    let a = x.0 in
    let b = y.0 in
    let operation = operation_same (a.iface, a.op) (b.iface, b.op) f.0.1 g.0.1 (ap (nth 1) p) in
    let asked = same_asking a b (number_same a.conn b.conn f.0.0 g.0.0 (ap (nth 0) p)) (ap first operation) (ap other operation) (order_same a.order b.order (ap (nth 2) p)) (reply_same a.reply b.reply (ap (nth 3) p)) (slots_same a.slots b.slots f.0.2 g.0.2 (ap (nth 4) p)) (octets_text_injective a.stub b.stub f.0.3 g.0.3 (ap (nth 5) p)) in
    let stage = stage_same x.1 y.1 f.1 g.1 (ap (nth 6) p) in
    ap (λ v. (v, x.1)) asked ∙ ap (λ v. (y.0, v)) stage

abbrev call_of : ℕ → Asked × (Bool × Bool × Bool) → BaseCall
call_of k x = record { call = k; asked = x.0; taken = x.1.0; cancelled = x.1.1; orphaned = x.1.2 }

abbrev called_of : BaseCall → Asked × (Bool × Bool × Bool)
called_of c = (c.asked, (c.taken, c.cancelled, c.orphaned))

call_same : (a b : BaseCall) → FitsCall a → FitsCall b → call_line a ≡ call_line b → a ≡ b
call_same a b f g e =
    let p = parts_same FitsCall headed_call call_line 32 2 call_head_own call_joined a b f g e in
    let q = parts_same FitsCall call_parts call_text 32 2 call_own (λ x. refl) a b f g (ap (nth 1) p) in
    ap (λ k. call_of k (called_of a)) (number_same a.call b.call f.0 g.0 (ap (nth 0) q)) ∙ ap (λ x. call_of b.call x) (called_same (called_of a) (called_of b) f.1 g.1 (ap (nth 1) q))

-- WHAT A TEXT BEGINS WITH

pub group_first : (a b : Home) (x y : List ℕ) → FitsHome a → FitsHome b → group_text a ++ x ≡ group_text b ++ y → (a ≡ b) × (x ≡ y)
group_first a b x y f g e =
    let cut = same_cut 10 (group_line a) (group_line b) x y (feed_group_line a f) (feed_group_line b g) (sym (group_fed a x) ∙ (e ∙ group_fed b y)) in
    (home_same a b f g cut.0, cut.1)

pub base_first : (a b : Base) (x y : List ℕ) → FitsBase a → FitsBase b → base_text a ++ x ≡ base_text b ++ y → (a ≡ b) × (x ≡ y)
base_first a b x y f g e =
    let cut = same_cut 10 (base_line a) (base_line b) x y (feed_base_line a f) (feed_base_line b g) (sym (base_fed a x) ∙ (e ∙ base_fed b y)) in
    (base_same a b f g cut.0, cut.1)

pub call_first : (a b : BaseCall) (x y : List ℕ) → FitsCall a → FitsCall b → base_call_text a ++ x ≡ base_call_text b ++ y → (a ≡ b) × (x ≡ y)
call_first a b x y f g e =
    let cut = same_cut 10 (call_line a) (call_line b) x y (feed_call_line a f) (feed_call_line b g) (sym (call_fed a x) ∙ (e ∙ call_fed b y)) in
    (call_same a b f g cut.0, cut.1)

pub entry_first : (a b : Entry) (x y : List ℕ) → FitsEntry a → FitsEntry b → entry_text a ++ x ≡ entry_text b ++ y → (a ≡ b) × (x ≡ y)
entry_first a b x y f g e =
    let cut = same_cut 10 (line a) (line b) x y (feed_line a f) (feed_line b g) (sym (entry_fed a x) ∙ (e ∙ entry_fed b y)) in
    (entry_same a b f g cut.0, cut.1)
