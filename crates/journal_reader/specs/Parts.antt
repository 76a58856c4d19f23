-- Texts in parts, with an octet between each two. Only the readers' own clauses speak of this.
use Rattle.std.specs.Prelude.{◌≡◌, ℕ, Bool, List, Option, [], ◌∷◌, ◌++◌, length, codes, decimal}
use Rattle.std.specs.List.{join_with_byte}
use Rattle.base_words.specs.Reads.{HasNo}
use Rattle.base_words.specs.Words.{octets_text, hex_u32, hex_u64}
use Rattle.handle_model.specs.declared.entry.Home.{Home}
use Rattle.handle_model.specs.declared.entry.Slot.{Slot}
use Rattle.handle_model.specs.declared.entry.Slot.TheVariants.{Shares, Holds, Changes, Opens}
use Rattle.handle_model.specs.declared.entry.Outcome.{Outcome}
use Rattle.handle_model.specs.declared.entry.Outcome.TheVariants.{Keep, Close, Issue, Nothing}
use Rattle.handle_model.specs.declared.entry.Said.{Said}
use Rattle.handle_model.specs.declared.entry.Said.TheVariants.{Out, Fault}
use Rattle.handle_model.specs.declared.entry.Asked.{Asked}
use Rattle.handle_model.specs.declared.entry.Entry.{Entry}
use Rattle.handle_model.specs.declared.entry.Entry.TheVariants.{Join, Accept, Take, Deny, Cancel, Orphan, End, Leave, Shut}
use Rattle.handle_model.specs.declared.entry.DueItem.{DueItem}
use Rattle.handle_model.specs.declared.base.BaseCall.{BaseCall}
use Rattle.handle_model.specs.declared.base.Base.{Base}
use Rattle.handle_model.specs.Slots.{kind_of}
use Rattle.journal_text.specs.Texts.{headed, object_text, slot_text, outcome_text, cookie_text, due_text, order_text, reply_text, said_text, asked_text, list_text, stage_text}

-- no part but the last has the octet
abbrev pub Apart : ℕ → List (List ℕ) → Type 0
Apart c [] = Unit {0}
Apart c (w ∷ []) = Unit {0}
Apart c (w ∷ v ∷ vs) = HasNo c w × Apart c (v ∷ vs)

-- the text is these parts
abbrev pub IsCut : ℕ → List ℕ → List (List ℕ) → Type 0
IsCut c text parts = Apart c parts × (join_with_byte c parts ≡ text)

-- the text is no n parts
abbrev pub NoCut : ℕ → ℕ → List ℕ → Type 0
NoCut n c text = (parts : List (List ℕ)) → length parts ≡ n → IsCut c text parts → ⊥

-- one part without the octet, or two that it stands between
abbrev pub OneOrTwo : ℕ → List (List ℕ) → Type 0
OneOrTwo c [] = ⊥
OneOrTwo c (w ∷ []) = HasNo c w
OneOrTwo c (w ∷ v ∷ []) = HasNo c w
OneOrTwo c (w ∷ v ∷ x ∷ xs) = ⊥

abbrev pub due_parts : DueItem → List (List ℕ)
due_parts d = decimal d.serial ∷ decimal d.kind ∷ decimal d.cookie ∷ []

unfoldable pub use_name : Slot → List ℕ
use_name (Shares kind w) = codes "shares"
use_name (Holds kind w) = codes "holds"
use_name (Changes kind w) = codes "changes"
use_name (Opens kind serial) = codes "opens"

abbrev pub slot_parts : Slot → List (List ℕ)
slot_parts s = use_name s ∷ decimal (kind_of s) ∷ object_text s ∷ []

abbrev pub issue_parts : ℕ × ℕ → List (List ℕ)
issue_parts x = decimal x.0 ∷ decimal x.1 ∷ []

abbrev pub issue_text : ℕ × ℕ → List ℕ
issue_text x = decimal x.0 ++ 58 ∷ decimal x.1

abbrev pub outcome_parts : Outcome → List (List ℕ)
outcome_parts (Keep cookie) = codes "keep" ∷ decimal cookie ∷ []
outcome_parts Close = codes "close" ∷ []
outcome_parts (Issue serial cookie) = codes "issue" ∷ (decimal serial ++ 58 ∷ decimal cookie) ∷ []
outcome_parts Nothing = codes "none" ∷ []

abbrev pub said_parts : Said → List (List ℕ)
said_parts (Out stub) = codes "out" ∷ octets_text stub ∷ []
said_parts (Fault status) = codes "fault" ∷ hex_u32 status.0 ∷ []

abbrev pub operation_parts : ℕ × ℕ → List (List ℕ)
operation_parts x = decimal x.0 ∷ decimal x.1 ∷ []

abbrev pub operation_text : ℕ × ℕ → List ℕ
operation_text x = decimal x.0 ++ 46 ∷ decimal x.1

abbrev pub asked_parts : Asked → List (List ℕ)
asked_parts a =
    decimal a.conn ∷ operation_text (a.iface, a.op) ∷ order_text a.order ∷ reply_text a.reply ∷ list_text slot_text a.slots
    ∷ octets_text a.stub ∷ []

-- what stands behind the first word of a line
abbrev pub accept_parts : ℕ × Asked → List (List ℕ)
accept_parts x = decimal x.0 ∷ asked_text x.1 ∷ []

abbrev pub accept_text : ℕ × Asked → List ℕ
accept_text x = decimal x.0 ++ 32 ∷ asked_text x.1

abbrev pub take_parts : ℕ × List (Option ℕ) → List (List ℕ)
take_parts x = decimal x.0 ∷ list_text cookie_text x.1 ∷ []

abbrev pub take_text : ℕ × List (Option ℕ) → List ℕ
take_text x = decimal x.0 ++ 32 ∷ list_text cookie_text x.1

abbrev pub deny_parts : ℕ × ℕ → List (List ℕ)
deny_parts x = decimal x.0 ∷ decimal x.1 ∷ []

abbrev pub deny_text : ℕ × ℕ → List ℕ
deny_text x = decimal x.0 ++ 32 ∷ decimal x.1

abbrev pub end_parts : ℕ × List Outcome × Said → List (List ℕ)
end_parts x = decimal x.0 ∷ list_text outcome_text x.1 ∷ said_text x.2 ∷ []

abbrev pub end_text : ℕ × List Outcome × Said → List ℕ
end_text x = decimal x.0 ++ 32 ∷ (list_text outcome_text x.1 ++ 32 ∷ said_text x.2)

-- the first word of a line, and the rest
abbrev pub entry_parts : Entry → List (List ℕ)
entry_parts (Join conn) = codes "join" ∷ decimal conn ∷ []
entry_parts (Accept call asked) = codes "accept" ∷ accept_text (call, asked) ∷ []
entry_parts (Take call cookies) = codes "take" ∷ take_text (call, cookies) ∷ []
entry_parts (Deny call slot) = codes "deny" ∷ deny_text (call, slot) ∷ []
entry_parts (Cancel call) = codes "cancel" ∷ decimal call ∷ []
entry_parts (Orphan call) = codes "orphan" ∷ decimal call ∷ []
entry_parts (End call results said) = codes "end" ∷ end_text (call, results, said) ∷ []
entry_parts (Leave conn) = codes "leave" ∷ decimal conn ∷ []
entry_parts (Shut items) = codes "shut" ∷ list_text due_text items ∷ []

-- WHAT BEGINS A JOURNAL

abbrev pub home_parts : Home → List (List ℕ)
home_parts home = decimal home.group ∷ codes "boot" ∷ hex_u64 home.boot ∷ []

abbrev pub home_text : Home → List ℕ
home_text home = decimal home.group ++ 32 ∷ (codes "boot" ++ 32 ∷ hex_u64 home.boot)

abbrev pub base_parts : Base → List (List ℕ)
base_parts b =
    decimal b.count ∷ decimal b.joins ∷ decimal b.accepts ∷ decimal b.opens ∷ list_text decimal b.conns
    ∷ list_text due_text b.handles ∷ []

abbrev pub base_rest : Base → List ℕ
base_rest b = join_with_byte 32 (base_parts b)

abbrev pub called_parts : Asked × (Bool × Bool × Bool) → List (List ℕ)
called_parts x =
    decimal x.0.conn ∷ operation_text (x.0.iface, x.0.op) ∷ order_text x.0.order ∷ reply_text x.0.reply
    ∷ list_text slot_text x.0.slots ∷ octets_text x.0.stub ∷ stage_text x.1 ∷ []

abbrev pub called_text : Asked × (Bool × Bool × Bool) → List ℕ
called_text x = join_with_byte 32 (called_parts x)

abbrev pub call_parts : BaseCall → List (List ℕ)
call_parts c = decimal c.call ∷ called_text (c.asked, (c.taken, c.cancelled, c.orphaned)) ∷ []

abbrev pub call_text : BaseCall → List ℕ
call_text c = decimal c.call ++ 32 ∷ called_text (c.asked, (c.taken, c.cancelled, c.orphaned))

-- LINES: the first word, and the rest

-- without its line feed
abbrev pub group_line : Home → List ℕ
group_line home = headed (codes "group") home.group ++ codes " boot " ++ hex_u64 home.boot

abbrev pub group_parts : Home → List (List ℕ)
group_parts home = codes "group" ∷ home_text home ∷ []

abbrev pub headed_base : Base → List (List ℕ)
headed_base base = codes "base" ∷ base_rest base ∷ []

abbrev pub headed_call : BaseCall → List (List ℕ)
headed_call call = codes "base-call" ∷ call_text call ∷ []

-- a text begins with a line and its line feed, and the rest follows; or with no such line
abbrev pub Begins : {X : Type 0} → (X → Type 0) → (X → List ℕ) → X → List ℕ → List ℕ → Type 0
Begins fits body x rest text = fits x × (text ≡ body x ++ 10 ∷ rest)

abbrev pub BeginsNot : {X : Type 0} → (X → Type 0) → (X → List ℕ) → List ℕ → Type 0
BeginsNot {X} fits body text = (x : X) (rest : List ℕ) → fits x → text ≡ body x ++ 10 ∷ rest → ⊥
