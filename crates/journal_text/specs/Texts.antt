-- The text of a journal, octet for octet.
use Rattle.std.specs.Prelude.{ℕ, Bool, true, false, Option, Some, None, List, [], ◌∷◌, ◌++◌, codes, decimal, ◌==◌, if◌then◌else◌}
use Rattle.rpc_base.specs.declared.identifiers.WireHandle.{WireHandle}
use Rattle.rpc_base.specs.declared.identifiers.Order.{Order}
use Rattle.rpc_base.specs.declared.identifiers.Order.TheVariants.{Big, Little}
use Rattle.base_words.specs.Words.{octets_text, hex_u32, hex_u64, hex_u128}
use Rattle.handle_model.specs.Slots.{kind_of}
use Rattle.handle_model.specs.declared.entry.Home.{Home}
use Rattle.handle_model.specs.declared.entry.Slot.{Slot}
use Rattle.handle_model.specs.declared.entry.Slot.TheVariants.{Shares, Holds, Changes, Opens}
use Rattle.handle_model.specs.declared.entry.Outcome.{Outcome}
use Rattle.handle_model.specs.declared.entry.Outcome.TheVariants.{Keep, Close, Issue, Nothing}
use Rattle.handle_model.specs.declared.entry.Asked.{Asked}
use Rattle.handle_model.specs.declared.entry.Said.{Said}
use Rattle.handle_model.specs.declared.entry.Said.TheVariants.{Out, Fault}
use Rattle.handle_model.specs.declared.entry.DueItem.{DueItem}
use Rattle.handle_model.specs.declared.entry.Entry.{Entry}
use Rattle.handle_model.specs.declared.base.BaseCall.{BaseCall}
use Rattle.handle_model.specs.declared.base.Base.{Base}
use Rattle.handle_model.specs.declared.entry.Entry.TheVariants.{Join, Accept, Take, Deny, Cancel, Orphan, End, Leave, Shut}

-- WORDS

-- 8 digits of attributes and 32 of the identifier
abbrev pub wire_text : WireHandle → List ℕ
wire_text w = hex_u32 w.attributes ++ hex_u128 w.id

unfoldable pub use_word : Slot → List ℕ
use_word (Shares kind w) = codes "shares:"
use_word (Holds kind w) = codes "holds:"
use_word (Changes kind w) = codes "changes:"
use_word (Opens kind serial) = codes "opens:"

-- what the use is of
abbrev pub object_text : Slot → List ℕ
object_text (Shares kind w) = wire_text w
object_text (Holds kind w) = wire_text w
object_text (Changes kind w) = wire_text w
object_text (Opens kind serial) = decimal serial

abbrev pub slot_text : Slot → List ℕ
slot_text s = use_word s ++ decimal (kind_of s) ++ codes ":" ++ object_text s

abbrev pub outcome_text : Outcome → List ℕ
outcome_text (Keep cookie) = codes "keep:" ++ decimal cookie
outcome_text Close = codes "close"
outcome_text (Issue serial cookie) = codes "issue:" ++ decimal serial ++ codes ":" ++ decimal cookie
outcome_text Nothing = codes "none"

abbrev pub cookie_text : Option ℕ → List ℕ
cookie_text None = codes "none"
cookie_text (Some cookie) = decimal cookie

abbrev pub due_text : DueItem → List ℕ
due_text d = decimal d.serial ++ codes ":" ++ decimal d.kind ++ codes ":" ++ decimal d.cookie

unfoldable pub order_text : Order → List ℕ
order_text Big = codes "big"
order_text Little = codes "little"

unfoldable pub reply_text : Bool → List ℕ
reply_text true = codes "answer"
reply_text false = codes "maybe"

abbrev pub said_text : Said → List ℕ
said_text (Out stub) = codes "out:" ++ octets_text stub
said_text (Fault status) = codes "fault:" ++ hex_u32 status.0

-- LISTS

-- the texts of the items, with a comma before each
abbrev pub tail_text : {X : Type 0} → (X → List ℕ) → List X → List ℕ
tail_text f [] = []
tail_text f (x ∷ xs) = codes "," ++ f x ++ tail_text f xs

-- the texts of the items joined by commas, and a dash where there is none
abbrev pub list_text : {X : Type 0} → (X → List ℕ) → List X → List ℕ
list_text f [] = codes "-"
list_text f (x ∷ xs) = f x ++ tail_text f xs

-- LINES

-- a word, a space and a number
unfoldable pub headed : List ℕ → ℕ → List ℕ
headed word number = word ++ codes " " ++ decimal number

abbrev pub asked_end : Asked → List ℕ
asked_end a =
    codes " " ++ order_text a.order ++ codes " " ++ reply_text a.reply ++ codes " " ++ list_text slot_text a.slots ++ codes " "
    ++ octets_text a.stub

abbrev pub asked_text : Asked → List ℕ
asked_text a = decimal a.conn ++ codes " " ++ decimal a.iface ++ codes "." ++ decimal a.op ++ asked_end a

-- without its line feed
abbrev pub line : Entry → List ℕ
line (Join conn) = headed (codes "join") conn
line (Accept call asked) = headed (codes "accept") call ++ codes " " ++ asked_text asked
line (Take call cookies) = headed (codes "take") call ++ codes " " ++ list_text cookie_text cookies
line (Deny call slot) = headed (codes "deny") call ++ codes " " ++ decimal slot
line (Cancel call) = headed (codes "cancel") call
line (Orphan call) = headed (codes "orphan") call
line (End call results said) =
    headed (codes "end") call ++ codes " " ++ list_text outcome_text results ++ codes " " ++ said_text said
line (Leave conn) = headed (codes "leave") conn
line (Shut items) = codes "shut " ++ list_text due_text items

unfoldable pub entry_text : Entry → List ℕ
entry_text entry = line entry ++ codes "\n"

unfoldable pub group_text : Home → List ℕ
group_text home = headed (codes "group") home.group ++ codes " boot " ++ hex_u64 home.boot ++ codes "\n"

-- BASES

-- how far a call has come: whether it was taken, cancelled, orphaned
unfoldable pub stage_text : Bool × Bool × Bool → List ℕ
stage_text (false, cancelled, orphaned) = codes "waiting"
stage_text (true, false, false) = codes "taken"
stage_text (true, true, false) = codes "taken-cancel"
stage_text (true, false, true) = codes "taken-orphan"
stage_text (true, true, true) = codes "taken-cancel-orphan"

abbrev pub base_lists : Base → List ℕ
base_lists b = codes " " ++ list_text decimal b.conns ++ codes " " ++ list_text due_text b.handles

abbrev pub base_end : Base → List ℕ
base_end b = codes " " ++ decimal b.accepts ++ codes " " ++ decimal b.opens ++ base_lists b

-- both without their line feeds
abbrev pub base_line : Base → List ℕ
base_line b = headed (codes "base") b.count ++ codes " " ++ decimal b.joins ++ base_end b

abbrev pub call_line : BaseCall → List ℕ
call_line c =
    headed (codes "base-call") c.call ++ codes " " ++ asked_text c.asked ++ codes " " ++ stage_text (c.taken, c.cancelled, c.orphaned)

unfoldable pub base_text : Base → List ℕ
base_text b = base_line b ++ codes "\n"

unfoldable pub base_call_text : BaseCall → List ℕ
base_call_text c = call_line c ++ codes "\n"

abbrev pub base_calls_text : List BaseCall → List ℕ
base_calls_text [] = []
base_calls_text (c ∷ later) = base_call_text c ++ base_calls_text later

-- the lines of a base, none where there were no entries before
abbrev pub base_lines : Base → List ℕ
base_lines b = if b.count == 0 then [] else base_text b ++ base_calls_text b.calls

-- JOURNALS

-- the entries come oldest first
abbrev pub entries_text : List Entry → List ℕ
entries_text [] = []
entries_text (entry ∷ later) = entry_text entry ++ entries_text later

abbrev pub journal_text : Home → Base → List Entry → List ℕ
journal_text home base entries = group_text home ++ base_lines base ++ entries_text entries
