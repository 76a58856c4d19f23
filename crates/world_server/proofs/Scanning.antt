-- What a scan of the entries, from the newest on, finds of a call.
use Rattle.std.proofs.Common.{◌≡◌, ℕ, ◌==◌, Bool, true, false, ◌||◌, ◌&&◌, not, Option, Some, None, List, [], ◌∷◌, ◌++◌, reverse, refl, sym, ap, ◌∙◌}
use Rattle.std.specs.Prelude.{if◌then◌else◌}
use Rattle.std.specs.List.{list_any}
use Rattle.std.proofs.lemmas.List.{reverse-append}
use Rattle.std.proofs.lemmas.Grind.{common_steps}
use Rattle.handle_model.specs.declared.entry.Asked.{Asked}
use Rattle.handle_model.specs.declared.entry.Said.{Said}
use Rattle.handle_model.specs.declared.entry.Entry.{Entry}
use Rattle.handle_model.specs.declared.entry.Entry.TheVariants.{Join, Accept, Take, Deny, Cancel, Orphan, End, Leave, Shut}
use Rattle.handle_model.specs.Entries.{joins, leaves, takes, cancels, orphans}
use Rattle.handle_model.specs.Journal.{any_since, asked, is_open, is_taken, has_left}
use Rattle.handle_model.specs.Replies.{ended_with, is_lost}
use Rattle.world_server.specs.Servers.{whole}
use Rattle.world_server.specs.Scans.{conn_of, conn_at, said_at}

pub newest_first : (older : List Entry) (e : Entry) → reverse (older ++ e ∷ []) ≡ e ∷ reverse older
newest_first older e = reverse-append older (e ∷ [])

pub ruleset newest = (newest_first, common_steps)

-- "since" an empty base is "among the entries"
pub any_whole : (p : Entry → Bool) (past : List Entry) → any_since false p past ≡ list_any p past
any_whole p [] = refl
any_whole p (e ∷ past) = ap (λ (b : Bool). p e || b) (any_whole p past)

-- ---- the connection of a call

abbrev pub or_else : {X : Type 0} → Option X → Option X → Option X
or_else None y = y
or_else (Some x) y = Some x

conn_if : (b : Bool) (a : Asked) (o : Option Asked) → conn_of (if b then Some a else o) ≡ or_else (if b then Some a.conn else None) (conn_of o)
conn_if true a o = refl
conn_if false a o = refl

pub conn_next : (k : ℕ) (e : Entry) (past : List Entry) → conn_of (asked (whole (e ∷ past)) k) ≡ or_else (conn_at k e) (conn_of (asked (whole past) k))
conn_next k (Join c) past = refl
conn_next k (Accept m a) past = conn_if (m == k) a (asked (whole past) k)
conn_next k (Take m cookies) past = refl
conn_next k (Deny m slot) past = refl
conn_next k (Cancel m) past = refl
conn_next k (Orphan m) past = refl
conn_next k (End m results said) past = refl
conn_next k (Leave c) past = refl
conn_next k (Shut items) past = refl

-- ---- what its end said

abbrev pub unless : Bool → Option Said → Option Said
unless lost o = if lost then None else o

abbrev pub said_or : Bool → Option Said → Option Said → Option Said
said_or lost None later = later
said_or lost (Some said) later = unless lost (Some said)

said_if : (b lost : Bool) (said : Said) (o : Option Said) → (if b then (if lost then None else Some said) else o) ≡ said_or lost (if b then Some said else None) o
said_if true lost said o = refl
said_if false lost said o = refl

pub said_next : (k : ℕ) (e : Entry) (past : List Entry) → ended_with (whole (e ∷ past)) k ≡ said_or (is_lost (whole past) k) (said_at k e) (ended_with (whole past) k)
said_next k (Join c) past = refl
said_next k (Accept m a) past = refl
said_next k (Take m cookies) past = refl
said_next k (Deny m slot) past = refl
said_next k (Cancel m) past = refl
said_next k (Orphan m) past = refl
said_next k (End m results said) past = said_if (m == k) (is_lost (whole past) k) said (ended_with (whole past) k)
said_next k (Leave c) past = refl
said_next k (Shut items) past = refl

-- ---- two questions at once

pub open_by : (past : List Entry) (c : ℕ) (a b : Bool) → a ≡ list_any (joins c) past → b ≡ list_any (leaves c) past → (a && not b) ≡ is_open (whole past) c
open_by past c a b x y = ap (λ (z : Bool). z && not b) (x ∙ sym (any_whole (joins c) past)) ∙ ap (λ (z : Bool). any_since false (joins c) past && not z) y

pub cancelled_by : (past : List Entry) (k : ℕ) (a b : Bool) → a ≡ list_any (cancels k) past → b ≡ list_any (takes k) past → (a && not b) ≡ (list_any (cancels k) past && not (is_taken (whole past) k))
cancelled_by past k a b x y = ap (λ (z : Bool). z && not b) x ∙ ap (λ (z : Bool). list_any (cancels k) past && not z) (y ∙ sym (any_whole (takes k) past))

pub true_and : (a b : Bool) → a ≡ true → b ≡ (a && b)
true_and a b e = ap (λ (z : Bool). z && b) (sym e)

pub false_and : (a b : Bool) → a ≡ false → a ≡ (a && b)
false_and a b e = e ∙ ap (λ (z : Bool). z && b) (sym e)

pub true_or : (a b : Bool) → a ≡ true → a ≡ (a || b)
true_or a b e = e ∙ ap (λ (z : Bool). z || b) (sym e)

pub false_or : (a b : Bool) → a ≡ false → b ≡ (a || b)
false_or a b e = ap (λ (z : Bool). z || b) (sym e)

-- ---- whether a call is lost

abbrev pub has_left_by : List Entry → Option ℕ → Bool
has_left_by past None = false
has_left_by past (Some c) = list_any (leaves c) past

pub left_by : (past : List Entry) (o : Option Asked) (conn : Option ℕ) → conn ≡ conn_of o → has_left (whole past) o ≡ has_left_by past conn
left_by past None conn e = ap (has_left_by past) (sym e)
left_by past (Some a) conn e = ap (has_left_by past) (sym e)

pub lost_by : (past : List Entry) (k : ℕ) (a b : Bool) → a ≡ list_any (orphans k) past → b ≡ has_left (whole past) (asked (whole past) k) → (a || b) ≡ is_lost (whole past) k
lost_by past k a b x y = ap (λ (z : Bool). z || b) (x ∙ sym (any_whole (orphans k) past)) ∙ ap (λ (z : Bool). any_since false (orphans k) past || z) y
