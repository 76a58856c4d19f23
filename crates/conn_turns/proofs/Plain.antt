-- Turns without entries, why requests are refused, and one event more of a turn.
use Rattle.std.proofs.Common.{◌≡◌, ℕ, List, [], ◌∷◌, ◌++◌, None, refl, sym, ap, ◌∙◌, append_assoc}
use Rattle.std.proofs.lemmas.List.{append-nil}
use Rattle.rpc_base.specs.declared.identifiers.Status.{Status}
use Rattle.rpc_base.specs.declared.identifiers.Order.{Order}
use Rattle.handle_model.specs.declared.entry.Slot.{Slot}
use Rattle.pdu_stream.specs.declared.joined.Joined.{Joined}
use Rattle.ndr_table.specs.Tables.{TableForm}
use Rattle.conn_asks.specs.declared.events.ConnFault.{ConnFault}
use Rattle.conn_histories.specs.Histories.{Event}
use Rattle.conn_histories.specs.Requests.{IsRefused}
use Rattle.conn_histories.specs.Requests.IsRefused.{no_operation, no_stub, no_room, full}
use Rattle.conn_histories.specs.declared.turn.Deed.TheVariants as deeds
use Rattle.conn_histories.specs.declared.turn.Turn.TheVariants.{Answered, Closed as ClosedTurn}
use Rattle.conn_turns.proofs.Making.{called, IsPlain}

-- ---- refusals

pub refused_so : (tables : List TableForm) (iface op : ℕ) (order : Order) (stub : List ℕ) (Full Fuller : List Slot → Type 0) (status : Status) → ((slots : List Slot) → Full slots → Fuller slots)
    → IsRefused tables iface op order stub Full status → IsRefused tables iface op order stub Fuller status
refused_so tables iface op order stub Full Fuller status more (no_operation a b) = no_operation a b
refused_so tables iface op order stub Full Fuller status more (no_stub o d a b e) = no_stub o d a b e
refused_so tables iface op order stub Full Fuller status more (no_room o a b) = no_room o a b
refused_so tables iface op order stub Full Fuller status more (full slots a b e) = full slots a (more slots b) e

pub plain_refused : (c : ℕ) (j : Joined) (iface : ℕ) (status : Status) → IsPlain c (called j iface [] (deeds.Refused status) None)
plain_refused c j iface status = record { entries = refl; number = refl; open_ = refl; left = refl; stands = λ gone past. tt }

pub plain_closed : (c : ℕ) (octets : List ℕ) (why : ConnFault) → IsPlain c (ClosedTurn octets why)
plain_closed c octets why = record { entries = refl; number = refl; open_ = refl; left = refl; stands = λ gone past. tt }

pub plain_answer : (c : ℕ) (octets : List ℕ) → IsPlain c (Answered octets)
plain_answer c octets = record { entries = refl; number = refl; open_ = refl; left = refl; stands = λ gone past. tt }

-- ---- events of turns

pub one_more_off : (older : List Event) (first : Event) (offs : List Event) (last : Event) → (older ++ (first ∷ (offs ++ []))) ++ last ∷ [] ≡ older ++ (first ∷ ((offs ++ last ∷ []) ++ []))
one_more_off older first offs last =
    append_assoc older (first ∷ (offs ++ [])) (last ∷ [])
    ∙ ap (λ (l : List Event). older ++ (first ∷ l)) (ap (λ (l : List Event). l ++ last ∷ []) (append-nil offs) ∙ sym (append-nil (offs ++ last ∷ [])))

pub one_answer_more : (older : List Event) (first : Event) (offs : List Event) (last : Event) → (older ++ (first ∷ (offs ++ []))) ++ last ∷ [] ≡ older ++ (first ∷ (offs ++ last ∷ []))
one_answer_more older first offs last =
    append_assoc older (first ∷ (offs ++ [])) (last ∷ []) ∙ ap (λ (l : List Event). older ++ (first ∷ l)) (ap (λ (l : List Event). l ++ last ∷ []) (append-nil offs))
