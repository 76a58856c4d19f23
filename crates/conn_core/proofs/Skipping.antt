-- What the cut of a stream leaves.
use Rattle.std.proofs.Common.{◌≡◌, ℕ, ◌<◌, Bool, true, false, List, [], ◌∷◌, ◌++◌, length, Option, Some, None, Ok, refl, sym, ap, subst, ◌∙◌, append_assoc}
use Rattle.std.specs.Option.{is_some}
use Rattle.std.proofs.lemmas.List.{append-nil}
use Rattle.pdu_codec.specs.declared.pdu.Pdu.{Pdu}
use Rattle.pdu_codec.specs.declared.fault.PduFault.{PduFault}
use Rattle.pdu_codec.specs.Pdus.{IsPdu, AreSpelled}
use Rattle.pdu_stream.specs.Cuts.{Fed, IsNext, GivesNext, LeavesUncut}
use Rattle.pdu_stream.proofs.CutLaws.{spelled_append}
use Rattle.conn_core.specs.Fields.{HasCause}
use Rattle.conn_core.specs.Uncut.{SkipsNext}
use Rattle.conn_core.proofs.Causes.{next_shorter}

pub skip_given : (old new : Fed) (given : Option Pdu) → GivesNext old (Ok given) new → SkipsNext old (Ok (is_some given)) new
skip_given old new None h = (None, h.1, ap (λ (f : Fed). f.rest) h.2)
skip_given old new (Some p) h = (p, h.1, subst (λ (o : Option PduFault). HasCause o new.rest) (sym h.2) tt)

-- PDUs stand in front of what is left
abbrev pub Taken : List ℕ → List ℕ → Type 0
Taken total rest = (front : List ℕ) × (pdus : List Pdu) × AreSpelled IsPdu pdus front × (total ≡ front ++ rest)

pub taken_none : (total : List ℕ) → Taken total total
taken_none total = ([], [], refl, refl)

taken_next : (total rest others : List ℕ) (p : Pdu) → Taken total rest → IsNext rest p others → Taken total others
taken_next total rest others p x next = (
  x.0 ++ next.0,
  x.1 ++ p ∷ [],
  spelled_append x.1 (p ∷ []) x.0 next.0 x.2 (next.0, [], sym (append-nil next.0), next.1, refl),
  x.3 ∙ (ap (λ (t : List ℕ). x.0 ++ t) next.2 ∙ sym (append_assoc x.0 next.0 others)),
)

pub taken_more : (total : List ℕ) (old new : Fed) (more : Bool) → more ≡ true → SkipsNext old (Ok more) new → Taken total old.rest
    → Taken total new.rest × HasCause new.fault new.rest × (length new.rest < length old.rest)
taken_more total old new more is skips x =
    let s = subst (λ (b : Bool). SkipsNext old (Ok b) new) is skips in
    (taken_next total old.rest new.rest s.0 x s.1, s.2, next_shorter old.rest new.rest s.0 s.1)

pub taken_all : (total : List ℕ) (old new : Fed) (more : Bool) (count : ℕ) → more ≡ false → SkipsNext old (Ok more) new → Taken total old.rest → count ≡ length new.rest → LeavesUncut total count
taken_all total old new more count is skips x counted =
    let s = subst (λ (b : Bool). SkipsNext old (Ok b) new) is skips in
    (record { pdus = x.1; rest = old.rest; fault = s.0 }, record { front = x.0; whole = x.3; pdus = x.2; remains = s.1 }, counted ∙ ap (λ (r : List ℕ). length r) s.2)
