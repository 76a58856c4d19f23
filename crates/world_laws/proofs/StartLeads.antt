-- A call may be started wherever its condition holds: its request has fragments.
use Rattle.std.proofs.Common.{◌≡◌, ℕ, zero, suc, ◌<◌, ◌≤◌, Bool, true, false, List, [], ◌∷◌, ◌++◌, length, refl, sym, ap, subst, arith, length-append}
use Rattle.std.specs.Prelude.{nat_le}
use Rattle.std.specs.List.{flat_map}
use Rattle.std.proofs.lemmas.Bool.{leb-true, leb-false}
use Rattle.pdu_codec.specs.Constants.{stub_offset}
use Rattle.pdu_codec.specs.Pdus.{pdu_octets}
use Rattle.pdu_stream.specs.Pieces.{piece_size, ArePieces}
use Rattle.ndr_value.specs.Values.{Msg}
use Rattle.ndr_table.specs.Tables.{TableForm}
use Rattle.client_core.specs.States.{ClientState, at_start, next_id}
use Rattle.client_core.specs.Octets.{request_fragments}
use Rattle.client_core.specs.Calls.{asking, with_call}
use Rattle.client_core.specs.Histories.{ClientEvent, Happens, Lives}
use Rattle.client_core.specs.Histories.ClientEvent.{DidBind, DidAlter, DidCall, DidCancel, Received, Lost}
use Rattle.client_laws.specs.Meeting.{IsLawful}
use Rattle.client_laws.proofs.Keeping.{keeps}
use Rattle.world_laws.specs.Ends.{Line}
use Rattle.world_laws.specs.Worlds.{World, with_line, starting, Starts}
use Rattle.world_laws.specs.Leading.{MayStart, StartsLead}
use Rattle.world_laws.proofs.Moving.{holds}

-- ---- a stub in pieces

record Parts (n : ℕ) (xs : List ℕ) : Type 0 where
  front : List ℕ
  later : List ℕ
  whole : xs ≡ front ++ later
  long : length front ≡ n

parts : (n : ℕ) (xs : List ℕ) → n ≤ length xs → Parts n xs
parts zero xs le = record { front = []; later = xs; whole = refl; long = refl }
parts (suc n) [] le = absurd (omega (arith, le))
parts (suc n) (x ∷ xs) le =
    let p = parts n xs (omega (arith, le)) in
    record { front = x ∷ p.front; later = p.later; whole = ap (λ (ys : List ℕ). x ∷ ys) p.whole; long = ap suc p.long }

record InPieces (size : ℕ) (stub : List ℕ) : Type 0 where
  first : List ℕ
  others : List (List ℕ)
  are : ArePieces size stub (first ∷ others)

one_piece : (size : ℕ) (stub : List ℕ) → length stub ≤ size → InPieces size stub
one_piece size stub le = record { first = stub; others = []; are = (refl, le) }

more_pieces : (size : ℕ) (stub : List ℕ) (p : Parts size stub) → size < length stub → InPieces size p.later → InPieces size stub
more_pieces size stub p lt more =
    record { first = p.front; others = more.first ∷ more.others; are = (p.later, p.whole, p.long, omega (arith, lt, ap length p.whole, length-append p.front p.later, p.long), more.are) }

cut_at : (fuel size : ℕ) (stub : List ℕ) → 1 ≤ size → length stub ≤ suc fuel → ((later : List ℕ) → length later ≤ fuel → InPieces size later) → (b : Bool) → nat_le (length stub) size ≡ b → InPieces size stub
cut_at fuel size stub some few go true e = one_piece size stub (leb-true (length stub) size e)
cut_at fuel size stub some few go false e =
    let lt = leb-false (length stub) size e in
    let p = parts size stub (omega (arith, lt)) in
    more_pieces size stub p lt (go p.later (omega (arith, some, few, lt, ap length p.whole, length-append p.front p.later, p.long)))

in_pieces : (fuel size : ℕ) (stub : List ℕ) → 1 ≤ size → length stub ≤ fuel → InPieces size stub
in_pieces zero size stub some few = one_piece size stub (omega (arith, few))
in_pieces (suc fuel) size stub some few = cut_at fuel size stub some few (λ later le. in_pieces fuel size later some le) (nat_le (length stub) size) refl

-- ---- fragments stay lawful

happens_lawful : (s n : ClientState) (e : ClientEvent) → Happens s e n → IsLawful s.most → IsLawful n.most
happens_lawful s n (DidBind group octets) h l = subst (λ (x : ClientState). IsLawful x.most) (sym h.1) (omega arith, omega arith)
happens_lawful s n (DidAlter context octets) h l = subst (λ (x : ClientState). IsLawful x.most) (sym h.1) l
happens_lawful s n (DidCall op m octets) (o, found, (short, (request, after))) l = subst (λ (x : ClientState). IsLawful x.most) (sym after) l
happens_lawful s n (DidCancel octets) h l = subst (λ (x : ClientState). IsLawful x.most) (sym h.1) l
happens_lawful s n (Received p t) h l = (keeps s n p p.body t h).lawful l
happens_lawful s n (Lost called) h l = subst (λ (x : ClientState). IsLawful x.most) (sym h.1) (omega arith, omega arith)

lives_lawful : (events : List ClientEvent) (s n : ClientState) → Lives s events n → IsLawful s.most → IsLawful n.most
lives_lawful [] s n is l = subst (λ (x : ClientState). IsLawful x.most) (sym is) l
lives_lawful (e ∷ later) s n (between, first, more) l = lives_lawful later between n more (happens_lawful s between e first l)

-- ---- the move

starts_by : (table : TableForm) (w : World) (op : ℕ) (m : Msg) (i : ℕ) (l : Line) → IsLawful l.caller.state.most → MayStart l op m → (v : World) × Starts table w op m i l v
starts_by table w op m i l lawful s =
    let stub = asking l.caller.state.interface s.operation m in
    let size = piece_size l.caller.state.most stub_offset in
    let p = in_pieces (length stub) size stub (omega (arith, lawful.0)) (omega arith) in
    let pieces = p.first ∷ p.others in
    let octets = flat_map pdu_octets (request_fragments (next_id l.caller.state) op s.operation.maybe true pieces) in
    let state = with_call l.caller.state op m s.operation.maybe in (
      record (with_line w i (starting table l op m octets state) w.past) { starts = w.starts ++ record { line = i; place = length l.caller.rows } ∷ [] },
      record { bound = s.bound; free = s.free; message = (s.operation, s.found, s.of_op); octets = octets; state = state; calls = (s.operation, s.found, (s.short, ((pieces, p.are, refl), refl))); after = refl },
    )

pub starts_lead : StartsLead
starts_lead table played w c op m fits few p (i, l, at, named, stands, s) =
    let h = (holds table played w fits few p).lines i l at in
    let lawful = lives_lawful l.caller.events (at_start table) l.caller.state h.began (omega arith, omega arith) in
    let (v, starts) = starts_by table w op m i l lawful s in
    (v, (i, l, at, named, stands, starts))
