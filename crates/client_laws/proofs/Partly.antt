-- An answer of which only a part came tells nothing.
use Rattle.std.proofs.Common.{◌≡◌, ℕ, ◌+◌, ◌^◌, ◌<◌, ◌≤◌, Bool, true, false, eqb, List, [], ◌∷◌, ◌++◌, length, Option, Some, None, Ok, refl, sym, ap, subst, ◌∙◌, append-nil, arith, length-append}
use Rattle.pdu_codec.specs.Constants.{stub_offset}
use Rattle.pdu_codec.specs.Pdus.{pdu_octets, IsPdu, AreSpelled}
use Rattle.pdu_codec.specs.declared.pdu.Pdu.{Pdu}
use Rattle.pdu_stream.specs.declared.cut.Cut.{Cut}
use Rattle.pdu_stream.specs.declared.joined.Joined.{Joined}
use Rattle.pdu_stream.specs.Cuts.{IsCut}
use Rattle.pdu_stream.specs.Pieces.{piece_size, ArePieces}
use Rattle.pdu_stream.specs.Fragments.{is_last, with_fragment, IsTaken, Joining, most_stub}
use Rattle.pdu_stream.proofs.CutLaws.{one_cut}
use Rattle.handle_model.specs.declared.entry.Said.{Said}
use Rattle.handle_model.specs.declared.entry.Said.TheVariants.{Out, Fault}
use Rattle.ndr_table.specs.Tables.{OpForm}
use Rattle.ndr_laws.specs.Laws.{OneMessage, StubIsRead}
use Rattle.conn_asks.specs.declared.events.Caller.{Caller}
use Rattle.conn_asks.specs.Answers.{octets_in, response_fragment, fault, Replies}
use Rattle.client_core.specs.States.{Outcome, ClientState, Calling}
use Rattle.client_core.specs.Histories.{with_outcome}
use Rattle.client_core.specs.Hears.{joined_so_far, HearsBody}
use Rattle.client_core.proofs.Putting.{octets_in-pieces}
use Rattle.client_laws.specs.Meeting.{IsLawful, HearsAll}
use Rattle.client_laws.specs.Ends.{IsWaiting, FitsCaller, SaysSome}
use Rattle.client_laws.specs.Parts.{RepliesTellLast}
use Rattle.client_laws.proofs.Joining.{positive}
use Rattle.client_laws.proofs.Responses.{says_last, response_pdus, whole_answer, run_at, Begins, fragment_at, joins, taken, fault_is, response_spelled, all_cut}
use Rattle.client_laws.proofs.Telling.{IsOut, is_out, inner, heard_as}
use Rattle.client_laws.proofs.Ending.{answers_are_told}

-- nothing is told, and the answer is joined so far
abbrev Waits : ClientState → Calling → List Outcome → ClientState → Type 0
Waits s c told n = (told ≡ []) × ((joining : Joining) × (n ≡ joined_so_far s c joining))

as_it_was : (s n : ClientState) (c : Calling) (told : List Outcome) → s.call ≡ Some c → HearsAll s [] told n → Waits s c told n
as_it_was s n c told out h = (h.0, (c.joining, h.1 ∙ ap (λ (x : Option Calling). record s { call = x }) out))

tail_of : (a b : Pdu) (xs ys : List Pdu) → a ∷ xs ≡ b ∷ ys → xs ≡ ys
tail_of a b xs ys e = cc

head_of : (a b : Pdu) (xs ys : List Pdu) → a ∷ xs ≡ b ∷ ys → b ≡ a
head_of a b xs ys e = cc

part : (pieces : List (List ℕ)) (front later : List Pdu) (q : Pdu) (s n : ClientState) (c : Calling) (caller : Caller) (size : ℕ) (first : Bool) (so_far stub : List ℕ) (told : List Outcome)
    → response_pdus caller first pieces ≡ front ++ q ∷ later → IsOut s c → c.joining ≡ Ok (run_at caller first so_far) → caller.call_id ≡ c.id → ArePieces size stub pieces → Begins first so_far
    → length so_far + length stub ≤ most_stub → HearsAll s front told n → Waits s c told n
part pieces [] later q s n c caller size first so_far stub told whole out at id are begins short h = as_it_was s n c told out.call h
part [] (p ∷ front) later q s n c caller size first so_far stub told whole out at id are begins short h = absurd are
part (piece ∷ []) (p ∷ front) later q s n c caller size first so_far stub told whole out at id are begins short h = absurd (omega (arith, ap length whole, length-append front (q ∷ later)))
part (piece ∷ next ∷ more) (p ∷ front) later q s n c caller size first so_far stub told whole out at id (behind, stub_is, long, some, are) begins short (t, between, others, hears, told_is, rest) =
    let left = octets_in (next ∷ more) in
    let count : left ≡ length behind = octets_in-pieces size behind (next ∷ more) are in
    let total : length stub ≡ length piece + length behind = ap length stub_is ∙ length-append piece behind in
    let f = fragment_at caller first piece left in
    let run = run_at caller first so_far in
    let takes : IsTaken run f = taken caller first so_far piece left begins (omega (arith, short, total)) in
    let unended : is_last f ≡ false = says_last first (eqb left 0) ∙ positive left (omega (arith, count, some)) in
    let pdu = response_fragment caller first piece left in
    let heard_it : HearsBody s pdu pdu.body t between = subst (λ (x : Pdu). HearsBody s x x.body t between) (head_of pdu p (response_pdus caller false (next ∷ more)) (front ++ q ∷ later) whole) hears in
    let one = inner s between c run f t at takes unended (heard_as s between c caller f t out id heard_it) in
    let joined : with_fragment run f ≡ whole_answer caller (so_far ++ piece) = joins caller first so_far piece left begins in
    let d : Calling = record c { joining = Ok (Some (whole_answer caller (so_far ++ piece))) } in
    let s2 : ClientState = record s { call = Some d } in
    let there : between ≡ s2 = one.1 ∙ ap (λ (j : Joined). joined_so_far s c (Ok (Some j))) joined in
    let r = part (next ∷ more) front later q s2 n d caller size false (so_far ++ piece) behind others
    (tail_of pdu p (response_pdus caller false (next ∷ more)) (front ++ q ∷ later) whole) (record { call = refl; no_bind = out.no_bind }) refl id are tt
    (omega (arith, short, total, length-append so_far piece)) (subst (λ (x : ClientState). HearsAll x front others n) there rest) in
    (told_is ∙ (ap (λ (x : Option Outcome). with_outcome x others) one.0 ∙ r.0), (r.1.0, r.1.1))

-- ---- of a fault there are no parts

one_pdu : (p q : Pdu) (front later : List Pdu) (s n : ClientState) (c : Calling) (told : List Outcome) → p ∷ [] ≡ front ++ q ∷ later → s.call ≡ Some c → HearsAll s front told n → Waits s c told n
one_pdu p q [] later s n c told whole out h = as_it_was s n c told out h
one_pdu p q (x ∷ front) later s n c told whole out h = absurd (omega (arith, ap length whole, length-append front (q ∷ later)))

cut_of : (octets : List ℕ) (cut : Cut) (pdus : List Pdu) → IsCut octets cut → AreSpelled IsPdu pdus octets → pdus ≡ cut.pdus
cut_of octets cut pdus is_cut spelled = ap (λ (x : Cut). x.pdus) (sym (one_cut octets cut (record { pdus = pdus; rest = []; fault = None }) is_cut (all_cut pdus octets spelled)))

partly : (s n : ClientState) (c : Calling) (o : OpForm) (caller : Caller) (most : ℕ) (executed : Bool) (said : Said) (octets : List ℕ) (cut : Cut) (front later : List Pdu) (q : Pdu) (told : List Outcome)
    → IsWaiting s c → caller.call_id ≡ c.id → FitsCaller caller → IsLawful most → SaysSome o s c caller said → Replies caller most false executed (Some said) octets → IsCut octets cut
    → cut.pdus ≡ front ++ q ∷ later → HearsAll s front told n → Waits s c told n
partly s n c o caller most executed (Fault status) octets cut front later q told w id fits lawful small put is_cut whole h =
    let p = fault caller executed status in
    let spelled : AreSpelled IsPdu (p ∷ []) octets = (pdu_octets p, [], put ∙ sym (append-nil (pdu_octets p)), fault_is caller executed status fits small, refl) in
    one_pdu p q front later s n c told (cut_of octets cut (p ∷ []) is_cut spelled ∙ whole) w.call h
partly s n c o caller most executed (Out stub) octets cut front later q told w id fits lawful (short, says) (pieces, are, put) is_cut whole h =
    let wide : stub_offset + piece_size most stub_offset < 2 ^ 16 = omega (arith, lawful.0, lawful.1) in
    let pdus = response_pdus caller true pieces in
    let spelled : AreSpelled IsPdu pdus octets = subst (λ (x : List ℕ). AreSpelled IsPdu pdus x) (sym put) (response_spelled pieces caller (piece_size most stub_offset) true stub fits short wide are) in
    part pieces front later q s n c caller (piece_size most stub_offset) true [] stub told (cut_of octets cut pdus is_cut spelled ∙ whole) (is_out s c w) w.fresh id are refl (omega (arith, short)) h

pub replies_tell_last : OneMessage → StubIsRead → RepliesTellLast
replies_tell_last one read s n c o caller most executed said octets cut front [] told w op is_op id fits lawful says replies is_cut whole h =
    let all : HearsAll s cut.pdus told n = subst (λ (x : List Pdu). HearsAll s x told n) (sym (whole ∙ append-nil front)) h in
    let t = answers_are_told one read s n c o caller most executed said octets cut told w op is_op id fits lawful says replies is_cut all in
    (t.0, t.1, t.2, t.3)
replies_tell_last one read s n c o caller most executed said octets cut front (q ∷ later) told w op is_op id fits lawful says replies is_cut whole h =
    partly s n c o caller most executed said octets cut front later q told w id fits lawful says replies is_cut whole h
