-- Further octets come behind.
use Rattle.std.proofs.Common.{◌≡◌, ℕ, ◌<◌, ◌≤◌, inl, inr, List, [], ◌∷◌, ◌++◌, length, take, drop, slice_index, Option, Some, None, Ok, refl, ap, subst, ◌∙◌, append_assoc, arith, length-append}
use Rattle.std.proofs.lemmas.List.{get_or_append_left, take-append-le, drop-append-le, length-drop}
use Rattle.pdu_codec.specs.Constants.{header_size}
use Rattle.pdu_codec.specs.declared.pdu.Pdu.{Pdu}
use Rattle.pdu_codec.specs.declared.fault.PduFault.{PduFault}
use Rattle.pdu_codec.specs.Pdus.{pdu_octets}
use Rattle.pdu_stream.proofs.CutLaws.{fault_stays, stops_by, StopsBy}
use Rattle.pdu_stream.proofs.CutLaws.StopsBy.{by_head, by_body}
use Rattle.conn_asks.specs.declared.events.Act.{Act}
use Rattle.conn_asks.specs.declared.events.Act.TheVariants as acts
use Rattle.conn_asks.specs.Asks.{caller_at, broken_by}
use Rattle.conn_asks.specs.Answers.{closing}
use Rattle.conn_asks.specs.States.{ConnState, with_octets, TakesPdu, SkipsAll, Acts, Goes}

pub takes_more : (m n : ConnState) (p : Pdu) (more : List ℕ) → TakesPdu m p n → TakesPdu (with_octets m more) p (with_octets n more)
takes_more m n p more t = record {
  may = t.may;
  next = (t.next.0, t.next.1, ap (λ (x : List ℕ). x ++ more) t.next.2 ∙ append_assoc t.next.0 n.rest more);
  past = t.past;
  ids = t.ids;
  agreement = t.agreement;
}

pub skips_more : (m : ConnState) (ps : List Pdu) (n : ConnState) (more : List ℕ) → SkipsAll m ps n → SkipsAll (with_octets m more) ps (with_octets n more)
skips_more m [] n more e = ap (λ (x : ConnState). with_octets x more) e
skips_more m (p ∷ ps) n more all =
    let s = all.1 in
    (with_octets all.0 more, record { takes = takes_more m all.0 p more s.takes; ask = s.ask; asks = s.asks; idle = s.idle; waits = s.waits }, skips_more all.0 ps n more all.2)

pub skips_append : (m : ConnState) (ps qs : List Pdu) (n k : ConnState) → SkipsAll m ps n → SkipsAll n qs k → SkipsAll m (ps ++ qs) k
skips_append m [] qs n k e all = subst (λ (x : ConnState). SkipsAll x qs k) e all
skips_append m (p ∷ ps) qs n k all later = (all.0, all.1, skips_append all.0 ps qs n k all.2 later)

-- ---- a fault's header

pub long_by : (rest : List ℕ) (f : PduFault) → StopsBy rest f → header_size ≤ length rest
long_by rest f (by_head h) = h.0
long_by rest f (by_body f_is whole more e fault) = omega (arith, ap length e, length-append whole more, fault.0)

index_more : (rest more : List ℕ) (i : ℕ) → i < header_size → header_size ≤ length rest → slice_index (rest ++ more) i ≡ slice_index rest i
index_more rest more i lt long = get_or_append_left rest more 0 i (omega (arith, lt, long))

id_more : (rest more : List ℕ) → header_size ≤ length rest → take 4 (drop 12 (rest ++ more)) ≡ take 4 (drop 12 rest)
id_more rest more long =
    rw (drop-append-le 12 rest more (omega (arith, long))) (take-append-le 4 (drop 12 rest) more (omega (arith, length-drop 12 rest, long)))

pub caller_more : (rest more : List ℕ) → header_size ≤ length rest → caller_at (rest ++ more) ≡ caller_at rest
caller_more rest more long = rw (index_more rest more 4 (omega arith) long, id_more rest more long) refl

pub broken_more : (rest more : List ℕ) (f : PduFault) → header_size ≤ length rest → broken_by (rest ++ more) f ≡ broken_by rest f
broken_more rest more f long = rw (index_more rest more 2 (omega arith) long) refl

close_more : (rest more : List ℕ) (f : PduFault) → header_size ≤ length rest
    → acts.Close (pdu_octets (closing (caller_at rest) (broken_by rest f))) (broken_by rest f)
    ≡ acts.Close (pdu_octets (closing (caller_at (rest ++ more)) (broken_by (rest ++ more) f))) (broken_by (rest ++ more) f)
close_more rest more f long = rw (caller_more rest more long, broken_more rest more f long) refl

pub acts_more : (m n : ConnState) (act : Act) (more : List ℕ) → Acts m act n → Acts (with_octets m more) act (with_octets n more)
acts_more m n act more (inl a) =
    let s = a.1 in
    inl (a.0, record { takes = takes_more m n a.0 more s.takes; ask = s.ask; asks = s.asks; does = s.does })
acts_more m n act more (inr a) =
    let s = a.1 in
    let long : header_size ≤ length m.rest = long_by m.rest a.0 (stops_by m.rest a.0 s.stops) in
    inr (
      a.0,
      record {
        free = s.free;
        stops = fault_stays m.rest more a.0 s.stops;
        act_is = s.act_is ∙ close_more m.rest more a.0 long;
        after = ap (λ (x : ConnState). with_octets x more) s.after;
      },
    )

pub act_stays : (m n : ConnState) (act : Act) (more : List ℕ) → Goes m (Ok (Some act)) n → Goes (with_octets m more) (Ok (Some act)) (with_octets n more)
act_stays m n act more g = (g.0, with_octets g.1 more, skips_more m g.0 g.1 more g.2, acts_more g.1 n act more g.3)

pub skipped_before : (m n k : ConnState) (act : Option Act) (more : List ℕ) → Goes m (Ok None) n → Goes (with_octets n more) (Ok act) k → Goes (with_octets m more) (Ok act) k
skipped_before m n k None more g h =
    (g.0 ++ h.0, skips_append (with_octets m more) g.0 h.0 (with_octets n more) k (skips_more m g.0 n more g.1) h.1, h.2)
skipped_before m n k (Some act) more g h =
    (g.0 ++ h.0, h.1, skips_append (with_octets m more) g.0 h.0 (with_octets n more) h.1 (skips_more m g.0 n more g.1) h.2, h.3)
