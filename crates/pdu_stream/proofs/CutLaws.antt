-- A stream has one cut, which goes on.
use Rattle.std.proofs.Common.{◌≡◌, ◌≢◌, ℕ, ◌≤◌, inl, inr, List, [], ◌∷◌, ◌++◌, length, take, drop, Option, Some, None, refl, sym, ap, subst, ◌∙◌, append_assoc, arith}
use Rattle.std.proofs.lemmas.List.{length-append, take_at, drop_at}
use Rattle.pdu_codec.specs.Constants.{header_size}
use Rattle.pdu_codec.specs.declared.pdu.Pdu.{Pdu}
use Rattle.pdu_codec.specs.declared.fault.PduFault.{PduFault}
use Rattle.pdu_codec.specs.declared.fault.PduFault.TheVariants as faults
use Rattle.pdu_codec.specs.Pdus.{IsPdu, AreSpelled, head_of}
use Rattle.pdu_codec.specs.Faults.{is_known, frag_length, IsHeadFault, IsFault}
use Rattle.pdu_codec.proofs.HeadLaws.{no_head_fault}
use Rattle.pdu_codec.proofs.PduLaws.{pdu_says, pdu_long, body_known, one_pdu}
use Rattle.pdu_codec.proofs.AnswerLaws.{head_one, one_fault, no_fault}
use Rattle.pdu_stream.specs.declared.cut.Cut.{Cut}
use Rattle.pdu_stream.specs.Cuts.{IsPartial, HeadStops, IsStop, Remains, IsCut}
use Rattle.pdu_stream.proofs.Heads.{tested, tested_more, fault_along, size_along, fault_of_whole}

-- ---- PDUs in a row

pub spelled_append : (ps qs : List Pdu) (a b : List ℕ) → AreSpelled IsPdu ps a → AreSpelled IsPdu qs b → AreSpelled IsPdu (ps ++ qs) (a ++ b)
spelled_append [] qs a b h k = subst (λ (t : List ℕ). AreSpelled IsPdu qs (t ++ b)) (sym h) k
spelled_append (p ∷ ps) qs a b h k =
    (h.0, h.1 ++ b, ap (λ (t : List ℕ). t ++ b) h.2 ∙ append_assoc h.0 h.1 b, h.3, spelled_append ps qs h.1 b h.4 k)

-- two fronts of one list that are as long are the same
pub same_fronts : (a b x y : List ℕ) → a ++ x ≡ b ++ y → length a ≡ length b → (a ≡ b) × (x ≡ y)
same_fronts a b x y e len =
    (sym (take_at a x (length b) len) ∙ ap (take (length b)) e ∙ take_at b y (length b) refl, sym (drop_at a x (length b) len) ∙ ap (drop (length b)) e ∙ drop_at b y (length b) refl)

-- ---- where a fault lies

pub data StopsBy (rest : List ℕ) (f : PduFault) : Type 0 where
  by_head : HeadStops rest f → StopsBy rest f
  by_body : f ≡ faults.Body → (whole more : List ℕ) → rest ≡ whole ++ more → IsFault whole faults.Body → StopsBy rest f

pub stops_by : (rest : List ℕ) (f : PduFault) → IsStop rest f → StopsBy rest f
stops_by rest faults.Version h = by_head h
stops_by rest faults.Kind h = by_head h
stops_by rest faults.Length h = by_head h
stops_by rest faults.Auth h = by_head h
stops_by rest faults.Characters h = by_head h
stops_by rest faults.Body h = by_body refl h.0 h.1 h.2 h.3
stops_by rest faults.Memory h = absurd h

pub head_stops : (rest : List ℕ) (f : PduFault) → HeadStops rest f → IsStop rest f
head_stops rest faults.Version h = h
head_stops rest faults.Kind h = h
head_stops rest faults.Length h = h
head_stops rest faults.Auth h = h
head_stops rest faults.Characters h = h
head_stops rest faults.Body h = absurd h.1
head_stops rest faults.Memory h = absurd h.1

-- ---- a PDU with a fault of its body has as many octets as its header says

body_long : (whole : List ℕ) → IsFault whole faults.Body → header_size ≤ length whole
body_long whole h = h.0

body_size : (whole more : List ℕ) → IsFault whole faults.Body → frag_length (whole ++ more) ≡ length whole
body_size whole more h = size_along (whole ++ more) whole (tested_more whole more h.0) ∙ h.2.0.0.1.1

-- ---- a PDU in front

pub pdu_size : (p : Pdu) (front others : List ℕ) → IsPdu p front → frag_length (front ++ others) ≡ length front
pdu_size p front others is = size_along (front ++ others) front (tested_more front others (pdu_long p front is)) ∙ (pdu_says p front is).size

pub pdu_sound : (p : Pdu) (front others : List ℕ) (f : PduFault) → IsPdu p front → HeadStops (front ++ others) f → ⊥
pdu_sound p front others f is stops =
    let s = pdu_says p front is in
    let long = pdu_long p front is in
    no_head_fault None p.minor (head_of p (length front)) is.body front s is.minor (ap is_known s.kind ∙ body_known p.body) long f
    (fault_along None (front ++ others) front f (tested_more front others long) stops.1)

not_partial : (p : Pdu) (front others : List ℕ) → IsPdu p front → IsPartial (front ++ others) → ⊥
not_partial p front others is (inl short) = absurd (omega (arith, length-append front others, pdu_long p front is, short))
not_partial p front others is (inr h) = absurd (omega (arith, length-append front others, pdu_size p front others is, h.1))

not_stopped : (p : Pdu) (front others : List ℕ) (f : PduFault) → IsPdu p front → StopsBy (front ++ others) f → ⊥
not_stopped p front others f is (by_head h) = pdu_sound p front others f is h
not_stopped p front others f is (by_body f_is whole more e fault) =
    let len : length front ≡ length whole = sym (pdu_size p front others is) ∙ ap frag_length e ∙ body_size whole more fault in
    let same : front ≡ whole = (same_fronts front whole others more e len).0 in
    let wrong : faults.Body ≡ faults.Memory = no_fault p whole faults.Body (subst (λ (t : List ℕ). IsPdu p t) same is) fault in
    absurd (cc (wrong))

pub not_remains : (p : Pdu) (front others : List ℕ) (f : Option PduFault) → IsPdu p front → Remains (front ++ others) f → ⊥
not_remains p front others None is h = not_partial p front others is h
not_remains p front others (Some f) is h = not_stopped p front others f is (stops_by (front ++ others) f h)

-- ---- what remains is partial, or has one fault

stopped_partial : (rest : List ℕ) (f : PduFault) → StopsBy rest f → IsPartial rest → ⊥
stopped_partial rest f (by_head h) (inl short) = absurd (omega (arith, h.0, short))
stopped_partial rest f (by_head h) (inr part) = part.0.sound f h.1
stopped_partial rest f (by_body f_is whole more e fault) (inl short) =
    absurd (omega (arith, ap length e, length-append whole more, body_long whole fault, short))
stopped_partial rest f (by_body f_is whole more e fault) (inr part) =
    absurd (omega (arith, ap length e, length-append whole more, ap frag_length e, body_size whole more fault, part.1))

front_fault : (whole : List ℕ) (f : PduFault) → header_size ≤ length whole → IsHeadFault (Some (length whole)) whole f → IsFault whole f
front_fault whole faults.Version long h = (long, h)
front_fault whole faults.Kind long h = (long, h)
front_fault whole faults.Length long h = inr (long, h)
front_fault whole faults.Auth long h = (long, h)
front_fault whole faults.Characters long h = (long, h)
front_fault whole faults.Body long h = absurd h
front_fault whole faults.Memory long h = absurd h

head_and_body : (rest : List ℕ) (f : PduFault) (whole more : List ℕ) → HeadStops rest f → rest ≡ whole ++ more → IsFault whole faults.Body → ⊥
head_and_body rest f whole more stops e fault =
    let long = body_long whole fault in
    let alone : IsHeadFault None whole f = fault_along None rest whole f (ap tested e ∙ tested_more whole more long) stops.1 in
    let head : IsHeadFault (Some (length whole)) whole f = fault_of_whole (length whole) whole f fault.2.0.0.1.1 alone in
    let known : f ≢ faults.Memory = λ f_is. subst (λ (g : PduFault). IsHeadFault None whole g) f_is alone in
    let body : faults.Body ≢ faults.Memory = λ b. absurd (cc (b)) in
    let f_is : f ≡ faults.Body = one_fault whole f faults.Body (front_fault whole f long head) fault known body in
    subst (λ (g : PduFault). IsHeadFault None whole g) f_is alone

one_stopped : (rest : List ℕ) (f g : PduFault) → StopsBy rest f → StopsBy rest g → f ≡ g
one_stopped rest f g (by_head h) (by_head k) = head_one None rest f g h.1 k.1
one_stopped rest f g (by_head h) (by_body g_is whole more e fault) = absurd (head_and_body rest f whole more h e fault)
one_stopped rest f g (by_body f_is whole more e fault) (by_head k) = absurd (head_and_body rest g whole more k e fault)
one_stopped rest f g (by_body f_is whole more e fault) (by_body g_is whole' more' e' fault') = f_is ∙ sym g_is

abbrev given : PduFault → Option PduFault
given f = Some f

pub one_remains : (rest : List ℕ) (f g : Option PduFault) → Remains rest f → Remains rest g → f ≡ g
one_remains rest None None h k = refl
one_remains rest None (Some g) h k = absurd (stopped_partial rest g (stops_by rest g k) h)
one_remains rest (Some f) None h k = absurd (stopped_partial rest f (stops_by rest f h) k)
one_remains rest (Some f) (Some g) h k = ap given (one_stopped rest f g (stops_by rest f h) (stops_by rest g k))

-- ---- one cut

abbrev cut_of : List Pdu → List ℕ → Option PduFault → Cut
cut_of pdus rest fault = record { pdus = pdus; rest = rest; fault = fault }

-- the PDU in front of PDUs in a row
pub regrouped : (s a x first others : List ℕ) → s ≡ a ++ x → a ≡ first ++ others → s ≡ first ++ (others ++ x)
regrouped s a x first others e k = e ∙ ap (λ (t : List ℕ). t ++ x) k ∙ append_assoc first others x

pub one_next : (p q : Pdu) (first first' x y : List ℕ) → IsPdu p first → IsPdu q first' → first ++ x ≡ first' ++ y → (p ≡ q) × (x ≡ y)
one_next p q first first' x y is is' e =
    let len : length first ≡ length first' = sym (pdu_size p first x is) ∙ ap frag_length e ∙ pdu_size q first' y is' in
    let same = same_fronts first first' x y e len in
    (one_pdu p q first' (subst (λ (t : List ℕ). IsPdu p t) same.0 is) is', same.1)

cuts_same : (ps qs : List Pdu) (s a b front front' : List ℕ) (f g : Option PduFault) → AreSpelled IsPdu ps front → AreSpelled IsPdu qs front'
    → s ≡ front ++ a → s ≡ front' ++ b → Remains a f → Remains b g → cut_of ps a f ≡ cut_of qs b g
cuts_same [] [] s a b front front' f g h k e e' r r' =
    let sa : s ≡ a = e ∙ ap (λ (t : List ℕ). t ++ a) h in
    let sb : s ≡ b = e' ∙ ap (λ (t : List ℕ). t ++ b) k in
    let ab : a ≡ b = sym sa ∙ sb in
    let fg : f ≡ g = one_remains b f g (subst (λ (t : List ℕ). Remains t f) ab r) r' in
    λ i. record { pdus = []; rest = ab i; fault = fg i }
cuts_same [] (q ∷ qs) s a b front front' f g h k e e' r r' =
    let sa : s ≡ a = e ∙ ap (λ (t : List ℕ). t ++ a) h in
    let at : a ≡ k.0 ++ (k.1 ++ b) = sym sa ∙ regrouped s front' b k.0 k.1 e' k.2 in
    absurd (not_remains q k.0 (k.1 ++ b) f k.3 (subst (λ (t : List ℕ). Remains t f) at r))
cuts_same (p ∷ ps) [] s a b front front' f g h k e e' r r' =
    let sb : s ≡ b = e' ∙ ap (λ (t : List ℕ). t ++ b) k in
    let at : b ≡ h.0 ++ (h.1 ++ a) = sym sb ∙ regrouped s front a h.0 h.1 e h.2 in
    absurd (not_remains p h.0 (h.1 ++ a) g h.3 (subst (λ (t : List ℕ). Remains t g) at r'))
cuts_same (p ∷ ps) (q ∷ qs) s a b front front' f g h k e e' r r' =
    let next = one_next p q h.0 k.0 (h.1 ++ a) (k.1 ++ b) h.3 k.3 (sym (regrouped s front a h.0 h.1 e h.2) ∙ regrouped s front' b k.0 k.1 e' k.2) in
    let later = cuts_same ps qs (h.1 ++ a) a b h.1 k.1 f g h.4 k.4 refl next.1 r r' in
    λ i. record { pdus = next.0 i ∷ (later i).pdus; rest = (later i).rest; fault = (later i).fault }

pub one_cut : (stream : List ℕ) (a b : Cut) → IsCut stream a → IsCut stream b → a ≡ b
one_cut stream a b h k = cuts_same a.pdus b.pdus stream a.rest b.rest h.front k.front a.fault b.fault h.pdus k.pdus h.whole k.whole h.remains k.remains

-- ---- what goes on

pub cut_goes_on : (front stream : List ℕ) (pdus : List Pdu) (cut : Cut) → AreSpelled IsPdu pdus front → IsCut stream cut → IsCut (front ++ stream) (record cut { pdus = pdus ++ cut.pdus })
cut_goes_on front stream pdus cut spelled is = record {
  front = front ++ is.front;
  whole = ap (λ (t : List ℕ). front ++ t) is.whole ∙ sym (append_assoc front is.front cut.rest);
  pdus = spelled_append pdus cut.pdus front is.front spelled is.pdus;
  remains = is.remains;
}

stays : (rest more : List ℕ) (f : PduFault) → StopsBy rest f → IsStop (rest ++ more) f
stays rest more f (by_head h) =
    head_stops (rest ++ more) f (omega (arith, length-append rest more, h.0), fault_along None rest (rest ++ more) f (sym (tested_more rest more h.0)) h.1)
stays rest more f (by_body f_is whole others e fault) =
    subst (λ (g : PduFault). IsStop (rest ++ more) g) (sym f_is) (whole, others ++ more, ap (λ (t : List ℕ). t ++ more) e ∙ append_assoc whole others more, fault)

pub fault_stays : (rest more : List ℕ) (f : PduFault) → IsStop rest f → IsStop (rest ++ more) f
fault_stays rest more f h = stays rest more f (stops_by rest f h)
