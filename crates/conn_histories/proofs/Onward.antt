-- What a longer stream asks goes on from what its front asks.
use Rattle.std.proofs.Common.{◌≡◌, ℕ, List, [], ◌∷◌, ◌++◌, length, ◌≤◌, Option, Some, None, sym, ap, subst, ◌∙◌, append_assoc, append-nil}
use Rattle.pdu_codec.specs.Constants.{header_size}
use Rattle.pdu_codec.specs.declared.pdu.Pdu.{Pdu}
use Rattle.pdu_codec.specs.declared.fault.PduFault.{PduFault}
use Rattle.pdu_codec.specs.Pdus.{IsPdu, AreSpelled}
use Rattle.pdu_stream.specs.declared.cut.Cut.{Cut}
use Rattle.pdu_stream.specs.Cuts.{IsNext, IsCut}
use Rattle.pdu_stream.proofs.CutLaws.{one_cut, fault_stays, stops_by}
use Rattle.conn_asks.specs.declared.events.Ask.{Ask}
use Rattle.conn_asks.specs.declared.events.Ask.TheVariants as asks
use Rattle.conn_asks.specs.Asks.{broken_end, AsksFirst, AreAsks, AreAsksOf}
use Rattle.conn_histories.proofs.OneAsk.{one_ask}
use Rattle.conn_histories.proofs.Asking.{asks_alike, ask_first}
use Rattle.conn_histories.proofs.More.{long_by, caller_more, broken_more}
use Rattle.conn_histories.proofs.Left.{peel}

abbrev GoesOn : List Ask → List Ask → Type 0
GoesOn a b = (later : List Ask) × (b ≡ a ++ later)

on_first : (ask : Ask) (a b x y : List Ask) → a ≡ ask ∷ x → b ≡ ask ∷ y → GoesOn x y → GoesOn a b
on_first ask a b x y h k g = (g.0, k ∙ (ap (ask_first ask) g.1 ∙ sym (ap (λ (z : List Ask). z ++ g.0) h)))

firsts_on : (ask : Option Ask) (P Q : List Ask → Type 0) (a b : List Ask) → ((x y : List Ask) → P x → Q y → GoesOn x y) → AsksFirst ask P a → AsksFirst ask Q b → GoesOn a b
firsts_on None P Q a b on h k = on a b h k
firsts_on (Some (asks.Broken c f)) P Q a b on h k = ([], k ∙ sym (ap (λ (z : List Ask). z ++ []) h))
firsts_on (Some (asks.Bind c flags body)) P Q a b on h k = on_first (asks.Bind c flags body) a b h.0 k.0 h.1 k.1 (on h.0 k.0 h.2 k.2)
firsts_on (Some (asks.Alter c body)) P Q a b on h k = on_first (asks.Alter c body) a b h.0 k.0 h.1 k.1 (on h.0 k.0 h.2 k.2)
firsts_on (Some (asks.Call j)) P Q a b on h k = on_first (asks.Call j) a b h.0 k.0 h.1 k.1 (on h.0 k.0 h.2 k.2)
firsts_on (Some (asks.Cancel id)) P Q a b on h k = on_first (asks.Cancel id) a b h.0 k.0 h.1 k.1 (on h.0 k.0 h.2 k.2)
firsts_on (Some (asks.Orphan id)) P Q a b on h k = on_first (asks.Orphan id) a b h.0 k.0 h.1 k.1 (on h.0 k.0 h.2 k.2)

-- the PDUs of the front stand in front of those of the whole
on_from : (past pdus : List Pdu) (front rest : List ℕ) (a b : List Ask) (cut : Cut) → AreSpelled IsPdu pdus front → IsCut (front ++ rest) cut
    → AreAsks past pdus [] a → AreAsks past cut.pdus (broken_end cut.rest cut.fault) b → GoesOn a b
on_from past [] front rest a b cut spelled is h k = (b, ap (λ (z : List Ask). z ++ b) (sym h))
on_from past (p ∷ pdus) front rest a b cut spelled is h k =
    let next : IsNext (front ++ rest) p (spelled.1 ++ rest) = (spelled.0, spelled.3, ap (λ (x : List ℕ). x ++ rest) spelled.2 ∙ append_assoc spelled.0 spelled.1 rest) in
    let c = peel (front ++ rest) (spelled.1 ++ rest) p cut next is in
    let end = broken_end cut.rest cut.fault in
    let there : AreAsks past (p ∷ c.later) end b = subst (λ (x : List Pdu). AreAsks past x end b) c.pdus k in
    let same : h.0 ≡ there.0 = one_ask past p h.0 there.0 h.1 there.1 in
    firsts_on there.0 (AreAsks (p ∷ past) pdus []) (AreAsks (p ∷ past) c.later end) a b
    (λ x y l r. on_from (p ∷ past) pdus spelled.1 rest x y (record cut { pdus = c.later }) spelled.4 c.is_cut l r)
    (subst (λ (x : Option Ask). AsksFirst x (AreAsks (p ∷ past) pdus []) a) same h.2) there.2

end_more : (rest more : List ℕ) (f : PduFault) → header_size ≤ length rest → broken_end (rest ++ more) (Some f) ≡ broken_end rest (Some f)
end_more rest more f long = λ i. asks.Broken (caller_more rest more long i) (broken_more rest more f long i) ∷ []

by_fault : (front more : List ℕ) (pdus : List Pdu) (rest : List ℕ) (fault : Option PduFault) (a b : List Ask) (cut : Cut) → IsCut front (record { pdus = pdus; rest = rest; fault = fault }) → IsCut (front ++ more) cut
    → AreAsks [] pdus (broken_end rest fault) a → AreAsks [] cut.pdus (broken_end cut.rest cut.fault) b → GoesOn a b
by_fault front more pdus rest None a b cut is whole h k =
    let at : front ++ more ≡ is.front ++ (rest ++ more) = ap (λ (x : List ℕ). x ++ more) is.whole ∙ append_assoc is.front rest more in
    on_from [] pdus is.front (rest ++ more) a b cut is.pdus (subst (λ (x : List ℕ). IsCut x cut) at whole) h k
by_fault front more pdus rest (Some f) a b cut is whole h k =
    let stays : Cut = record { pdus = pdus; rest = rest ++ more; fault = Some f } in
    let other : IsCut (front ++ more) stays = record {
      front = is.front;
      whole = ap (λ (x : List ℕ). x ++ more) is.whole ∙ append_assoc is.front rest more;
      pdus = is.pdus;
      remains = fault_stays rest more f is.remains;
    } in
    let same : cut ≡ stays = one_cut (front ++ more) cut stays whole other in
    let there : AreAsks [] pdus (broken_end (rest ++ more) (Some f)) b = subst (λ (x : Cut). AreAsks [] x.pdus (broken_end x.rest x.fault) b) same k in
    let end = end_more rest more f (long_by rest f (stops_by rest f is.remains)) in
    let alike : a ≡ b = asks_alike [] pdus (broken_end rest (Some f)) a b h (subst (λ (x : List Ask). AreAsks [] pdus x b) end there) in
    ([], sym alike ∙ sym (append-nil a))

pub asks_go_on : (front more : List ℕ) (a b : List Ask) → AreAsksOf front a → AreAsksOf (front ++ more) b → (later : List Ask) × (b ≡ a ++ later)
asks_go_on front more a b h k = by_fault front more h.cut.pdus h.cut.rest h.cut.fault a b k.cut h.is_cut k.is_cut h.asked k.asked
