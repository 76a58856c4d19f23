-- Octets ask one list.
use Rattle.std.proofs.Common.{◌≡◌, ◌≢◌, ℕ, ◌⊎◌, inl, inr, Bool, true, false, eqb, List, [], ◌∷◌, length, reverse, Option, Some, None, Ok, refl, sym, ap, subst, ◌∙◌}
use Rattle.std.proofs.lemmas.Bool.{cases_lt}
use Rattle.rpc_base.specs.Fields.{IsOctets}
use Rattle.rpc_base.specs.declared.identifiers.Order.{Order}
use Rattle.rpc_base.specs.declared.identifiers.Order.TheVariants.{Big, Little}
use Rattle.handle_model.proofs.Reversed.{reverse-cons}
use Rattle.pdu_codec.specs.declared.pdu.Pdu.{Pdu}
use Rattle.pdu_codec.specs.declared.pdu.Body.{Body}
use Rattle.pdu_codec.specs.declared.pdu.Body.TheVariants as bodies
use Rattle.pdu_codec.specs.declared.pdu.RequestBody.{RequestBody}
use Rattle.pdu_stream.specs.declared.joined.Joined.{Joined}
use Rattle.pdu_stream.specs.declared.joined.JoinFault.{JoinFault}
use Rattle.pdu_stream.specs.declared.joined.JoinFault.TheVariants.{FragOrder, FragDrep, TooLong, Memory}
use Rattle.pdu_stream.specs.declared.cut.Cut.{Cut}
use Rattle.pdu_stream.specs.Fragments.{Fragment, is_in_order, is_last, with_fragment, most_stub, HasOrder, HasOtherOrder, IsTaken, IsJoinFault, Marks, Drops}
use Rattle.pdu_stream.specs.Runs.{IsJoining, Changes}
use Rattle.pdu_stream.proofs.CutLaws.{one_cut}
use Rattle.pdu_stream.proofs.HasCut.{has_cut}
use Rattle.pdu_stream.proofs.OpenRuns.{none_open}
use Rattle.pdu_stream.proofs.RunLaws.{runs_go_on}
use Rattle.conn_asks.specs.declared.events.Caller.{Caller}
use Rattle.conn_asks.specs.declared.events.ConnFault.{ConnFault}
use Rattle.conn_asks.specs.declared.events.ConnFault.TheVariants as conn
use Rattle.conn_asks.specs.declared.events.Ask.{Ask}
use Rattle.conn_asks.specs.declared.events.Ask.TheVariants as asks
use Rattle.conn_asks.specs.Asks.{request_fragment, caller, caller_of_fragment, of_bind, of_alter, is_bound, called, AsksWith, Asks, broken_end, AsksFirst, AreAsks, AreAsksOf}
use Rattle.conn_histories.proofs.OneAsk.{one_ask}

-- ---- one list

abbrev pub ask_first : Ask → List Ask → List Ask
ask_first ask later = ask ∷ later

leads_alike : (ask : Option Ask) (P : List Ask → Type 0) (a b : List Ask) → ((x y : List Ask) → P x → P y → x ≡ y) → AsksFirst ask P a → AsksFirst ask P b → a ≡ b
leads_alike None P a b one h k = one a b h k
leads_alike (Some (asks.Broken c f)) P a b one h k = h ∙ sym k
leads_alike (Some (asks.Bind c flags body)) P a b one h k = h.1 ∙ ap (ask_first (asks.Bind c flags body)) (one h.0 k.0 h.2 k.2) ∙ sym k.1
leads_alike (Some (asks.Alter c body)) P a b one h k = h.1 ∙ ap (ask_first (asks.Alter c body)) (one h.0 k.0 h.2 k.2) ∙ sym k.1
leads_alike (Some (asks.Call j)) P a b one h k = h.1 ∙ ap (ask_first (asks.Call j)) (one h.0 k.0 h.2 k.2) ∙ sym k.1
leads_alike (Some (asks.Cancel id)) P a b one h k = h.1 ∙ ap (ask_first (asks.Cancel id)) (one h.0 k.0 h.2 k.2) ∙ sym k.1
leads_alike (Some (asks.Orphan id)) P a b one h k = h.1 ∙ ap (ask_first (asks.Orphan id)) (one h.0 k.0 h.2 k.2) ∙ sym k.1

pub asks_alike : (past pdus : List Pdu) (end a b : List Ask) → AreAsks past pdus end a → AreAsks past pdus end b → a ≡ b
asks_alike past [] end a b h k = h ∙ sym k
asks_alike past (p ∷ more) end a b h k =
    let same = one_ask past p h.0 k.0 h.1 k.1 in
    leads_alike k.0 (AreAsks (p ∷ past) more end) a b (asks_alike (p ∷ past) more end) (subst (λ (x : Option Ask). AsksFirst x (AreAsks (p ∷ past) more end) a) same h.2) k.2

pub one_asking : (octets : List ℕ) (a b : List Ask) → AreAsksOf octets a → AreAsksOf octets b → a ≡ b
one_asking octets a b h k =
    let same : h.cut ≡ k.cut = one_cut octets h.cut k.cut h.is_cut k.is_cut in
    asks_alike [] k.cut.pdus (broken_end k.cut.rest k.cut.fault) a b (subst (λ (c : Cut). AreAsks [] c.pdus (broken_end c.rest c.fault) a) same h.asked) k.asked

-- ---- a fragment joins, or has a fault

orders : (a b : Order) → (a ≡ b) ⊎ (a ≢ b)
orders Big Big = inl refl
orders Big Little = inr (λ e. absurd (cc (e)))
orders Little Big = inr (λ e. absurd (cc (e)))
orders Little Little = inl refl

order_of_run : (run : Option Joined) (f : Fragment) → HasOrder run f ⊎ HasOtherOrder run f
order_of_run None f = inl tt
order_of_run (Some j) f = orders f.order j.order

-- what a PDU asks, and what is being joined then, unless the protocol is broken
pub record Found (bound : Bool) (run : Option Joined) (call : Option ℕ) (p : Pdu) (body : Body) : Type 0 where
  pub ask : Option Ask
  pub asked : AsksWith bound run call p body ask
  pub next : ((c : Caller) × (f : ConnFault) × (ask ≡ Some (asks.Broken c f))) ⊎ ((new : Option Joined) × Changes run p body new)

abbrev FoundFor : Bool → Option Joined → Option ℕ → Pdu → RequestBody → Type 0
FoundFor bound run call p r = Found bound run call p (bodies.Request r)

faulty : (run : Option Joined) (call : Option ℕ) (p : Pdu) (r : RequestBody) (fault : JoinFault) → fault ≢ Memory → IsJoinFault run (request_fragment p r) fault → FoundFor true run call p r
faulty run call p r fault known wrong = record {
  ask = Some (asks.Broken (caller_of_fragment (request_fragment p r)) (conn.Join fault));
  asked = (refl, known, wrong);
  next = inl (caller_of_fragment (request_fragment p r), conn.Join fault, refl);
}

taken : (run : Option Joined) (call : Option ℕ) (p : Pdu) (r : RequestBody) (last : Bool) → is_last (request_fragment p r) ≡ last → IsTaken run (request_fragment p r) → FoundFor true run call p r
taken run call p r false e t = record {
  ask = None;
  asked = (t, e);
  next = inr (Some (with_fragment run (request_fragment p r)), (None, (t, e, refl)));
}
taken run call p r true e t = record {
  ask = Some (asks.Call (with_fragment run (request_fragment p r)));
  asked = (t, e, refl);
  next = inr (None, (Some (with_fragment run (request_fragment p r)), (t, e, refl, refl)));
}

short : (run : Option Joined) (call : Option ℕ) (p : Pdu) (r : RequestBody) → is_in_order run (request_fragment p r) ≡ true → HasOrder run (request_fragment p r) → FoundFor true run call p r
short run call p r e o = elim (cases_lt most_stub (length (with_fragment run (request_fragment p r)).stub)) [
  | inl long ↦ faulty run call p r TooLong (λ x. absurd (cc (x))) (e, o, long)
  | inr le ↦ taken run call p r (is_last (request_fragment p r)) refl (e, o, le)
]

ordered : (run : Option Joined) (call : Option ℕ) (p : Pdu) (r : RequestBody) → is_in_order run (request_fragment p r) ≡ true → FoundFor true run call p r
ordered run call p r e = elim (order_of_run run (request_fragment p r)) [
  | inl same ↦ short run call p r e same
  | inr other ↦ faulty run call p r FragDrep (λ x. absurd (cc (x))) (e, other)
]

placed : (run : Option Joined) (call : Option ℕ) (p : Pdu) (r : RequestBody) (order : Bool) → is_in_order run (request_fragment p r) ≡ order → FoundFor true run call p r
placed run call p r true e = ordered run call p r e
placed run call p r false e = faulty run call p r FragOrder (λ x. absurd (cc (x))) e

requested : (bound : Bool) (run : Option Joined) (call : Option ℕ) (p : Pdu) (r : RequestBody) → FoundFor bound run call p r
requested true run call p r = placed run call p r (is_in_order run (request_fragment p r)) refl
requested false run call p r = record {
  ask = Some (asks.Broken (caller_of_fragment (request_fragment p r)) conn.Unbound);
  asked = refl;
  next = inl (caller_of_fragment (request_fragment p r), conn.Unbound, refl);
}

-- ---- a cancel or an orphaning of what is being joined

marked : (j : Joined) (id : ℕ) (same : Bool) → eqb j.call_id id ≡ same → (new : Option Joined) × (answer : Bool) × Marks (Ok (Some j)) id answer (Ok new)
marked j id true e = (Some (record j { cancel = true }), true, (e, j, refl, refl))
marked j id false e = (Some j, false, (e, refl))

marks : (run : Option Joined) (id : ℕ) → (new : Option Joined) × (answer : Bool) × Marks (Ok run) id answer (Ok new)
marks None id = (None, false, (refl, refl))
marks (Some j) id = marked j id (eqb j.call_id id) refl

dropped : (j : Joined) (id : ℕ) (same : Bool) → eqb j.call_id id ≡ same → (new : Option Joined) × (answer : Bool) × Drops (Ok (Some j)) id answer (Ok new)
dropped j id true e = (None, true, (e, refl))
dropped j id false e = (Some j, false, (e, refl))

drops : (run : Option Joined) (id : ℕ) → (new : Option Joined) × (answer : Bool) × Drops (Ok run) id answer (Ok new)
drops None id = (None, false, (refl, refl))
drops (Some j) id = dropped j id (eqb j.call_id id) refl

pub found : (bound : Bool) (run : Option Joined) (call : Option ℕ) (p : Pdu) (body : Body) → Found bound run call p body
found bound run call p (bodies.Request r) = requested bound run call p r
found bound run call p (bodies.Bind b) = record { ask = Some (of_bind bound (caller p 0) p.flags b); asked = refl; next = inr (run, refl) }
found bound run call p (bodies.Alter b) = record { ask = Some (of_alter bound (caller p 0) b); asked = refl; next = inr (run, refl) }
found bound run call p bodies.CoCancel = let m = marks run p.call_id in record { ask = _; asked = refl; next = inr (m.0, (m.1, m.2)) }
found bound run call p bodies.Orphaned = let m = drops run p.call_id in record { ask = _; asked = refl; next = inr (m.0, (m.1, m.2)) }
found bound run call p (bodies.Response r) = record { ask = Some (asks.Broken (caller p 0) conn.Direction); asked = refl; next = inr (run, refl) }
found bound run call p (bodies.Fault r) = record { ask = Some (asks.Broken (caller p 0) conn.Direction); asked = refl; next = inr (run, refl) }
found bound run call p (bodies.BindAck r) = record { ask = Some (asks.Broken (caller p 0) conn.Direction); asked = refl; next = inr (run, refl) }
found bound run call p (bodies.BindNak r) = record { ask = Some (asks.Broken (caller p 0) conn.Direction); asked = refl; next = inr (run, refl) }
found bound run call p (bodies.AlterResp r) = record { ask = Some (asks.Broken (caller p 0) conn.Direction); asked = refl; next = inr (run, refl) }
found bound run call p bodies.Shutdown = record { ask = Some (asks.Broken (caller p 0) conn.Direction); asked = refl; next = inr (run, refl) }

-- ---- there is a list

leads_found : (ask : Option Ask) (P : List Ask → Type 0) → (asked : List Ask) × P asked → (asked : List Ask) × AsksFirst ask P asked
leads_found None P h = h
leads_found (Some (asks.Broken c f)) P h = (asks.Broken c f ∷ [], refl)
leads_found (Some (asks.Bind c flags b)) P h = (asks.Bind c flags b ∷ h.0, (h.0, refl, h.1))
leads_found (Some (asks.Alter c b)) P h = (asks.Alter c b ∷ h.0, (h.0, refl, h.1))
leads_found (Some (asks.Call j)) P h = (asks.Call j ∷ h.0, (h.0, refl, h.1))
leads_found (Some (asks.Cancel id)) P h = (asks.Cancel id ∷ h.0, (h.0, refl, h.1))
leads_found (Some (asks.Orphan id)) P h = (asks.Orphan id ∷ h.0, (h.0, refl, h.1))

asked_by : (pdus past : List Pdu) (run : Option Joined) (end : List Ask) → IsJoining (reverse past) run → (asked : List Ask) × AreAsks past pdus end asked
asked_by [] past run end joining = (end, refl)
asked_by (p ∷ more) past run end joining =
    let here = found (is_bound past) run (called past) p p.body in
    let here_asks : Asks past p here.ask = record { run = run; joining = joining; asks = here.asked } in
    elim here.next [
      | inl wrong ↦
          let last : AsksFirst here.ask (AreAsks (p ∷ past) more end) (asks.Broken wrong.0 wrong.1 ∷ []) =
          subst (λ (x : Option Ask). AsksFirst x (AreAsks (p ∷ past) more end) (asks.Broken wrong.0 wrong.1 ∷ [])) (sym wrong.2) refl in
          (asks.Broken wrong.0 wrong.1 ∷ [], (here.ask, here_asks, last))
      | inr next ↦
          let joins : IsJoining (reverse (p ∷ past)) next.0 =
          subst (λ (x : List Pdu). IsJoining x next.0) (sym (reverse-cons p past)) (runs_go_on (reverse past) p run next.0 joining next.1) in
          let later = leads_found here.ask (AreAsks (p ∷ past) more end) (asked_by more (p ∷ past) next.0 end joins) in
          (later.0, (here.ask, here_asks, later.1))
    ]

pub each_asks : (octets : List ℕ) → IsOctets octets → (asked : List Ask) × AreAsksOf octets asked
each_asks octets fits =
    let cut = has_cut octets fits in
    let none : IsJoining (reverse []) None = λ first behind o. none_open [] first behind refl o in
    let asked = asked_by cut.0.pdus [] None (broken_end cut.0.rest cut.0.fault) none in
    (asked.0, record { cut = cut.0; is_cut = cut.1; asked = asked.1 })
