-- What the server's end of a connection does next, where what its caller asks breaks nothing.
use Rattle.std.proofs.Common.{◌≡◌, ℕ, zero, suc, ◌<◌, ◌≤◌, inl, inr, Bool, true, false, List, [], ◌∷◌, ◌++◌, length, take, drop, Option, Some, None, Ok, refl, sym, ap, subst, ◌∙◌, append_assoc, arith}
use Rattle.std.proofs.lemmas.Bool.{cases_lt}
use Rattle.std.proofs.lemmas.List.{length-append, length-take-le, take-append-drop}
use Rattle.rpc_base.specs.declared.identifiers.SyntaxId.{SyntaxId}
use Rattle.pdu_codec.specs.Constants.{header_size}
use Rattle.pdu_codec.specs.declared.pdu.Pdu.{Pdu}
use Rattle.pdu_codec.specs.declared.fault.PduFault.{PduFault}
use Rattle.pdu_codec.specs.Pdus.{IsPdu, AreSpelled}
use Rattle.pdu_codec.proofs.PduLaws.{pdu_long}
use Rattle.pdu_stream.specs.declared.joined.Joined.{Joined}
use Rattle.pdu_stream.specs.Cuts.{IsNext, IsPartial, Remains}
use Rattle.pdu_stream.proofs.Heads.{tested_more, fault_along, size_along}
use Rattle.pdu_stream.proofs.CutLaws.{same_fronts, one_next, not_remains}
use Rattle.presentation.specs.declared.verdict.Accepted.{Accepted}
use Rattle.presentation.specs.Offers.{interface_of}
use Rattle.conn_asks.specs.declared.events.Caller.{Caller}
use Rattle.conn_asks.specs.declared.events.Agreement.{Agreement}
use Rattle.conn_asks.specs.declared.events.Ask.{Ask}
use Rattle.conn_asks.specs.declared.events.Ask.TheVariants as asks
use Rattle.conn_asks.specs.declared.events.Act.{Act}
use Rattle.conn_asks.specs.declared.events.Act.TheVariants as acts
use Rattle.conn_asks.specs.declared.events.Waits.{Waits}
use Rattle.conn_asks.specs.declared.events.Waits.TheVariants.{Nothing, Group, Call, Over, Failed}
use Rattle.conn_asks.specs.Asks.{Asks, AsksFirst, AreAsks, broken_end}
use Rattle.conn_asks.specs.Answers.{refusal}
use Rattle.conn_asks.specs.States.{ConnState, with_octets, accepted, caller_of, ActsOnCall, DoesWith, is_calling_off, MayCome, TakesPdu, IsIdle, Skips, ActsAt, IsStuck, Goes}
use Rattle.conn_histories.proofs.Left.{Left, left_takes}
use Rattle.conn_histories.proofs.Passing.{IsOff, off_asked}
use Rattle.world_moves.proofs.leads.Cuts.{part_of}

-- ---- what stands in front

abbrev pub NoneBroken : List Ask → Type 0
NoneBroken [] = Unit {0}
NoneBroken (asks.Broken c f ∷ more) = ⊥
NoneBroken (asks.Bind c flags b ∷ more) = NoneBroken more
NoneBroken (asks.Alter c b ∷ more) = NoneBroken more
NoneBroken (asks.Call j ∷ more) = NoneBroken more
NoneBroken (asks.Cancel id ∷ more) = NoneBroken more
NoneBroken (asks.Orphan id ∷ more) = NoneBroken more

data Front (s : List ℕ) : Type 0 where
  partial : IsPartial s → Front s
  whole : (p : Pdu) (others : List ℕ) → IsNext s p others → Front s

partial_front : (s up : List ℕ) → IsPartial (s ++ up) → IsPartial s
partial_front s up part = elim (cases_lt (length s) header_size) [ inl short ↦ inl short | inr long ↦ by long part ]
  where
    by : header_size ≤ length s → IsPartial (s ++ up) → IsPartial s
    by long (inl short) = absurd (omega (arith, long, short, length-append s up))
    by long (inr (h, less)) =
        inr (record { long = long; sound = λ f wrong. h.sound f (fault_along None s (s ++ up) f (sym (tested_more s up long)) wrong) }, omega (arith, less, size_along (s ++ up) s (tested_more s up long), length-append s up))

front_by : (s up front rest : List ℕ) (pdus : List Pdu) (fault : Option PduFault) (past : List Pdu) (left : List Ask) → s ++ up ≡ front ++ rest → AreSpelled IsPdu pdus front → Remains rest fault
    → AreAsks past pdus (broken_end rest fault) left → NoneBroken left → Front s
front_by s up front rest [] None past left e spelled part are sound =
    partial (partial_front s up (subst IsPartial (sym (e ∙ ap (λ (x : List ℕ). x ++ rest) spelled)) part))
front_by s up front rest [] (Some fault) past left e spelled stop are sound = absurd (subst NoneBroken are sound)
front_by s up front rest (p ∷ ps) fault past left e (first, others, both, is, more) remains are sound = elim (cases_lt (length s) (length first)) [
  | inl less ↦ partial (part_of p first (others ++ rest) s up is grouped less)
  | inr long ↦
      let n = length first in
      let split : s ≡ take n s ++ drop n s = sym (take-append-drop n s) in
      let same = same_fronts (take n s) first (drop n s ++ up) (others ++ rest) (sym (append_assoc (take n s) (drop n s) up) ∙ (ap (λ (x : List ℕ). x ++ up) (sym split) ∙ grouped)) (length-take-le n s long) in
      whole p (drop n s) (first, is, split ∙ ap (λ (x : List ℕ). x ++ drop n s) same.0)
]
  where
    grouped : s ++ up ≡ first ++ (others ++ rest)
    grouped = e ∙ (ap (λ (x : List ℕ). x ++ rest) both ∙ append_assoc first others rest)

pub record Onward (m : ConnState) (up : List ℕ) : Type 0 where
  pub left : List Ask
  pub is_left : Left (with_octets m up) left
  pub sound : NoneBroken left

front_at : (m : ConnState) (up : List ℕ) → Onward m up → Front m.rest
front_at m up o = let l = o.is_left in front_by m.rest up l.is_cut.front l.cut.rest l.cut.pdus l.cut.fault m.past o.left l.is_cut.whole l.is_cut.pdus l.is_cut.remains l.asks o.sound

-- ---- the next act

pub record Next (m : ConnState) : Type 0 where
  pub act : Option Act
  pub after : ConnState
  pub goes : Goes m (Ok act) after

rest_there : (m : ConnState) → IsStuck m.waits m.rest → Next m
rest_there m stuck = record { act = None; after = m; goes = ([], refl, stuck) }

skip_first : (m x : ConnState) (p : Pdu) → Skips m p x → Next x → Next m
skip_first m x p s next = by_act next.act next.after next.goes
  where
    by_act : (act : Option Act) (after : ConnState) → Goes x (Ok act) after → Next m
    by_act None after g = record { act = None; after = after; goes = (p ∷ g.0, (x, s, g.1), g.2) }
    by_act (Some act) after g = record { act = Some act; after = after; goes = (p ∷ g.0, g.1, (x, s, g.2), g.3) }

data Choice (ids : List SyntaxId) (a : List Accepted) (agreement : Agreement) (w : Waits) (ask : Option Ask) : Type 0 where
  idles : IsIdle w ask → Choice ids a agreement w ask
  does : (q : Ask) (act : Act) (new : Waits) → ask ≡ Some q → DoesWith ids a agreement w q act new → Choice ids a agreement w ask

choose_call : (ids : List SyntaxId) (a : List Accepted) (agreement : Agreement) (j : Joined) (number : Option ℕ) → interface_of a j.context ≡ number → Choice ids a agreement Nothing (Some (asks.Call j))
choose_call ids a agreement j (Some k) e =
    let d : ActsOnCall (Some k) j (acts.Call j k) (Call (caller_of j) j.maybe) = (refl, refl) in
    does (asks.Call j) (acts.Call j k) (Call (caller_of j) j.maybe) refl (subst (λ (x : Option ℕ). ActsOnCall x j (acts.Call j k) (Call (caller_of j) j.maybe)) (sym e) d)
choose_call ids a agreement j None e =
    let d : ActsOnCall None j (acts.Answer (refusal (caller_of j) j.maybe)) Nothing = (refl, refl) in
    does (asks.Call j) (acts.Answer (refusal (caller_of j) j.maybe)) Nothing refl (subst (λ (x : Option ℕ). ActsOnCall x j (acts.Answer (refusal (caller_of j) j.maybe)) Nothing) (sym e) d)

choose_free : (ids : List SyntaxId) (a : List Accepted) (agreement : Agreement) (ask : Option Ask) → Choice ids a agreement Nothing ask
choose_free ids a agreement None = idles tt
choose_free ids a agreement (Some (asks.Cancel id)) = idles tt
choose_free ids a agreement (Some (asks.Orphan id)) = idles tt
choose_free ids a agreement (Some (asks.Bind c flags b)) = does (asks.Bind c flags b) _ _ refl (refl, refl)
choose_free ids a agreement (Some (asks.Alter c b)) = does (asks.Alter c b) _ _ refl (refl, refl)
choose_free ids a agreement (Some (asks.Call j)) = choose_call ids a agreement j (interface_of a j.context) refl
choose_free ids a agreement (Some (asks.Broken c f)) = does (asks.Broken c f) _ _ refl (refl, refl)

choose_off : (ids : List SyntaxId) (a : List Accepted) (agreement : Agreement) (c : Caller) (maybe : Bool) (ask : Option Ask) → IsOff ask → Choice ids a agreement (Call c maybe) ask
choose_off ids a agreement c maybe None off = idles tt
choose_off ids a agreement c maybe (Some (asks.Cancel id)) off = does (asks.Cancel id) (acts.Cancel id) (Call c maybe) refl ((c, maybe, refl), refl, refl)
choose_off ids a agreement c maybe (Some (asks.Orphan id)) off = does (asks.Orphan id) (acts.Orphan id) (Call c maybe) refl ((c, maybe, refl), refl, refl)
choose_off ids a agreement c maybe (Some (asks.Bind e flags b)) off = absurd off
choose_off ids a agreement c maybe (Some (asks.Alter e b)) off = absurd off
choose_off ids a agreement c maybe (Some (asks.Call j)) off = absurd off
choose_off ids a agreement c maybe (Some (asks.Broken e f)) off = absurd off

-- the PDU is taken
abbrev taking : ConnState → Pdu → List ℕ → Waits → ConnState
taking m p others waits = record m { past = p ∷ m.past; rest = others; waits = waits }

takes : (m : ConnState) (p : Pdu) (others : List ℕ) (waits : Waits) → MayCome m.waits p.body → IsNext m.rest p others → TakesPdu m p (taking m p others waits)
takes m p others waits may next = record { may = may; next = next; past = refl; ids = refl; agreement = refl }

pub lifted : (m n : ConnState) (p : Pdu) (up : List ℕ) → TakesPdu m p n → TakesPdu (with_octets m up) p (with_octets n up)
lifted m n p up t = record { may = t.may; next = (t.next.0, t.next.1, ap (λ (x : List ℕ). x ++ up) t.next.2 ∙ append_assoc t.next.0 n.rest up); past = t.past; ids = t.ids; agreement = t.agreement }

behind : (ask : Option Ask) (n : ConnState) (up : List ℕ) (left : List Ask) → AsksFirst ask (Left (with_octets n up)) left → NoneBroken left → Onward n up
behind None n up left l sound = record { left = left; is_left = l; sound = sound }
behind (Some (asks.Broken c f)) n up left l sound = absurd (subst NoneBroken l sound)
behind (Some (asks.Bind c flags b)) n up left l sound = record { left = l.0; is_left = l.2; sound = subst NoneBroken l.1 sound }
behind (Some (asks.Alter c b)) n up left l sound = record { left = l.0; is_left = l.2; sound = subst NoneBroken l.1 sound }
behind (Some (asks.Call j)) n up left l sound = record { left = l.0; is_left = l.2; sound = subst NoneBroken l.1 sound }
behind (Some (asks.Cancel id)) n up left l sound = record { left = l.0; is_left = l.2; sound = subst NoneBroken l.1 sound }
behind (Some (asks.Orphan id)) n up left l sound = record { left = l.0; is_left = l.2; sound = subst NoneBroken l.1 sound }

abbrev Later : ℕ → List ℕ → Type 0
Later n up = (x : ConnState) → length x.rest < n → (x.waits ≡ Failed → ⊥) → Onward x up → Next x

less : (s others : List ℕ) (p : Pdu) (n : ℕ) → IsNext s p others → length s < suc n → length others < n
less s others p n next lt = omega (arith, ap length next.2, length-append next.0 others, pdu_long p next.0 next.1, lt)

take_by : (n : ℕ) (m : ConnState) (up : List ℕ) (p : Pdu) (others : List ℕ) (ask : Option Ask) → length m.rest < suc n → (m.waits ≡ Failed → ⊥) → Onward (taking m p others m.waits) up → MayCome m.waits p.body → IsNext m.rest p others → Asks m.past p ask
    → Choice m.ids (accepted m) m.agreement m.waits ask → Later n up → Next m
take_by n m up p others ask lt fine on may next h (idles idle) later =
    let x = taking m p others m.waits in
    let skip : Skips m p x = record { takes = takes m p others m.waits may next; ask = ask; asks = h; idle = idle; waits = refl } in
    skip_first m x p skip (later x (less m.rest others p n next lt) fine on)
take_by n m up p others ask lt fine on may next h (does q act new e d) later =
    let x = taking m p others new in
    let acted : ActsAt m p act x = record { takes = takes m p others new may next; ask = q; asks = subst (λ (y : Option Ask). Asks m.past p y) e h; does = d } in
    record { act = Some act; after = x; goes = ([], m, refl, inl (p, acted)) }

abbrev Chooses : ConnState → Pdu → Type 0
Chooses m p = (ask : Option Ask) → Asks m.past p ask → Choice m.ids (accepted m) m.agreement m.waits ask

take_on : (n : ℕ) (m : ConnState) (up : List ℕ) (p : Pdu) (others : List ℕ) → length m.rest < suc n → (m.waits ≡ Failed → ⊥) → Onward m up → MayCome m.waits p.body → IsNext m.rest p others → Chooses m p → Later n up → Next m
take_on n m up p others lt fine o may next choose later =
    let x = taking m p others m.waits in
    let (ask, h, first) = left_takes (with_octets m up) (with_octets x up) p o.left o.is_left (lifted m x p up (takes m p others m.waits may next)) in
    take_by n m up p others ask lt fine (behind ask x up o.left first o.sound) may next h (choose ask h) later

next_free : (n : ℕ) (m : ConnState) (up : List ℕ) → m.waits ≡ Nothing → length m.rest < suc n → Onward m up → Front m.rest → Later n up → Next m
next_free n m up w lt o (partial part) later = rest_there m (subst (λ (v : Waits). IsStuck v m.rest) (sym w) part)
next_free n m up w lt o (whole p others next) later =
    take_on n m up p others lt (λ f. absurd (cc (w, f))) o (subst (λ (v : Waits). MayCome v p.body) (sym w) tt) next
    (λ ask h. subst (λ (v : Waits). Choice m.ids (accepted m) m.agreement v ask) (sym w) (choose_free m.ids (accepted m) m.agreement ask)) later

next_off : (n : ℕ) (m : ConnState) (up : List ℕ) (c : Caller) (maybe : Bool) (p : Pdu) (others : List ℕ) (off : Bool) → is_calling_off p.body ≡ off → m.waits ≡ Call c maybe → length m.rest < suc n → Onward m up
    → IsNext m.rest p others → Later n up → Next m
next_off n m up c maybe p others true off w lt o next later =
    take_on n m up p others lt (λ f. absurd (cc (w, f))) o (subst (λ (v : Waits). MayCome v p.body) (sym w) off) next
    (λ ask h. subst (λ (v : Waits). Choice m.ids (accepted m) m.agreement v ask) (sym w) (choose_off m.ids (accepted m) m.agreement c maybe ask (off_asked m.past p ask off h))) later
next_off n m up c maybe p others false off w lt o next later =
    let stuck : IsStuck (Call c maybe) m.rest = λ q rest behind_.
    subst (λ (x : Pdu). is_calling_off x.body ≡ false) (one_next p q next.0 behind_.0 others rest next.1 behind_.1 (sym next.2 ∙ behind_.2)).0 off in
    rest_there m (subst (λ (v : Waits). IsStuck v m.rest) (sym w) stuck)

next_called : (n : ℕ) (m : ConnState) (up : List ℕ) (c : Caller) (maybe : Bool) → m.waits ≡ Call c maybe → length m.rest < suc n → Onward m up → Front m.rest → Later n up → Next m
next_called n m up c maybe w lt o (partial part) later =
    let stuck : IsStuck (Call c maybe) m.rest = λ q rest next. absurd (not_remains q next.0 rest None next.1 (subst (λ (x : List ℕ). Remains x None) next.2 part)) in
    rest_there m (subst (λ (v : Waits). IsStuck v m.rest) (sym w) stuck)
next_called n m up c maybe w lt o (whole p others next) later = next_off n m up c maybe p others (is_calling_off p.body) refl w lt o next later

next_at : (n : ℕ) (m : ConnState) (up : List ℕ) (v : Waits) → m.waits ≡ v → length m.rest < suc n → (m.waits ≡ Failed → ⊥) → Onward m up → Later n up → Next m
next_at n m up Nothing w lt fine o later = next_free n m up w lt o (front_at m up o) later
next_at n m up (Group c ack) w lt fine o later = rest_there m (subst (λ (v : Waits). IsStuck v m.rest) (sym w) tt)
next_at n m up (Call c maybe) w lt fine o later = next_called n m up c maybe w lt o (front_at m up o) later
next_at n m up Over w lt fine o later = rest_there m (subst (λ (v : Waits). IsStuck v m.rest) (sym w) tt)
next_at n m up Failed w lt fine o later = absurd (fine w)

next_within : (n : ℕ) (up : List ℕ) → Later n up
next_within zero up m lt fine o = absurd (omega (arith, lt))
next_within (suc n) up m lt fine o = next_at n m up m.waits refl lt fine o (next_within n up)

pub next_of : (m : ConnState) (up : List ℕ) → (m.waits ≡ Failed → ⊥) → Onward m up → Next m
next_of m up fine o = next_within (suc (length m.rest)) up m (omega arith) fine o
