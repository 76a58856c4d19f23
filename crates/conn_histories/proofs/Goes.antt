-- Each state of a history has a next act, or none.
use Rattle.std.proofs.Common.{◌≡◌, ℕ, zero, suc, ◌<◌, ◌⊎◌, inl, inr, Bool, true, false, List, [], ◌∷◌, ◌++◌, length, drop, reverse, Option, Some, None, Ok, refl, sym, ap, subst, ◌∙◌, append_assoc, append-nil, arith}
use Rattle.std.proofs.lemmas.List.{length-append, drop_at}
use Rattle.rpc_base.specs.Fields.{IsOctets}
use Rattle.rpc_base.specs.declared.identifiers.SyntaxId.{SyntaxId}
use Rattle.rpc_base.proofs.FieldLaws.{IsOctets-drop}
use Rattle.handle_model.proofs.Reversed.{reverse-cons}
use Rattle.pdu_codec.specs.declared.pdu.Pdu.{Pdu}
use Rattle.pdu_codec.specs.declared.fault.PduFault.{PduFault}
use Rattle.pdu_codec.specs.Pdus.{IsPdu, AreSpelled}
use Rattle.pdu_codec.proofs.PduLaws.{pdu_long}
use Rattle.pdu_stream.specs.declared.joined.Joined.{Joined}
use Rattle.pdu_stream.specs.Cuts.{IsNext, IsStop, IsPartial, Remains}
use Rattle.pdu_stream.specs.Runs.{IsJoining}
use Rattle.pdu_stream.proofs.CutLaws.{one_next, not_remains}
use Rattle.pdu_stream.proofs.HasCut.{has_cut}
use Rattle.pdu_stream.proofs.OpenRuns.{none_open}
use Rattle.pdu_stream.proofs.RunLaws.{runs_go_on}
use Rattle.presentation.specs.declared.verdict.Accepted.{Accepted}
use Rattle.presentation.specs.Offers.{interface_of}
use Rattle.conn_asks.specs.declared.events.Caller.{Caller}
use Rattle.conn_asks.specs.declared.events.ConnFault.{ConnFault}
use Rattle.conn_asks.specs.declared.events.Agreement.{Agreement}
use Rattle.conn_asks.specs.declared.events.Ask.{Ask}
use Rattle.conn_asks.specs.declared.events.Ask.TheVariants as asks
use Rattle.conn_asks.specs.declared.events.Act.{Act}
use Rattle.conn_asks.specs.declared.events.Act.TheVariants as acts
use Rattle.conn_asks.specs.declared.events.Waits.{Waits}
use Rattle.conn_asks.specs.declared.events.Waits.TheVariants.{Nothing, Group, Call, Over, Failed}
use Rattle.conn_asks.specs.Asks.{Asks, is_bound, called}
use Rattle.conn_asks.specs.Answers.{refusal}
use Rattle.conn_asks.specs.States.{ConnState, at_start, accepted, caller_of, ActsOnCall, DoesWith, is_calling_off, MayCome, TakesPdu, IsIdle, Skips, SkipsAll, ActsAt, StopsAt, Acts, IsStuck, Goes}
use Rattle.conn_histories.specs.Laws.{HasCome}
use Rattle.conn_histories.specs.Histories.{Decision, Event, AnswersDecision, Lives, stream}
use Rattle.conn_histories.specs.Histories.Decision.{ToGroup, RefuseGroup, Reply}
use Rattle.conn_histories.specs.Histories.Event.{Came, Paused, Did, Decided}
use Rattle.conn_histories.proofs.OneAsk.{one_ask}
use Rattle.conn_histories.proofs.Decided.{AnswersAt, at_waits}
use Rattle.conn_histories.proofs.Passing.{IsOff, idle_off, off_asked}
use Rattle.conn_histories.proofs.Walks.{over_takes}
use Rattle.conn_histories.proofs.Asking.{Found, found}
use Rattle.conn_histories.proofs.Comes as comes

-- ---- what is being joined, unless the connection is closed

pub data Sound (m : ConnState) : Type 0 where
  shut : m.waits ≡ Over → Sound m
  live : (m.waits ≡ Failed → ⊥) → (run : Option Joined) → IsJoining (reverse m.past) run → Sound m

abbrev Joins : List Pdu → Type 0
Joins past = (run : Option Joined) × IsJoining (reverse past) run

abbrev Breaks : Option Ask → Type 0
Breaks ask = (c : Caller) × (f : ConnFault) × (ask ≡ Some (asks.Broken c f))

here : (past : List Pdu) (p : Pdu) (run : Option Joined) → Found (is_bound past) run (called past) p p.body
here past p run = found (is_bound past) run (called past) p p.body

found_asks : (past : List Pdu) (p : Pdu) (run : Option Joined) → IsJoining (reverse past) run → Asks past p (here past p run).ask
found_asks past p run joining = record { run = run; joining = joining; asks = (here past p run).asked }

joins_on : (past : List Pdu) (p : Pdu) (run : Option Joined) (ask : Option Ask) → IsJoining (reverse past) run → Asks past p ask → Breaks ask ⊎ Joins (p ∷ past)
joins_on past p run ask joining h =
    let same : (here past p run).ask ≡ ask = one_ask past p (here past p run).ask ask (found_asks past p run joining) h in
    elim (here past p run).next [
      | inl wrong ↦ inl (wrong.0, wrong.1, sym same ∙ wrong.2)
      | inr next ↦
          inr (next.0, subst (λ (x : List Pdu). IsJoining x next.0) (sym (reverse-cons p past)) (runs_go_on (reverse past) p run next.0 joining next.1))
    ]

idle_breaks : (w : Waits) (ask : Option Ask) → IsIdle w ask → Breaks ask → ⊥
idle_breaks w ask idle b = subst IsOff b.2 (idle_off w ask idle)

taken_on : (m n : ConnState) (p : Pdu) (ask : Option Ask) (run : Option Joined) → TakesPdu m p n → (n.waits ≡ Failed → ⊥) → (Breaks ask → n.waits ≡ Over) → IsJoining (reverse m.past) run → Asks m.past p ask → Sound n
taken_on m n p ask run t fine over joining h = elim (joins_on m.past p run ask joining h) [
  | inl broken ↦ shut (over broken)
  | inr next ↦ live fine next.0 (subst (λ (x : List Pdu). IsJoining (reverse x) next.0) (sym t.past) next.1)
]

sound_skip : (m n : ConnState) (p : Pdu) → Skips m p n → Sound m → Sound n
sound_skip m n p s (shut over) = absurd (over_takes m n p over s.takes)
sound_skip m n p s (live fine run joining) =
    taken_on m n p s.ask run s.takes (λ e. fine (sym s.waits ∙ e)) (λ b. absurd (idle_breaks m.waits s.ask s.idle b)) joining s.asks

sound_skips : (m : ConnState) (ps : List Pdu) (n : ConnState) → SkipsAll m ps n → Sound m → Sound n
sound_skips m [] n e s = subst Sound (sym e) s
sound_skips m (p ∷ ps) n all s = sound_skips all.0 ps n all.2 (sound_skip m all.0 p all.1 s)

calls_live : (number : Option ℕ) (j : Joined) (act : Act) (w : Waits) → ActsOnCall number j act w → w ≡ Failed → ⊥
calls_live (Some k) j act w d e = absurd (cc (d.1, e))
calls_live None j act w d e = absurd (cc (d.1, e))

does_live : (ids : List SyntaxId) (a : List Accepted) (agreement : Agreement) (old : Waits) (ask : Ask) (act : Act) (w : Waits) → (old ≡ Failed → ⊥) → DoesWith ids a agreement old ask act w → w ≡ Failed → ⊥
does_live ids a agreement old (asks.Bind c flags b) act w fine d e = absurd (cc (d.1, e))
does_live ids a agreement old (asks.Alter c b) act w fine d e = absurd (cc (d.1, e))
does_live ids a agreement old (asks.Call j) act w fine d e = calls_live (interface_of a j.context) j act w d e
does_live ids a agreement old (asks.Cancel id) act w fine d e = fine (sym d.2 ∙ e)
does_live ids a agreement old (asks.Orphan id) act w fine d e = fine (sym d.2 ∙ e)
does_live ids a agreement old (asks.Broken c f) act w fine d e = absurd (cc (d.1, e))

ask_same : (a b : Ask) → Some a ≡ Some b → a ≡ b
ask_same a b e = cc

does_over : (ids : List SyntaxId) (a : List Accepted) (agreement : Agreement) (old : Waits) (ask : Ask) (act : Act) (w : Waits) → DoesWith ids a agreement old ask act w → Breaks (Some ask) → w ≡ Over
does_over ids a agreement old ask act w d b = (subst (λ (x : Ask). DoesWith ids a agreement old x act w) (ask_same ask (asks.Broken b.0 b.1) b.2) d).1

sound_acts : (m n : ConnState) (act : Act) → Acts m act n → Sound m → Sound n
sound_acts m n act (inr a) s = shut (ap (λ (x : ConnState). x.waits) a.1.after)
sound_acts m n act (inl a) (shut over) = absurd (over_takes m n a.0 over a.1.takes)
sound_acts m n act (inl a) (live fine run joining) =
    let s = a.1 in
    taken_on m n a.0 (Some s.ask) run s.takes (does_live m.ids (accepted m) m.agreement m.waits s.ask act n.waits fine s.does)
    (does_over m.ids (accepted m) m.agreement m.waits s.ask act n.waits s.does) joining s.asks

pub sound_goes : (m n : ConnState) (act : Option Act) → Goes m (Ok act) n → Sound m → Sound n
sound_goes m n None g s = sound_skips m g.0 n g.1 s
sound_goes m n (Some act) g s = sound_acts g.1 n act g.3 (sound_skips m g.0 g.1 g.2 s)

-- what is said changes no PDU
sound_said : (m n : ConnState) → n.past ≡ m.past → (n.waits ≡ Failed → ⊥) → Sound m → (m.waits ≡ Over → ⊥) → Sound n
sound_said m n past fine (shut over) not = absurd (not over)
sound_said m n past fine (live old run joining) not = live fine run (subst (λ (x : List Pdu). IsJoining (reverse x) run) (sym past) joining)

sound_decided : (m n : ConnState) (decision : Decision) (octets : List ℕ) (v : Waits) → m.waits ≡ v → AnswersAt v m decision octets n → Sound m → Sound n
sound_decided m n (ToGroup group) octets (Group c ack) w a s =
    sound_said m n (ap (λ (x : ConnState). x.past) a.1) (λ e. absurd (cc (ap (λ (x : ConnState). x.waits) a.1, e))) s (λ o. absurd (cc (w, o)))
sound_decided m n (RefuseGroup reason) octets (Group c ack) w a s = shut (ap (λ (x : ConnState). x.waits) a.1)
sound_decided m n (Reply said executed) octets (Call c maybe) w a s =
    sound_said m n (ap (λ (x : ConnState). x.past) a.1) (λ e. absurd (cc (ap (λ (x : ConnState). x.waits) a.1, e))) s (λ o. absurd (cc (w, o)))
sound_decided m n (Reply said executed) octets (Group c ack) w a s = absurd a
sound_decided m n (ToGroup group) octets (Call c maybe) w a s = absurd a
sound_decided m n (RefuseGroup reason) octets (Call c maybe) w a s = absurd a
sound_decided m n (ToGroup group) octets Nothing w a s = absurd a
sound_decided m n (RefuseGroup reason) octets Nothing w a s = absurd a
sound_decided m n (Reply said executed) octets Nothing w a s = absurd a
sound_decided m n (ToGroup group) octets Over w a s = absurd a
sound_decided m n (RefuseGroup reason) octets Over w a s = absurd a
sound_decided m n (Reply said executed) octets Over w a s = absurd a
sound_decided m n (ToGroup group) octets Failed w a s = absurd a
sound_decided m n (RefuseGroup reason) octets Failed w a s = absurd a
sound_decided m n (Reply said executed) octets Failed w a s = absurd a

sound_came : (m n : ConnState) → n.past ≡ m.past → n.waits ≡ m.waits → Sound m → Sound n
sound_came m n past waits (shut over) = shut (waits ∙ over)
sound_came m n past waits (live fine run joining) = live (λ e. fine (sym waits ∙ e)) run (subst (λ (x : List Pdu). IsJoining (reverse x) run) (sym past) joining)

sound_lives : (events : List Event) (m n : ConnState) → Lives m events n → Sound m → Sound n
sound_lives [] m n l s = subst Sound (sym l) s
sound_lives (Came octets ∷ later) m n l s =
    sound_lives later l.0 n l.2 (sound_came m l.0 (ap (λ (x : ConnState). x.past) l.1) (ap (λ (x : ConnState). x.waits) l.1) s)
sound_lives (Paused ∷ later) m n l s = sound_lives later l.0 n l.2 (sound_goes m l.0 None l.1 s)
sound_lives (Did act ∷ later) m n l s = sound_lives later l.0 n l.2 (sound_goes m l.0 (Some act) l.1 s)
sound_lives (Decided decision octets ∷ later) m n l s = sound_lives later l.0 n l.2 (sound_decided m l.0 decision octets m.waits refl (at_waits m l.0 decision octets l.1) s)

sound_start : (ids : List SyntaxId) → Sound (at_start ids)
sound_start ids = live (λ e. absurd (cc (e))) None (λ first behind o. none_open [] first behind refl o)

-- ---- what stands in front of octets

data Front (s : List ℕ) : Type 0 where
  partial : IsPartial s → Front s
  stops : (fault : PduFault) → IsStop s fault → Front s
  whole : (p : Pdu) (others : List ℕ) → IsNext s p others → Front s

front_rest : (s : List ℕ) (fault : Option PduFault) → Remains s fault → Front s
front_rest s None r = partial r
front_rest s (Some fault) r = stops fault r

front_by : (s front rest : List ℕ) (pdus : List Pdu) (fault : Option PduFault) → s ≡ front ++ rest → AreSpelled IsPdu pdus front → Remains rest fault → Front s
front_by s front rest [] fault e spelled r =
    let same : s ≡ rest = e ∙ ap (λ (x : List ℕ). x ++ rest) spelled in
    front_rest s fault (subst (λ (x : List ℕ). Remains x fault) (sym same) r)
front_by s front rest (p ∷ ps) fault e spelled r =
    whole p (spelled.1 ++ rest) (spelled.0, spelled.3, e ∙ ap (λ (x : List ℕ). x ++ rest) spelled.2 ∙ append_assoc spelled.0 spelled.1 rest)

front_of : (s : List ℕ) → IsOctets s → Front s
front_of s fits = let c = has_cut s fits in front_by s c.1.front c.0.rest c.0.pdus c.0.fault c.1.whole c.1.pdus c.1.remains

-- ---- the next act

pub record Next (m : ConnState) : Type 0 where
  pub act : Option Act
  pub after : ConnState
  pub goes : Goes m (Ok act) after

rest_there : (m : ConnState) → IsStuck m.waits m.rest → Next m
rest_there m stuck = record { act = None; after = m; goes = ([], refl, stuck) }

skip_first : (m x : ConnState) (p : Pdu) → Skips m p x → Next x → Next m
skip_first m x p s next = by_act next.act next.after next.goes
  where
    by_act : (act : Option Act) (after : ConnState) → Goes x (Ok act) after → Next m
    by_act None after g = record { act = None; after = after; goes = (p ∷ g.0, (x, s, g.1), g.2) }
    by_act (Some act) after g = record { act = Some act; after = after; goes = (p ∷ g.0, g.1, (x, s, g.2), g.3) }

data Choice (ids : List SyntaxId) (a : List Accepted) (agreement : Agreement) (w : Waits) (ask : Option Ask) : Type 0 where
  idles : IsIdle w ask → Choice ids a agreement w ask
  does : (q : Ask) (act : Act) (new : Waits) → ask ≡ Some q → DoesWith ids a agreement w q act new → Choice ids a agreement w ask

choose_call : (ids : List SyntaxId) (a : List Accepted) (agreement : Agreement) (j : Joined) (number : Option ℕ) → interface_of a j.context ≡ number → Choice ids a agreement Nothing (Some (asks.Call j))
choose_call ids a agreement j (Some k) e =
    let d : ActsOnCall (Some k) j (acts.Call j k) (Call (caller_of j) j.maybe) = (refl, refl) in
    does (asks.Call j) (acts.Call j k) (Call (caller_of j) j.maybe) refl (subst (λ (x : Option ℕ). ActsOnCall x j (acts.Call j k) (Call (caller_of j) j.maybe)) (sym e) d)
choose_call ids a agreement j None e =
    let d : ActsOnCall None j (acts.Answer (refusal (caller_of j) j.maybe)) Nothing = (refl, refl) in
    does (asks.Call j) (acts.Answer (refusal (caller_of j) j.maybe)) Nothing refl (subst (λ (x : Option ℕ). ActsOnCall x j (acts.Answer (refusal (caller_of j) j.maybe)) Nothing) (sym e) d)

choose_free : (ids : List SyntaxId) (a : List Accepted) (agreement : Agreement) (ask : Option Ask) → Choice ids a agreement Nothing ask
choose_free ids a agreement None = idles tt
choose_free ids a agreement (Some (asks.Cancel id)) = idles tt
choose_free ids a agreement (Some (asks.Orphan id)) = idles tt
choose_free ids a agreement (Some (asks.Bind c flags b)) = does (asks.Bind c flags b) _ _ refl (refl, refl)
choose_free ids a agreement (Some (asks.Alter c b)) = does (asks.Alter c b) _ _ refl (refl, refl)
choose_free ids a agreement (Some (asks.Call j)) = choose_call ids a agreement j (interface_of a j.context) refl
choose_free ids a agreement (Some (asks.Broken c f)) = does (asks.Broken c f) _ _ refl (refl, refl)

choose_off : (ids : List SyntaxId) (a : List Accepted) (agreement : Agreement) (c : Caller) (maybe : Bool) (ask : Option Ask) → IsOff ask → Choice ids a agreement (Call c maybe) ask
choose_off ids a agreement c maybe None off = idles tt
choose_off ids a agreement c maybe (Some (asks.Cancel id)) off = does (asks.Cancel id) (acts.Cancel id) (Call c maybe) refl ((c, maybe, refl), refl, refl)
choose_off ids a agreement c maybe (Some (asks.Orphan id)) off = does (asks.Orphan id) (acts.Orphan id) (Call c maybe) refl ((c, maybe, refl), refl, refl)
choose_off ids a agreement c maybe (Some (asks.Bind e flags b)) off = absurd off
choose_off ids a agreement c maybe (Some (asks.Alter e b)) off = absurd off
choose_off ids a agreement c maybe (Some (asks.Call j)) off = absurd off
choose_off ids a agreement c maybe (Some (asks.Broken e f)) off = absurd off

-- the PDU is taken
abbrev taking : ConnState → Pdu → List ℕ → Waits → ConnState
taking m p others waits = record m { past = p ∷ m.past; rest = others; waits = waits }

takes : (m : ConnState) (p : Pdu) (others : List ℕ) (waits : Waits) → MayCome m.waits p.body → IsNext m.rest p others → TakesPdu m p (taking m p others waits)
takes m p others waits may next = record { may = may; next = next; past = refl; ids = refl; agreement = refl }

abbrev Later : ℕ → Type 0
Later n = (x : ConnState) → length x.rest < n → IsOctets x.rest → Sound x → Next x

less : (s others : List ℕ) (p : Pdu) (n : ℕ) → IsNext s p others → length s < suc n → length others < n
less s others p n next lt = omega (arith, ap length next.2, length-append next.0 others, pdu_long p next.0 next.1, lt)

octets_behind : (s others : List ℕ) (p : Pdu) → IsNext s p others → IsOctets s → IsOctets others
octets_behind s others p next fits =
    subst IsOctets (ap (drop (length next.0)) next.2 ∙ drop_at next.0 others (length next.0) refl) (IsOctets-drop (length next.0) s fits)

take_by : (n : ℕ) (m : ConnState) (p : Pdu) (others : List ℕ) (ask : Option Ask) → length m.rest < suc n → IsOctets m.rest → Sound m → MayCome m.waits p.body → IsNext m.rest p others → Asks m.past p ask
    → Choice m.ids (accepted m) m.agreement m.waits ask → Later n → Next m
take_by n m p others ask lt fits s may next h (idles idle) later =
    let x = taking m p others m.waits in
    let skip : Skips m p x = record { takes = takes m p others m.waits may next; ask = ask; asks = h; idle = idle; waits = refl } in
    skip_first m x p skip (later x (less m.rest others p n next lt) (octets_behind m.rest others p next fits) (sound_skip m x p skip s))
take_by n m p others ask lt fits s may next h (does q act new e d) later =
    let x = taking m p others new in
    let acted : ActsAt m p act x = record { takes = takes m p others new may next; ask = q; asks = subst (λ (y : Option Ask). Asks m.past p y) e h; does = d } in
    record { act = Some act; after = x; goes = ([], m, refl, inl (p, acted)) }

-- where nothing is waited for, and while a call is unanswered
abbrev Chooses : ConnState → Pdu → Type 0
Chooses m p = (ask : Option Ask) → Asks m.past p ask → Choice m.ids (accepted m) m.agreement m.waits ask

take_on : (n : ℕ) (m : ConnState) (p : Pdu) (others : List ℕ) → length m.rest < suc n → IsOctets m.rest → Sound m → (m.waits ≡ Over → ⊥) → MayCome m.waits p.body → IsNext m.rest p others → Chooses m p → Later n → Next m
take_on n m p others lt fits (shut over) not may next choose later = absurd (not over)
take_on n m p others lt fits (live fine run joining) not may next choose later =
    let ask = (here m.past p run).ask in
    let h : Asks m.past p ask = found_asks m.past p run joining in
    take_by n m p others ask lt fits (live fine run joining) may next h (choose ask h) later

next_free : (n : ℕ) (m : ConnState) → m.waits ≡ Nothing → length m.rest < suc n → IsOctets m.rest → Sound m → Front m.rest → Later n → Next m
next_free n m w lt fits s (partial part) later = rest_there m (subst (λ (v : Waits). IsStuck v m.rest) (sym w) part)
next_free n m w lt fits s (stops fault stop) later =
    let stopped : StopsAt m fault _ (record m { waits = Over }) = record { free = w; stops = stop; act_is = refl; after = refl } in
    record { act = Some _; after = record m { waits = Over }; goes = ([], m, refl, inr (fault, stopped)) }
next_free n m w lt fits s (whole p others next) later =
    take_on n m p others lt fits s (λ o. absurd (cc (w, o))) (subst (λ (v : Waits). MayCome v p.body) (sym w) tt) next
    (λ ask h. subst (λ (v : Waits). Choice m.ids (accepted m) m.agreement v ask) (sym w) (choose_free m.ids (accepted m) m.agreement ask)) later

next_off : (n : ℕ) (m : ConnState) (c : Caller) (maybe : Bool) (p : Pdu) (others : List ℕ) (off : Bool) → is_calling_off p.body ≡ off → m.waits ≡ Call c maybe → length m.rest < suc n → IsOctets m.rest → Sound m
    → IsNext m.rest p others → Later n → Next m
next_off n m c maybe p others true off w lt fits s next later =
    take_on n m p others lt fits s (λ o. absurd (cc (w, o))) (subst (λ (v : Waits). MayCome v p.body) (sym w) off) next
    (λ ask h. subst (λ (v : Waits). Choice m.ids (accepted m) m.agreement v ask) (sym w) (choose_off m.ids (accepted m) m.agreement c maybe ask (off_asked m.past p ask off h))) later
next_off n m c maybe p others false off w lt fits s next later =
    let stuck : IsStuck (Call c maybe) m.rest = λ q rest behind.
    subst (λ (x : Pdu). is_calling_off x.body ≡ false) (one_next p q next.0 behind.0 others rest next.1 behind.1 (sym next.2 ∙ behind.2)).0 off in
    rest_there m (subst (λ (v : Waits). IsStuck v m.rest) (sym w) stuck)

no_pdu : (m : ConnState) (c : Caller) (maybe : Bool) (fault : Option PduFault) → Remains m.rest fault → IsStuck (Call c maybe) m.rest
no_pdu m c maybe fault r q rest behind = absurd (not_remains q behind.0 rest fault behind.1 (subst (λ (x : List ℕ). Remains x fault) behind.2 r))

next_called : (n : ℕ) (m : ConnState) (c : Caller) (maybe : Bool) → m.waits ≡ Call c maybe → length m.rest < suc n → IsOctets m.rest → Sound m → Front m.rest → Later n → Next m
next_called n m c maybe w lt fits s (partial part) later = rest_there m (subst (λ (v : Waits). IsStuck v m.rest) (sym w) (no_pdu m c maybe None part))
next_called n m c maybe w lt fits s (stops fault stop) later = rest_there m (subst (λ (v : Waits). IsStuck v m.rest) (sym w) (no_pdu m c maybe (Some fault) stop))
next_called n m c maybe w lt fits s (whole p others next) later = next_off n m c maybe p others (is_calling_off p.body) refl w lt fits s next later

not_failed : (m : ConnState) → m.waits ≡ Failed → Sound m → ⊥
not_failed m w (shut over) = absurd (cc (w, over))
not_failed m w (live fine run joining) = fine w

next_at : (n : ℕ) (m : ConnState) (v : Waits) → m.waits ≡ v → length m.rest < suc n → IsOctets m.rest → Sound m → Later n → Next m
next_at n m Nothing w lt fits s later = next_free n m w lt fits s (front_of m.rest fits) later
next_at n m (Group c ack) w lt fits s later = rest_there m (subst (λ (v : Waits). IsStuck v m.rest) (sym w) tt)
next_at n m (Call c maybe) w lt fits s later = next_called n m c maybe w lt fits s (front_of m.rest fits) later
next_at n m Over w lt fits s later = rest_there m (subst (λ (v : Waits). IsStuck v m.rest) (sym w) tt)
next_at n m Failed w lt fits s later = absurd (not_failed m w s)

next_within : (n : ℕ) → Later n
next_within zero m lt fits s = absurd (omega arith)
next_within (suc n) m lt fits s = next_at n m m.waits refl lt fits s (next_within n)

-- ---- the octets of a history

-- what is said takes no octets
decided_same : (m n : ConnState) (decision : Decision) (octets : List ℕ) (v : Waits) → AnswersAt v m decision octets n → (n.past ≡ m.past) × (n.rest ≡ m.rest)
decided_same m n (ToGroup group) octets (Group c ack) a = (ap (λ (x : ConnState). x.past) a.1, ap (λ (x : ConnState). x.rest) a.1)
decided_same m n (RefuseGroup reason) octets (Group c ack) a = (ap (λ (x : ConnState). x.past) a.1, ap (λ (x : ConnState). x.rest) a.1)
decided_same m n (Reply said executed) octets (Call c maybe) a = (ap (λ (x : ConnState). x.past) a.1, ap (λ (x : ConnState). x.rest) a.1)
decided_same m n (Reply said executed) octets (Group c ack) a = absurd a
decided_same m n (ToGroup group) octets (Call c maybe) a = absurd a
decided_same m n (RefuseGroup reason) octets (Call c maybe) a = absurd a
decided_same m n (ToGroup group) octets Nothing a = absurd a
decided_same m n (RefuseGroup reason) octets Nothing a = absurd a
decided_same m n (Reply said executed) octets Nothing a = absurd a
decided_same m n (ToGroup group) octets Over a = absurd a
decided_same m n (RefuseGroup reason) octets Over a = absurd a
decided_same m n (Reply said executed) octets Over a = absurd a
decided_same m n (ToGroup group) octets Failed a = absurd a
decided_same m n (RefuseGroup reason) octets Failed a = absurd a
decided_same m n (Reply said executed) octets Failed a = absurd a

decided_come : (before : List ℕ) (m n : ConnState) (decision : Decision) (octets : List ℕ) → AnswersDecision m decision octets n → HasCome before m → HasCome before n
decided_come before m n decision octets a h =
    let same = decided_same m n decision octets m.waits (at_waits m n decision octets a) in
    record {
      front = h.front;
      spelled = subst (λ (x : List Pdu). AreSpelled IsPdu (reverse x) h.front) (sym same.0) h.spelled;
      whole = h.whole ∙ ap (λ (x : List ℕ). h.front ++ x) (sym same.1);
    }

pub come : (events : List Event) (before : List ℕ) (m n : ConnState) → Lives m events n → HasCome before m → HasCome (before ++ stream events) n
come [] before m n l h = subst (λ (x : List ℕ). HasCome x n) (sym (append-nil before)) (subst (λ (z : ConnState). HasCome before z) (sym l) h)
come (Came octets ∷ later) before m n l h =
    let here : HasCome (before ++ octets) l.0 = subst (λ (z : ConnState). HasCome (before ++ octets) z) (sym l.1) (comes.comes_on before octets m h) in
    subst (λ (x : List ℕ). HasCome x n) (append_assoc before octets (stream later)) (come later (before ++ octets) l.0 n l.2 here)
come (Paused ∷ later) before m n l h = come later before l.0 n l.2 (comes.goes_on before m l.0 None h l.1)
come (Did act ∷ later) before m n l h = come later before l.0 n l.2 (comes.goes_on before m l.0 (Some act) h l.1)
come (Decided decision octets ∷ later) before m n l h = come later before l.0 n l.2 (decided_come before m l.0 decision octets l.1 h)

pub come_all : (ids : List SyntaxId) (events : List Event) (m : ConnState) → Lives (at_start ids) events m → HasCome (stream events) m
come_all ids events m l =
    let none : AreSpelled IsPdu (reverse []) [] = refl in
    come events [] (at_start ids) m l (record { front = []; spelled = none; whole = refl })

-- octets of what came
octets_of : (stream : List ℕ) (m : ConnState) → HasCome stream m → IsOctets stream → IsOctets m.rest
octets_of stream m h fits =
    subst IsOctets (ap (drop (length h.front)) h.whole ∙ drop_at h.front m.rest (length h.front) refl) (IsOctets-drop (length h.front) stream fits)

pub sound_all : (ids : List SyntaxId) (events : List Event) (m : ConnState) → Lives (at_start ids) events m → IsOctets (stream events) → IsOctets m.rest × Sound m
sound_all ids events m l fits = (octets_of (stream events) m (come_all ids events m l) fits, sound_lives events (at_start ids) m l (sound_start ids))

pub next_of : (m : ConnState) → IsOctets m.rest → Sound m → Next m
next_of m fits s = next_within (suc (length m.rest)) m (omega arith) fits s

-- what is left is octets
skips_octets : (m : ConnState) (ps : List Pdu) (n : ConnState) → SkipsAll m ps n → IsOctets m.rest → IsOctets n.rest
skips_octets m [] n e fits = subst (λ (x : ConnState). IsOctets x.rest) (sym e) fits
skips_octets m (p ∷ ps) n all fits = skips_octets all.0 ps n all.2 (octets_behind m.rest all.0.rest p all.1.takes.next fits)

acts_octets : (m n : ConnState) (act : Act) → Acts m act n → IsOctets m.rest → IsOctets n.rest
acts_octets m n act (inl a) fits = octets_behind m.rest n.rest a.0 a.1.takes.next fits
acts_octets m n act (inr s) fits = subst (λ (x : ConnState). IsOctets x.rest) (sym s.1.after) fits

pub octets_left : (m n : ConnState) (act : Option Act) → Goes m (Ok act) n → IsOctets m.rest → IsOctets n.rest
octets_left m n None g fits = skips_octets m g.0 n g.1 fits
octets_left m n (Some act) g fits = acts_octets g.1 n act g.3 (skips_octets m g.0 g.1 g.2 fits)

pub each_goes : (ids : List SyntaxId) (events : List Event) (m : ConnState) → Lives (at_start ids) events m → IsOctets (stream events) → (act : Option Act) × (n : ConnState) × Goes m (Ok act) n
each_goes ids events m l fits =
    let sound = sound_all ids events m l fits in
    let next = next_of m sound.0 sound.1 in
    (next.act, next.after, next.goes)
