-- A running call ends in one way.
use Rattle.std.proofs.Common.{◌≡◌, ◌≢◌, ℕ, Bool, inl, inr, Option, Some, List, length, sym, ap, subst, ◌∙◌, arith}
use Rattle.rpc_base.specs.declared.identifiers.Status.{Status}
use Rattle.handle_model.specs.declared.entry.Home.{Home}
use Rattle.handle_model.specs.declared.entry.Asked.{Asked}
use Rattle.handle_model.specs.declared.entry.Outcome.{Outcome}
use Rattle.handle_model.specs.declared.entry.Said.{Said}
use Rattle.handle_model.specs.declared.entry.Said.TheVariants.{Out, Fault}
use Rattle.handle_model.specs.declared.entry.Entry.TheVariants.{End}
use Rattle.ndr_value.specs.Values.{Msg}
use Rattle.ndr_model.specs.declared.way.Way.TheVariants.{Response}
use Rattle.ndr_model.specs.Written.{stub}
use Rattle.ndr_table.specs.Tables.{OpForm, TableForm}
use Rattle.manager_api.specs.declared.answer.Kept.{Kept}
use Rattle.manager_api.specs.Answers.{Ans, AOut, AFault}
use Rattle.desk_counts.specs.Numbers.{Numbers}
use Rattle.group_core.specs.Stages.{is_asked}
use Rattle.conn_histories.specs.Requests.{types_of, no_memory}
use Rattle.conn_histories.specs.Ends.{results_of, wires_at, with_wires, SaysStub, Says, call_with, Meets}
use Rattle.replay_world.specs.declared.peer.Member.{Member}
use Rattle.replay_world.specs.Services.{Service, IsDetermined}
use Rattle.replay_world.specs.Worlds.{World, home_of, journal}
use Rattle.replay_world.specs.Groups.{SettlesIn}
use Rattle.replay_world.specs.Plays.{MayAnswer, Ends}
use Rattle.replay_world.proofs.Basics.{some_is}
use Rattle.replay_world.proofs.Requests.{one_operation, one_asked}
use Rattle.replay_world.proofs.Groups.{one_settled}
use Rattle.replay_world.proofs.Packets.{one_sum}

-- ---- what is said

abbrev outs : List ℕ → Said
outs octets = Out octets

abbrev faults : Status → Said
faults status = Fault status

said_stub : (x y : List ℕ) (s t : Said) → x ≡ y → SaysStub x s → SaysStub y t → s ≢ Fault no_memory → t ≢ Fault no_memory → s ≡ t
said_stub x y (Out a) (Out b) e h l n m = ap outs (h.0 ∙ e ∙ sym l.0)
said_stub x y (Out a) (Fault status) e h (inl l) n m = absurd (omega (arith, h.1, l.1, ap length e))
said_stub x y (Out a) (Fault status) e h (inr l) n m = absurd (m (ap faults l))
said_stub x y (Fault status) (Out b) e (inl h) l n m = absurd (omega (arith, h.1, l.1, ap length e))
said_stub x y (Fault status) (Out b) e (inr h) l n m = absurd (n (ap faults h))
said_stub x y (Fault status) (Fault status') e (inl h) (inl l) n m = ap faults (h.0 ∙ sym l.0)
said_stub x y (Fault status) (Fault status') e (inr h) l n m = absurd (n (ap faults h))
said_stub x y (Fault status) (Fault status') e (inl h) (inr l) n m = absurd (m (ap faults l))

out_msg : (m n : Msg) (ks ls : List Kept) → AOut m ks ≡ AOut n ls → m ≡ n
out_msg m n ks ls e = cc

fault_status : (s t : Status) → AFault s ≡ AFault t → s ≡ t
fault_status s t e = cc

module _ (home : Home) (tables : List TableForm) (a : Asked) where
  abbrev octets_of : OpForm → Msg → Msg → List Outcome → List ℕ
  octets_of o m out results = stub (types_of tables a.iface) o Response a.order (Some m) (with_wires out (wires_at home a.slots results))

  one_said : (o o' : OpForm) (m m' : Msg) (results results' : List Outcome) (x y : Ans) (s t : Said) → o ≡ o' → m ≡ m' → results ≡ results' → x ≡ y
      → Says home tables a o m results x s → Says home tables a o' m' results' y t → s ≢ Fault no_memory → t ≢ Fault no_memory → s ≡ t
  one_said o o' m m' results results' (AOut out kepts) (AOut out' kepts') s t op message result e h l n q =
      said_stub (octets_of o m out results) (octets_of o' m' out' results') s t
      (λ i. octets_of (op i) (message i) (out_msg out out' kepts kepts' e i) (result i)) h l n q
  one_said o o' m m' results results' (AOut out kepts) (AFault status) s t op message result e h l n q = absurd (cc e)
  one_said o o' m m' results results' (AFault status) (AOut out kepts) s t op message result e h l n q = absurd (cc e)
  one_said o o' m m' results results' (AFault status) (AFault status') s t op message result e h l n q =
      h ∙ ap faults (fault_status status status' e) ∙ sym l

  fault_says : (o : OpForm) (m : Msg) (results : List Outcome) (x : Ans) (s : Said) (status : Status) → Says home tables a o m results x s → x ≡ AFault status → s ≡ Fault status
  fault_says o m results x s status h e = subst (λ (y : Ans). Says home tables a o m results y s) e h

-- ---- an end

module _ (service : Service) (determined : IsDetermined service) where
  module _ (w : World service.State) (home : Home) (a : Asked) (cookies : List (Option ℕ)) (cancelled : Bool) where
    one_meeting : (x y : service.State) (results results' : List Outcome) (s t : Said) → Meets home service.tables (MayAnswer service w cancelled x) a cookies cancelled results s
        → Meets home service.tables (MayAnswer service w cancelled y) a cookies cancelled results' t → s ≢ Fault no_memory → t ≢ Fault no_memory
        → (results ≡ results') × (s ≡ t) × (x ≡ y)
    one_meeting x y results results' s t h l n q =
        let message : h.message ≡ l.message = one_asked service.tables determined.tables a.iface a.op a.order a.stub h.message l.message h.asked l.asked in
        let operation : h.asked.operation ≡ l.asked.operation = one_operation service.tables determined.tables a.iface a.op a.order a.stub h.message l.message h.asked l.asked in
        let numbers : h.answers.1.0 ≡ l.answers.1.0 = one_sum w.peers h.answers.1.0 l.answers.1.0 h.answers.1.1 l.answers.1.1 in
        let told : h.told ≡ l.told = h.answers.0 ∙ sym l.answers.0 in
        let by_message : service.may w.desks h.answers.1.0 (call_with a l.message cookies) h.told h.answer x =
        subst (λ (z : Msg). service.may w.desks h.answers.1.0 (call_with a z cookies) h.told h.answer x) message h.answers.1.2 in
        let by_numbers : service.may w.desks l.answers.1.0 (call_with a l.message cookies) h.told h.answer x =
        subst (λ (z : Numbers). service.may w.desks z (call_with a l.message cookies) h.told h.answer x) numbers by_message in
        let by_told : service.may w.desks l.answers.1.0 (call_with a l.message cookies) l.told h.answer x =
        subst (λ (z : Bool). service.may w.desks l.answers.1.0 (call_with a l.message cookies) z h.answer x) told by_numbers in
        let left : h.answer ≢ AFault no_memory = λ e. n (fault_says home service.tables a h.asked.operation h.message results h.answer s no_memory h.says e) in
        let right : l.answer ≢ AFault no_memory = λ e. q (fault_says home service.tables a l.asked.operation l.message results' l.answer t no_memory l.says e) in
        let one = determined.answers w.desks x y l.answers.1.0 (call_with a l.message cookies) l.asked.operation l.told h.answer l.answer l.asked.found by_told l.answers.1.2 left right in
        let same : results ≡ results' = h.results_are ∙ ap (λ (z : Ans). results_of a.slots cookies z) one.0 ∙ sym l.results_are in (
          same,
          one_said home service.tables a h.asked.operation l.asked.operation h.message l.message results results' h.answer l.answer s t operation message same one.0 h.says l.says n q,
          one.1,
        )

  abbrev MeetsIn : World service.State → Member → ℕ → service.State → Asked → List (Option ℕ) → List Outcome → Said → Type 0
  MeetsIn w m k desks a cookies results said =
      Meets (home_of w m.group) service.tables (MayAnswer service w (is_asked (journal w m.group) k) desks) a cookies (is_asked (journal w m.group) k) results said

  abbrev SettlesBy : World service.State → Member → ℕ → World service.State → service.State → List Outcome → Said → Type 0
  SettlesBy w m k v desks results said = SettlesIn service (record w { desks = desks }) m.group (End k results said) v

  pub one_end : (w v u : World service.State) (m : Member) (k : ℕ) → Ends service w m k v → Ends service w m k u → v ≡ u
  one_end w v u m k h l =
      let asked : h.asked ≡ l.asked = some_is h.asked l.asked (sym h.asks ∙ l.asks) in
      let cookies : h.cookies ≡ l.cookies = some_is h.cookies l.cookies (sym h.taken ∙ l.taken) in
      let by_asked : MeetsIn w m k h.desks l.asked h.cookies h.results h.said = subst (λ (x : Asked). MeetsIn w m k h.desks x h.cookies h.results h.said) asked h.meets in
      let by_cookies : MeetsIn w m k h.desks l.asked l.cookies h.results h.said = subst (λ (x : List (Option ℕ)). MeetsIn w m k h.desks l.asked x h.results h.said) cookies by_asked in
      let one = one_meeting w (home_of w m.group) l.asked l.cookies (is_asked (journal w m.group) k) h.desks l.desks h.results l.results h.said l.said by_cookies l.meets h.memory l.memory in
      let by_results : SettlesBy w m k v h.desks l.results h.said = subst (λ (x : List Outcome). SettlesBy w m k v h.desks x h.said) one.0 h.settles in
      let by_said : SettlesBy w m k v h.desks l.results l.said = subst (λ (x : Said). SettlesBy w m k v h.desks l.results x) one.1 by_results in
      let by_desks : SettlesBy w m k v l.desks l.results l.said = subst (λ (x : service.State). SettlesBy w m k v x l.results l.said) one.2 by_said in
      one_settled service determined (record w { desks = l.desks }) v u m.group (End k l.results l.said) by_desks l.settles
