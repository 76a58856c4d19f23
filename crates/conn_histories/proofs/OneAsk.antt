-- A PDU asks one thing behind others, and one thing is done at it.
use Rattle.std.proofs.Common.{◌≡◌, ◌≢◌, ℕ, Bool, true, false, List, reverse, Option, Some, None, refl, sym, ap, subst, ◌∙◌, arith}
use Rattle.rpc_base.specs.declared.identifiers.SyntaxId.{SyntaxId}
use Rattle.pdu_codec.specs.declared.pdu.Pdu.{Pdu}
use Rattle.pdu_codec.specs.declared.pdu.Body.{Body}
use Rattle.pdu_codec.specs.declared.pdu.Body.TheVariants as bodies
use Rattle.pdu_stream.specs.declared.joined.Joined.{Joined}
use Rattle.pdu_stream.specs.declared.joined.JoinFault.{JoinFault}
use Rattle.pdu_stream.specs.declared.joined.JoinFault.TheVariants.{FragOrder, FragDrep, TooLong, Memory}
use Rattle.pdu_stream.specs.Fragments.{Fragment, is_in_order, is_last, with_fragment, HasOrder, HasOtherOrder, IsTaken, IsJoinFault}
use Rattle.pdu_stream.proofs.RunLaws.{one_joining}
use Rattle.presentation.specs.declared.verdict.Accepted.{Accepted}
use Rattle.presentation.specs.Offers.{interface_of}
use Rattle.conn_asks.specs.declared.events.Caller.{Caller}
use Rattle.conn_asks.specs.declared.events.Agreement.{Agreement}
use Rattle.conn_asks.specs.declared.events.Ask.{Ask}
use Rattle.conn_asks.specs.declared.events.Ask.TheVariants as asks
use Rattle.conn_asks.specs.declared.events.Act.{Act}
use Rattle.conn_asks.specs.declared.events.Waits.{Waits}
use Rattle.conn_asks.specs.declared.events.ConnFault.TheVariants as conn
use Rattle.conn_asks.specs.Asks.{Asks, AsksWith, OfRequest, JoinsToAsk, request_fragment, caller_of_fragment, is_bound, called}
use Rattle.conn_asks.specs.States.{ActsOnCall, DoesWith}

pub true_false : (b : Bool) → b ≡ true → b ≡ false → ⊥
true_false b t f = absurd (cc (t, f))

-- ---- a fragment joins, or has one fault

order_once : (run : Option Joined) (f : Fragment) → HasOrder run f → HasOtherOrder run f → ⊥
order_once None f h k = k
order_once (Some j) f h k = k h

pub taken_sound : (run : Option Joined) (f : Fragment) (fault : JoinFault) → fault ≢ Memory → IsTaken run f → IsJoinFault run f fault → ⊥
taken_sound run f FragOrder known t h = true_false (is_in_order run f) t.0 h
taken_sound run f FragDrep known t h = order_once run f t.1 h.1
taken_sound run f TooLong known t h = absurd (omega (arith, t.2, h.2))
taken_sound run f Memory known t h = known refl

pub one_fault : (run : Option Joined) (f : Fragment) (a b : JoinFault) → a ≢ Memory → b ≢ Memory → IsJoinFault run f a → IsJoinFault run f b → a ≡ b
one_fault run f FragOrder FragOrder x y h k = refl
one_fault run f FragOrder FragDrep x y h k = absurd (true_false (is_in_order run f) k.0 h)
one_fault run f FragOrder TooLong x y h k = absurd (true_false (is_in_order run f) k.0 h)
one_fault run f FragOrder Memory x y h k = absurd (y refl)
one_fault run f FragDrep FragOrder x y h k = absurd (true_false (is_in_order run f) h.0 k)
one_fault run f FragDrep FragDrep x y h k = refl
one_fault run f FragDrep TooLong x y h k = absurd (order_once run f k.1 h.1)
one_fault run f FragDrep Memory x y h k = absurd (y refl)
one_fault run f TooLong FragOrder x y h k = absurd (true_false (is_in_order run f) h.0 k)
one_fault run f TooLong FragDrep x y h k = absurd (order_once run f h.1 k.1)
one_fault run f TooLong TooLong x y h k = refl
one_fault run f TooLong Memory x y h k = absurd (y refl)
one_fault run f Memory b x y h k = absurd (x refl)

pub data JoinsBy (run : Option Joined) (f : Fragment) (ask : Option Ask) : Type 0 where
  goes_on : ask ≡ None → IsTaken run f → is_last f ≡ false → JoinsBy run f ask
  whole : (j : Joined) → ask ≡ Some (asks.Call j) → IsTaken run f → is_last f ≡ true → j ≡ with_fragment run f → JoinsBy run f ask
  breaks : (c : Caller) (fault : JoinFault) → ask ≡ Some (asks.Broken c (conn.Join fault)) → c ≡ caller_of_fragment f → fault ≢ Memory → IsJoinFault run f fault → JoinsBy run f ask

pub joins_by : (run : Option Joined) (f : Fragment) (ask : Option Ask) → JoinsToAsk run f ask → JoinsBy run f ask
joins_by run f None h = goes_on refl h.0 h.1
joins_by run f (Some (asks.Call j)) h = whole j refl h.0 h.1 h.2
joins_by run f (Some (asks.Broken c (conn.Join fault))) h = breaks c fault refl h.0 h.1 h.2
joins_by run f (Some (asks.Broken c (conn.Pdu fault))) h = absurd h
joins_by run f (Some (asks.Broken c conn.Direction)) h = absurd h
joins_by run f (Some (asks.Broken c conn.Unbound)) h = absurd h
joins_by run f (Some (asks.Broken c conn.Rebound)) h = absurd h
joins_by run f (Some (asks.Broken c (conn.Nak reason))) h = absurd h
joins_by run f (Some (asks.Bind c flags b)) h = absurd h
joins_by run f (Some (asks.Alter c b)) h = absurd h
joins_by run f (Some (asks.Cancel id)) h = absurd h
joins_by run f (Some (asks.Orphan id)) h = absurd h

abbrev called_for : Joined → Option Ask
called_for j = Some (asks.Call j)

abbrev broken_for : Caller → JoinFault → Option Ask
broken_for c fault = Some (asks.Broken c (conn.Join fault))

one_join : (run : Option Joined) (f : Fragment) (a b : Option Ask) → JoinsBy run f a → JoinsBy run f b → a ≡ b
one_join run f a b (goes_on e t last) (goes_on e' t' last') = e ∙ sym e'
one_join run f a b (goes_on e t last) (whole j e' t' last' is') = absurd (true_false (is_last f) last' last)
one_join run f a b (goes_on e t last) (breaks c fault e' c_is known wrong) = absurd (taken_sound run f fault known t wrong)
one_join run f a b (whole j e t last is) (goes_on e' t' last') = absurd (true_false (is_last f) last last')
one_join run f a b (whole j e t last is) (whole k e' t' last' is') = e ∙ ap called_for (is ∙ sym is') ∙ sym e'
one_join run f a b (whole j e t last is) (breaks c fault e' c_is known wrong) = absurd (taken_sound run f fault known t wrong)
one_join run f a b (breaks c fault e c_is known wrong) (goes_on e' t' last') = absurd (taken_sound run f fault known t' wrong)
one_join run f a b (breaks c fault e c_is known wrong) (whole j e' t' last' is') = absurd (taken_sound run f fault known t' wrong)
one_join run f a b (breaks c fault e c_is known wrong) (breaks c' fault' e' c_is' known' wrong') =
    let callers : c ≡ c' = c_is ∙ sym c_is' in
    let faults : fault ≡ fault' = one_fault run f fault fault' known known' wrong wrong' in
    e ∙ (λ i. broken_for (callers i) (faults i)) ∙ sym e'

-- ---- a PDU asks one thing

one_of_request : (bound : Bool) (run : Option Joined) (f : Fragment) (a b : Option Ask) → OfRequest bound run f a → OfRequest bound run f b → a ≡ b
one_of_request true run f a b h k = one_join run f a b (joins_by run f a h) (joins_by run f b k)
one_of_request false run f a b h k = h ∙ sym k

asks_same : (bound : Bool) (run : Option Joined) (call : Option ℕ) (p : Pdu) (body : Body) (a b : Option Ask) → AsksWith bound run call p body a → AsksWith bound run call p body b → a ≡ b
asks_same bound run call p (bodies.Request r) a b h k = one_of_request bound run (request_fragment p r) a b h k
asks_same bound run call p (bodies.Response r) a b h k = h ∙ sym k
asks_same bound run call p (bodies.Fault r) a b h k = h ∙ sym k
asks_same bound run call p (bodies.Bind r) a b h k = h ∙ sym k
asks_same bound run call p (bodies.BindAck r) a b h k = h ∙ sym k
asks_same bound run call p (bodies.BindNak r) a b h k = h ∙ sym k
asks_same bound run call p (bodies.Alter r) a b h k = h ∙ sym k
asks_same bound run call p (bodies.AlterResp r) a b h k = h ∙ sym k
asks_same bound run call p bodies.Shutdown a b h k = h ∙ sym k
asks_same bound run call p bodies.CoCancel a b h k = h ∙ sym k
asks_same bound run call p bodies.Orphaned a b h k = h ∙ sym k

pub one_ask : (past : List Pdu) (p : Pdu) (a b : Option Ask) → Asks past p a → Asks past p b → a ≡ b
one_ask past p a b h k =
    let same : h.run ≡ k.run = one_joining (reverse past) h.run k.run h.joining k.joining in
    asks_same (is_bound past) k.run (called past) p p.body a b (subst (λ (run : Option Joined). AsksWith (is_bound past) run (called past) p p.body a) same h.asks) k.asks

-- ---- one thing is done at what is asked

one_call : (number : Option ℕ) (j : Joined) (act act' : Act) (w w' : Waits) → ActsOnCall number j act w → ActsOnCall number j act' w' → (act ≡ act') × (w ≡ w')
one_call (Some k) j act act' w w' h l = (h.0 ∙ sym l.0, h.1 ∙ sym l.1)
one_call None j act act' w w' h l = (h.0 ∙ sym l.0, h.1 ∙ sym l.1)

pub one_does : (ids : List SyntaxId) (a : List Accepted) (agreement : Agreement) (old : Waits) (ask : Ask) (act act' : Act) (w w' : Waits)
    → DoesWith ids a agreement old ask act w → DoesWith ids a agreement old ask act' w' → (act ≡ act') × (w ≡ w')
one_does ids a agreement old (asks.Bind c flags b) act act' w w' h k = (h.0 ∙ sym k.0, h.1 ∙ sym k.1)
one_does ids a agreement old (asks.Alter c b) act act' w w' h k = (h.0 ∙ sym k.0, h.1 ∙ sym k.1)
one_does ids a agreement old (asks.Call j) act act' w w' h k = one_call (interface_of a j.context) j act act' w w' h k
one_does ids a agreement old (asks.Cancel id) act act' w w' h k = (h.1 ∙ sym k.1, h.2 ∙ sym k.2)
one_does ids a agreement old (asks.Orphan id) act act' w w' h k = (h.1 ∙ sym k.1, h.2 ∙ sym k.2)
one_does ids a agreement old (asks.Broken c f) act act' w w' h k = (h.0 ∙ sym k.0, h.1 ∙ sym k.1)
