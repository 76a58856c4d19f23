-- What the acts of a connection are to the group.
use Rattle.std.proofs.Common.{◌≡◌, ℕ, Bool, Option, Some, None, Ok, Err, List, [], ◌∷◌, ◌++◌, inl, inr, refl, sym, ap, subst, ◌∙◌}
use Rattle.std.specs.Prelude.{Result, OnOk}
use Rattle.rpc_base.specs.declared.fault.NoMemory.{NoMemory}
use Rattle.rpc_base.specs.declared.identifiers.Status.{Status}
use Rattle.pdu_stream.specs.declared.joined.Joined.{Joined}
use Rattle.conn_asks.specs.declared.events.Act.{Act}
use Rattle.conn_asks.specs.declared.events.Act.TheVariants as acts
use Rattle.conn_asks.specs.declared.events.ConnFault.{ConnFault}
use Rattle.conn_histories.specs.Histories.Event.{Did}
use Rattle.world_laws.specs.Ends.{Waiting, ServerEnd, Line}
use Rattle.world_laws.specs.Ends.Waiting.{Nothing, Bind, Refused, Call}
use Rattle.world_laws.specs.Serving.{ActMeans, OfMember, CancelsMarked, awaiting, numbered}
use Rattle.world_server.specs.Servers.{ServerView, IsWhole, Goes}
use Rattle.world_server.specs.Requests.{Requests}
use Rattle.world_ends.specs.declared.serving.Serving.{Serving}
use Rattle.world_ends.specs.declared.serving.Waiting.TheVariants as waits
use Rattle.world_ends.specs.Servings.{HasPlace, IsServing, Lives, Means, event_of, waiting_of}

-- what an act means
abbrev pub Does : Act → ServerView → Serving → ServerView → Serving → Type 0
Does act x s y t = Means (λ past e f new. ActMeans x.tables past e act f new) x s y t

of_member : (P : ℕ → Type 0) (o : Option ℕ) (m : ℕ) → o ≡ Some m → P m → OfMember o P
of_member P o m e p = subst (λ (z : Option ℕ). OfMember z P) (sym e) p

module _ (x : ServerView) (s t : Serving) where
  pub answers : (octets : List ℕ) → IsWhole x → t ≡ record s { numbers = t.numbers } → t.numbers.items ≡ s.numbers.items ++ None ∷ [] → Does (acts.Answer octets) x s x t
  answers octets w same nums = (
    w,
    refl,
    ap (λ (z : Serving). z.conn) same,
    ap (λ (z : Serving). z.down) same,
    λ e p. (
      numbered e None e.waiting,
      (refl, refl),
      record {
        member_is = ap (λ (z : Serving). z.member) same ∙ p.member_is;
        waiting_is = ap (λ (z : Serving). waiting_of z.waiting) same ∙ p.waiting_is;
        numbers_are = nums ∙ ap (λ (ns : List (Option ℕ)). ns ++ None ∷ []) p.numbers_are;
      },
    ),
  )

  pub groups : (asked : ℕ) → IsWhole x → t ≡ record s { waiting = waits.Bind asked } → Does (acts.Group asked) x s x t
  groups asked w same = (
    w,
    refl,
    ap (λ (z : Serving). z.conn) same,
    ap (λ (z : Serving). z.down) same,
    λ e p. (
      awaiting e (Bind asked),
      (refl, refl),
      record {
        member_is = ap (λ (z : Serving). z.member) same ∙ p.member_is;
        waiting_is = ap (λ (z : Serving). waiting_of z.waiting) same;
        numbers_are = ap (λ (z : Serving). z.numbers.items) same ∙ p.numbers_are;
      },
    ),
  )

module _ (x : ServerView) (s t : Serving) (joined : Joined) (iface member : ℕ) (is : s.member ≡ Some member) where
  pub refused : (y : ServerView) (status : Status) → Goes x (Requests x.tables member joined iface (Err status)) y → t ≡ record s { waiting = waits.Refused status; numbers = t.numbers }
      → t.numbers.items ≡ s.numbers.items ++ None ∷ [] → Does (acts.Call joined iface) x s y t
  refused y status g same nums = (
    g.is_whole,
    g.tables,
    ap (λ (z : Serving). z.conn) same,
    ap (λ (z : Serving). z.down) same,
    λ e p. (
      numbered e None (Refused status),
      of_member _ e.member member (sym p.member_is ∙ is) (inl (status, record { cause = g.says.0; memory = g.says.1 }, refl, g.says.2)),
      record {
        member_is = ap (λ (z : Serving). z.member) same ∙ p.member_is;
        waiting_is = ap (λ (z : Serving). waiting_of z.waiting) same;
        numbers_are = nums ∙ ap (λ (ns : List (Option ℕ)). ns ++ None ∷ []) p.numbers_are;
      },
    ),
  )

  pub accepted : (mid y : ServerView) (k : ℕ) (answer : Result Unit NoMemory) → Goes x (Requests x.tables member joined iface (Ok k)) mid → OnOk answer (Goes mid (λ past new. CancelsMarked joined.cancel past k new) y)
      → t ≡ record s { waiting = waits.Call k; numbers = t.numbers } → t.numbers.items ≡ s.numbers.items ++ Some k ∷ [] → OnOk answer (Does (acts.Call joined iface) x s y t)
  accepted mid y k (Err u) g h same nums = tt
  accepted mid y k (Ok u) g h same nums = (
    h.is_whole,
    h.tables ∙ g.tables,
    ap (λ (z : Serving). z.conn) same,
    ap (λ (z : Serving). z.down) same,
    λ e p. (
      numbered e (Some k) (Call k),
      of_member _ e.member member (sym p.member_is ∙ is) (inr (k, record { slots = g.says.0; has = g.says.1; accepted = mid.past; accepts = g.says.2; marked = h.says }, refl)),
      record {
        member_is = ap (λ (z : Serving). z.member) same ∙ p.member_is;
        waiting_is = ap (λ (z : Serving). waiting_of z.waiting) same;
        numbers_are = nums ∙ ap (λ (ns : List (Option ℕ)). ns ++ Some k ∷ []) p.numbers_are;
      },
    ),
  )

-- of any act, and so of this one
pub at_act : (x y : ServerView) (s t : Serving) (answer : Result Unit NoMemory) (act is : Act) → act ≡ is → OnOk answer (Does is x s y t) → OnOk answer (Does act x s y t)
at_act x y s t answer act is e h = subst (λ (a : Act). OnOk answer (Does a x s y t)) (sym e) h

pub of_any : (answer : Result Unit NoMemory) (P : ℕ → Type 0) (id : ℕ) → OnOk answer ((n : ℕ) → P n) → OnOk answer (P id)
of_any (Ok u) P id h = h id
of_any (Err u) P id h = tt

pub of_each : (answer : Result Unit NoMemory) (P : List ℕ → ConnFault → Type 0) (octets : List ℕ) (why : ConnFault) → OnOk answer ((o : List ℕ) (w : ConnFault) → P o w) → OnOk answer (P octets why)
of_each (Ok u) P octets why h = h octets why
of_each (Err u) P octets why h = tt
