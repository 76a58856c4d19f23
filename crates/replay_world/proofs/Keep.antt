-- What holds at a moment holds at the next one, where one connection and the journals went on.
use Rattle.std.proofs.Common.{◌≡◌, ◌≢◌, ℕ, ◌≤◌, Bool, true, false, Option, Some, None, List, refl, sym, ap, subst, ◌∙◌, ◌⊎◌, inl, inr}
use Rattle.std.specs.List.{list_any}
use Rattle.std.proofs.lemmas.Bool.{cases_Bool}
use Rattle.std.proofs.lemmas.Bool.Decides.{eqb_tells}
use Rattle.handle_model.specs.declared.entry.Entry.{Entry}
use Rattle.handle_model.specs.Journal.{has_joined, is_open, leaves}
use Rattle.handle_model.proofs.Tests.{and_left}
use Rattle.replay_world.specs.declared.peer.Member.{Member}
use Rattle.replay_world.specs.declared.peer.Unanswered.TheVariants.{Call}
use Rattle.replay_world.specs.declared.peer.Standing.{Standing}
use Rattle.replay_world.specs.declared.peer.Standing.TheVariants.{Open}
use Rattle.replay_world.specs.Worlds.{Peer, World, peer_at, home_of, past_of, journal}
use Rattle.replay_world.specs.Moments.{AreSound, IsAs, IsCallOf, Coheres}
use Rattle.replay_world.proofs.Pasts.{Grows, joined_grows, asked_grows, open_by, open_unleft}

pub some_is : {A : Type 0} (x y : A) → Some x ≡ Some y → x ≡ y
some_is x y e = cc

-- the member is that of the connection, which is no longer there
pub record IsGone (member : Option Member) (standing : Standing) (g n : ℕ) : Type 0 where
  pub is : member ≡ Some (record { group = g; number = n })
  pub gone : standing ≢ Open

-- the connections, but for one, are as they were
pub record Moves {S : Type 0} (w v : World S) (c : ℕ) (p q : Peer) : Type 0 where
  pub was : peer_at w c ≡ Some p
  pub is : peer_at v c ≡ Some q
  pub others : (d : ℕ) → d ≢ c → peer_at v d ≡ peer_at w d
  pub grows : (g : ℕ) → Grows (past_of w g) (past_of v g)

-- it keeps its member; whoever left is gone
pub record Stays {S : Type 0} (w v : World S) (c : ℕ) (p q : Peer) : Type 0 where
  pub moves : Moves w v c p q
  pub member : q.member ≡ p.member
  pub open_ : q.standing ≡ Open → p.standing ≡ Open
  pub call : (k : ℕ) (m : Member) → q.unanswered ≡ Call k → q.member ≡ Some m → (p.unanswered ≡ Call k) ⊎ IsCallOf (journal v m.group) m k
  pub left : (g n : ℕ) → 1 ≤ g → list_any (leaves n) (past_of v g) ≡ true → (list_any (leaves n) (past_of w g) ≡ true) ⊎ IsGone q.member q.standing g n

pub call_stays : {S : Type 0} (w v : World S) (m : Member) (k : ℕ) → 1 ≤ m.group → AreSound v → Grows (past_of w m.group) (past_of v m.group) → IsCallOf (journal w m.group) m k → IsCallOf (journal v m.group) m k
call_stays w v m k low sound g t = record {
  what = t.what;
  asks = asked_grows (home_of w m.group) (home_of v m.group) k t.what (past_of w m.group) (past_of v m.group) g ((sound m.group low).legal) t.asks;
  conn = t.conn;
}

module _ {S : Type 0} (w v : World S) (c : ℕ) (p q : Peer) (s : Stays w v c p q) (h : Coheres w) (sound : AreSound v) where
  -- who it was that is now some member
  pub record Before (d : ℕ) (x : Peer) (m : Member) : Type 0 where
    pub peer : Peer
    pub as_ : IsAs w d peer m
    pub same : ((d ≡ c) × (x ≡ q) × (peer ≡ p)) ⊎ ((d ≢ c) × (x ≡ peer))

  before : (d : ℕ) (x : Peer) (m : Member) → IsAs v d x m → Before d x m
  before d x m i =
      elim (eqb_tells d c) [
        | inl e ↦
            let found : peer_at v c ≡ Some x = subst (λ (n : ℕ). peer_at v n ≡ Some x) e.1 i.there in
            let one : x ≡ q = some_is x q (sym found ∙ s.moves.is) in
            let was : peer_at w d ≡ Some p = subst (λ (n : ℕ). peer_at w n ≡ Some p) (sym e.1) s.moves.was in
            record { peer = p; as_ = record { there = was; member = sym s.member ∙ ap (λ (z : Peer). z.member) (sym one) ∙ i.member }; same = inl (e.1, one, refl) }
        | inr e ↦ record { peer = x; as_ = record { there = sym (s.moves.others d e.1) ∙ i.there; member = i.member }; same = inr (e.1, refl) }
      ]

  joined : (d : ℕ) (x : Peer) (m : Member) → IsAs v d x m → has_joined (journal v m.group) m.number ≡ true
  joined d x m i =
      let b = before d x m i in
      joined_grows (home_of w m.group) (home_of v m.group) m.number (past_of w m.group) (past_of v m.group) (s.moves.grows m.group) (h.joined d b.peer m b.as_)

  unleft_by : (d : ℕ) (x : Peer) (m : Member) (i : IsAs v d x m) (b : Before d x m) → x.standing ≡ Open → (list_any (leaves m.number) (past_of w m.group) ≡ true) ⊎ IsGone q.member q.standing m.group m.number → ⊥
  unleft_by d x m i b o (inl t) =
      let was : b.peer.standing ≡ Open = elim b.same [
        | inl e ↦ ap (λ (z : Peer). z.standing) e.2 ∙ s.open_ (sym (ap (λ (z : Peer). z.standing) e.1) ∙ o)
        | inr e ↦ sym (ap (λ (z : Peer). z.standing) e.1) ∙ o
      ] in
      let f = open_unleft (home_of w m.group) m.number (past_of w m.group) (h.here d b.peer m b.as_ was) in
      absurd (cc (t, f))
  unleft_by d x m i b o (inr g) =
      let as_p : IsAs w c p m = record { there = s.moves.was; member = sym s.member ∙ g.is } in
      let one : d ≡ c = h.apart d c b.peer p m b.as_ as_p in
      elim b.same [
        | inl e ↦ g.gone (sym (ap (λ (z : Peer). z.standing) e.1) ∙ o)
        | inr e ↦ e.0 one
      ]

  here : (d : ℕ) (x : Peer) (m : Member) → IsAs v d x m → x.standing ≡ Open → is_open (journal v m.group) m.number ≡ true
  here d x m i o =
      let b = before d x m i in
      let low = h.grouped d b.peer m b.as_ in
      open_by (home_of v m.group) m.number (past_of v m.group) (joined d x m i)
      (elim (cases_Bool (list_any (leaves m.number) (past_of v m.group))) [
        | inl t ↦ absurd (unleft_by d x m i b o (s.left m.group m.number low t))
        | inr f ↦ f
      ])

  calls : (d k : ℕ) (x : Peer) (m : Member) → IsAs v d x m → x.unanswered ≡ Call k → IsCallOf (journal v m.group) m k
  calls d k x m i u =
      let b = before d x m i in
      let low = h.grouped d b.peer m b.as_ in
      let old : b.peer.unanswered ≡ Call k → IsCallOf (journal v m.group) m k =
      λ t. call_stays w v m k low sound (s.moves.grows m.group) (h.calls d k b.peer m b.as_ t) in
      elim b.same [
        | inl e ↦
            let u_q : q.unanswered ≡ Call k = sym (ap (λ (z : Peer). z.unanswered) e.1) ∙ u in
            let m_q : q.member ≡ Some m = sym (ap (λ (z : Peer). z.member) e.1) ∙ i.member in
            elim (s.call k m u_q m_q) [ inl t ↦ old (ap (λ (z : Peer). z.unanswered) e.2 ∙ t) | inr t ↦ t ]
        | inr e ↦ old (sym (ap (λ (z : Peer). z.unanswered) e.1) ∙ u)
      ]

  apart : (d e : ℕ) (x y : Peer) (m : Member) → IsAs v d x m → IsAs v e y m → d ≡ e
  apart d e x y m i k = let a = before d x m i in let b = before e y m k in h.apart d e a.peer b.peer m a.as_ b.as_

  pub keeps : Coheres v
  keeps = record {
    grouped = λ d x m i. let b = before d x m i in h.grouped d b.peer m b.as_;
    joined = joined;
    apart = apart;
    here = here;
    calls = calls;
  }
