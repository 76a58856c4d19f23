-- A connection becomes a member.
use Rattle.std.proofs.Common.{◌≡◌, ◌≢◌, ℕ, ◌≤◌, ◌+◌, Bool, true, false, Option, Some, None, List, refl, sym, ap, subst, ◌∙◌, ◌⊎◌, inl, inr}
use Rattle.std.specs.List.{list_any}
use Rattle.std.proofs.lemmas.Bool.Decides.{eqb_tells}
use Rattle.handle_model.specs.Journal.{has_joined, is_open, leaves}
use Rattle.replay_world.specs.declared.peer.Member.{Member}
use Rattle.replay_world.specs.declared.peer.Unanswered.TheVariants.{Call}
use Rattle.replay_world.specs.declared.peer.Standing.TheVariants.{Open}
use Rattle.replay_world.specs.Worlds.{Peer, World, peer_at, home_of, past_of, journal}
use Rattle.replay_world.specs.Moments.{AreSound, IsAs, IsCallOf, Coheres}
use Rattle.replay_world.proofs.Pasts.{Grows, joined_grows, asked_grows, open_by, open_unleft}
use Rattle.replay_world.proofs.Keep.{Moves, some_is, call_stays}

-- it is the new member, which is none of the others
pub record Joins {S : Type 0} (w v : World S) (c : ℕ) (p q : Peer) (new : Member) : Type 0 where
  pub moves : Moves w v c p q
  pub low : 1 ≤ new.group
  pub member : q.member ≡ Some new
  pub no_call : (k : ℕ) → q.unanswered ≢ Call k
  pub fresh : has_joined (journal w new.group) new.number ≡ false
  pub joined : has_joined (journal v new.group) new.number ≡ true
  pub unleft : list_any (leaves new.number) (past_of v new.group) ≡ false
  pub quiet : (g n : ℕ) → list_any (leaves n) (past_of v g) ≡ list_any (leaves n) (past_of w g)

module _ {S : Type 0} (w v : World S) (c : ℕ) (p q : Peer) (new : Member) (s : Joins w v c p q new) (h : Coheres w) (sound : AreSound v) where
  -- another connection, or the one that joined
  who : (d : ℕ) (x : Peer) (m : Member) → IsAs v d x m → ((d ≡ c) × (x ≡ q) × (m ≡ new)) ⊎ ((d ≢ c) × IsAs w d x m)
  who d x m i =
      elim (eqb_tells d c) [
        | inl e ↦
            let found : peer_at v c ≡ Some x = subst (λ (n : ℕ). peer_at v n ≡ Some x) e.1 i.there in
            let one : x ≡ q = some_is x q (sym found ∙ s.moves.is) in
            inl (e.1, one, some_is m new (sym i.member ∙ ap (λ (z : Peer). z.member) one ∙ s.member))
        | inr e ↦ inr (e.1, record { there = sym (s.moves.others d e.1) ∙ i.there; member = i.member })
      ]

  other_is : (d : ℕ) (x : Peer) (m : Member) → IsAs w d x m → m ≡ new → ⊥
  other_is d x m i e =
      let t = h.joined d x m i in
      let u : has_joined (journal w new.group) new.number ≡ true = subst (λ (z : Member). has_joined (journal w z.group) z.number ≡ true) e t in
      absurd (let f = s.fresh in cc (u, f))

  joined : (d : ℕ) (x : Peer) (m : Member) → IsAs v d x m → has_joined (journal v m.group) m.number ≡ true
  joined d x m i =
      elim (who d x m i) [
        | inl e ↦ subst (λ (z : Member). has_joined (journal v z.group) z.number ≡ true) (sym e.2) s.joined
        | inr e ↦ joined_grows (home_of w m.group) (home_of v m.group) m.number (past_of w m.group) (past_of v m.group) (s.moves.grows m.group) (h.joined d x m e.1)
      ]

  here : (d : ℕ) (x : Peer) (m : Member) → IsAs v d x m → x.standing ≡ Open → is_open (journal v m.group) m.number ≡ true
  here d x m i o =
      open_by (home_of v m.group) m.number (past_of v m.group) (joined d x m i)
      (elim (who d x m i) [
        | inl e ↦ subst (λ (z : Member). list_any (leaves z.number) (past_of v z.group) ≡ false) (sym e.2) s.unleft
        | inr e ↦ s.quiet m.group m.number ∙ open_unleft (home_of w m.group) m.number (past_of w m.group) (h.here d x m e.1 o)
      ])

  calls : (d k : ℕ) (x : Peer) (m : Member) → IsAs v d x m → x.unanswered ≡ Call k → IsCallOf (journal v m.group) m k
  calls d k x m i u =
      elim (who d x m i) [
        | inl e ↦ absurd (s.no_call k (sym (ap (λ (z : Peer). z.unanswered) e.1) ∙ u))
        | inr e ↦ call_stays w v m k (h.grouped d x m e.1) sound (s.moves.grows m.group) (h.calls d k x m e.1 u)
      ]

  apart : (d e : ℕ) (x y : Peer) (m : Member) → IsAs v d x m → IsAs v e y m → d ≡ e
  apart d e x y m i k =
      elim (who d x m i) [
        | inl a ↦ elim (who e y m k) [ inl b ↦ a.0 ∙ sym b.0 | inr b ↦ absurd (other_is e y m b.1 a.2) ]
        | inr a ↦ elim (who e y m k) [ inl b ↦ absurd (other_is d x m a.1 b.2) | inr b ↦ h.apart d e x y m a.1 b.1 ]
      ]

  grouped : (d : ℕ) (x : Peer) (m : Member) → IsAs v d x m → 1 ≤ m.group
  grouped d x m i = elim (who d x m i) [ inl e ↦ subst (λ (z : Member). 1 ≤ z.group) (sym e.2) s.low | inr e ↦ h.grouped d x m e.1 ]

  pub keeps_joined : Coheres v
  keeps_joined = record { grouped = grouped; joined = joined; apart = apart; here = here; calls = calls }
