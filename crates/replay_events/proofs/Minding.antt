-- What is kept of calls stays so, where journals go on and spare them.
use Rattle.std.proofs.Common.{◌≡◌, ◌≢◌, ℕ, zero, suc, ◌+◌, ◌-◌, ◌≤◌, Option, Some, None, List, [], ◌∷◌, get_or, refl, sym, ap, subst, ◌∙◌, arith}
use Rattle.handle_model.specs.declared.entry.Asked.{Asked}
use Rattle.handle_model.specs.declared.entry.Slot.{Slot}
use Rattle.handle_model.specs.declared.entry.Entry.{Entry}
use Rattle.handle_model.specs.History.{IsSound}
use Rattle.handle_model.specs.Journal as journals
use Rattle.handle_model.proofs.Steps.{empty_sound}
use Rattle.ndr_table.specs.Tables.{TableForm}
use Rattle.desk_service.specs.State.{Services}
use Rattle.replay_groups.specs.Keeps.{AllSound, whole_of, home_in}
use Rattle.replay_world.specs.declared.peer.Member.{Member}
use Rattle.replay_world.specs.declared.peer.Unanswered.TheVariants.{Call}
use Rattle.replay_world.specs.Worlds.{Peer, World, peer_at, home_of, past_of, journal}
use Rattle.replay_world.specs.Groups.{taken_with}
use Rattle.replay_world.specs.Moments.{AreSound, IsAs, IsCallOf, Coheres}
use Rattle.replay_world.proofs.Pasts.{asked_grows}
use Rattle.replay_world.proofs.Keep.{some_is}
use Rattle.replay_events.specs.declared.played.Kept.{Kept}
use Rattle.replay_groups.specs.declared.realm.Realm.{Realm}
use Rattle.replay_groups.specs.Holding.{Holds}
use Rattle.replay_events.specs.Standing.{KeepsRow, KeepsCall, Minds}
use Rattle.replay_events.proofs.Sparing.{Spares, grown, same_taken, same_orphaned}
use Rattle.replay_events.proofs.Spared.{SparesAll, one_call, no_call}

-- ---- the journals are sound

sound_at : (boot id : ℕ) (pasts : List (List Entry)) (i : ℕ) → AllSound boot id pasts → IsSound (whole_of boot (id + i) (get_or pasts i []))
sound_at boot id [] i all = empty_sound (home_in boot (id + i))
sound_at boot id (past ∷ more) zero all = subst (λ (n : ℕ). IsSound (whole_of boot n past)) (let e : id ≡ id + 0 = omega arith in e) all.0
sound_at boot id (past ∷ more) (suc i) all =
    subst (λ (n : ℕ). IsSound (whole_of boot n (get_or more i []))) (let e : suc id + i ≡ id + suc i = omega arith in e) (sound_at boot (suc id) more i all.1)

pub sound_of : (echo : Option TableForm) (r : Realm) (w : World Services) → Holds echo r w → AreSound w
sound_of echo r w h g low =
    let id : 1 + (g - 1) ≡ g = omega (arith, low) in
    subst (λ (b : ℕ). IsSound (whole_of b g (past_of w g))) h.boot
    (subst (λ (m : ℕ). IsSound (whole_of r.groups.boot m (past_of w g))) id (sound_at r.groups.boot 1 w.groups (g - 1) h.keeps.sound))

-- what is kept of the calls of others stays
abbrev pub KeepsOthers : Option TableForm → ℕ → World Services → World Services → Type 0
KeepsOthers echo c w b = (d : ℕ) (p : Peer) (call : Option Kept) → d ≢ c → peer_at w d ≡ Some p → Minds echo w p call → Minds echo b p call

-- ---- a call is kept

kept_row : (row : Option (List (Option ℕ))) (slots : List Slot) (old new : Option (List (Option ℕ))) → new ≡ old → KeepsRow row slots old → KeepsRow row slots new
kept_row row slots old new e k = subst (λ (t : Option (List (Option ℕ))). KeepsRow row slots t) (sym e) k

pub call_kept : (echo : Option TableForm) (w b : World Services) (T O : ℕ → ℕ → Type 0) (g k : ℕ) (kept : Kept) → 1 ≤ g → AreSound b → SparesAll T O w b → (T g k → ⊥) → (O g k → ⊥)
    → KeepsCall echo (journal w g) k kept → KeepsCall echo (journal b g) k kept
call_kept echo w b T O g k kept low sound s untaken unorphaned t = record {
  asked = asked_grows (home_of w g) (home_of b g) k kept.asked (past_of w g) (past_of b g) (grown (T g) (O g) (past_of w g) (past_of b g) (s g)) ((sound g low).legal) t.asked;
  is_request = t.is_request;
  cookies = kept_row kept.cookies kept.asked.slots (taken_with (past_of w g) k) (taken_with (past_of b g) k) (same_taken (T g) (O g) (past_of w g) (past_of b g) k (s g) untaken) t.cookies;
  orphaned = t.orphaned ∙ sym (same_orphaned (T g) (O g) (past_of w g) (past_of b g) (home_of b g) (home_of w g) k (s g) unorphaned);
}

-- no call of the connection is among these
abbrev pub HasNone : (ℕ → ℕ → Type 0) → Peer → Type 0
HasNone Own p = (m : Member) (k : ℕ) → p.member ≡ Some m → p.unanswered ≡ Call k → Own m.group k → ⊥

pub none_of_none : (p : Peer) → HasNone no_call p
none_of_none p m k i u o = o

pub minds_kept : (echo : Option TableForm) (w b : World Services) (T O : ℕ → ℕ → Type 0) (c : ℕ) (p : Peer) (call : Option Kept) → AreSound b → Coheres w → peer_at w c ≡ Some p
    → SparesAll T O w b → HasNone T p → HasNone O p → Minds echo w p call → Minds echo b p call
minds_kept echo w b T O c p call sound h there s untaken unorphaned minds m k kept member unanswered is =
    call_kept echo w b T O m.group k kept (h.grouped c p m (record { there = there; member = member })) sound s (untaken m k member unanswered) (unorphaned m k member unanswered)
    (minds m k kept member unanswered is)

-- ---- whose call it is

-- two connections have no call in common
pub calls_apart : {S : Type 0} (w : World S) → Coheres w → (c d : ℕ) (p q : Peer) (m n : Member) (k : ℕ) → IsAs w c p m → IsAs w d q n → p.unanswered ≡ Call k → q.unanswered ≡ Call k
    → m.group ≡ n.group → c ≡ d
calls_apart w h c d p q m n k i j u v same =
    let x = h.calls c k p m i u in
    let y = h.calls d k q n j v in
    let there : journals.asked (journal w m.group) k ≡ Some y.what = subst (λ (g : ℕ). journals.asked (journal w g) k ≡ Some y.what) (sym same) y.asks in
    let what : x.what ≡ y.what = some_is x.what y.what (sym x.asks ∙ there) in
    let number : m.number ≡ n.number = sym x.conn ∙ ap (λ (a : Asked). a.conn) what ∙ y.conn in
    let one : n ≡ m = λ i. record { group = sym same i; number = sym number i } in
    h.apart c d p q m i (subst (λ (z : Member). IsAs w d q z) one j)

-- the call of another connection is not the one of this
pub free_of_one : {S : Type 0} (w : World S) → Coheres w → (c d : ℕ) (p q : Peer) (m : Member) (k : ℕ) → IsAs w c p m → p.unanswered ≡ Call k → d ≢ c → peer_at w d ≡ Some q
    → HasNone (one_call m.group k) q
free_of_one w h c d p q m k i u other there n l member v own =
    let j : IsAs w d q n = record { there = there; member = member } in
    let low_m = h.grouped c p m i in
    let low_n = h.grouped d q n j in
    let at : m.group - 1 ≡ n.group - 1 = own.0 in
    let same : m.group ≡ n.group = omega (arith, at, low_m, low_n) in
    other (sym (calls_apart w h c d p q m n k i j u (v ∙ ap Call own.1) same))

-- ---- the calls of others

module _ (echo : Option TableForm) (w b : World Services) (c : ℕ) (h : Coheres w) (sound : AreSound b) where
  pub others_spared : SparesAll no_call no_call w b → KeepsOthers echo c w b
  others_spared s d p call other there minds = minds_kept echo w b no_call no_call d p call sound h there s (none_of_none p) (none_of_none p) minds

  pub others_untaken : (p : Peer) (m : Member) (k : ℕ) → IsAs w c p m → p.unanswered ≡ Call k → SparesAll (one_call m.group k) no_call w b → KeepsOthers echo c w b
  others_untaken p m k i u s d q call other there minds =
      minds_kept echo w b (one_call m.group k) no_call d q call sound h there s (free_of_one w h c d p q m k i u other there) (none_of_none q) minds

  pub others_unorphaned : (p : Peer) (m : Member) (k : ℕ) → IsAs w c p m → p.unanswered ≡ Call k → SparesAll no_call (one_call m.group k) w b → KeepsOthers echo c w b
  others_unorphaned p m k i u s d q call other there minds =
      minds_kept echo w b no_call (one_call m.group k) d q call sound h there s (none_of_none q) (free_of_one w h c d p q m k i u other there) minds
