-- The totals of all connections, where one of them changes.
use Rattle.std.proofs.Common.{◌≡◌, ℕ, ◌+◌, ◌-◌, ◌^◌, ◌<◌, ◌≤◌, ◌==◌, nat_lt, Bool, true, false, inl, inr, Option, Some, None, if◌then◌else◌, List, [], ◌∷◌, ◌++◌, length, filter, refl, sym, ap, subst, ◌∙◌, arith}
use Rattle.std.specs.Prelude.{min}
use Rattle.std.specs.List.{find}
use Rattle.std.proofs.lemmas.Bool.{cases_order}
use Rattle.std.proofs.lemmas.Bool.Decides.{nat_tests}
use Rattle.desk_counts.specs.Numbers.{Numbers, none_yet, stopped, with_more}
use Rattle.conn_histories.specs.Histories.{Event, stream, put}
use Rattle.replay_world.specs.Worlds.{Peer, is_named, put_peer}
use Rattle.replay_world.specs.Counting.{Counts, CountAll}
use Rattle.server_counts.specs.Packets.{ArePackets, ends_call}
use Rattle.server_counts.proofs.OneRow.{one_row}
use Rattle.replay_events.specs.Living.{Tallied, Grows}
use Rattle.replay_events.specs.Tables.{RiseFrom}
use Rattle.replay_events.proofs.PeerTables.{found_above}

-- ---- stopped sums

twice : (n a b : ℕ) → stopped (stopped (n + a) + b) ≡ stopped (n + (a + b))
twice n a b = omega arith

swapped : (n a b : ℕ) → stopped (stopped (n + a) + b) ≡ stopped (stopped (n + b) + a)
swapped n a b = omega arith

pub more_twice : (n : Numbers) (a b c d e f : ℕ) → with_more (with_more n a b c) d e f ≡ with_more n (a + d) (b + e) (c + f)
more_twice n a b c d e f = λ i. record { calls = twice n.calls a d i; packets_in = twice n.packets_in b e i; packets_out = twice n.packets_out c f i }

more_swapped : (n : Numbers) (a b c d e f : ℕ) → with_more (with_more n a b c) d e f ≡ with_more (with_more n d e f) a b c
more_swapped n a b c d e f = λ i. record { calls = swapped n.calls a d i; packets_in = swapped n.packets_in b e i; packets_out = swapped n.packets_out c f i }

none_more : (n : Numbers) (a b c : ℕ) → with_more (with_more n a b c) 0 0 0 ≡ with_more n a b c
none_more n a b c = λ i. record { calls = same n.calls a i; packets_in = same n.packets_in b i; packets_out = same n.packets_out c i }
  where
    same : (x y : ℕ) → stopped (stopped (x + y) + 0) ≡ stopped (x + y)
    same x y = omega arith

-- ---- one connection

some_same : (x p : Peer) → Some x ≡ Some p → x ≡ p
some_same x p e = cc

-- the connection of that name is the first, or one behind
data Where (c : ℕ) (x : Peer) (ps : List Peer) (p : Peer) : Type 0 where
  first : x.name ≡ c → x ≡ p → Where c x ps p
  later : x.name < c → find (is_named c) ps ≡ Some p → Where c x ps p

where_is : (low c : ℕ) (x : Peer) (ps : List Peer) (p : Peer) → RiseFrom low (x ∷ ps) → find (is_named c) (x ∷ ps) ≡ Some p → Where c x ps p
where_is low c x ps p rise e =
    elim (cases_order x.name c) [
      | inl same ↦ let t : (x.name == c) ≡ true = grind (arith, nat_tests) in first same (some_same x p (rw t at e))
      | inr (inl less) ↦ let t : (x.name == c) ≡ false = grind (arith, nat_tests) in later less (rw t at e)
      | inr (inr more) ↦
          let t : (x.name == c) ≡ false = grind (arith, nat_tests) in
          absurd (omega (arith, more, found_above (x.name + 1) c ps p rise.1 (rw t at e)))
    ]

put_first : (q x : Peer) (ps : List Peer) → q.name ≡ x.name → put_peer q (x ∷ ps) ≡ q ∷ ps
put_first q x ps e = let t : (q.name == x.name) ≡ true = grind (arith, nat_tests) in rw t refl

put_later : (q x : Peer) (ps : List Peer) → x.name < q.name → put_peer q (x ∷ ps) ≡ x ∷ put_peer q ps
put_later q x ps lt =
    let t : (q.name == x.name) ≡ false = grind (arith, nat_tests) in
    let u : nat_lt q.name x.name ≡ false = grind (arith, nat_tests) in
    rw (t, u) refl

put_before : (q x : Peer) (ps : List Peer) → q.name < x.name → put_peer q (x ∷ ps) ≡ q ∷ x ∷ ps
put_before q x ps lt =
    let t : (q.name == x.name) ≡ false = grind (arith, nat_tests) in
    let u : nat_lt q.name x.name ≡ true = grind (arith, nat_tests) in
    rw (t, u) refl

-- so many more
abbrev more_by : (before after : List Event) (old new : Numbers) → Grows before old after new → Numbers → Numbers
more_by before after old new g n = with_more n g.more_calls g.more_in g.more_out

count_more : (p q : Peer) (others n : Numbers) (old new : Numbers) → (g : Grows p.events old q.events new) → Counts p others n → Counts q others (more_by p.events q.events old new g n)
count_more p q others n old new g h =
    let came : g.had.came ≡ h.came = one_row g.had.came h.came (stream p.events) g.had.are_came h.are_came in
    let answered : g.had.answered ≡ h.answered = one_row g.had.answered h.answered (put p.events) g.had.are_answered h.are_answered in
    let calls : g.calls ≡ length (filter ends_call h.came) = g.had.calls_are ∙ ap (λ (t : List (List ℕ)). length (filter ends_call t)) came in
    let packets_in : g.packets_in ≡ length h.came = g.had.in_are ∙ ap length came in
    let packets_out : g.packets_out ≡ length h.answered = g.had.out_are ∙ ap length answered in
    record {
      came = g.has.came;
      are_came = g.has.are_came;
      answered = g.has.answered;
      are_answered = g.has.are_answered;
      sum =
          ap (λ (x : Numbers). with_more x g.more_calls g.more_in g.more_out) h.sum
          ∙ more_twice others (length (filter ends_call h.came)) (length h.came) (length h.answered) g.more_calls g.more_in g.more_out
          ∙ (λ i. with_more others (sym calls i + g.more_calls) (sym packets_in i + g.more_in) (sym packets_out i + g.more_out))
          ∙ (λ i. with_more others (g.has.calls_are i) (g.has.in_are i) (g.has.out_are i));
    }

-- ---- all connections

grow : (low : ℕ) (ps : List Peer) (c : ℕ) (p q : Peer) (n old new : Numbers) → (g : Grows p.events old q.events new) → RiseFrom low ps → find (is_named c) ps ≡ Some p → q.name ≡ c → CountAll ps n
    → CountAll (put_peer q ps) (more_by p.events q.events old new g n)
grow low [] c p q n old new g rise found name all = absurd (cc (found))
grow low (x ∷ ps) c p q n old new g rise found name (others, more, counts) =
    elim (where_is low c x ps p rise found) [
      | first same is ↦
          subst (λ (t : List Peer). CountAll t (more_by p.events q.events old new g n)) (sym (put_first q x ps (name ∙ sym same)))
          (others, more, count_more p q others n old new g (subst (λ (t : Peer). Counts t others n) is counts))
      | later less found' ↦
          let on = grow (x.name + 1) ps c p q others old new g rise.1 found' name more in
          let e : more_by p.events q.events old new g n ≡ with_more (more_by p.events q.events old new g others) (length (filter ends_call counts.came)) (length counts.came) (length counts.answered) =
          ap (λ (t : Numbers). with_more t g.more_calls g.more_in g.more_out) counts.sum
          ∙ more_swapped others (length (filter ends_call counts.came)) (length counts.came) (length counts.answered) g.more_calls g.more_in g.more_out in
          subst (λ (t : List Peer). CountAll t (more_by p.events q.events old new g n)) (sym (put_later q x ps (omega (arith, less, name)))) (
            more_by p.events q.events old new g others,
            on,
            record { came = counts.came; are_came = counts.are_came; answered = counts.answered; are_answered = counts.are_answered; sum = e },
          )
    ]

pub totals_grow : (ps : List Peer) (c : ℕ) (p q : Peer) (old new : Numbers) → RiseFrom 0 ps → find (is_named c) ps ≡ Some p → q.name ≡ c → CountAll ps old → Grows p.events old q.events new → CountAll (put_peer q ps) new
totals_grow ps c p q old new rise found name all g = subst (CountAll (put_peer q ps)) (sym g.sum) (grow 0 ps c p q old old new g rise found name all)

stay : (low : ℕ) (ps : List Peer) (c : ℕ) (p q : Peer) (n : Numbers) → RiseFrom low ps → find (is_named c) ps ≡ Some p → q.name ≡ c → q.events ≡ p.events → CountAll ps n → CountAll (put_peer q ps) n
stay low [] c p q n rise found name same all = absurd (cc (found))
stay low (x ∷ ps) c p q n rise found name same (others, more, counts) =
    elim (where_is low c x ps p rise found) [
      | first here is ↦
          let events : x.events ≡ q.events = ap (λ (t : Peer). t.events) is ∙ sym same in
          subst (λ (t : List Peer). CountAll t n) (sym (put_first q x ps (name ∙ sym here))) (
            others,
            more,
            record {
              came = counts.came;
              are_came = subst (λ (t : List Event). ArePackets counts.came (stream t)) events counts.are_came;
              answered = counts.answered;
              are_answered = subst (λ (t : List Event). ArePackets counts.answered (put t)) events counts.are_answered;
              sum = counts.sum;
            },
          )
      | later less found' ↦
          subst (λ (t : List Peer). CountAll t n) (sym (put_later q x ps (omega (arith, less, name)))) (others, stay (x.name + 1) ps c p q others rise.1 found' name same more, counts)
    ]

pub totals_stay : (ps : List Peer) (c : ℕ) (p q : Peer) (numbers : Numbers) → RiseFrom 0 ps → find (is_named c) ps ≡ Some p → q.name ≡ c → q.events ≡ p.events → CountAll ps numbers → CountAll (put_peer q ps) numbers
totals_stay ps c p q numbers rise found name same all = stay 0 ps c p q numbers rise found name same all

-- ---- a connection on which nothing happened

no_counts : (q : Peer) (n : Numbers) → q.events ≡ [] → n ≡ with_more n 0 0 0 → Counts q n n
no_counts q n none e = record {
  came = [];
  are_came = subst (λ (t : List Event). ArePackets [] (stream t)) (sym none) (inl (λ h. absurd (omega (arith, h.long))));
  answered = [];
  are_answered = subst (λ (t : List Event). ArePackets [] (put t)) (sym none) (inl (λ h. absurd (omega (arith, h.long))));
  sum = e;
}

pub totals_open : (ps : List Peer) (q : Peer) (numbers : Numbers) → find (is_named q.name) ps ≡ None → q.events ≡ [] → CountAll ps numbers → CountAll (put_peer q ps) numbers
totals_open [] q n absent none all = (none_yet, refl, subst (Counts q none_yet) (sym all) (no_counts q none_yet none refl))
totals_open (x ∷ ps) q n absent none (others, more, counts) =
    elim (cases_order q.name x.name) [
      | inl same ↦ let t : (x.name == q.name) ≡ true = grind (arith, nat_tests) in absurd (cc (rw t at absent))
      | inr (inl less) ↦
          let e : n ≡ with_more n 0 0 0 =
          counts.sum ∙ sym (none_more others (length (filter ends_call counts.came)) (length counts.came) (length counts.answered)) ∙ ap (λ (t : Numbers). with_more t 0 0 0) (sym counts.sum) in
          subst (λ (t : List Peer). CountAll t n) (sym (put_before q x ps less)) (n, (others, more, counts), no_counts q n none e)
      | inr (inr above) ↦
          let t : (x.name == q.name) ≡ false = grind (arith, nat_tests) in
          subst (λ (t : List Peer). CountAll t n) (sym (put_later q x ps above)) (others, totals_open ps q others (rw t at absent) none more, counts)
    ]
