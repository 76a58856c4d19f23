-- Which calls were asked to end, as each entry comes.
use Rattle.std.proofs.Common.{◌≡◌, ℕ, zero, suc, ◌+◌, ◌-◌, ◌≤◌, Bool, true, false, ◌&&◌, ◌||◌, ◌==◌, nat_le, List, [], ◌∷◌, ◌++◌, length, drop, get_or, refl, sym, ◌∙◌, ap, subst, arith, reverse, inl, inr}
use Rattle.std.specs.List.{list_any}
use Rattle.std.proofs.lemmas.List.{length-append, length-drop, length-set, get_or-set_same, get_or-set_other, get_or-drop}
use Rattle.std.proofs.lemmas.List.Folds.{list_any-append}
use Rattle.std.proofs.lemmas.Bool.{cases_Bool, not-true, leb-true, leb-false, le-leb, lt-leb}
use Rattle.std.proofs.lemmas.Bool.Decides.{eqb_tells}
use Rattle.handle_model.specs.declared.entry.Asked.{Asked}
use Rattle.handle_model.specs.declared.entry.Entry.{Entry}
use Rattle.handle_model.specs.declared.entry.Entry.TheVariants.{Join, Accept, Take, Deny, Cancel, Orphan, End, Leave, Shut}
use Rattle.handle_model.specs.declared.base.BaseCall.{BaseCall}
use Rattle.handle_model.specs.declared.base.Base.{Base}
use Rattle.handle_model.specs.Bases.{empty_base, is_number, is_call, taken_before}
use Rattle.handle_model.specs.Journal.{any_since, count_since, takes, is_accept}
use Rattle.handle_model.proofs.Reversed.{reverse-snoc}
use Rattle.group_core.specs.Kept.{Logged, Came, accepted_in}
use Rattle.group_core.specs.Stages.{is_asked_since}
use Rattle.group_core.specs.Marks.{Marked, is_marked, with_call, with_mark, later_with, marked_of, is_quiet_since, MarksTell}
use Rattle.group_core.specs.Folds.{MarksLeft}

-- WHAT IS MARKED

unset : (bs : List Bool) (i : ℕ) → get_or (bs ++ false ∷ []) i false ≡ get_or bs i false
unset [] zero = refl
unset [] (suc i) = refl
unset (b ∷ bs) zero = refl
unset (b ∷ bs) (suc i) = unset bs i

-- a further call is not
marked_call : (m : Marked) (k : ℕ) → is_marked (with_call m) k ≡ is_marked m k
marked_call m k = elim (cases_Bool (nat_le k m.first)) [ inl t ↦ rw t refl | inr t ↦ rw t (unset m.later (k - m.first - 1)) ]

or_last : (a b : Bool) → (a || (b || false)) ≡ (b || a)
or_last true true = refl
or_last true false = refl
or_last false true = refl
or_last false false = refl

early_mark : (m : Marked) (k n : ℕ) → nat_le k m.first ≡ true → is_marked (with_mark k m) n ≡ (k == n || is_marked m n)
early_mark m k n t =
    elim (cases_Bool (nat_le n m.first)) [
      | inl u ↦ rw (t, u) (list_any-append (is_number n) m.early (k ∷ []) ∙ or_last (list_any (is_number n) m.early) (k == n))
      | inr u ↦
          elim (eqb_tells k n) [
            | inl s ↦ absurd (let low = leb-true k m.first t in let high = leb-false n m.first u in omega (arith, low, high, s.1))
            | inr s ↦ rw (t, u, s.0) refl
          ]
    ]

later_mark : (m : Marked) (k n : ℕ) → nat_le k m.first ≡ false → k ≤ m.first + length m.later → is_marked (with_mark k m) n ≡ (k == n || is_marked m n)
later_mark m k n t known =
    let above = leb-false k m.first t in
    elim (cases_Bool (nat_le n m.first)) [
      | inl u ↦
          elim (eqb_tells k n) [
            | inl s ↦ absurd (let low = leb-true n m.first u in omega (arith, above, low, s.1))
            | inr s ↦ rw (t, u, s.0) refl
          ]
      | inr u ↦
          elim (eqb_tells k n) [
            | inl s ↦
                let same : get_or (later_with k m) (k - m.first - 1) false ≡ true = rw t (get_or-set_same m.later (k - m.first - 1) true false (omega (arith, above, known))) in
                let at : get_or (later_with k m) (n - m.first - 1) false ≡ true = subst (λ i. get_or (later_with k m) (i - m.first - 1) false ≡ true) s.1 same in
                rw (u, s.0) at
            | inr s ↦
                let other = leb-false n m.first u in
                rw (t, u, s.0) (get_or-set_other m.later (k - m.first - 1) (n - m.first - 1) true false (λ q. s.1 (omega (arith, q, above, other))))
          ]
    ]

-- a mark is
marked_mark : (m : Marked) (k n : ℕ) → k ≤ m.first + length m.later → is_marked (with_mark k m) n ≡ (k == n || is_marked m n)
marked_mark m k n known = elim (cases_Bool (nat_le k m.first)) [ inl t ↦ early_mark m k n t | inr t ↦ later_mark m k n t known ]

pub tells_none : (room : ℕ) → MarksTell (record { first = 0; early = []; later = []; room = room }) empty_base []
tells_none room =
    record { first_is = refl; counts = refl; marked = λ k. elim (cases_Bool (nat_le k 0)) [ inl t ↦ rw t refl | inr t ↦ rw t refl ] }

-- WHAT AN ENTRY MARKS

quiet_asked : (base : Base) (past : List Entry) (e : Entry) (k : ℕ) → is_quiet_since base past e ≡ true → is_asked_since base (e ∷ past) k ≡ is_asked_since base past k
quiet_asked base past (Cancel m) k q =
    let untaken = not-true (any_since (taken_before base m) (takes m) past) q in
    elim (eqb_tells m k) [
      | inl s ↦ let off : any_since (taken_before base k) (takes k) past ≡ false = subst (λ n. any_since (taken_before base n) (takes n) past ≡ false) s.1 untaken in rw (s.0, off) refl
      | inr s ↦ rw s.0 refl
    ]
quiet_asked base past (Accept m a) k q = refl
quiet_asked base past (Join c) k q = refl
quiet_asked base past (Take m cookies) k q = refl
quiet_asked base past (Deny m slot) k q = refl
quiet_asked base past (Orphan m) k q = refl
quiet_asked base past (End m results said) k q = refl
quiet_asked base past (Leave c) k q = refl
quiet_asked base past (Shut items) k q = refl

quiet_counts : (base : Base) (past : List Entry) (e : Entry) → is_quiet_since base past e ≡ true → count_since base.accepts is_accept (e ∷ past) ≡ count_since base.accepts is_accept past
quiet_counts base past (Accept m a) q = absurd (cc)
quiet_counts base past (Cancel m) q = refl
quiet_counts base past (Join c) q = refl
quiet_counts base past (Take m cookies) q = refl
quiet_counts base past (Deny m slot) q = refl
quiet_counts base past (Orphan m) q = refl
quiet_counts base past (End m results said) q = refl
quiet_counts base past (Leave c) q = refl
quiet_counts base past (Shut items) q = refl

-- an entry that says nothing of it
pub tells_quiet : (m : Marked) (base : Base) (past : List Entry) (e : Entry) → is_quiet_since base past e ≡ true → MarksTell m base past → MarksTell m base (e ∷ past)
tells_quiet m base past e q t =
    record {
      first_is = t.first_is;
      counts = t.counts ∙ sym (quiet_counts base past e q);
      marked = λ k. t.marked k ∙ sym (quiet_asked base past e k q);
    }

-- a call is accepted
pub tells_accept : (m : Marked) (base : Base) (past : List Entry) (k : ℕ) (a : Asked) → MarksTell m base past → MarksTell (with_call m) base (Accept k a ∷ past)
tells_accept m base past k a t =
    record {
      first_is = t.first_is;
      counts = let more = length-append m.later (false ∷ []) in let before = t.counts in omega (arith, more, before);
      marked = λ n. marked_call m n ∙ t.marked n;
    }

flag_asked : (base : Base) (past : List Entry) (m k : ℕ) → any_since (taken_before base m) (takes m) past ≡ true → (m == k || is_asked_since base past k) ≡ is_asked_since base (Cancel m ∷ past) k
flag_asked base past m k t =
    elim (eqb_tells m k) [
      | inl s ↦ let there : any_since (taken_before base k) (takes k) past ≡ true = subst (λ n. any_since (taken_before base n) (takes n) past ≡ true) s.1 t in rw (s.0, there) refl
      | inr s ↦ rw s.0 refl
    ]

length_mark : (k : ℕ) (m : Marked) → length (later_with k m) ≡ length m.later
length_mark k m = elim (cases_Bool (nat_le k m.first)) [ inl t ↦ rw t refl | inr t ↦ rw t (length-set m.later (k - m.first - 1) true) ]

-- one is asked to end
pub tells_mark : (m : Marked) (base : Base) (past : List Entry) (k : ℕ) → any_since (taken_before base k) (takes k) past ≡ true → k ≤ count_since base.accepts is_accept past → MarksTell m base past → MarksTell (with_mark k m) base (Cancel k ∷ past)
tells_mark m base past k taken known t =
    let low : k ≤ m.first + length m.later = let before = t.counts in omega (arith, before, known) in
    record {
      first_is = t.first_is;
      counts = let same = length_mark k m in let before = t.counts in omega (arith, same, before);
      marked = λ n. marked_mark m k n low ∙ (ap (λ b. k == n || b) (t.marked n) ∙ flag_asked base past k n taken);
    }

-- in a journal
pub tells_came : (log new : Logged) (e : Entry) (m : Marked) → Came log e new → MarksTell m log.base (e ∷ reverse log.entries) → MarksTell m new.base (reverse new.entries)
tells_came log new e m c t =
    let past : reverse new.entries ≡ e ∷ reverse log.entries = ap reverse c.1 ∙ reverse-snoc log.entries e in
    subst (λ b. MarksTell m b (reverse new.entries)) (sym c.0) (subst (λ p. MarksTell m log.base p) (sym past) t)

-- WHAT IS LEFT AT A BASE

none_left : (b : Bool) → (b && false) ≡ false
none_left true = refl
none_left false = refl

any_marked_as : (m : Marked) (k : ℕ) (c : BaseCall) (cs : List BaseCall) (b : Bool) → is_marked m c.call ≡ b → list_any (is_number k) (marked_of m cs) ≡ (list_any (is_call k) cs && is_marked m k) → list_any (is_number k) (marked_of m (c ∷ cs)) ≡ (list_any (is_call k) (c ∷ cs) && is_marked m k)
any_marked_as m k c cs true t more =
    elim (eqb_tells c.call k) [
      | inl s ↦ let here : is_marked m k ≡ true = subst (λ n. is_marked m n ≡ true) s.1 t in rw (t, s.0, here) refl
      | inr s ↦ rw (t, s.0) more
    ]
any_marked_as m k c cs false t more =
    elim (eqb_tells c.call k) [
      | inl s ↦ let here : is_marked m k ≡ false = subst (λ n. is_marked m n ≡ false) s.1 t in rw (t, here) (more ∙ (ap (λ b. list_any (is_call k) cs && b) here ∙ (none_left (list_any (is_call k) cs) ∙ sym (none_left ((c.call == k) || list_any (is_call k) cs)))))
      | inr s ↦ rw (t, s.0) more
    ]

any_marked : (m : Marked) (k : ℕ) (cs : List BaseCall) → list_any (is_number k) (marked_of m cs) ≡ (list_any (is_call k) cs && is_marked m k)
any_marked m k [] = refl
any_marked m k (c ∷ cs) = any_marked_as m k c cs (is_marked m c.call) refl (any_marked m k cs)

pub left_marks : (m made : Marked) (log : Logged) (base : Base) (more : ℕ) → MarksTell m log.base (reverse log.entries) → log.base.accepts ≤ base.accepts → base.accepts ≤ accepted_in log → (made.first ≡ base.accepts) × (made.early ≡ marked_of m base.calls) × (made.later ≡ drop (base.accepts - m.first) m.later) → log.spare + more ≤ made.room → MarksLeft log base more made
left_marks m made log base more t low high s room =
    record {
      first_is = s.0;
      counts =
          let left : length made.later ≡ length m.later - (base.accepts - m.first) = ap length s.2 ∙ length-drop (base.accepts - m.first) m.later in
          let before = t.counts in let from = t.first_is in let at = s.0 in omega (arith, left, before, from, at, low, high);
      early_is = λ k le.
          let within : nat_le k base.accepts ≡ true = le-leb k base.accepts le in
          rw (s.0, within, s.1) (any_marked m k base.calls ∙ ap (λ b. list_any (is_call k) base.calls && b) (t.marked k));
      later_is = λ k lt.
          let above : nat_le k base.accepts ≡ false = lt-leb k base.accepts lt in
          let before : nat_le k m.first ≡ false = lt-leb k m.first (let from = t.first_is in omega (arith, from, low, lt)) in
          let index : (base.accepts - m.first) + (k - base.accepts - 1) ≡ k - m.first - 1 = (let from = t.first_is in omega (arith, from, low, lt)) in
          let whole : is_marked m k ≡ get_or m.later (k - m.first - 1) false = rw before refl in
          rw (s.0, above, s.2) (get_or-drop (base.accepts - m.first) m.later (k - base.accepts - 1) false ∙ (ap (λ i. get_or m.later i false) index ∙ (sym whole ∙ t.marked k)));
      room = room;
    }
