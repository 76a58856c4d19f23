-- A text departs from journals at one line.
use Rattle.std.proofs.Common.{◌≡◌, ℕ, ◌+◌, ◌⊎◌, inl, inr, List, [], ◌∷◌, ◌++◌, length, refl, ap, sym, ◌∙◌, subst, arith, append_assoc}
use Rattle.std.specs.List.{AllByRecursion}
use Rattle.std.proofs.lemmas.List.{append-nil}
use Rattle.handle_model.specs.declared.entry.Home.{Home}
use Rattle.handle_model.specs.declared.base.BaseCall.{BaseCall}
use Rattle.handle_model.specs.declared.base.Base.{Base}
use Rattle.journal_text.specs.Texts.{base_call_text, base_calls_text}
use Rattle.journal_audit.specs.SoFar.{with_call, IsSoundSoFar}
use Rattle.journal_reader.specs.Fits.{FitsCall}
use Rattle.journal_reader.specs.Lines.{BeginsWithCall}
use Rattle.journal_audit.specs.Files.{Journal, head_of, HasBase, HeadDeparts, CallDeparts, UnheldDeparts, BaseDeparts, JournalDeparts, HasJournal, HasJournals, DepartsAt, journal_size, sizes}
use Rattle.journal_audit.proofs.Lines.{group_first, base_first, call_first}
use Rattle.journal_audit.proofs.SoFar.{with_calls}
use Rattle.journal_audit.proofs.TextJournals.{Fronts, calls_front, begins, heads_same, has_same, more_sound, next_sound, journal_first, journal_departs}

-- CALLS

-- of two lists of calls that begin one text, one begins the other
calls_either : (cs ds : List BaseCall) (x y : List ℕ) → AllByRecursion FitsCall cs → AllByRecursion FitsCall ds → base_calls_text cs ++ x ≡ base_calls_text ds ++ y → Fronts cs ds x y ⊎ Fronts ds cs y x
calls_either [] ds x y f g e = inl (record { more = ds; all_is = refl; rest = e; fit = g })
calls_either (c ∷ cs) [] x y f g e = inr (record { more = c ∷ cs; all_is = refl; rest = sym e; fit = f })
calls_either (c ∷ cs) (d ∷ ds) x y f g e =
    let one = call_first c d (base_calls_text cs ++ x) (base_calls_text ds ++ y) f.0 g.0 (sym (append_assoc (base_call_text c) (base_calls_text cs) x) ∙ (e ∙ append_assoc (base_call_text d) (base_calls_text ds) y)) in
    elim (calls_either cs ds x y f.1 g.1 one.1) [
      | inl w ↦ inl (record { more = w.more; all_is = ap (λ v. v ∷ ds) (sym one.0) ∙ ap (λ vs. c ∷ vs) w.all_is; rest = w.rest; fit = w.fit })
      | inr w ↦ inr (record { more = w.more; all_is = ap (λ v. v ∷ cs) one.0 ∙ ap (λ vs. d ∷ vs) w.all_is; rest = w.rest; fit = w.fit })
    ]

-- a base whose next call departs has all the calls of one that is sound and begins with them
call_at : (k l : Home) (b c : Base) (call : BaseCall) (x later y : List ℕ) (more : List BaseCall) → k ≡ l → head_of b ≡ head_of c → c.calls ≡ b.calls ++ more → x ≡ base_calls_text more ++ y → AllByRecursion FitsCall more → BeginsWithCall call later x → (IsSoundSoFar k (with_call b call) → ⊥) → IsSoundSoFar l c → length b.calls ≡ length c.calls
call_at k l b c call x later y [] home heads all r f q bad s = ap length (sym (all ∙ append-nil b.calls))
call_at k l b c call x later y (d ∷ ds) home heads all r f q bad s =
    let one = call_first call d later (base_calls_text ds ++ y) q.0 f.0 (sym q.1 ∙ (r ∙ append_assoc (base_call_text d) (base_calls_text ds) y)) in
    let whole : c.calls ≡ (b.calls ++ call ∷ []) ++ ds =
    all ∙ (ap (λ v. b.calls ++ v ∷ ds) (sym one.0) ∙ sym (append_assoc b.calls (call ∷ []) ds)) in
    absurd (bad (more_sound k l b c (b.calls ++ call ∷ []) ds home heads whole s))

-- BASES

-- where a base's own line departs, none that begins so is sound
head_alone : (k l : Home) (t u : List ℕ) (n : ℕ) (c : Base) (y : List ℕ) → k ≡ l → t ≡ u → HeadDeparts k t n → HasBase l c y u → ⊥
head_alone k l t u n c y home e h g =
    let one = base_first h.0 (head_of c) h.1 (base_calls_text c.calls ++ y) h.2.0 g.head_fits (sym h.2.1 ∙ (e ∙ begins l c y u g)) in
    let sound : IsSoundSoFar k (with_calls c []) = more_sound k l c c [] c.calls home refl refl g.so_far in
    h.3 (subst (λ x. IsSoundSoFar k x) (sym one.0) sound)

-- where the line of a call departs, the base has no other calls
call_last : (k l : Home) (t u : List ℕ) (n m : ℕ) → k ≡ l → t ≡ u → CallDeparts k t n → UnheldDeparts l u m → ⊥
call_last k l t u n m home e h g =
    let one = heads_same k l h.0 g.0 h.2 g.1 t u e h.4 g.2 in
    let front = calls_front h.0.calls g.0.calls h.2 g.1 h.4.calls_fit g.2.calls_fit one.1 g.3 in
    h.6 (next_sound k l h.0 g.0 h.1 h.2 h.3 g.1 front.more home one.0 front.all_is front.rest front.fit g.3 h.5.0 h.5.1 g.2.so_far)

-- where the lines of calls depart, they are one line
call_one : (k l : Home) (t u : List ℕ) (n m : ℕ) → k ≡ l → t ≡ u → CallDeparts k t n → CallDeparts l u m → n ≡ m
call_one k l t u n m home e h g =
    let one = heads_same k l h.0 g.0 h.2 g.2 t u e h.4 g.4 in
    let many : length h.0.calls ≡ length g.0.calls = elim (calls_either h.0.calls g.0.calls h.2 g.2 h.4.calls_fit g.4.calls_fit one.1) [
      | inl w ↦ call_at k l h.0 g.0 h.1 h.2 h.3 g.2 w.more home one.0 w.all_is w.rest w.fit h.5 h.6 g.4.so_far
      | inr w ↦ sym (call_at l k g.0 h.0 g.1 g.2 g.3 h.2 w.more (sym home) (sym one.0) w.all_is w.rest w.fit g.5 g.6 h.4.so_far)
    ] in
    h.7 ∙ (ap (λ c. c + 2) many ∙ sym g.7)

unheld_one : (k l : Home) (t u : List ℕ) (n m : ℕ) → t ≡ u → UnheldDeparts k t n → UnheldDeparts l u m → n ≡ m
unheld_one k l t u n m e h g =
    let one = has_same k l h.0 g.0 h.1 g.1 t u e h.2 g.2 h.3 g.3 in
    h.5 ∙ (ap (λ (b : Base). length b.calls + 1) one.0 ∙ sym g.5)

base_one : (k l : Home) (t u : List ℕ) (n m : ℕ) → k ≡ l → t ≡ u → BaseDeparts k t n → BaseDeparts l u m → n ≡ m
base_one k l t u n m home e (inl h) (inl g) = h.4 ∙ sym g.4
base_one k l t u n m home e (inl h) (inr (inl g)) = absurd (head_alone k l t u n g.0 g.2 home e h g.4)
base_one k l t u n m home e (inl h) (inr (inr g)) = absurd (head_alone k l t u n g.0 g.1 home e h g.2)
base_one k l t u n m home e (inr (inl h)) (inl g) = absurd (head_alone l k u t m h.0 h.2 (sym home) (sym e) g h.4)
base_one k l t u n m home e (inr (inr h)) (inl g) = absurd (head_alone l k u t m h.0 h.1 (sym home) (sym e) g h.2)
base_one k l t u n m home e (inr (inl h)) (inr (inl g)) = call_one k l t u n m home e h g
base_one k l t u n m home e (inr (inl h)) (inr (inr g)) = absurd (call_last k l t u n m home e h g)
base_one k l t u n m home e (inr (inr h)) (inr (inl g)) = absurd (call_last l k u t m n (sym home) (sym e) g h)
base_one k l t u n m home e (inr (inr h)) (inr (inr g)) = unheld_one k l t u n m e h g

-- JOURNALS

journal_one : (text : List ℕ) (n m : ℕ) → JournalDeparts text n → JournalDeparts text m → n ≡ m
journal_one text n m (inl d) (inl q) = d.1 ∙ sym q.1
journal_one text n m (inl d) (inr q) = absurd (d.0 q.0 q.1 q.3.0 q.3.1)
journal_one text n m (inr d) (inl q) = absurd (q.0 d.0 d.1 d.3.0 d.3.1)
journal_one text n m (inr d) (inr q) =
    let one = group_first d.0 q.0 d.1 q.1 d.3.0 q.3.0 (sym d.3.1 ∙ q.3.1) in
    d.5 ∙ (ap (λ a. a + 1) (base_one d.0 q.0 d.1 q.1 d.2 q.2 one.0 one.1 d.4 q.4) ∙ sym q.5)

one_from : (text : List ℕ) (some others : List Journal) (x y : List ℕ) (n m : ℕ) → HasJournals some x text → HasJournals others y text → JournalDeparts x n → JournalDeparts y m → sizes some + n ≡ sizes others + m
one_from text [] [] x y n m f q d r =
    let same = journal_one x n m d (subst (λ t. JournalDeparts t m) (sym q ∙ f) r) in omega (arith, same)
one_from text [] (h ∷ hs) x y n m f q d r = absurd (journal_departs x n h q.0 d (subst (λ t. HasJournal h q.0 t) f q.1))
one_from text (g ∷ gs) [] x y n m f q d r = absurd (journal_departs y m g f.0 r (subst (λ t. HasJournal g f.0 t) q f.1))
one_from text (g ∷ gs) (h ∷ hs) x y n m f q d r =
    let one = journal_first g h f.0 q.0 text f.1 q.1 in
    let later = one_from f.0 gs hs x y n m f.2 (subst (λ t. HasJournals hs y t) (sym one.1) q.2) d r in
    let first = ap journal_size one.0 in
    omega (arith, later, first)

pub one_departure : (text : List ℕ) (n m : ℕ) → DepartsAt text n → DepartsAt text m → n ≡ m
one_departure text n m d q = d.6 ∙ (one_from text d.0 q.0 d.1 q.1 d.2 q.2 d.3 q.3 d.5 q.5 ∙ sym q.6)
