-- A text is journals in one way, and is none where it departs from them.
use Rattle.std.proofs.Common.{◌≡◌, ◌≢◌, ℕ, true, false, inl, inr, List, [], ◌∷◌, ◌++◌, length, refl, ap, sym, ◌∙◌, subst, arith, append_assoc}
use Rattle.std.specs.List.{AllByRecursion}
use Rattle.std.proofs.lemmas.List.{append-nil, length-append}
use Rattle.handle_model.specs.declared.entry.Home.{Home}
use Rattle.handle_model.specs.declared.entry.Entry.{Entry}
use Rattle.handle_model.specs.declared.base.BaseCall.{BaseCall}
use Rattle.handle_model.specs.declared.base.Base.{Base}
use Rattle.handle_model.specs.Sound.{is_held}
use Rattle.journal_text.specs.Texts.{base_text, base_call_text, base_calls_text, entry_text, entries_text}
use Rattle.journal_audit.specs.SoFar.{with_call, IsSoundSoFar}
use Rattle.journal_reader.specs.Fits.{FitsCall, FitsEntry}
use Rattle.journal_reader.specs.Lines.{BeginsWithNoCall, BeginsWithNoEntry}
use Rattle.journal_reader.specs.Parts.{group_line}
use Rattle.journal_reader.proofs.Heads.{group_fed}
use Rattle.journal_audit.specs.Files.{Journal, head_of, HasBase, GoesOnFrom, BaseDeparts, HasJournal, JournalDeparts, HasJournals, DepartsAt}
use Rattle.journal_audit.proofs.Lines.{group_first, base_first, call_first, entry_first}
use Rattle.journal_audit.proofs.SoFar.{with_calls, front_so_far}

-- CALLS OF A BASE

-- those calls begin with these
pub record Fronts (front all : List BaseCall) (x y : List ℕ) : Type 0 where
  pub more : List BaseCall
  pub all_is : all ≡ front ++ more
  pub rest : x ≡ base_calls_text more ++ y
  pub fit : AllByRecursion FitsCall more

pub calls_front : (cs ds : List BaseCall) (x y : List ℕ) → AllByRecursion FitsCall cs → AllByRecursion FitsCall ds → base_calls_text cs ++ x ≡ base_calls_text ds ++ y → BeginsWithNoCall y → Fronts cs ds x y
calls_front [] ds x y f g e n = record { more = ds; all_is = refl; rest = e; fit = g }
calls_front (c ∷ cs) [] x y f g e n =
    absurd (n c (base_calls_text cs ++ x) f.0 (sym e ∙ append_assoc (base_call_text c) (base_calls_text cs) x))
calls_front (c ∷ cs) (d ∷ ds) x y f g e n =
    let one = call_first c d (base_calls_text cs ++ x) (base_calls_text ds ++ y) f.0 g.0 (sym (append_assoc (base_call_text c) (base_calls_text cs) x) ∙ (e ∙ append_assoc (base_call_text d) (base_calls_text ds) y)) in
    let later = calls_front cs ds x y f.1 g.1 one.1 n in
    record {
      more = later.more;
      all_is = ap (λ v. v ∷ ds) (sym one.0) ∙ ap (λ vs. c ∷ vs) later.all_is;
      rest = later.rest;
      fit = later.fit;
    }

no_more : (more : List BaseCall) (x y : List ℕ) → AllByRecursion FitsCall more → x ≡ base_calls_text more ++ y → BeginsWithNoCall x → more ≡ []
no_more [] x y f e n = refl
no_more (c ∷ cs) x y f e n =
    absurd (n c (base_calls_text cs ++ y) f.0 (e ∙ append_assoc (base_call_text c) (base_calls_text cs) y))

calls_same : (cs ds : List BaseCall) (x y : List ℕ) → AllByRecursion FitsCall cs → AllByRecursion FitsCall ds → base_calls_text cs ++ x ≡ base_calls_text ds ++ y → BeginsWithNoCall x → BeginsWithNoCall y → (cs ≡ ds) × (x ≡ y)
calls_same cs ds x y f g e m n =
    let h = calls_front cs ds x y f g e n in
    let none = no_more h.more x y h.fit h.rest m in
    (sym (h.all_is ∙ (ap (λ more. cs ++ more) none ∙ append-nil cs)), h.rest ∙ ap (λ more. base_calls_text more ++ y) none)

-- BASES

-- the base's own line says nothing of its calls
own_text : (b : Base) → base_text b ≡ base_text (head_of b)
unfolding base_text
own_text b = refl

pub begins : (home : Home) (b : Base) (x text : List ℕ) → HasBase home b x text → text ≡ base_text (head_of b) ++ (base_calls_text b.calls ++ x)
begins home b x text h =
    h.text_is ∙ (append_assoc (base_text b) (base_calls_text b.calls) x ∙ ap (λ t. t ++ (base_calls_text b.calls ++ x)) (own_text b))

-- two bases that begin one text have one head, and their calls begin one text
pub heads_same : (k l : Home) (b c : Base) (x y t u : List ℕ) → t ≡ u → HasBase k b x t → HasBase l c y u → (head_of b ≡ head_of c) × (base_calls_text b.calls ++ x ≡ base_calls_text c.calls ++ y)
heads_same k l b c x y t u e f g =
    base_first (head_of b) (head_of c) (base_calls_text b.calls ++ x) (base_calls_text c.calls ++ y) f.head_fits g.head_fits (sym (begins k b x t f) ∙ (e ∙ begins l c y u g))

-- a base is its head with its calls
same_calls : (b c : Base) (calls : List BaseCall) → head_of b ≡ head_of c → calls ≡ c.calls → with_calls b calls ≡ c
same_calls b c calls heads e = ap (λ h. with_calls h calls) heads ∙ ap (λ cs. with_calls c cs) e

pub has_same : (k l : Home) (b c : Base) (x y t u : List ℕ) → t ≡ u → HasBase k b x t → HasBase l c y u → BeginsWithNoCall x → BeginsWithNoCall y → (b ≡ c) × (x ≡ y)
has_same k l b c x y t u e f g m n =
    let one = heads_same k l b c x y t u e f g in
    let calls = calls_same b.calls c.calls x y f.calls_fit g.calls_fit one.1 m n in
    (same_calls b c b.calls one.0 calls.0, calls.1)

goes_same : (k l : Home) (b c : Base) (x y t u : List ℕ) → t ≡ u → GoesOnFrom k b x t → GoesOnFrom l c y u → (b ≡ c) × (x ≡ y)
goes_same k l b c x y t u e (inl f) (inl g) = (f.0 ∙ sym g.0, f.1 ∙ (e ∙ sym g.1))
goes_same k l b c x y t u e (inl f) (inr g) =
    absurd (f.2 (head_of c) (base_calls_text c.calls ++ y) g.0.head_fits (e ∙ begins l c y u g.0))
goes_same k l b c x y t u e (inr f) (inl g) =
    absurd (g.2 (head_of b) (base_calls_text b.calls ++ x) f.0.head_fits (sym e ∙ begins k b x t f.0))
goes_same k l b c x y t u e (inr f) (inr g) = has_same k l b c x y t u e f.0 g.0 f.2 g.2

-- ENTRIES

entries_same : (es fs : List Entry) (x y : List ℕ) → AllByRecursion FitsEntry es → AllByRecursion FitsEntry fs → entries_text es ++ x ≡ entries_text fs ++ y → BeginsWithNoEntry x → BeginsWithNoEntry y → (es ≡ fs) × (x ≡ y)
entries_same [] [] x y f g e m n = (refl, e)
entries_same [] (b ∷ fs) x y f g e m n =
    absurd (m b (entries_text fs ++ y) g.0 (e ∙ append_assoc (entry_text b) (entries_text fs) y))
entries_same (a ∷ es) [] x y f g e m n =
    absurd (n a (entries_text es ++ x) f.0 (sym e ∙ append_assoc (entry_text a) (entries_text es) x))
entries_same (a ∷ es) (b ∷ fs) x y f g e m n =
    let one = entry_first a b (entries_text es ++ x) (entries_text fs ++ y) f.0 g.0 (sym (append_assoc (entry_text a) (entries_text es) x) ∙ (e ∙ append_assoc (entry_text b) (entries_text fs) y)) in
    let later = entries_same es fs x y f.1 g.1 one.1 m n in
    (ap (λ v. v ∷ es) one.0 ∙ ap (λ vs. b ∷ vs) later.0, later.1)

-- JOURNALS

abbrev journal : Home → Base → List Entry → Journal
journal home base entries = record { home = home; base = base; entries = entries }

pub journal_first : (g h : Journal) (x y text : List ℕ) → HasJournal g x text → HasJournal h y text → (g ≡ h) × (x ≡ y)
journal_first g h x y text f q =
    let home = group_first g.home h.home f.0 q.0 f.2.0 q.2.0 (sym f.2.1 ∙ q.2.1) in
    let base = goes_same g.home h.home g.base h.base f.1 q.1 f.0 q.0 home.1 f.3 q.3 in
    let entries = entries_same g.entries h.entries x y f.4.0 q.4.0 (sym f.4.1 ∙ (base.1 ∙ q.4.1)) f.4.2 q.4.2 in
    (ap (λ v. journal v g.base g.entries) home.0 ∙ (ap (λ v. journal h.home v g.entries) base.0 ∙ ap (λ v. journal h.home h.base v) entries.0), entries.1)

-- no journal has the empty text
nothing : (g : Journal) (x text : List ℕ) → HasJournal g x text → text ≡ [] → ⊥
nothing g x text f e =
    let long = ap length (sym e ∙ (f.2.1 ∙ group_fed g.home f.0)) ∙ length-append (group_line g.home) (10 ∷ f.0) in absurd (omega arith)

pub one_reading : (text : List ℕ) (some others : List Journal) → HasJournals some [] text → HasJournals others [] text → some ≡ others
one_reading text [] [] f q = refl
one_reading text [] (h ∷ hs) f q = absurd (nothing h q.0 text q.1 f)
one_reading text (g ∷ gs) [] f q = absurd (nothing g f.0 text f.1 q)
one_reading text (g ∷ gs) (h ∷ hs) f q =
    let one = journal_first g h f.0 q.0 text f.1 q.1 in
    let later = one_reading f.0 gs hs f.2 (subst (λ t. HasJournals hs [] t) (sym one.1) q.2) in
    ap (λ v. v ∷ gs) one.0 ∙ ap (λ vs. h ∷ vs) later

-- DEPARTURES

-- a base whose first lines are those of another
pub more_sound : (k l : Home) (b c : Base) (front more : List BaseCall) → k ≡ l → head_of b ≡ head_of c → c.calls ≡ front ++ more → IsSoundSoFar l c → IsSoundSoFar k (with_calls b front)
more_sound k l b c front more home heads calls s =
    let whole : with_calls b (front ++ more) ≡ c = same_calls b c (front ++ more) heads (sym calls) in
    let sound : IsSoundSoFar k (with_calls b (front ++ more)) = subst (λ h. IsSoundSoFar h (with_calls b (front ++ more))) (sym home) (subst (λ x. IsSoundSoFar l x) (sym whole) s) in
    front_so_far k b front more sound

-- the call that departs is the next one
pub next_sound : (k l : Home) (b c : Base) (call : BaseCall) (rest later y : List ℕ) (more : List BaseCall) → k ≡ l → head_of b ≡ head_of c → c.calls ≡ b.calls ++ more → rest ≡ base_calls_text more ++ y → AllByRecursion FitsCall more → BeginsWithNoCall y → FitsCall call → rest ≡ base_call_text call ++ later → IsSoundSoFar l c → IsSoundSoFar k (with_call b call)
next_sound k l b c call rest later y [] home heads calls e fit none f q s = absurd (none call later f (sym e ∙ q))
next_sound k l b c call rest later y (d ∷ ds) home heads calls e fit none f q s =
    let one = call_first call d later (base_calls_text ds ++ y) f fit.0 (sym q ∙ (e ∙ append_assoc (base_call_text d) (base_calls_text ds) y)) in
    let all : c.calls ≡ (b.calls ++ call ∷ []) ++ ds =
    calls ∙ (ap (λ v. b.calls ++ v ∷ ds) (sym one.0) ∙ sym (append_assoc b.calls (call ∷ []) ds)) in
    more_sound k l b c (b.calls ++ call ∷ []) ds home heads all s

base_departs : (k l : Home) (t u : List ℕ) (n : ℕ) (c : Base) (y : List ℕ) → k ≡ l → t ≡ u → BaseDeparts k t n → GoesOnFrom l c y u → ⊥
base_departs k l t u n c y home e (inl h) (inl g) = g.2 h.0 h.1 h.2.0 (sym e ∙ h.2.1)
base_departs k l t u n c y home e (inl h) (inr g) =
    let one = base_first h.0 (head_of c) h.1 (base_calls_text c.calls ++ y) h.2.0 g.0.head_fits (sym h.2.1 ∙ (e ∙ begins l c y u g.0)) in
    let sound : IsSoundSoFar k (with_calls c []) = more_sound k l c c [] c.calls home refl refl g.0.so_far in
    h.3 (subst (λ x. IsSoundSoFar k x) (sym one.0) sound)
base_departs k l t u n c y home e (inr (inl h)) (inl g) =
    g.2 (head_of h.0) (base_calls_text h.0.calls ++ h.2) h.4.head_fits (sym e ∙ begins k h.0 h.2 t h.4)
base_departs k l t u n c y home e (inr (inl h)) (inr g) =
    let one = heads_same k l h.0 c h.2 y t u e h.4 g.0 in
    let front = calls_front h.0.calls c.calls h.2 y h.4.calls_fit g.0.calls_fit one.1 g.2 in
    h.6 (next_sound k l h.0 c h.1 h.2 h.3 y front.more home one.0 front.all_is front.rest front.fit g.2 h.5.0 h.5.1 g.0.so_far)
base_departs k l t u n c y home e (inr (inr h)) (inl g) =
    g.2 (head_of h.0) (base_calls_text h.0.calls ++ h.1) h.2.head_fits (sym e ∙ begins k h.0 h.1 t h.2)
base_departs k l t u n c y home e (inr (inr h)) (inr g) =
    let one = has_same k l h.0 c h.1 y t u e h.2 g.0 h.3 g.2 in
    let held : true ≡ false = sym g.1 ∙ (ap is_held (sym one.0) ∙ h.4) in
    absurd (cc)

pub journal_departs : (text : List ℕ) (m : ℕ) (g : Journal) (y : List ℕ) → JournalDeparts text m → HasJournal g y text → ⊥
journal_departs text m g y (inl d) q = d.0 g.home q.0 q.2.0 q.2.1
journal_departs text m g y (inr d) q =
    let one = group_first d.0 g.home d.1 q.0 d.3.0 q.2.0 (sym d.3.1 ∙ q.2.1) in
    base_departs d.0 g.home d.1 q.0 d.2 g.base q.1 one.0 one.1 d.4 q.3

neither_from : (text : List ℕ) (some others : List Journal) (rest : List ℕ) (m : ℕ) → HasJournals some rest text → rest ≢ [] → JournalDeparts rest m → HasJournals others [] text → ⊥
neither_from text [] [] rest m f left d q = left (sym f ∙ q)
neither_from text [] (h ∷ hs) rest m f left d q = journal_departs rest m h q.0 d (subst (λ t. HasJournal h q.0 t) f q.1)
neither_from text (g ∷ gs) [] rest m f left d q = nothing g f.0 text f.1 q
neither_from text (g ∷ gs) (h ∷ hs) rest m f left d q =
    let one = journal_first g h f.0 q.0 text f.1 q.1 in
    neither_from f.0 gs hs rest m f.2 left d (subst (λ t. HasJournals hs [] t) (sym one.1) q.2)

pub neither_both : (text : List ℕ) (n : ℕ) (journals : List Journal) → DepartsAt text n → HasJournals journals [] text → ⊥
neither_both text n journals d q = neither_from text d.0 journals d.1 d.2 d.3 d.4 d.5 q
