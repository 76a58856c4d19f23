-- Lines read so far.
use Rattle.std.proofs.Common.{◌≡◌, ◌≢◌, ℕ, ◌+◌, ◌≤◌, ◌<◌, ◌^◌, true, false, ◌==◌, List, [], ◌∷◌, ◌++◌, length, refl, sym, ◌∙◌, ap, subst, arith, append_assoc, inl, inr}
use Rattle.std.specs.List.{AllByRecursion}
use Rattle.std.proofs.lemmas.Bool.{cases_Bool, eqb-true}
use Rattle.std.proofs.lemmas.List.{append-nil, length-append, length_push}
use Rattle.handle_model.specs.declared.entry.Home.{Home}
use Rattle.handle_model.specs.declared.entry.Entry.{Entry}
use Rattle.handle_model.specs.declared.base.BaseCall.{BaseCall}
use Rattle.handle_model.specs.declared.base.Base.{Base}
use Rattle.handle_model.specs.Bases.{empty_base}
use Rattle.handle_model.specs.Sound.{is_held, IsSoundBase}
use Rattle.handle_model.proofs.Steps.{empty_base_sound}
use Rattle.journal_text.specs.Texts.{group_text, base_text, base_call_text, base_calls_text, entry_text, entries_text}
use Rattle.journal_reader.specs.Fits.{FitsCall, FitsEntry}
use Rattle.journal_reader.specs.Lines.{BeginsWithGroup, BeginsWithNoGroup, BeginsWithBase, BeginsWithNoBase, BeginsWithCall, BeginsWithNoCall, BeginsWithEntry, BeginsWithNoEntry}
use Rattle.journal_reader.proofs.Heads.{group_fed, base_fed, call_fed, entry_fed}
use Rattle.journal_reader.proofs.Listing.{fit_more}
use Rattle.journal_audit.specs.Verdicts.{TellsVerdict}
use Rattle.journal_audit.specs.declared.verdict.GroupVerdict.{GroupVerdict}
use Rattle.journal_audit.specs.declared.verdict.AuditFault.{AuditFault}
use Rattle.journal_audit.specs.declared.verdict.AuditFault.TheVariants as faults
use Rattle.journal_audit.specs.SoFar.{with_call, IsSoundSoFar}
use Rattle.journal_audit.specs.Files.{Journal, HasBase, GoesOnFrom, HasJournal, journal_size, HasJournals, sizes}
use Rattle.journal_audit.specs.Told.{TellsOf, TellsAll, Audited, Faulted, ToldOf, JournalFault, BaseRead, BaseFault}
use Rattle.journal_audit.specs.Watching.{Watched, started, Watches, WatchesAll, said_of, EntriesRead}
use Rattle.journal_audit.proofs.Sounds.{sound_by_lines}
use Rattle.journal_audit.proofs.Seen.{seen_start, seen_all, seen_told}

-- LENGTHS

fed_length : (body rest text : List ℕ) → text ≡ body ++ (10 ∷ rest) → length rest + 1 ≤ length text
fed_length body rest text e = let long = ap length e ∙ length-append body (10 ∷ rest) in omega arith

pub group_shorter : (h : Home) (rest text : List ℕ) → text ≡ group_text h ++ rest → length rest + 1 ≤ length text
group_shorter h rest text e = fed_length _ rest text (e ∙ group_fed h rest)

pub base_shorter : (b : Base) (rest text : List ℕ) → text ≡ base_text b ++ rest → length rest + 1 ≤ length text
base_shorter b rest text e = fed_length _ rest text (e ∙ base_fed b rest)

pub call_shorter : (c : BaseCall) (rest text : List ℕ) → text ≡ base_call_text c ++ rest → length rest + 1 ≤ length text
call_shorter c rest text e = fed_length _ rest text (e ∙ call_fed c rest)

pub entry_shorter : (e : Entry) (rest text : List ℕ) → text ≡ entry_text e ++ rest → length rest + 1 ≤ length text
entry_shorter e rest text q = fed_length _ rest text (q ∙ entry_fed e rest)

-- BASES

-- a base's lines read so far, and how many lines there were
pub record Based (home : Home) (line : ℕ) (text : List ℕ) (base : Base) (now : ℕ) (rest : List ℕ) : Type 0 where
  pub has : HasBase home base rest text
  pub line_is : now ≡ line + (length base.calls + 1)
  pub room : now + length rest ≤ line + length text

no_calls : (base : Base) → base.calls ≡ [] → base_calls_text base.calls ≡ []
no_calls base e = ap base_calls_text e

pub based_start : (home : Home) (line : ℕ) (text : List ℕ) (base : Base) (rest : List ℕ) → BeginsWithBase base rest text → IsSoundSoFar home base → Based home line text base (line + 1) rest
based_start home line text base rest b s =
    let f = b.0 in
    let none : base.calls ≡ [] = f.6 in
    let short = base_shorter base rest text b.1 in
    record {
      has = record {
        head_fits = (f.0, f.1, f.2, f.3, f.4, f.5, refl);
        calls_fit = subst (λ cs. AllByRecursion FitsCall cs) (sym none) tt;
        text_is = b.1 ∙ ap (λ t. t ++ rest) (sym (append-nil (base_text base)) ∙ ap (λ t. base_text base ++ t) (sym (no_calls base none)));
        so_far = s;
      };
      line_is = let long = ap length none in omega arith;
      room = omega arith;
    }

calls_more : (cs : List BaseCall) (c : BaseCall) → base_calls_text (cs ++ c ∷ []) ≡ base_calls_text cs ++ base_call_text c
calls_more [] c = append-nil (base_call_text c)
calls_more (d ∷ cs) c =
    ap (λ t. base_call_text d ++ t) (calls_more cs c) ∙ sym (append_assoc (base_call_text d) (base_calls_text cs) (base_call_text c))

-- the base's own line says nothing of its calls
own_line : (base : Base) (c : BaseCall) → base_text (with_call base c) ≡ base_text base
unfolding base_text
own_line base c = refl

pub based_more : (home : Home) (line : ℕ) (text : List ℕ) (base : Base) (now : ℕ) (rest : List ℕ) (c : BaseCall) (later : List ℕ) → Based home line text base now rest → BeginsWithCall c later rest → IsSoundSoFar home (with_call base c) → Based home line text (with_call base c) (now + 1) later
based_more home line text base now rest c later b k s =
    let short = call_shorter c later rest k.1 in
    let before = b.line_is in
    let room = b.room in
    let long = length_push base.calls c in
    let whole : text ≡ (base_text base ++ (base_calls_text base.calls ++ base_call_text c)) ++ later =
    b.has.text_is ∙ (ap (λ t. (base_text base ++ base_calls_text base.calls) ++ t) k.1 ∙ (sym (append_assoc (base_text base ++ base_calls_text base.calls) (base_call_text c) later) ∙ ap (λ t. t ++ later) (append_assoc (base_text base) (base_calls_text base.calls) (base_call_text c)))) in
    record {
      has = record {
        head_fits = b.has.head_fits;
        calls_fit = fit_more FitsCall base.calls c b.has.calls_fit k.0;
        text_is = whole ∙ ap (λ t. t ++ later) (ap (λ t. base_text base ++ t) (sym (calls_more base.calls c)) ∙ ap (λ t. t ++ base_calls_text (base.calls ++ c ∷ [])) (sym (own_line base c)));
        so_far = s;
      };
      line_is = omega arith;
      room = omega arith;
    }

-- how a base is read to its end
counted_not : (n : ℕ) → 0 < n → (n == 0) ≡ false
counted_not n p =
    elim (cases_Bool (n == 0)) [
      | inl e ↦ let zero_is = eqb-true n 0 e in absurd (omega arith)
      | inr e ↦ e
    ]

pub based_end : (home : Home) (line : ℕ) (text : List ℕ) (base : Base) (now : ℕ) (rest : List ℕ) → Based home line text base now rest → is_held base ≡ true → BeginsWithNoCall rest → BaseRead home line base now rest text
based_end home line text base now rest b h n =
    let off = counted_not base.count b.has.head_fits.0.0 in
    (inr (b.has, h, n), rw off b.line_is)

pub baseless : (home : Home) (line : ℕ) (text : List ℕ) → BeginsWithNoBase text → BaseRead home line empty_base line text text
baseless home line text n = (inl (refl, refl, n), omega arith)

-- how it departs
pub head_departs : (home : Home) (line : ℕ) (text : List ℕ) (base : Base) (rest : List ℕ) → BeginsWithBase base rest text → (IsSoundSoFar home base → ⊥) → BaseFault home line text (faults.BadText (line + 1))
head_departs home line text base rest b n = (1, inl (base, rest, b, n, refl), refl)

pub call_departs : (home : Home) (line : ℕ) (text : List ℕ) (base : Base) (now : ℕ) (rest : List ℕ) (c : BaseCall) (later : List ℕ) → Based home line text base now rest → BeginsWithCall c later rest → (IsSoundSoFar home (with_call base c) → ⊥) → BaseFault home line text (faults.BadText (now + 1))
call_departs home line text base now rest c later b k n =
    let here = b.line_is in (length base.calls + 2, inr (inl (base, c, rest, later, b.has, k, n, refl)), omega arith)

pub unheld_departs : (home : Home) (line : ℕ) (text : List ℕ) (base : Base) (now : ℕ) (rest : List ℕ) → Based home line text base now rest → BeginsWithNoCall rest → is_held base ≡ false → BaseFault home line text (faults.BadText now)
unheld_departs home line text base now rest b n h = (length base.calls + 1, inr (inr (base, rest, b.has, n, h, refl)), b.line_is)

-- a base that was read is sound, and its count is small
goes_sound : (home : Home) (base : Base) (rest text : List ℕ) → GoesOnFrom home base rest text → IsSoundBase home base
goes_sound home base rest text (inl g) = subst (λ b. IsSoundBase home b) (sym g.0) (empty_base_sound home)
goes_sound home base rest text (inr g) = (sound_by_lines home base g.0.head_fits.0.0).0 (g.0.so_far, g.1)

goes_small : (home : Home) (base : Base) (rest text : List ℕ) → GoesOnFrom home base rest text → base.count < 2 ^ 63
goes_small home base rest text (inl g) = let none = ap (λ (b : Base). b.count) g.0 in omega arith
goes_small home base rest text (inr g) = g.0.head_fits.0.1

pub read_sound : (home : Home) (line : ℕ) (base : Base) (now : ℕ) (rest text : List ℕ) → BaseRead home line base now rest text → IsSoundBase home base
read_sound home line base now rest text r = goes_sound home base rest text r.0

pub read_small : (home : Home) (line : ℕ) (base : Base) (now : ℕ) (rest text : List ℕ) → BaseRead home line base now rest text → base.count < 2 ^ 63
read_small home line base now rest text r = goes_small home base rest text r.0

-- ENTRIES

pub record Reading (old : Watched) (line : ℕ) (text : List ℕ) (w : Watched) (now : ℕ) (rest : List ℕ) : Type 0 where
  pub entries : List Entry
  pub fit : AllByRecursion FitsEntry entries
  pub text_is : text ≡ entries_text entries ++ rest
  pub watched : WatchesAll old entries w
  pub line_is : now ≡ line + length entries
  pub room : now + length rest ≤ line + length text
  pub place_room : w.place + length rest ≤ old.place + length text

pub reading_start : (old : Watched) (line : ℕ) (text : List ℕ) → Reading old line text old line text
reading_start old line text =
    record { entries = []; fit = tt; text_is = refl; watched = refl; line_is = omega arith; room = omega arith; place_room = omega arith }

entries_more : (es : List Entry) (e : Entry) → entries_text (es ++ e ∷ []) ≡ entries_text es ++ entry_text e
entries_more [] e = append-nil (entry_text e)
entries_more (x ∷ es) e =
    ap (λ t. entry_text x ++ t) (entries_more es e) ∙ sym (append_assoc (entry_text x) (entries_text es) (entry_text e))

watches_more : (old : Watched) (es : List Entry) (w : Watched) (e : Entry) (new : Watched) → WatchesAll old es w → Watches w e new → WatchesAll old (es ++ e ∷ []) new
watches_more old [] w e new a s = (new, subst (λ x. Watches x e new) a s, refl)
watches_more old (x ∷ es) w e new a s = (a.0, a.1, watches_more a.0 es w e new a.2 s)

pub reading_more : (old : Watched) (line : ℕ) (text : List ℕ) (w : Watched) (now : ℕ) (rest : List ℕ) (e : Entry) (later : List ℕ) (new : Watched) → Reading old line text w now rest → BeginsWithEntry e later rest → Watches w e new → Reading old line text new (now + 1) later
reading_more old line text w now rest e later new r b s =
    let short = entry_shorter e later rest b.1 in
    let here = r.line_is in
    let room = r.room in
    let places = r.place_room in
    let next = s.0 in
    let long = length_push r.entries e in
    record {
      entries = r.entries ++ e ∷ [];
      fit = fit_more FitsEntry r.entries e r.fit b.0;
      text_is = r.text_is ∙ (ap (λ t. entries_text r.entries ++ t) b.1 ∙ (sym (append_assoc (entries_text r.entries) (entry_text e) later) ∙ ap (λ t. t ++ later) (sym (entries_more r.entries e))));
      watched = watches_more old r.entries w e new r.watched s;
      line_is = omega arith;
      room = omega arith;
      place_room = omega arith;
    }

pub reading_end : (old : Watched) (line : ℕ) (text : List ℕ) (w : Watched) (now : ℕ) (rest : List ℕ) → Reading old line text w now rest → BeginsWithNoEntry rest → EntriesRead old line w now rest text
reading_end old line text w now rest r n = (r.entries, (r.fit, r.text_is, n), r.watched, r.line_is)

-- JOURNALS

pub journal_told : (home : Home) (line now last : ℕ) (base : Base) (text headless bare rest : List ℕ) (w : Watched) (v : GroupVerdict) → BeginsWithGroup home headless text → BaseRead home (line + 1) base now bare headless → EntriesRead (started home base) now w last rest bare → v.group ≡ home.group → v.verdict ≡ said_of w → ToldOf line v last rest text
journal_told home line now last base text headless bare rest w v g b e group verdict =
    let journal : Journal = record { home = home; base = base; entries = e.0 } in
    let seen = seen_all home base [] e.0 (started home base) w (seen_start home base (read_sound home (line + 1) base now bare headless b)) e.2 in
    let told : TellsVerdict home base e.0 v.verdict = subst (λ x. TellsVerdict home base e.0 x) (sym verdict) (seen_told home base e.0 w seen) in
    let first = b.1 in
    let behind = e.3 in
    (journal, (headless, bare, g, b.0, e.1), (group, told), omega arith)

pub no_group : (line : ℕ) (text : List ℕ) → BeginsWithNoGroup text → JournalFault line text (faults.BadText (line + 1))
no_group line text n = (1, inl (n, refl), refl)

pub base_fault : (home : Home) (line : ℕ) (headless text : List ℕ) (e : AuditFault) → BeginsWithGroup home headless text → BaseFault home (line + 1) headless e → JournalFault line text e
base_fault home line headless text (faults.BadText n) g f =
    let here = f.2 in (f.0 + 1, inr (home, headless, f.0, g, f.1, refl), omega arith)
base_fault home line headless text faults.Memory g f = tt

-- FILES

pub record Auditing (text : List ℕ) (verdicts : List GroupVerdict) (line : ℕ) (rest : List ℕ) : Type 0 where
  pub journals : List Journal
  pub has : HasJournals journals rest text
  pub told : TellsAll journals verdicts
  pub line_is : line ≡ sizes journals
  pub room : line + length rest ≤ length text

pub auditing_start : (text : List ℕ) → Auditing text [] 0 text
auditing_start text = record { journals = []; has = refl; told = tt; line_is = refl; room = omega arith }

journals_more : (gs : List Journal) (g : Journal) (text middle rest : List ℕ) → HasJournals gs middle text → HasJournal g rest middle → HasJournals (gs ++ g ∷ []) rest text
journals_more [] g text middle rest h j = (rest, subst (λ t. HasJournal g rest t) (sym h) j, refl)
journals_more (x ∷ gs) g text middle rest h j = (h.0, h.1, journals_more gs g h.0 middle rest h.2 j)

tells_more : (gs : List Journal) (g : Journal) (vs : List GroupVerdict) (v : GroupVerdict) → TellsAll gs vs → TellsOf g v → TellsAll (gs ++ g ∷ []) (vs ++ v ∷ [])
tells_more [] g [] v t o = (o, tt)
tells_more [] g (x ∷ vs) v t o = absurd t
tells_more (y ∷ gs) g [] v t o = absurd t
tells_more (y ∷ gs) g (x ∷ vs) v t o = (t.0, tells_more gs g vs v t.1 o)

sizes_more : (gs : List Journal) (g : Journal) → sizes (gs ++ g ∷ []) ≡ sizes gs + journal_size g
sizes_more [] g = omega arith
sizes_more (x ∷ gs) g = let more = sizes_more gs g in omega arith

pub auditing_more : (text : List ℕ) (vs : List GroupVerdict) (line : ℕ) (rest : List ℕ) (v : GroupVerdict) (last : ℕ) (later : List ℕ) → Auditing text vs line rest → ToldOf line v last later rest → last + length later ≤ line + length rest → Auditing text (vs ++ v ∷ []) last later
auditing_more text vs line rest v last later a t room =
    let whole = a.room in
    let here = a.line_is in
    let next = t.3 in
    let more = sizes_more a.journals t.0 in
    record {
      journals = a.journals ++ t.0 ∷ [];
      has = journals_more a.journals t.0 text rest later a.has t.1;
      told = tells_more a.journals t.0 vs v a.told t.2;
      line_is = omega arith;
      room = omega arith;
    }

pub audited_all : (text : List ℕ) (vs : List GroupVerdict) (line : ℕ) (rest : List ℕ) → Auditing text vs line rest → rest ≡ [] → Audited text vs
audited_all text vs line rest a e = (a.journals, subst (λ r. HasJournals a.journals r text) e a.has, a.told)

pub faulted : (text : List ℕ) (vs : List GroupVerdict) (line : ℕ) (rest : List ℕ) (f : AuditFault) → Auditing text vs line rest → rest ≢ [] → JournalFault line rest f → Faulted text f
faulted text vs line rest (faults.BadText n) a some f =
    let here = a.line_is in
    let there = f.2 in
    (a.journals, rest, f.0, a.has, some, f.1, omega arith)
faulted text vs line rest faults.Memory a some f = tt
