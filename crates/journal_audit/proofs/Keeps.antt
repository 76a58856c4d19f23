-- What is kept beside a base decides what may come next, and follows it.
use Rattle.std.proofs.Common.{◌≡◌, ℕ, ◌<◌, ◌^◌, Bool, true, false, ◌&&◌, ◌||◌, not, ◌==◌, nat_le, nat_lt, Option, Some, None, is_some, List, [], ◌∷◌, ◌++◌, refl, sym, ◌∙◌, ap, subst, arith, inl, inr}
use Rattle.std.specs.List.{list_any, list_all}
use Rattle.std.specs.Option.{option_map}
use Rattle.std.specs.BTreeSet.{BTreeSet}
use Rattle.std.proofs.lemmas.Grind.{common_steps}
use Rattle.std.proofs.lemmas.Bool.{cases_Bool}
use Rattle.std.proofs.lemmas.List.Folds.{list_any-append}
use Rattle.rpc_base.specs.declared.identifiers.WireHandle.{WireHandle}
use Rattle.handle_model.specs.declared.entry.Home.{Home}
use Rattle.handle_model.specs.declared.entry.Slot.{Slot}
use Rattle.handle_model.specs.declared.entry.Slot.TheVariants.{Shares, Holds, Changes, Opens}
use Rattle.handle_model.specs.declared.entry.DueItem.{DueItem}
use Rattle.handle_model.specs.declared.base.BaseCall.{BaseCall}
use Rattle.handle_model.specs.declared.base.Base.{Base}
use Rattle.handle_model.specs.Slots.{named, is_exclusive, same_handle}
use Rattle.handle_model.specs.Calls.{any_clash}
use Rattle.handle_model.specs.Bases.{is_number}
use Rattle.handle_model.specs.Sound.{differ, is_fresh, names_apart, is_known, opening}
use Rattle.handle_model.proofs.Held.{and_left, and_right}
use Rattle.journal_audit.specs.Sounds.{taken_of}
use Rattle.handle_table.specs.Handles.{Handles, item_of, looked}
use Rattle.handle_table.specs.Kept.{Rises}
use Rattle.journal_audit.specs.Calls.{serials_in, may_open, takes_apart, opens_apart}
use Rattle.journal_audit.specs.SoFar.{with_call, IsSoundSoFar}
use Rattle.journal_audit.specs.Numbered.{has, uses_at, holds_at, uses, holds, Kept, is_kind_at, known_by, free_at, free_by, fresh_by, opens_by, uses_by, holds_by}
use Rattle.journal_audit.proofs.Conflicts.{clashes, none_clashes, clashes_turned, calls_clash, opens_clashes}
use Rattle.journal_audit.proofs.Lookups.{rises, found_is, known_shown, uses_shown, holds_shown, looked_shown}
use Rattle.journal_audit.proofs.Sounds.{opening_more, taken_if, taken_not, takes_back}

-- POINT BY POINT

all_same : {X : Type 0} (p q : X → Bool) (xs : List X) → ((x : X) → p x ≡ q x) → list_all p xs ≡ list_all q xs
all_same p q [] f = refl
all_same p q (x ∷ xs) f = rw (f x, all_same p q xs f) refl

any_where : {X : Type 0} (w p q : X → Bool) (xs : List X) → ((x : X) → w x ≡ true → p x ≡ q x) → list_all w xs ≡ true → list_any p xs ≡ list_any q xs
any_where w p q [] f a = refl
any_where w p q (x ∷ xs) f a =
    rw (f x (and_left (w x) (list_all w xs) a), any_where w p q xs f (and_right (w x) (list_all w xs) a)) refl

-- its handles' serials rise
pub handles_rise : (home : Home) (base : Base) → IsSoundSoFar home base → Rises 1 base.handles
handles_rise home base s = rises 0 base.opens base.handles s.serials_rise s.serials_within s.opens_small

-- WHAT MAY COME NEXT

free_found : (home : Home) (items : List DueItem) (used held : BTreeSet ℕ) (cs : List BaseCall) (w : WireHandle) (k : ℕ) (e : Bool) (o : Option DueItem) → Rises 1 items → ((h : ℕ) → has used h ≡ uses home h cs) → ((h : ℕ) → has held h ≡ holds home h cs) → item_of home items w ≡ o → is_kind_at items k (option_map (λ (i : DueItem). i.serial) o) ≡ true → free_at used held e (option_map (λ (i : DueItem). i.serial) o) ≡ not (list_any (λ (d : BaseCall). list_any (λ x. same_handle (named x) (Some w) && (is_exclusive x || e)) d.asked.slots) cs)
free_found home items used held cs w k e None r u h f t = absurd (cc)
free_found home items used held cs w k e (Some i) r u h f t =
    let found = found_is home items w i r f in
    let clash = calls_clash home i.serial e cs found.counted in
    rw (u i.serial, h i.serial) (ap not (sym clash) ∙ ap (λ v. not (list_any (λ (d : BaseCall). list_any (λ x. same_handle (named x) (Some v) && (is_exclusive x || e)) d.asked.slots) cs)) (sym found.wire))

free_one : (home : Home) (items : List DueItem) (used held : BTreeSet ℕ) (cs : List BaseCall) (s : Slot) → Rises 1 items → ((h : ℕ) → has used h ≡ uses home h cs) → ((h : ℕ) → has held h ≡ holds home h cs) → known_by home items s ≡ true → free_by home items used held s ≡ not (clashes s cs)
free_one home items used held cs (Shares k w) r u h t = free_found home items used held cs w k false (item_of home items w) r u h refl t
free_one home items used held cs (Holds k w) r u h t = free_found home items used held cs w k true (item_of home items w) r u h refl t
free_one home items used held cs (Changes k w) r u h t = free_found home items used held cs w k true (item_of home items w) r u h refl t
free_one home items used held cs (Opens k n) r u h t = rw (opens_clashes k n cs) refl

neither : (a b : Bool) → (not a && not b) ≡ not (a || b)
neither true b = refl
neither false b = refl

free_all : (home : Home) (items : List DueItem) (used held : BTreeSet ℕ) (cs : List BaseCall) (ss : List Slot) → Rises 1 items → ((h : ℕ) → has used h ≡ uses home h cs) → ((h : ℕ) → has held h ≡ holds home h cs) → list_all (known_by home items) ss ≡ true → list_all (free_by home items used held) ss ≡ not (list_any (λ (d : BaseCall). any_clash d.asked.slots ss) cs)
free_all home items used held cs [] r u h t = rw (none_clashes cs) refl
free_all home items used held cs (s ∷ ss) r u h t =
    let here = free_one home items used held cs s r u h (and_left (known_by home items s) (list_all (known_by home items) ss) t) in
    let later = free_all home items used held cs ss r u h (and_right (known_by home items s) (list_all (known_by home items) ss) t) in
    rw (here, later, clashes_turned cs s ss) (neither (clashes s cs) (list_any (λ (d : BaseCall). any_clash d.asked.slots ss) cs))

known_all : (home : Home) (base : Base) (ss : List Slot) → Rises 1 base.handles → list_all (known_by home base.handles) ss ≡ list_all (is_known home base) ss
known_all home base ss r = all_same (known_by home base.handles) (is_known home base) ss (λ s. known_shown home base.handles s r)

reordered : (n k a : Bool) → (n && k && a) ≡ (a && n && k)
reordered true true true = refl
reordered true true false = refl
reordered true false true = refl
reordered true false false = refl
reordered false k true = refl
reordered false k false = refl

no_order : (n f a : Bool) → (n && false && f) ≡ (a && n && false)
no_order true f true = refl
no_order true f false = refl
no_order false f true = refl
no_order false f false = refl

pub takes_shown : (home : Home) (base : Base) (table : Handles) (conns serials used held : BTreeSet ℕ) (c : BaseCall) (apart known free : Bool) → Kept home base table conns serials used held → IsSoundSoFar home base → apart ≡ names_apart c.asked.slots → known ≡ list_all (known_by table.home table.items) c.asked.slots → free ≡ list_all (free_by table.home table.items used held) c.asked.slots → (apart && known && free) ≡ takes_apart home base c
takes_shown home base table conns serials used held c apart known free w s a k f =
    let r = handles_rise home base s in
    let ss : List Slot = c.asked.slots in
    let k_is : known ≡ list_all (known_by home base.handles) ss = k ∙ ap (λ (t : Handles). list_all (known_by t.home t.items) ss) w.table_is in
    let f_is : free ≡ list_all (free_by home base.handles used held) ss = f ∙ ap (λ (t : Handles). list_all (free_by t.home t.items used held) ss) w.table_is in
    let all = known_all home base ss r in
    elim (cases_Bool (list_all (known_by home base.handles) ss)) [
      | inl t ↦
          let alone = free_all home base.handles used held (taken_of base.calls) ss r w.used_are w.held_are t in
          rw (a, k_is, f_is, alone, all) (reordered (names_apart ss) (list_all (is_known home base) ss) (not (list_any (λ (d : BaseCall). any_clash d.asked.slots ss) (taken_of base.calls))))
      | inr n ↦
          let off : list_all (is_known home base) ss ≡ false = sym all ∙ n in
          rw (a, k_is, n, off) (no_order (names_apart ss) free (not (list_any (λ (d : BaseCall). any_clash d.asked.slots ss) (taken_of base.calls))))
    ]

pub fresh_shown : (home : Home) (base : Base) (table : Handles) (conns serials used held : BTreeSet ℕ) (c : BaseCall) → Kept home base table conns serials used held → fresh_by conns c ≡ is_fresh base c
fresh_shown home base table conns serials used held c w =
    ap (λ b. c.taken || b && not c.cancelled && not c.orphaned) (w.conns_are c.asked.conn)

opens_shown : (base : Base) (serials : BTreeSet ℕ) (n : ℕ) → has serials n ≡ list_any (is_number n) (opening base.calls) → opens_by base.handles base.opens serials n ≡ may_open base n
opens_shown base serials n e = rw (looked_shown base.handles n, e) refl

pub opens_all : (home : Home) (base : Base) (table : Handles) (conns serials used held : BTreeSet ℕ) (ns : List ℕ) → Kept home base table conns serials used held → list_all (opens_by table.items base.opens serials) ns ≡ list_all (may_open base) ns
opens_all home base table conns serials used held ns w =
    ap (λ (t : Handles). list_all (opens_by t.items base.opens serials) ns) w.table_is ∙ all_same (opens_by base.handles base.opens serials) (may_open base) ns (λ n. opens_shown base serials n (w.serials_are n))

-- WHAT IT MAKES OF THEM

swapped : (a b : Bool) → (a || b) ≡ (b || a)
swapped true true = refl
swapped true false = refl
swapped false true = refl
swapped false false = refl

or_none : (b : Bool) → (b || false) ≡ b
or_none true = refl
or_none false = refl

-- what the calls do, and one more
more : (p : BaseCall → Bool) (q old : Bool) (cs : List BaseCall) (c : BaseCall) → old ≡ list_any p (taken_of cs) → (c.taken ≡ true → q ≡ p c) → ((c.taken && q) || old) ≡ list_any p (taken_of (cs ++ c ∷ []))
more p q old cs c o f =
    elim (cases_Bool c.taken) [
      | inl t ↦
          ap (λ b. (b && q) || old) t
          ∙ (ap (λ b. b || old) (f t)
          ∙ (ap (λ b. p c || b) o
          ∙ (swapped (p c) (list_any p (taken_of cs))
          ∙ sym (ap (list_any p) (taken_if cs c t) ∙ (list_any-append p (taken_of cs) (c ∷ []) ∙ ap (λ b. list_any p (taken_of cs) || b) (or_none (p c)))))))
      | inr n ↦ ap (λ b. (b && q) || old) n ∙ (o ∙ sym (ap (list_any p) (taken_not cs c n)))
    ]

pub kept_more : (home : Home) (base : Base) (table : Handles) (conns serials used held more_serials more_used more_held : BTreeSet ℕ) (c : BaseCall) → Kept home base table conns serials used held → IsSoundSoFar home (with_call base c) → ((n : ℕ) → has more_serials n ≡ (list_any (is_number n) (serials_in c.asked.slots) || has serials n)) → ((h : ℕ) → has more_used h ≡ (c.taken && list_any (uses_by table.home table.items h) c.asked.slots || has used h)) → ((h : ℕ) → has more_held h ≡ (c.taken && list_any (holds_by table.home table.items h) c.asked.slots || has held h)) → Kept home (with_call base c) table conns more_serials more_used more_held
kept_more home base table conns serials used held more_serials more_used more_held c w s f g k =
    let r = handles_rise home (with_call base c) s in
    let ss : List Slot = c.asked.slots in
    let known : c.taken ≡ true → list_all (known_by home base.handles) ss ≡ true = λ t. known_all home base ss r ∙ (and_right (not (list_any (λ (d : BaseCall). any_clash d.asked.slots ss) (taken_of base.calls)) && names_apart ss) (list_all (is_known home base) ss) (takes_back home base c s t)) in
    record {
      table_is = w.table_is;
      conns_are = w.conns_are;
      serials_are = λ n. f n ∙ (ap (λ b. list_any (is_number n) (serials_in ss) || b) (w.serials_are n) ∙ (swapped (list_any (is_number n) (serials_in ss)) (list_any (is_number n) (opening base.calls)) ∙ (sym (list_any-append (is_number n) (opening base.calls) (serials_in ss)) ∙ ap (list_any (is_number n)) (sym (opening_more base.calls c)))));
      used_are = λ h. g h ∙ (ap (λ (t : Handles). c.taken && list_any (uses_by t.home t.items h) ss || has used h) w.table_is ∙ more (λ (d : BaseCall). list_any (uses_at home h) d.asked.slots) (list_any (uses_by home base.handles h) ss) (has used h) base.calls c (w.used_are h) (λ t. any_where (known_by home base.handles) (uses_by home base.handles h) (uses_at home h) ss (λ x. uses_shown home base.handles h x r) (known t)));
      held_are = λ h. k h ∙ (ap (λ (t : Handles). c.taken && list_any (holds_by t.home t.items h) ss || has held h) w.table_is ∙ more (λ (d : BaseCall). list_any (holds_at home h) d.asked.slots) (list_any (holds_by home base.handles h) ss) (has held h) base.calls c (w.held_are h) (λ t. any_where (known_by home base.handles) (holds_by home base.handles h) (holds_at home h) ss (λ x. holds_shown home base.handles h x r) (known t)));
    }

-- beside a base without calls
pub kept_start : (home : Home) (base : Base) (table : Handles) (conns serials used held : BTreeSet ℕ) → table ≡ record { home = home; items = base.handles; room = 0 } → ((c : ℕ) → has conns c ≡ list_any (is_number c) base.conns) → base.calls ≡ [] → ((n : ℕ) → has serials n ≡ false) → ((h : ℕ) → has used h ≡ false) → ((h : ℕ) → has held h ≡ false) → Kept home base table conns serials used held
kept_start home base table conns serials used held t c none s u k =
    record {
      table_is = t;
      conns_are = c;
      serials_are = λ n. s n ∙ ap (λ (cs : List BaseCall). list_any (is_number n) (opening cs)) (sym none);
      used_are = λ h. u h ∙ ap (λ (cs : List BaseCall). uses home h (taken_of cs)) (sym none);
      held_are = λ h. k h ∙ ap (λ (cs : List BaseCall). holds home h (taken_of cs)) (sym none);
    }

pub opens_apart_shown : (home : Home) (base : Base) (table : Handles) (conns serials used held : BTreeSet ℕ) (c : BaseCall) (apart new : Bool) → Kept home base table conns serials used held → apart ≡ differ (serials_in c.asked.slots) → new ≡ list_all (opens_by table.items base.opens serials) (serials_in c.asked.slots) → (apart && new) ≡ opens_apart base c
opens_apart_shown home base table conns serials used held c apart new w a n =
    rw (a, n, opens_all home base table conns serials used held (serials_in c.asked.slots) w) refl
