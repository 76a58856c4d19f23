-- What a journal says of a call is what its tale says.
use Rattle.std.proofs.Common.{◌≡◌, ◌==◌, ℕ, Bool, true, false, ◌&&◌, ◌||◌, not, if◌then◌else◌, List, [], ◌∷◌, Option, Some, None, refl, sym, ap, ◌∙◌, subst, arith}
use Rattle.std.specs.List.{list_any}
use Rattle.std.proofs.lemmas.Bool.Decides.{nat_tests}
use Rattle.std.proofs.lemmas.Map.Views.{any-filter_same}
use Rattle.handle_model.specs.declared.entry.Home.{Home}
use Rattle.handle_model.specs.declared.entry.Said.{Said}
use Rattle.handle_model.specs.declared.entry.Asked.{Asked}
use Rattle.handle_model.specs.declared.entry.Entry.{Entry}
use Rattle.handle_model.specs.declared.entry.Entry.TheVariants.{Join, Accept, Take, Deny, Cancel, Orphan, End, Leave, Shut}
use Rattle.handle_model.specs.Bases.{empty_base}
use Rattle.handle_model.specs.Since.{any_since}
use Rattle.handle_model.specs.Journal.{leaves, takes, denies, cancels, orphans, ends, asked_since, has_left}
use Rattle.handle_model.specs.Replies.{is_lost, ended_with_since, replies, reply_by, context_mismatch, cancelled}
use Rattle.handle_model.specs.declared.reply.Reply.{Reply}
use Rattle.handle_model.specs.declared.reply.Reply.TheVariants.{Never}
use Rattle.conn_histories.specs.Tales.{whole, is_about, tale}

pub same_number : (k : ℕ) → (k == k) ≡ true
same_number k = grind (arith, nat_tests)

pub or_false : (b : Bool) → (b || false) ≡ b
or_false true = refl
or_false false = refl

pub or_true : (b : Bool) → (b || true) ≡ true
or_true true = refl
or_true false = refl

pub any_first : (x y : Bool) → (x || y) ≡ false → x ≡ false
any_first true y h = absurd cc
any_first false y h = refl

pub any_rest : (x y : Bool) → (x || y) ≡ false → y ≡ false
any_rest true y h = absurd cc
any_rest false y h = h

pub and_false : (b : Bool) → (b && false) ≡ false
and_false true = refl
and_false false = refl

is_true_right : (a b : Bool) → b ≡ true → (a || b) ≡ true
is_true_right true b h = refl
is_true_right false b h = h

-- ---- tests of calls and of the connection

pub takes_call : (c k : ℕ) (e : Entry) → takes k e ≡ true → is_about c k e ≡ true
takes_call c k (Take m cookies) h = h
takes_call c k (Join d) h = absurd cc
takes_call c k (Accept m a) h = absurd cc
takes_call c k (Deny m slot) h = absurd cc
takes_call c k (Cancel m) h = absurd cc
takes_call c k (Orphan m) h = absurd cc
takes_call c k (End m results said) h = absurd cc
takes_call c k (Leave d) h = absurd cc
takes_call c k (Shut items) h = absurd cc

denies_call : (c k : ℕ) (e : Entry) → denies k e ≡ true → is_about c k e ≡ true
denies_call c k (Deny m slot) h = h
denies_call c k (Join d) h = absurd cc
denies_call c k (Accept m a) h = absurd cc
denies_call c k (Take m cookies) h = absurd cc
denies_call c k (Cancel m) h = absurd cc
denies_call c k (Orphan m) h = absurd cc
denies_call c k (End m results said) h = absurd cc
denies_call c k (Leave d) h = absurd cc
denies_call c k (Shut items) h = absurd cc

cancels_call : (c k : ℕ) (e : Entry) → cancels k e ≡ true → is_about c k e ≡ true
cancels_call c k (Cancel m) h = h
cancels_call c k (Join d) h = absurd cc
cancels_call c k (Accept m a) h = absurd cc
cancels_call c k (Take m cookies) h = absurd cc
cancels_call c k (Deny m slot) h = absurd cc
cancels_call c k (Orphan m) h = absurd cc
cancels_call c k (End m results said) h = absurd cc
cancels_call c k (Leave d) h = absurd cc
cancels_call c k (Shut items) h = absurd cc

orphans_call : (c k : ℕ) (e : Entry) → orphans k e ≡ true → is_about c k e ≡ true
orphans_call c k (Orphan m) h = h
orphans_call c k (Join d) h = absurd cc
orphans_call c k (Accept m a) h = absurd cc
orphans_call c k (Take m cookies) h = absurd cc
orphans_call c k (Deny m slot) h = absurd cc
orphans_call c k (Cancel m) h = absurd cc
orphans_call c k (End m results said) h = absurd cc
orphans_call c k (Leave d) h = absurd cc
orphans_call c k (Shut items) h = absurd cc

pub leaves_conn : (c k : ℕ) (e : Entry) → leaves c e ≡ true → is_about c k e ≡ true
leaves_conn c k (Leave d) h = rw h refl
leaves_conn c k (Join d) h = absurd cc
leaves_conn c k (Accept m a) h = absurd cc
leaves_conn c k (Take m cookies) h = absurd cc
leaves_conn c k (Deny m slot) h = absurd cc
leaves_conn c k (Cancel m) h = absurd cc
leaves_conn c k (Orphan m) h = absurd cc
leaves_conn c k (End m results said) h = absurd cc
leaves_conn c k (Shut items) h = absurd cc

pub ends_call : (c k : ℕ) (e : Entry) → ends k e ≡ true → is_about c k e ≡ true
ends_call c k (End m results said) h = h
ends_call c k (Join d) h = absurd cc
ends_call c k (Accept m a) h = absurd cc
ends_call c k (Take m cookies) h = absurd cc
ends_call c k (Deny m slot) h = absurd cc
ends_call c k (Cancel m) h = absurd cc
ends_call c k (Orphan m) h = absurd cc
ends_call c k (Leave d) h = absurd cc
ends_call c k (Shut items) h = absurd cc

-- an Accept of the call for another connection
abbrev pub is_foreign : ℕ → ℕ → Entry → Bool
is_foreign c k (Accept m a) = (m == k) && not (a.conn == c)
is_foreign c k _ = false

foreign_call : (c k : ℕ) (e : Entry) → is_foreign c k e ≡ true → is_about c k e ≡ true
foreign_call c k (Accept m a) h = first (m == k) (a.conn == c) h
  where
    first : (x y : Bool) → (x && not y) ≡ true → x ≡ true
    first true y h = refl
    first false y h = absurd cc
foreign_call c k (Join d) h = absurd cc
foreign_call c k (Take m cookies) h = absurd cc
foreign_call c k (Deny m slot) h = absurd cc
foreign_call c k (Cancel m) h = absurd cc
foreign_call c k (Orphan m) h = absurd cc
foreign_call c k (End m results said) h = absurd cc
foreign_call c k (Leave d) h = absurd cc
foreign_call c k (Shut items) h = absurd cc

pub in_tale : (c k : ℕ) (test : Entry → Bool) → ((e : Entry) → test e ≡ true → is_about c k e ≡ true) → (past : List Entry) → list_any test (tale c k past) ≡ list_any test past
in_tale c k test about past = any-filter_same test (is_about c k) true about past

-- ---- what goes from entry to entry

pub since_none : (p : Entry → Bool) (xs : List Entry) → any_since false p xs ≡ list_any p xs
since_none p [] = refl
since_none p (x ∷ xs) = ap (λ b. p x || b) (since_none p xs)

-- an entry that says nothing may be kept or not
kept_skip : {X : Type 0} (F : List Entry → X) (e : Entry) (b : Bool) (xs past : List Entry) → ((zs : List Entry) → F (e ∷ zs) ≡ F zs) → F xs ≡ F past
    → F (if b then e ∷ xs else xs) ≡ F past
kept_skip F e true xs past skips h = skips xs ∙ h
kept_skip F e false xs past skips h = h

abbrev pub asked_in : ℕ → List Entry → Option Asked
asked_in k past = asked_since empty_base past k

pub asked_tale : (c k : ℕ) (past : List Entry) → asked_in k (tale c k past) ≡ asked_in k past
asked_tale c k [] = refl
asked_tale c k (Accept m a ∷ past) = by_test (m == k) refl (asked_tale c k past)
  where
    by_test : (b : Bool) → (m == k) ≡ b → asked_in k (tale c k past) ≡ asked_in k past
        → asked_in k (if b then Accept m a ∷ tale c k past else tale c k past) ≡ (if b then Some a else asked_in k past)
    by_test true is h = rw is refl
    by_test false is h = h
asked_tale c k (Join d ∷ past) = kept_skip (asked_in k) (Join d) (is_about c k (Join d)) (tale c k past) past (λ zs. refl) (asked_tale c k past)
asked_tale c k (Take m cookies ∷ past) = kept_skip (asked_in k) (Take m cookies) (is_about c k (Take m cookies)) (tale c k past) past (λ zs. refl) (asked_tale c k past)
asked_tale c k (Deny m slot ∷ past) = kept_skip (asked_in k) (Deny m slot) (is_about c k (Deny m slot)) (tale c k past) past (λ zs. refl) (asked_tale c k past)
asked_tale c k (Cancel m ∷ past) = kept_skip (asked_in k) (Cancel m) (is_about c k (Cancel m)) (tale c k past) past (λ zs. refl) (asked_tale c k past)
asked_tale c k (Orphan m ∷ past) = kept_skip (asked_in k) (Orphan m) (is_about c k (Orphan m)) (tale c k past) past (λ zs. refl) (asked_tale c k past)
asked_tale c k (End m results said ∷ past) = kept_skip (asked_in k) (End m results said) (is_about c k (End m results said)) (tale c k past) past (λ zs. refl) (asked_tale c k past)
asked_tale c k (Leave d ∷ past) = kept_skip (asked_in k) (Leave d) (is_about c k (Leave d)) (tale c k past) past (λ zs. refl) (asked_tale c k past)
asked_tale c k (Shut items ∷ past) = kept_skip (asked_in k) (Shut items) (is_about c k (Shut items)) (tale c k past) past (λ zs. refl) (asked_tale c k past)

-- ---- whose call it is

abbrev pub IsTheirs : ℕ → Option Asked → Type 0
IsTheirs c None = Unit {0}
IsTheirs c (Some a) = (a.conn == c) ≡ true

asked_theirs : (c k : ℕ) (past : List Entry) → list_any (is_foreign c k) past ≡ false → IsTheirs c (asked_in k past)
asked_theirs c k [] h = tt
asked_theirs c k (Accept m a ∷ past) h = by_test (m == k) (a.conn == c) refl (λ r. asked_theirs c k past r) h
  where
    by_test : (x y : Bool) → (a.conn == c) ≡ y → (list_any (is_foreign c k) past ≡ false → IsTheirs c (asked_in k past)) → ((x && not y) || list_any (is_foreign c k) past) ≡ false
        → IsTheirs c (if x then Some a else asked_in k past)
    by_test true true is r h = is
    by_test true false is r h = absurd cc
    by_test false true is r h = r h
    by_test false false is r h = r h
asked_theirs c k (Join d ∷ past) h = asked_theirs c k past h
asked_theirs c k (Take m cookies ∷ past) h = asked_theirs c k past h
asked_theirs c k (Deny m slot ∷ past) h = asked_theirs c k past h
asked_theirs c k (Cancel m ∷ past) h = asked_theirs c k past h
asked_theirs c k (Orphan m ∷ past) h = asked_theirs c k past h
asked_theirs c k (End m results said ∷ past) h = asked_theirs c k past h
asked_theirs c k (Leave d ∷ past) h = asked_theirs c k past h
asked_theirs c k (Shut items ∷ past) h = asked_theirs c k past h

pub same_if : (n m : ℕ) → (n == m) ≡ true → n ≡ m
same_if n m h = grind (arith, nat_tests, h)

left_tale : (home : Home) (c k : ℕ) (past : List Entry) (o : Option Asked) → IsTheirs c o → has_left (whole home (tale c k past)) o ≡ has_left (whole home past) o
left_tale home c k past None h = refl
left_tale home c k past (Some a) h =
    subst (λ (d : ℕ). list_any (leaves d) (tale c k past) ≡ list_any (leaves d) past) (sym (same_if a.conn c h)) (in_tale c k (leaves c) (leaves_conn c k) past)

pub lost_tale : (home : Home) (c k : ℕ) (past : List Entry) → list_any (is_foreign c k) past ≡ false → is_lost (whole home (tale c k past)) k ≡ is_lost (whole home past) k
lost_tale home c k past own =
    let orphaned : any_since false (orphans k) (tale c k past) ≡ any_since false (orphans k) past =
    since_none (orphans k) (tale c k past) ∙ (in_tale c k (orphans k) (orphans_call c k) past ∙ sym (since_none (orphans k) past)) in
    let left : has_left (whole home (tale c k past)) (asked_in k (tale c k past)) ≡ has_left (whole home past) (asked_in k past) =
    ap (has_left (whole home (tale c k past))) (asked_tale c k past) ∙ left_tale home c k past (asked_in k past) (asked_theirs c k past own) in
    λ i. orphaned i || left i

-- ---- what its end said

abbrev pub ended_in : Home → ℕ → List Entry → Option Said
ended_in home k past = ended_with_since home empty_base past k

pub ended_tale : (home : Home) (c k : ℕ) (past : List Entry) → list_any (is_foreign c k) past ≡ false → ended_in home k (tale c k past) ≡ ended_in home k past
ended_tale home c k [] own = refl
ended_tale home c k (End m results said ∷ past) own = by_test (m == k) refl (ended_tale home c k past own)
  where
    by_test : (b : Bool) → (m == k) ≡ b → ended_in home k (tale c k past) ≡ ended_in home k past
        → ended_in home k (if b then End m results said ∷ tale c k past else tale c k past)
        ≡ (if b then (if is_lost (whole home past) k then None else Some said) else ended_in home k past)
    by_test true is h = rw is (ap (λ x. if x then None else Some said) (lost_tale home c k past own))
    by_test false is h = h
ended_tale home c k (Accept m a ∷ past) own =
    kept_skip (ended_in home k) (Accept m a) (is_about c k (Accept m a)) (tale c k past) past (λ zs. refl) (ended_tale home c k past (second (is_foreign c k (Accept m a)) (list_any (is_foreign c k) past) own))
  where
    second : (x y : Bool) → (x || y) ≡ false → y ≡ false
    second true y h = absurd cc
    second false y h = h
ended_tale home c k (Join d ∷ past) own = kept_skip (ended_in home k) (Join d) (is_about c k (Join d)) (tale c k past) past (λ zs. refl) (ended_tale home c k past own)
ended_tale home c k (Take m cookies ∷ past) own = kept_skip (ended_in home k) (Take m cookies) (is_about c k (Take m cookies)) (tale c k past) past (λ zs. refl) (ended_tale home c k past own)
ended_tale home c k (Deny m slot ∷ past) own = kept_skip (ended_in home k) (Deny m slot) (is_about c k (Deny m slot)) (tale c k past) past (λ zs. refl) (ended_tale home c k past own)
ended_tale home c k (Cancel m ∷ past) own = kept_skip (ended_in home k) (Cancel m) (is_about c k (Cancel m)) (tale c k past) past (λ zs. refl) (ended_tale home c k past own)
ended_tale home c k (Orphan m ∷ past) own = kept_skip (ended_in home k) (Orphan m) (is_about c k (Orphan m)) (tale c k past) past (λ zs. refl) (ended_tale home c k past own)
ended_tale home c k (Leave d ∷ past) own = kept_skip (ended_in home k) (Leave d) (is_about c k (Leave d)) (tale c k past) past (λ zs. refl) (ended_tale home c k past own)
ended_tale home c k (Shut items ∷ past) own = kept_skip (ended_in home k) (Shut items) (is_about c k (Shut items)) (tale c k past) past (λ zs. refl) (ended_tale home c k past own)

-- ---- the reply

abbrev pub reply_from : Bool → Bool → Bool → Option Said → Bool → Reply
reply_from denied off took said lost =
    if denied then Never context_mismatch else (if off && not took then Never cancelled else reply_by said lost)

pub reply_is : (home : Home) (past : List Entry) (k : ℕ) (denied off took lost : Bool) (said : Option Said) → list_any (denies k) past ≡ denied → list_any (cancels k) past ≡ off
    → list_any (takes k) past ≡ took → ended_in home k past ≡ said → is_lost (whole home past) k ≡ lost
    → replies (whole home past) k ≡ reply_from denied off took said lost
reply_is home past k denied off took lost said d o t e l =
    let t' : any_since false (takes k) past ≡ took = since_none (takes k) past ∙ t in
    λ i. reply_from (d i) (o i) (t' i) (e i) (l i)

-- The journal's reply is the one that the call's tale gives, where no other connection's call has its number.
pub reply_tale : (home : Home) (c k : ℕ) (past t : List Entry) → tale c k past ≡ t → list_any (is_foreign c k) t ≡ false → replies (whole home past) k ≡ replies (whole home t) k
reply_tale home c k past t is own =
    let own' : list_any (is_foreign c k) past ≡ false = sym (in_tale c k (is_foreign c k) (foreign_call c k) past) ∙ (ap (list_any (is_foreign c k)) is ∙ own) in
    let here : replies (whole home past) k ≡ replies (whole home (tale c k past)) k =
    reply_is home past k _ _ _ _ _ (sym (in_tale c k (denies k) (denies_call c k) past)) (sym (in_tale c k (cancels k) (cancels_call c k) past))
    (sym (in_tale c k (takes k) (takes_call c k) past) ∙ sym (since_none (takes k) (tale c k past))) (sym (ended_tale home c k past own')) (sym (lost_tale home c k past own')) in
    here ∙ ap (λ l. replies (whole home l) k) is
