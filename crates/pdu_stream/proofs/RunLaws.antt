-- What is being joined after PDUs, with one PDU more.
use Rattle.std.proofs.Common.{◌⊎◌, ◌≡◌, ℕ, ◌≤◌, inl, inr, Bool, true, false, ◌||◌, ◌&&◌, not, eqb, List, [], ◌∷◌, ◌++◌, length, Option, Some, None, Ok, refl, sym, ap, subst, ◌∙◌, append-nil}
use Rattle.std.specs.List.{list_any, AllByRecursion}
use Rattle.std.proofs.lemmas.Bool.{and_from, eq-eqb, and_parts, eqb-true, or_from}
use Rattle.pdu_codec.specs.declared.pdu.Pdu.{Pdu}
use Rattle.pdu_codec.specs.declared.pdu.Body.{Body}
use Rattle.pdu_codec.specs.declared.pdu.Body.TheVariants as bodies
use Rattle.pdu_stream.specs.declared.joined.Joined.{Joined}
use Rattle.pdu_stream.specs.Fragments.{is_in_order, Fragment, is_first, is_last, joined_of, most_stub, with_fragment, IsTaken, Joining, AddsFragment, Marks, Drops}
use Rattle.pdu_stream.specs.Runs.{fragment_with, fragment_of, fragments, is_co_cancel, is_orphaned, cancels, orphans, IsLater, IsAlone, EndsOpen, joined_with, IsOpen, IsJoining, IsWhole, Changes}
use Rattle.pdu_stream.proofs.Joins.{joined-call_id, joined-context, joined-op, joined-order, joined_last, joined_marked}
use Rattle.pdu_stream.proofs.OpenRuns.{fragments_more, any_more, GoesOn, open_more, open_first, Reaches, at_once, later_on, reaches, one_open}

-- ---- options and results

some_same : {A : Type 0} (x y : A) → Some x ≡ Some y → x ≡ y
some_same x y e = cc

ok_same : (x y : Option Joined) → (let r : Joining = Ok x in r) ≡ Ok y → x ≡ y
ok_same x y e = cc

true_false : (b : Bool) → b ≡ true → b ≡ false → ⊥
true_false b t f = absurd (cc (t, f))

or_false : (b : Bool) → (b || false) ≡ b
or_false true = refl
or_false false = refl

or_true : (b : Bool) → (b || true) ≡ true
or_true true = refl
or_true false = refl

not_true : (b : Bool) → not b ≡ true → b ≡ false
not_true true e = absurd cc
not_true false e = refl

-- ---- a PDU that is no fragment

no_more : (first : Fragment) (behind : List Pdu) (p : Pdu) → fragment_of p ≡ [] → joined_with first (behind ++ p ∷ []) ≡ record (joined_with first behind) { cancel = (joined_with first behind).cancel || cancels first.call_id p }
no_more first behind p is =
    let same : fragments (behind ++ p ∷ []) ≡ fragments behind = fragments_more behind p ∙ ap (λ (x : List Fragment). fragments behind ++ x) is ∙ append-nil (fragments behind) in
    let marked : list_any (cancels first.call_id) (behind ++ p ∷ []) ≡ (list_any (cancels first.call_id) behind || (cancels first.call_id p || false)) = any_more (cancels first.call_id) behind p in
    (λ i. joined_of first (same i) (marked i)) ∙ joined_marked first (fragments behind) (list_any (cancels first.call_id) behind) (cancels first.call_id p)

-- it changes nothing of what is being joined but the mark
pub quiet : (pdus : List Pdu) (p : Pdu) (first : Fragment) (behind : List Pdu) (new : Joined) → fragment_of p ≡ [] → orphans first.call_id p ≡ false → IsOpen pdus first behind
    → new ≡ record (joined_with first behind) { cancel = (joined_with first behind).cancel || cancels first.call_id p } → IsJoining (pdus ++ p ∷ []) (Some new)
quiet pdus p first behind new is wanted o e =
    let same = no_more first behind p is in
    let g : GoesOn first p = record {
      later = subst (AllByRecursion (IsLater first)) (sym is) tt;
      unended = ap (list_any is_last) is;
      wanted = wanted;
    } in
    let short : length (joined_with first (behind ++ p ∷ [])).stub ≤ most_stub = subst (λ (x : Joined). length x.stub ≤ most_stub) (sym same) o.short in
    (first, behind ++ p ∷ [], open_more pdus p first behind o g short, e ∙ sym same)

-- what ends nothing begins nothing
no_run : (pdus : List Pdu) (p : Pdu) → fragment_of p ≡ [] → IsJoining pdus None → IsJoining (pdus ++ p ∷ []) None
no_run pdus p is none first behind o = reached (reaches pdus p first behind o)
  where
    reached : Reaches pdus p first behind → ⊥
    reached (at_once alone begins ends e) = absurd (cc (alone, is))
    reached (later_on rest e opened g) = none first rest opened

-- ---- other PDUs

plain_on : (pdus : List Pdu) (p : Pdu) (run new : Option Joined) → fragment_of p ≡ [] → ((id : ℕ) → cancels id p ≡ false) → ((id : ℕ) → orphans id p ≡ false) → new ≡ run → IsJoining pdus run → IsJoining (pdus ++ p ∷ []) new
plain_on pdus p None new is unmarked wanted e h = subst (IsJoining (pdus ++ p ∷ [])) (sym e) (no_run pdus p is h)
plain_on pdus p (Some j) new is unmarked wanted e h =
    let first = h.0 in
    let same : j ≡ record (joined_with first h.1) { cancel = (joined_with first h.1).cancel || cancels first.call_id p } =
    h.3 ∙ (λ i. record (joined_with first h.1) { cancel = sym (ap (λ (b : Bool). (joined_with first h.1).cancel || b) (unmarked first.call_id) ∙ or_false (joined_with first h.1).cancel) i }) in
    subst (IsJoining (pdus ++ p ∷ [])) (sym e) (quiet pdus p first h.1 j is (wanted first.call_id) h.2 same)

plain : (pdus : List Pdu) (p : Pdu) (body : Body) (run new : Option Joined) → p.body ≡ body → fragment_with p body ≡ [] → is_co_cancel body ≡ false → is_orphaned body ≡ false → new ≡ run → IsJoining pdus run → IsJoining (pdus ++ p ∷ []) new
plain pdus p body run new e is unmarked wanted same h =
    plain_on pdus p run new (ap (fragment_with p) e ∙ is)
    (λ id. ap (λ (b : Body). is_co_cancel b && eqb id p.call_id) e ∙ ap (λ (b : Bool). b && eqb id p.call_id) unmarked)
    (λ id. ap (λ (b : Body). is_orphaned b && eqb id p.call_id) e ∙ ap (λ (b : Bool). b && eqb id p.call_id) wanted) same h

-- ---- a co_cancel

call_id_of : (j : Joined) (first : Fragment) (behind : List Pdu) → j ≡ joined_with first behind → j.call_id ≡ first.call_id
call_id_of j first behind e = ap (λ (x : Joined). x.call_id) e ∙ joined-call_id first (fragments behind) (list_any (cancels first.call_id) behind)

cancel_on : (pdus : List Pdu) (p : Pdu) (run new : Option Joined) (answer : Bool) → p.body ≡ bodies.CoCancel → IsJoining pdus run → Marks (Ok run) p.call_id answer (Ok new) → IsJoining (pdus ++ p ∷ []) new
cancel_on pdus p None new true e h m = absurd (cc (m.0))
cancel_on pdus p None new false e h m = subst (IsJoining (pdus ++ p ∷ [])) (sym (ok_same new None m.1)) (no_run pdus p (ap (fragment_with p) e) h)
cancel_on pdus p (Some j) new answer e h m =
    let first = h.0 in
    let id : j.call_id ≡ first.call_id = call_id_of j first h.1 h.3 in
    let is : fragment_of p ≡ [] = ap (fragment_with p) e in
    let wanted : orphans first.call_id p ≡ false = ap (λ (b : Body). is_orphaned b && eqb first.call_id p.call_id) e in
    let mark : cancels first.call_id p ≡ eqb j.call_id p.call_id = ap (λ (b : Body). is_co_cancel b && eqb first.call_id p.call_id) e ∙ ap (λ n. eqb n p.call_id) (sym id) in
    subst (IsJoining (pdus ++ p ∷ [])) (sym (marked answer m)) (quiet pdus p first h.1 (record j { cancel = j.cancel || eqb j.call_id p.call_id }) is wanted h.2
    (λ i. record (h.3 i) { cancel = (h.3 i).cancel || sym mark i }))
  where
    marked : (answer : Bool) → Marks (Ok (Some j)) p.call_id answer (Ok new) → new ≡ Some (record j { cancel = j.cancel || eqb j.call_id p.call_id })
    marked true m =
        let k : j ≡ m.1 = some_same j m.1 (ok_same (Some j) (Some m.1) m.2) in
        let on : true ≡ (j.cancel || eqb j.call_id p.call_id) = sym (ap (λ (b : Bool). j.cancel || b) m.0 ∙ or_true j.cancel) in
        ok_same new (Some (record m.1 { cancel = true })) m.3 ∙ (λ i. Some (record (sym k i) { cancel = on i }))
    marked false m =
        let off : j.cancel ≡ (j.cancel || eqb j.call_id p.call_id) = sym (ap (λ (b : Bool). j.cancel || b) m.0 ∙ or_false j.cancel) in
        ok_same new (Some j) m.1 ∙ (λ i. Some (record j { cancel = off i }))

-- ---- an orphaned

orphan_on : (pdus : List Pdu) (p : Pdu) (run new : Option Joined) (answer : Bool) → p.body ≡ bodies.Orphaned → IsJoining pdus run → Drops (Ok run) p.call_id answer (Ok new) → IsJoining (pdus ++ p ∷ []) new
orphan_on pdus p None new true e h d = absurd (cc (d.0))
orphan_on pdus p None new false e h d = subst (IsJoining (pdus ++ p ∷ [])) (sym (ok_same new None d.1)) (no_run pdus p (ap (fragment_with p) e) h)
orphan_on pdus p (Some j) new true e h d = subst (IsJoining (pdus ++ p ∷ [])) (sym (ok_same new None d.1)) dropped
  where
    reached : (first : Fragment) (behind : List Pdu) → Reaches pdus p first behind → ⊥
    reached first behind (at_once alone begins ends at) = absurd (cc (alone, ap (fragment_with p) e))
    reached first behind (later_on rest at opened g) =
        let same : h.0 ≡ first = (one_open pdus h.0 first h.1 rest h.2 opened).0 in
        let id : j.call_id ≡ first.call_id = call_id_of j h.0 h.1 h.3 ∙ ap (λ (f : Fragment). f.call_id) same in
        let gone : orphans first.call_id p ≡ true = ap (λ (b : Body). is_orphaned b && eqb first.call_id p.call_id) e ∙ ap (λ n. eqb n p.call_id) (sym id) ∙ d.0 in
        true_false (orphans first.call_id p) gone g.wanted

    dropped : IsJoining (pdus ++ p ∷ []) None
    dropped first behind o = reached first behind (reaches pdus p first behind o)
orphan_on pdus p (Some j) new false e h d =
    let first = h.0 in
    let id : j.call_id ≡ first.call_id = call_id_of j first h.1 h.3 in
    let is : fragment_of p ≡ [] = ap (fragment_with p) e in
    let wanted : orphans first.call_id p ≡ false = ap (λ (b : Body). is_orphaned b && eqb first.call_id p.call_id) e ∙ ap (λ n. eqb n p.call_id) (sym id) ∙ d.0 in
    let unmarked : cancels first.call_id p ≡ false = ap (λ (b : Body). is_co_cancel b && eqb first.call_id p.call_id) e in
    let same : j ≡ record (joined_with first h.1) { cancel = (joined_with first h.1).cancel || cancels first.call_id p } =
    h.3 ∙ (λ i. record (joined_with first h.1) { cancel = sym (ap (λ (b : Bool). (joined_with first h.1).cancel || b) unmarked ∙ or_false (joined_with first h.1).cancel) i }) in
    subst (IsJoining (pdus ++ p ∷ [])) (sym (ok_same new (Some j) d.1)) (quiet pdus p first h.1 j is wanted h.2 same)

-- ---- a request

-- a later fragment of what is being joined
later_of : (first : Fragment) (behind : List Pdu) (f : Fragment) → IsTaken (Some (joined_with first behind)) f → IsLater first f
later_of first behind f t =
    let fs = fragments behind in
    let c = list_any (cancels first.call_id) behind in
    let j = joined_of first fs c in
    let a = and_parts (not (is_first f) && eqb f.call_id j.call_id && eqb f.part.context j.context) (eqb f.part.op j.op) t.0 in
    let b = and_parts (not (is_first f) && eqb f.call_id j.call_id) (eqb f.part.context j.context) a.0 in
    let d = and_parts (not (is_first f)) (eqb f.call_id j.call_id) b.0 in
    record {
      inner = not_true (is_first f) d.0;
      call_id = eqb-true f.call_id j.call_id d.1 ∙ joined-call_id first fs c;
      context = eqb-true f.part.context j.context b.1 ∙ joined-context first fs c;
      op = eqb-true f.part.op j.op a.1 ∙ joined-op first fs c;
      order = t.1 ∙ joined-order first fs c;
    }

-- what it joins to with the fragment
with_later : (first : Fragment) (behind : List Pdu) (p : Pdu) (f : Fragment) → fragment_of p ≡ f ∷ [] → cancels first.call_id p ≡ false → joined_with first (behind ++ p ∷ []) ≡ with_fragment (Some (joined_with first behind)) f
with_later first behind p f is unmarked =
    let same : fragments (behind ++ p ∷ []) ≡ fragments behind ++ f ∷ [] = fragments_more behind p ∙ ap (λ (x : List Fragment). fragments behind ++ x) is in
    let marked : list_any (cancels first.call_id) (behind ++ p ∷ []) ≡ list_any (cancels first.call_id) behind =
    any_more (cancels first.call_id) behind p ∙ ap (λ (b : Bool). list_any (cancels first.call_id) behind || (b || false)) unmarked ∙ or_false (list_any (cancels first.call_id) behind) in
    (λ i. joined_of first (same i) (marked i)) ∙ joined_last first f (fragments behind) (list_any (cancels first.call_id) behind)

goes_on : (pdus : List Pdu) (p : Pdu) (run : Option Joined) (f : Fragment) → fragment_of p ≡ f ∷ [] → ((id : ℕ) → cancels id p ≡ false) → ((id : ℕ) → orphans id p ≡ false) → IsJoining pdus run
    → IsTaken run f → is_last f ≡ false → IsJoining (pdus ++ p ∷ []) (Some (with_fragment run f))
goes_on pdus p None f is unmarked wanted h t last = (f, [], open_first pdus p f is t.0 last t.2, refl)
goes_on pdus p (Some j) f is unmarked wanted h t last =
    let first = h.0 in
    let behind = h.1 in
    let taken : IsTaken (Some (joined_with first behind)) f = subst (λ (x : Joined). IsTaken (Some x) f) h.3 t in
    let same = with_later first behind p f is (unmarked first.call_id) in
    let g : GoesOn first p = record {
      later = subst (AllByRecursion (IsLater first)) (sym is) (later_of first behind f taken, tt);
      unended = ap (list_any is_last) is ∙ or_from (is_last f) false last refl;
      wanted = wanted first.call_id;
    } in
    let short : length (joined_with first (behind ++ p ∷ [])).stub ≤ most_stub = subst (λ (x : Joined). length x.stub ≤ most_stub) (sym same) taken.2 in
    (first, behind ++ p ∷ [], open_more pdus p first behind h.2 g short, ap (λ (x : Joined). with_fragment (Some x) f) h.3 ∙ sym same)

one_fragment : (a b : Fragment) (later others : List Fragment) → a ∷ later ≡ b ∷ others → a ≡ b
one_fragment a b later others e = cc

-- nothing is being joined after a last fragment
is_over : (pdus : List Pdu) (p : Pdu) (f : Fragment) → fragment_of p ≡ f ∷ [] → is_last f ≡ true → IsJoining (pdus ++ p ∷ []) None
is_over pdus p f is last first behind o = reached (reaches pdus p first behind o)
  where
    reached : Reaches pdus p first behind → ⊥
    reached (at_once alone begins unended e) = true_false (is_last f) last (ap is_last (one_fragment f first [] [] (sym is ∙ alone)) ∙ unended)
    reached (later_on rest e opened g) = true_false (is_last f) last (sym (or_false (is_last f)) ∙ sym (ap (list_any is_last) is) ∙ g.unended)

request_on : (pdus : List Pdu) (p : Pdu) (run new answer : Option Joined) (f : Fragment) → fragment_of p ≡ f ∷ [] → ((id : ℕ) → cancels id p ≡ false) → ((id : ℕ) → orphans id p ≡ false) → IsJoining pdus run
    → AddsFragment (Ok run) f (Ok answer) (Ok new) → IsJoining (pdus ++ p ∷ []) new
request_on pdus p run new None f is unmarked wanted h a =
    subst (IsJoining (pdus ++ p ∷ [])) (sym (ok_same new (Some (with_fragment run f)) a.2)) (goes_on pdus p run f is unmarked wanted h a.0 a.1)
request_on pdus p run new (Some j) f is unmarked wanted h a = subst (IsJoining (pdus ++ p ∷ [])) (sym (ok_same new None a.3)) (is_over pdus p f is a.1)

-- ---- any PDU

changed : (pdus : List Pdu) (p : Pdu) (body : Body) (run new : Option Joined) → p.body ≡ body → IsJoining pdus run → Changes run p body new → IsJoining (pdus ++ p ∷ []) new
changed pdus p (bodies.Request part) run new e h c =
    request_on pdus p run new c.0 (record { order = p.order; flags = p.flags; call_id = p.call_id; part = part }) (ap (fragment_with p) e)
    (λ id. ap (λ (b : Body). is_co_cancel b && eqb id p.call_id) e) (λ id. ap (λ (b : Body). is_orphaned b && eqb id p.call_id) e) h c.1
changed pdus p (bodies.Response part) run new e h c = plain pdus p (bodies.Response part) run new e refl refl refl c h
changed pdus p (bodies.Fault part) run new e h c = plain pdus p (bodies.Fault part) run new e refl refl refl c h
changed pdus p (bodies.Bind part) run new e h c = plain pdus p (bodies.Bind part) run new e refl refl refl c h
changed pdus p (bodies.BindAck part) run new e h c = plain pdus p (bodies.BindAck part) run new e refl refl refl c h
changed pdus p (bodies.BindNak part) run new e h c = plain pdus p (bodies.BindNak part) run new e refl refl refl c h
changed pdus p (bodies.Alter part) run new e h c = plain pdus p (bodies.Alter part) run new e refl refl refl c h
changed pdus p (bodies.AlterResp part) run new e h c = plain pdus p (bodies.AlterResp part) run new e refl refl refl c h
changed pdus p bodies.Shutdown run new e h c = plain pdus p bodies.Shutdown run new e refl refl refl c h
changed pdus p bodies.CoCancel run new e h c = cancel_on pdus p run new c.0 e h c.1
changed pdus p bodies.Orphaned run new e h c = orphan_on pdus p run new c.0 e h c.1

pub runs_go_on : (pdus : List Pdu) (p : Pdu) (run new : Option Joined) → IsJoining pdus run → Changes run p p.body new → IsJoining (pdus ++ p ∷ []) new
runs_go_on pdus p run new h c = changed pdus p p.body run new refl h c

-- ---- a whole run

pub runs_join : (pdus : List Pdu) (run new : Option Joined) (f : Fragment) (j : Joined) → IsJoining pdus run → AddsFragment (Ok run) f (Ok (Some j)) (Ok new) → IsWhole pdus f j
runs_join pdus None new f j h a = record {
  last = a.1;
  short = subst (λ (x : Joined). length x.stub ≤ most_stub) (sym a.2) a.0.2;
  joins = inl (h, a.0.0, a.2);
}
runs_join pdus (Some k) new f j h a =
    let first = h.0 in
    let behind = h.1 in
    let taken : IsTaken (Some (joined_with first behind)) f = subst (λ (x : Joined). IsTaken (Some x) f) h.3 a.0 in
    record {
      last = a.1;
      short = subst (λ (x : Joined). length x.stub ≤ most_stub) (sym a.2) a.0.2;
      joins = inr (
        first,
        behind,
        h.2,
        later_of first behind f taken,
        a.2 ∙ ap (λ (x : Joined). with_fragment (Some x) f) h.3 ∙ sym (joined_last first f (fragments behind) (list_any (cancels first.call_id) behind)),
      );
    }

-- ---- the whole run is taken

-- at most one request is being joined
pub one_joining : (pdus : List Pdu) (a b : Option Joined) → IsJoining pdus a → IsJoining pdus b → a ≡ b
one_joining pdus None None h k = refl
one_joining pdus None (Some j) h k = absurd (h k.0 k.1 k.2)
one_joining pdus (Some j) None h k = absurd (k h.0 h.1 h.2)
one_joining pdus (Some j) (Some l) h k =
    let same = one_open pdus h.0 k.0 h.1 k.1 h.2 k.2 in
    let joined : j ≡ l = h.3 ∙ (λ i. joined_with (same.0 i) (same.1 i)) ∙ sym k.3 in
    λ i. Some (joined i)

in_order : (first : Fragment) (behind : List Pdu) (f : Fragment) → IsLater first f → is_in_order (Some (joined_with first behind)) f ≡ true
in_order first behind f l =
    let fs = fragments behind in
    let c = list_any (cancels first.call_id) behind in
    let j = joined_of first fs c in
    let inner : not (is_first f) ≡ true = ap not l.inner in
    let id : eqb f.call_id j.call_id ≡ true = eq-eqb f.call_id j.call_id (l.call_id ∙ sym (joined-call_id first fs c)) in
    let context : eqb f.part.context j.context ≡ true = eq-eqb f.part.context j.context (l.context ∙ sym (joined-context first fs c)) in
    let op : eqb f.part.op j.op ≡ true = eq-eqb f.part.op j.op (l.op ∙ sym (joined-op first fs c)) in
    and_from (not (is_first f) && eqb f.call_id j.call_id && eqb f.part.context j.context) (eqb f.part.op j.op)
    (and_from (not (is_first f) && eqb f.call_id j.call_id) (eqb f.part.context j.context) (and_from (not (is_first f)) (eqb f.call_id j.call_id) inner id) context) op

abbrev Given : Option Joined → Fragment → Joined → Type 0
Given run f j = AddsFragment (Ok run) f (Ok (Some j)) (Ok None)

alone_taken : (pdus : List Pdu) (run : Option Joined) (f : Fragment) (j : Joined) → IsJoining pdus run → is_last f ≡ true → length j.stub ≤ most_stub → IsAlone pdus f j → Given run f j
alone_taken pdus run f j h last short k =
    let e : None ≡ run = one_joining pdus None run k.0 h in
    let taken : IsTaken None f = (k.1, tt, subst (λ (x : Joined). length x.stub ≤ most_stub) k.2 short) in
    let given : Given None f j = (taken, last, k.2, refl) in
    subst (λ (r : Option Joined). Given r f j) e given

end_taken : (pdus : List Pdu) (run : Option Joined) (f : Fragment) (j : Joined) → IsJoining pdus run → is_last f ≡ true → length j.stub ≤ most_stub → EndsOpen pdus f j → Given run f j
end_taken pdus run f j h last short k =
    let first = k.0 in
    let behind = k.1 in
    let fs = fragments behind in
    let c = list_any (cancels first.call_id) behind in
    let e : Some (joined_with first behind) ≡ run = one_joining pdus (Some (joined_with first behind)) run (first, behind, k.2, refl) h in
    let joins : j ≡ with_fragment (Some (joined_with first behind)) f = k.4 ∙ joined_last first f fs c in
    let taken : IsTaken (Some (joined_with first behind)) f =
    (in_order first behind f k.3, k.3.order ∙ sym (joined-order first fs c), subst (λ (x : Joined). length x.stub ≤ most_stub) joins short) in
    let given : Given (Some (joined_with first behind)) f j = (taken, last, joins, refl) in
    subst (λ (r : Option Joined). Given r f j) e given

taken_by : (pdus : List Pdu) (run : Option Joined) (f : Fragment) (j : Joined) → IsJoining pdus run → is_last f ≡ true → length j.stub ≤ most_stub → IsAlone pdus f j ⊎ EndsOpen pdus f j → Given run f j
taken_by pdus run f j h last short (inl alone) = alone_taken pdus run f j h last short alone
taken_by pdus run f j h last short (inr ends) = end_taken pdus run f j h last short ends

pub whole_taken : (pdus : List Pdu) (run : Option Joined) (f : Fragment) (j : Joined) → IsJoining pdus run → IsWhole pdus f j → Given run f j
whole_taken pdus run f j h w = taken_by pdus run f j h w.last w.short w.joins
