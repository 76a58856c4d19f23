-- What became of the handles of a call that ended, and what its caller was told of them.
use Rattle.std.proofs.Common.{◌≡◌, ℕ, zero, suc, ◌+◌, ◌≤◌, Bool, true, false, ◌||◌, cond, Some, None, List, [], ◌∷◌, ◌++◌, length, refl, sym, ap, subst, ◌∙◌, append_assoc, arith}
use Rattle.std.specs.Prelude.{slice_get, filter}
use Rattle.std.specs.List.{list_any}
use Rattle.std.proofs.lemmas.Bool.{eq-eqb}
use Rattle.rpc_base.specs.declared.identifiers.Order.{Order}
use Rattle.rpc_base.specs.declared.identifiers.Order.TheVariants.{Little}
use Rattle.rpc_base.specs.declared.identifiers.WireHandle.{WireHandle}
use Rattle.handle_model.specs.declared.entry.Asked.{Asked}
use Rattle.handle_model.specs.declared.entry.Outcome.{Outcome}
use Rattle.handle_model.specs.declared.entry.Said.{Said}
use Rattle.handle_model.specs.declared.entry.Said.TheVariants.{Out}
use Rattle.handle_model.specs.declared.entry.Entry.{Entry}
use Rattle.handle_model.specs.declared.entry.Entry.TheVariants.{Accept, End}
use Rattle.handle_model.specs.Entries.{issues, issues_in, ends}
use Rattle.handle_model.specs.Since.{any_since}
use Rattle.handle_model.specs.Calls.{asked}
use Rattle.handle_model.specs.Handles.{is_issued}
use Rattle.handle_model.specs.Rules.{Legal}
use Rattle.handle_model.proofs.Older.{older_legal}
use Rattle.handle_model.proofs.Accepted.{asked_stays, asks_as_accepted}
use Rattle.handle_model.proofs.Held.{opened_small}
use Rattle.handle_model.proofs.LiveNames.{issued_within}
use Rattle.handle_model.specs.Bases.{empty_base}
use Rattle.pdu_stream.specs.Fragments.{most_stub}
use Rattle.ndr_value.specs.Values.{Msg}
use Rattle.ndr_table.specs.Tables.{OpForm, TableForm}
use Rattle.ndr_model.specs.declared.way.Way.TheVariants.{Request, Response}
use Rattle.ndr_model.specs.Message.{IsStub}
use Rattle.ndr_model.specs.Written.{stub}
use Rattle.ndr_model.specs.Fits.{IsOfOp}
use Rattle.ndr_laws.specs.Laws.{OneMessage}
use Rattle.ndr_laws.specs.WrittenLaws.{WrittenIsStub}
use Rattle.manager_api.specs.declared.answer.Kept.{Kept}
use Rattle.manager_api.specs.Calls.{uses_at, has_kepts}
use Rattle.conn_histories.specs.Requests.{IsAsked}
use Rattle.conn_histories.specs.Ends.{outcomes_of, with_wires, wires_at}
use Rattle.world_laws.specs.Journals.{home, journal}
use Rattle.world_laws.specs.Ends.{Row}
use Rattle.world_laws.specs.Keeping.{all_go, IsWholeTable}
use Rattle.world_laws.proofs.Lists.{some_is}
use Rattle.world_laws.proofs.Fates.{counted, more_counted}
use Rattle.world_laws.proofs.Finishing.{IsFinished}
use Rattle.world_laws.proofs.WireCount.{count_in, wires_are}
use Rattle.world_laws.proofs.Rewired.{AllFit, with_others, wires_fit}
use Rattle.world_laws.proofs.Handles.{outs_count, IssuesFit, outs_fit}
use Rattle.world_laws.proofs.RowCalls.{is_op, RowCall, RowAccepted}
use Rattle.world_laws.proofs.RowCalls.{asked_one}

-- ---- the journal

-- behind the newer entries
pub split : (newer older : List Entry) (e : Entry) → (newer ++ e ∷ []) ++ older ≡ newer ++ e ∷ older
split newer older e = append_assoc newer (e ∷ []) older

pub older_is : (past newer older : List Entry) (e : Entry) → past ≡ newer ++ e ∷ older → Legal (journal past) → Legal (journal (e ∷ older))
older_is past newer older e is legal = older_legal (journal (e ∷ older)) newer (subst (λ (x : List Entry). Legal (journal x)) is legal)

-- what was asked before an End is what was accepted
pub asked_is : (past n1 o1 n2 o2 : List Entry) (k : ℕ) (a b : Asked) (e : Entry) → Legal (journal past) → past ≡ n1 ++ Accept k a ∷ o1 → past ≡ n2 ++ e ∷ o2 → asked (journal o2) k ≡ Some b → b ≡ a
asked_is past n1 o1 n2 o2 k a b e legal accepted ended was =
    let first : asked (journal past) k ≡ Some a = subst (λ (x : List Entry). asked (journal x) k ≡ Some a) (sym accepted) (asks_as_accepted (journal o1) n1 k a (subst (λ (x : List Entry). Legal (journal x)) accepted legal)) in
    let whole : (n2 ++ e ∷ []) ++ o2 ≡ past = split n2 o2 e ∙ sym ended in
    let second : asked (journal past) k ≡ Some b =
    subst (λ (x : List Entry). asked (journal x) k ≡ Some b) whole (asked_stays (journal o2) (n2 ++ e ∷ []) k b (subst (λ (x : List Entry). Legal (journal x)) (sym whole) legal) was) in
    some_is b a (sym second ∙ first)

-- a call has one End
end_results : (k : ℕ) (r1 r2 : List Outcome) (s1 s2 : Said) (o1 o2 : List Entry) → End k r1 s1 ∷ o1 ≡ End k r2 s2 ∷ o2 → r1 ≡ r2
end_results k r1 r2 s1 s2 o1 o2 e = cc

tails : (x y : Entry) (xs ys : List Entry) → x ∷ xs ≡ y ∷ ys → xs ≡ ys
tails x y xs ys e = cc

heads : (x y : Entry) (xs ys : List Entry) → x ∷ xs ≡ y ∷ ys → x ≡ y
heads x y xs ys e = cc

counts_here : (k : ℕ) (x : Entry) (past : List Entry) → ends k x ≡ true → length (filter (ends k) (x ∷ past)) ≡ 1 + length (filter (ends k) past)
counts_here k x past e = by (ends k x) e
  where
    by : (b : Bool) → b ≡ true → length (cond b (x ∷ filter (ends k) past) (filter (ends k) past)) ≡ 1 + length (filter (ends k) past)
    by true h = omega arith
    by false h = absurd (cc (h))

pub one_end : (n1 n2 : List Entry) (k : ℕ) (r1 r2 : List Outcome) (s1 s2 : Said) (o1 o2 : List Entry) → n1 ++ End k r1 s1 ∷ o1 ≡ n2 ++ End k r2 s2 ∷ o2 → length (filter (ends k) (n1 ++ End k r1 s1 ∷ o1)) ≤ 1 → r1 ≡ r2
one_end [] [] k r1 r2 s1 s2 o1 o2 e few = end_results k r1 r2 s1 s2 o1 o2 e
one_end [] (y ∷ n2) k r1 r2 s1 s2 o1 o2 e few =
    let rest : o1 ≡ n2 ++ End k r2 s2 ∷ o2 = tails (End k r1 s1) y o1 (n2 ++ End k r2 s2 ∷ o2) e in
    let some = counted (ends k) n2 o2 (End k r2 s2) (eq-eqb k k refl) in
    absurd (omega (arith, few, counts_here k (End k r1 s1) o1 (eq-eqb k k refl), ap (λ (x : List Entry). length (filter (ends k) x)) rest, some))
one_end (x ∷ n1) [] k r1 r2 s1 s2 o1 o2 e few =
    let first : x ≡ End k r2 s2 = heads x (End k r2 s2) (n1 ++ End k r1 s1 ∷ o1) o2 e in
    let some = counted (ends k) n1 o1 (End k r1 s1) (eq-eqb k k refl) in
    absurd (omega (arith, few, counts_here k x (n1 ++ End k r1 s1 ∷ o1) (ap (ends k) first ∙ eq-eqb k k refl), some))
one_end (x ∷ n1) (y ∷ n2) k r1 r2 s1 s2 o1 o2 e few =
    let fewer = more_counted (ends k) (x ∷ []) (n1 ++ End k r1 s1 ∷ o1) in
    one_end n1 n2 k r1 r2 s1 s2 o1 o2 (tails x y (n1 ++ End k r1 s1 ∷ o1) (n2 ++ End k r2 s2 ∷ o2) e) (omega (arith, fewer, few))

-- ---- the handles that are issued

or_first : (a b : Bool) → a ≡ true → (a || b) ≡ true
or_first true b e = refl
or_first false b e = absurd (cc (e))

or_second : (a b : Bool) → b ≡ true → (a || b) ≡ true
or_second true b e = refl
or_second false b e = e

any_here : (p : Entry → Bool) (newer older : List Entry) (e : Entry) → p e ≡ true → any_since false p (newer ++ e ∷ older) ≡ true
any_here p [] older e h = or_first (p e) (any_since false p older) h
any_here p (x ∷ newer) older e h = or_second (p x) (any_since false p (newer ++ e ∷ older)) (any_here p newer older e h)

pub any_more : (p : Entry → Bool) (newer older : List Entry) → any_since false p older ≡ true → any_since false p (newer ++ older) ≡ true
any_more p [] older h = h
any_more p (x ∷ newer) older h = or_second (p x) (any_since false p (newer ++ older)) (any_more p newer older h)

pub issued_here : (past newer older : List Entry) (k n : ℕ) (results : List Outcome) (said : Said) → past ≡ newer ++ End k results said ∷ older → list_any (issues n) results ≡ true → is_issued (journal past) n ≡ true
issued_here past newer older k n results said is h = subst (λ (x : List Entry). is_issued (journal x) n ≡ true) (sym is) (any_here (issues_in n) newer older (End k results said) h)

-- their serials are small
pub issues_fit : (past newer older : List Entry) (k : ℕ) (results : List Outcome) (said : Said) → Legal (journal past) → past ≡ newer ++ End k results said ∷ older → IssuesFit home results
issues_fit past newer older k results said legal is n h =
    let issued = issued_here past newer older k n results said is h in
    let low = (issued_within (journal past) n legal issued).1 in
    let small = opened_small home empty_base past legal in
    record { attributes = omega arith; id = omega (arith, low, small) }

-- ---- the End of a row's call

-- what it said, and what is the message that it said
pub record RowEnd (table : TableForm) (r : Row) (a : Asked) (results : List Outcome) (said : Said) : Type 0 where
  pub kepts : List Kept
  pub results_are : results ≡ outcomes_of a.slots kepts
  pub kepts_are : has_kepts (uses_at table r.op) kepts ≡ true
  pub answer : Msg
  pub message : (o : OpForm) (m : Msg) (octets : List ℕ) → slice_get table.ops r.op ≡ Some o → said ≡ Out octets → IsStub table.types o Response Little (Some r.message) m octets → m ≡ with_wires answer (wires_at home a.slots results)

said_is : (a b : List ℕ) → Out a ≡ Out b → a ≡ b
said_is a b e = cc

-- octets that were written are those of one message
one_read : (table : TableForm) (op : ℕ) (o p : OpForm) (order : Order) (q asked m n : Msg) (octets read : List ℕ) (outs : List WireHandle) → OneMessage → WrittenIsStub → IsWholeTable table → slice_get table.ops op ≡ Some o
    → IsOfOp table.types o Response (Some asked) m → length outs ≡ count_in Response (uses_at table op) → AllFit outs → octets ≡ stub table.types o Response order (Some asked) (with_wires m outs) → length octets ≤ most_stub
    → order ≡ Little → asked ≡ q → octets ≡ read → slice_get table.ops op ≡ Some p → IsStub table.types p Response Little (Some q) n read → n ≡ with_wires m outs
one_read table op o p order q asked m n octets read outs one written t at of_op count fit octets_are short little asked_q same at2 stub_is =
    let whole = is_op table op o t at in
    let good = with_others table.types o Response (Some asked) m outs of_op (count ∙ sym (wires_are Response table.types table.ops table.uses op o (Some asked) m t.sound at of_op)) fit in
    let mine : IsStub table.types o Response order (Some asked) (with_wires m outs) octets =
    subst (λ (x : List ℕ). IsStub table.types o Response order (Some asked) (with_wires m outs) x) (sym octets_are)
    (written table.types o Response order (Some asked) (with_wires m outs) whole good (omega (arith, short, ap length octets_are))) in
    let theirs : IsStub table.types o Response order (Some asked) n octets =
    subst (λ (x : List ℕ). IsStub table.types o Response order (Some asked) n x) (sym same)
    (subst (λ (x : Msg). IsStub table.types o Response order (Some x) n read) (sym asked_q)
    (subst (λ (x : Order). IsStub table.types o Response x (Some q) n read) (sym little)
    (subst (λ (x : OpForm). IsStub table.types x Response Little (Some q) n read) (some_is p o (sym at2 ∙ at)) stub_is))) in
    one table.types o Response order (Some asked) octets n (with_wires m outs) whole theirs mine

-- its operation
finished_found : (table : TableForm) (iface op : ℕ) (order : Order) (octets : List ℕ) (m : Msg) (a : IsAsked (table ∷ []) iface op order octets m) → slice_get table.ops op ≡ Some a.operation
finished_found table zero op order octets m a = a.found
finished_found table (suc n) op order octets m a = absurd (cc (a.found))

-- by what was asked itself
end_of : (table : TableForm) (past newer older : List Entry) (k : ℕ) (r : Row) (results : List Outcome) (said : Said) (f : IsFinished table older k results said) → OneMessage → WrittenIsStub → IsWholeTable table → all_go table r.op ≡ true
    → Legal (journal past) → past ≡ newer ++ End k results said ∷ older → RowCall table r f.asked → RowEnd table r f.asked results said
end_of table past newer older k r results said f one written t go legal is c =
    let b = asked_one table f.asked.iface f.asked.op f.asked.order f.asked.stub f.message f.is in
    let message_is : f.message ≡ r.message = c.message b.operation f.message b.found b.is in
    let types_op : slice_get table.ops f.asked.op ≡ slice_get table.ops r.op = ap (slice_get table.ops) c.op in
    let kepts_are : has_kepts (uses_at table r.op) f.kepts ≡ true = subst (λ (x : ℕ). has_kepts (uses_at table x) f.kepts ≡ true) c.op f.owes.1 in
    let outs = wires_at home f.asked.slots results in
    let count : length outs ≡ count_in Response (uses_at table r.op) =
    ap (λ (x : List Outcome). length (wires_at home f.asked.slots x)) f.results_are ∙ outs_count home f.kepts c.slots kepts_are go in
    let fit : AllFit outs = outs_fit home results c.slots (wires_fit table.types c.operation Request None r.message c.of_op) (issues_fit past newer older k results said legal is) in
    record {
      kepts = f.kepts;
      results_are = f.results_are;
      kepts_are = kepts_are;
      answer = f.answer;
      message = λ o m octets found says stub_is.
          one_read table r.op f.is.operation o f.asked.order r.message f.message f.answer m f.octets octets outs one written t
          (sym types_op ∙ finished_found table f.asked.iface f.asked.op f.asked.order f.asked.stub f.message f.is) (f.owes.0 f.is.operation (finished_found table f.asked.iface f.asked.op f.asked.order f.asked.stub f.message f.is)) count fit f.octets_are f.short c.order message_is
          (said_is f.octets octets (sym f.said_is ∙ says)) found stub_is;
    }

-- the End of a row's call by what was accepted
pub row_end : (table : TableForm) (past newer older : List Entry) (k : ℕ) (r : Row) (results : List Outcome) (said : Said) → OneMessage → WrittenIsStub → IsWholeTable table → all_go table r.op ≡ true → Legal (journal past)
    → past ≡ newer ++ End k results said ∷ older → (w : RowAccepted table past k r) → IsFinished table older k results said → RowEnd table r w.asked results said
row_end table past newer older k r results said one written t go legal is w f =
    let same : f.asked ≡ w.asked = asked_is past w.newer w.older newer older k w.asked f.asked (End k results said) legal w.is is f.asks in
    let call : RowCall table r f.asked = subst (λ (x : Asked). RowCall table r x) (sym same) w.call in
    subst (λ (x : Asked). RowEnd table r x results said) same (end_of table past newer older k r results said f one written t go legal is call)
