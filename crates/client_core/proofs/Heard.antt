-- What is heard of a response, from its parts.
use Rattle.std.proofs.Common.{◌≡◌, ◌≢◌, ℕ, ◌<◌, inl, inr, true, List, length, arith, Option, Some, None, Ok, Err, refl, ap, subst, ◌∙◌}
use Rattle.std.specs.Prelude.{Result, is_some, slice_get, IfOk}
use Rattle.std.specs.Option.{option_map}
use Rattle.std.proofs.lemmas.Option.{slice_get_cases}
use Rattle.rpc_base.specs.declared.fault.NoMemory.{NoMemory}
use Rattle.pdu_codec.specs.declared.pdu.Pdu.{Pdu}
use Rattle.pdu_codec.specs.declared.pdu.Body.TheVariants as bodies
use Rattle.pdu_codec.specs.declared.pdu.ResponseBody.{ResponseBody}
use Rattle.pdu_stream.specs.declared.joined.Joined.{Joined}
use Rattle.pdu_stream.specs.declared.joined.JoinFault.{JoinFault}
use Rattle.pdu_stream.specs.declared.joined.JoinFault.TheVariants as joins
use Rattle.pdu_stream.specs.Fragments.{Fragment, Joining, AddsFragment}
use Rattle.ndr_value.specs.Values.{msg}
use Rattle.ndr_value.specs.declared.value.Message.{Message}
use Rattle.ndr_table.specs.Tables.{OpForm, TableForm}
use Rattle.ndr_model.specs.declared.way.Way.TheVariants.{Response}
use Rattle.ndr_model.specs.Message.{IsStub, read_stub}
use Rattle.ndr_model.specs.declared.fault.NdrFault.{NdrFault}
use Rattle.ndr_codec.specs.Faults.{Decodes}
use Rattle.client_core.specs.declared.begun.Out.{Out}
use Rattle.client_core.specs.declared.begun.Out.TheVariants as outs
use Rattle.client_core.specs.declared.told.ClientFault.TheVariants.{Direction, Join, Ndr}
use Rattle.client_core.specs.declared.told.Told.{Told}
use Rattle.client_core.specs.declared.told.Told.TheVariants as variants
use Rattle.client_core.specs.States.{Outcome, told, Calling, ClientState, out_with, is_calling}
use Rattle.client_core.specs.Hears.{answer_fragment, joined_so_far, Hears}
use Rattle.client_core.specs.Parts.{joining_in, JoinsOut, Joins, JoinsEach, FragmentTells, FragmentTellsEach, HearsOut, ReadsStub, WholeTells, TellsEach}

-- the call that is out
pub by_call : (call : Option Calling) → is_some call ≡ true → (c : Calling) × (call ≡ Some c)
by_call None h = absurd (cc (h))
by_call (Some c) h = (c, refl)

-- what holds of each call that is out holds of the one that is
pub of_the_call : (s n : ClientState) (f : Fragment) (result : Result (Option Told) NoMemory) → is_calling s ≡ true → FragmentTellsEach s f result n → HearsOut s (Some outs.Call) f result n
of_the_call s n f result out each = let found = by_call s.call out in (found.0, found.1, each found.0 found.1)

pub joins_each : (s n : ClientState) (f : Fragment) (result : Result (Option Joined) JoinFault) → JoinsOut s.call f result n.call → n ≡ record s { call = n.call } → JoinsEach s f result n
joins_each s n f result h same c at =
    let k : JoinsOut (Some c) f result n.call = subst (λ (x : Option Calling). JoinsOut x f result n.call) at h in
    (k.0, same ∙ ap (λ (x : Option Calling). record s { call = x }) k.1)

-- ---- one fragment

-- it isn't the last
pub inner : (s n : ClientState) (c : Calling) (f : Fragment) → Joins s c f (Ok None) n → FragmentTells s c f (Ok None) n
inner s n c f h = (joining_in n.call, h.0, h.1)

-- it doesn't join
pub broken : (s n : ClientState) (c : Calling) (f : Fragment) (why : JoinFault) → why ≢ joins.Memory → Joins s c f (Err why) n → FragmentTells s c f (Ok (Some (variants.Broken (Join why)))) n
broken s n c f why known h = (known, joining_in n.call, h.0, h.1)

-- there is no memory to join it
pub short : (s n : ClientState) (c : Calling) (f : Fragment) (e : NoMemory) → Joins s c f (Err joins.Memory) n → FragmentTells s c f (Err e) n
short s n c f e h = (joining_in n.call, inl h.0, h.1)

-- with it the response is whole
tells : (s n : ClientState) (c : Calling) (f : Fragment) (j : Joined) (joining : Joining) (result : Result (Option Told) NoMemory) → AddsFragment c.joining f (Ok (Some j)) joining
    → WholeTells (joined_so_far s c joining) (record c { joining = joining }) j result n → FragmentTells s c f result n
tells s n c f j joining (Ok None) adds w = absurd w
tells s n c f j joining (Ok (Some (variants.Bound group))) adds w = absurd w
tells s n c f j joining (Ok (Some (variants.NotBound reason))) adds w = absurd w
tells s n c f j joining (Ok (Some (variants.Done m))) adds w = (j, joining, adds, w.0, w.1)
tells s n c f j joining (Ok (Some (variants.Fault status not_run))) adds w = absurd w
tells s n c f j joining (Ok (Some (variants.Broken Direction))) adds w = absurd w
tells s n c f j joining (Ok (Some (variants.Broken (Join why)))) adds w = absurd w
tells s n c f j joining (Ok (Some (variants.Broken (Ndr why)))) adds w = (j, joining, adds, w.0, w.1)
tells s n c f j joining (Err e) adds w = (joining, inr (j, adds), w)

pub whole : (s mid n : ClientState) (c : Calling) (f : Fragment) (j : Joined) (result : Result (Option Told) NoMemory) → Joins s c f (Ok (Some j)) mid → TellsEach mid j result n → FragmentTells s c f result n
whole s mid n c f j result h each =
    let joining = joining_in mid.call in
    let d : Calling = record c { joining = joining } in
    let w : WholeTells mid d j result n = each d (ap (λ (x : ClientState). x.call) h.1) in
    tells s n c f j joining result h.0 (subst (λ (x : ClientState). WholeTells x d j result n) h.1 w)

-- ---- the PDU

-- what an answer tells
abbrev told_of : Result (Option Told) NoMemory → Option Outcome
told_of (Ok t) = option_map told t
told_of (Err e) = None

heard_by : (out : Option Out) (s n : ClientState) (p : Pdu) (b : ResponseBody) (result : Result (Option Told) NoMemory) → out_with s p.call_id ≡ out → HearsOut s out (answer_fragment p b) result n
    → p.body ≡ bodies.Response b → Hears s p result n
heard_by None s n p b (Ok t) is (said, same) body = rw (body, is) ((ap told_of said), same)
heard_by None s n p b (Err e) is (said, same) body = absurd (cc (said))
heard_by (Some outs.Bind) s n p b (Ok t) is (said, same) body = rw (body, is) ((ap told_of said), same)
heard_by (Some outs.Bind) s n p b (Err e) is (said, same) body = absurd (cc (said))
heard_by (Some outs.Alter) s n p b (Ok t) is (said, same) body = rw (body, is) ((ap told_of said), same)
heard_by (Some outs.Alter) s n p b (Err e) is (said, same) body = absurd (cc (said))
heard_by (Some outs.Call) s n p b (Ok t) is h body = rw (body, is) h
heard_by (Some outs.Call) s n p b (Err e) is (c, at, h) body = rw (body, is) (refl, c, at, h)

pub heard : (s n : ClientState) (p : Pdu) (b : ResponseBody) (result : Result (Option Told) NoMemory) → HearsOut s (out_with s p.call_id) (answer_fragment p b) result n → p.body ≡ bodies.Response b → Hears s p result n
heard s n p b result h body = heard_by (out_with s p.call_id) s n p b result refl h body

-- ---- the whole response

pub found_op : {A : Type 0} (xs : List A) (k : ℕ) → k < length xs → (x : A) × (slice_get xs k ≡ Some x)
found_op xs k lt = elim (slice_get_cases xs k).1 [
  | inl at ↦ (at.0, at.2)
  | inr past ↦ absurd (omega (arith, lt, past.0))
]

pub reads : (t : TableForm) (c : Calling) (j : Joined) (result : Result Message NdrFault) → c.op < length t.ops
    → IfOk result (λ (m : Message). (o : OpForm) → slice_get t.ops c.op ≡ Some o → IsStub t.types o Response j.order (Some c.message) (msg m) j.stub)
    → ((o : OpForm) → slice_get t.ops c.op ≡ Some o → Decodes result (read_stub t.types o Response j.order (Some c.message) j.stub)) → ReadsStub t c j result
reads t c j (Ok m) lt found exact = let o = found_op t.ops c.op lt in (o.0, o.1, found o.0 o.1)
reads t c j (Err why) lt found exact = λ known. (let o = found_op t.ops c.op lt in (o.0, o.1, known, exact o.0 o.1))
