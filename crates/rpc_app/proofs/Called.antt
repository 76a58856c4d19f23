-- What the program does for words that ask for calls, by what came of them.
use Rattle.std.proofs.Common.{◌≡◌, ◌≢◌, ◌⊎◌, ◌∙◌, ℕ, ◌<◌, ◌≤◌, Option, Some, None, List, length, inl, inr, refl, sym, subst, ap, arith}
use Rattle.rpc_base.specs.Causes.{Rose}
use Rattle.rpc_base.specs.Shelves.{Files, TellsFile}
use Rattle.rpc_outside.specs.Links.{Shown}
use Rattle.rpc_outside.specs.Dials.{DialShown}
use Rattle.ndr_table.specs.Tables.{TableForm}
use Rattle.client_script.specs.declared.calling.CallEnd.{CallEnd}
use Rattle.client_script.specs.declared.calling.CallEnd.TheVariants as ends
use Rattle.client_script.specs.Scripts.{Ends}
use Rattle.rpc_app.specs.declared.command.Command.TheVariants.{Idl}
use Rattle.rpc_app.specs.Asks.{CallTask}
use Rattle.rpc_app.specs.Commands.{call_limit}
use Rattle.rpc_app.specs.Runs.{Gains, GainsFront, IsLoaded}
use Rattle.rpc_app.specs.Obeys.{Shelf, Output, IsKept, Put, IsTaken}
use Rattle.rpc_app.specs.Calling.{Dialling, IsUndialled, HasInterface, RefusesCall, TellsCall, status_of, printed_of, IsSaid, IsTold, CallsNothing, NoneFailed, HasCalled, HasToldAll, CallsWith, CallsSo, called, refused, unloaded, forgotten, CallsFor}
use Rattle.rpc_app.specs.Serving.{Outweighs}
use Rattle.rpc_app.proofs.Told.{told_has, told_is, text_refused, text_served}

-- files that are told and taken aren't refused
not_refused : (files : Option Files) (task : CallTask) (said : List ℕ) → RefusesCall files task said → TellsCall files task → ⊥
not_refused files task said (inl r) t = text_refused files (Some task.idl) t.interface said r t.text
not_refused files task said (inr r) t =
    let long : call_limit < length t.script = told_has files task.script t.script (λ file. call_limit < length file) t.told r.2.file in
    let short = t.short in
    absurd (omega arith)

-- what is said at 2 has the status 2 or 4
two_or_four : (out : Output) (said : List ℕ) (status : ℕ) → IsSaid out said 2 status → (status ≡ 2) ⊎ (status ≡ 4)
two_or_four out said status (inl s) = inl s.1
two_or_four out said status (inr (front, rose, inl both)) = absurd (omega (arith, both.0))
two_or_four out said status (inr (front, rose, inr both)) = inr both.1

four_or_seven : (status result : ℕ) → Outweighs status result → (result ≡ 4) ⊎ (result ≡ 7)
four_or_seven status result (inl both) = inr both.1
four_or_seven status result (inr both) = inl both.1

module _ {K : Type 0} (shows : K → Shown) (task : CallTask) (store : Shelf) (dial : Dialling K) (out : Output) (status : ℕ) where
  -- what was played is said otherwise
  said_so : (end : CallEnd) (P Q : List ℕ → Type 0) (h : HasCalled shows task store dial end P) → Q h.told → HasCalled shows task store dial end Q
  said_so end P Q h q = record { interface = h.interface; has_interface = h.has_interface; script = h.script; loaded = h.loaded; told = h.told; ends = h.ends; said = q }

  -- status 2 is that of a line
  at_two : (end : CallEnd) (h : HasCalled shows task store dial end (IsTold out end status)) → IsTold out end status h.told → status ≡ 2 → (n : ℕ) × HasToldAll shows task store dial (ends.Line n) out
  at_two (ends.Line n) h (inl (apart, inl s)) e = (n, said_so (ends.Line n) (IsTold out (ends.Line n) status) (λ told. Put Gains out (printed_of (ends.Line n) told)) h s.0)
  at_two ends.Done h (inl (apart, inl s)) e = absurd (omega (arith, s.1, e))
  at_two ends.Failed h (inl (apart, inl s)) e = absurd (omega (arith, s.1, e))
  at_two ends.Lost h (inl (apart, inl s)) e = absurd (omega (arith, s.1, e))
  at_two ends.DialFault h (inl (apart, inl s)) e = absurd (omega (arith, s.1, e))
  at_two ends.Memory h (inl (apart, inl s)) e = absurd (apart refl)
  at_two end h (inl (apart, inr s)) e = elim (four_or_seven (status_of end) status s.2) [ inl four ↦ absurd (omega (arith, four, e)) | inr seven ↦ absurd (omega (arith, seven, e)) ]
  at_two end h (inr kept) e = absurd (omega (arith, kept.1, e))

  taken : CallsSo shows task store dial out status → TellsCall store.files task → status ≡ 2 → (n : ℕ) × HasToldAll shows task store dial (ends.Line n) out
  taken (called end h) t e = at_two end h h.said e
  taken (refused said r s u) t e = absurd (not_refused store.files task said r t)
  taken (unloaded rose kept u three) t e = absurd (omega (arith, three, e))
  taken (forgotten kept u five) t e = absurd (omega (arith, five, e))

  -- without a script that was played nothing is called
  nothing : (c : CallsSo shows task store dial out status) → ((end : CallEnd) (P : List ℕ → Type 0) → HasCalled shows task store dial end P → ⊥) → CallsNothing dial status
  nothing (called end h) none = absurd (none end (IsTold out end status) h)
  nothing (refused said r s u) none = (u, elim (two_or_four out said status s) [ inl two ↦ inl two | inr four ↦ inr (inr (inl four)) ])
  nothing (unloaded rose kept u three) none = (u, inr (inl three))
  nothing (forgotten kept u five) none = (u, inr (inr (inr five)))

  -- the text of the interface isn't taken
  no_text : (octets : List ℕ) → TellsFile store.files task.idl octets → (IsTaken None Idl octets → ⊥) → (end : CallEnd) (P : List ℕ → Type 0) → HasCalled shows task store dial end P → ⊥
  no_text octets t untaken end P h = untaken (text_served store.files (Some task.idl) (Some h.interface) task.idl octets h.has_interface refl t)

  -- the script is too long
  no_script : (octets : List ℕ) → TellsFile store.files task.script octets → call_limit < length octets → (end : CallEnd) (P : List ℕ → Type 0) → HasCalled shows task store dial end P → ⊥
  no_script octets t long end P h =
      let same : octets ≡ h.script = told_is store.files task.script octets h.script t h.loaded.file in
      let short = h.loaded.short in
      absurd (omega (arith, ap length same))

  abbrev IsComplete : Type 0
  IsComplete = (status ≡ 5) ⊎ ((end : CallEnd) × (end ≢ ends.DialFault) × (end ≢ ends.Memory) × HasToldAll shows task store dial end out × (status ≡ status_of end))

  -- the dial didn't fail
  no_fault : (end : CallEnd) (P : List ℕ → Type 0) → HasCalled shows task store dial end P → (Rose dial.before.faults dial.after.faults → ⊥) → end ≢ ends.DialFault
  no_fault end P h none e = none (failed (subst (λ (x : CallEnd). Ends shows h.interface h.script task.at dial.before h.told x dial.after) e h.ends))
    where
      failed : Ends shows h.interface h.script task.at dial.before h.told ends.DialFault dial.after → Rose dial.before.faults dial.after.faults
      failed r = r.5

  all_told : (end : CallEnd) (h : HasCalled shows task store dial end (IsTold out end status)) → IsTold out end status h.told → NoneFailed store dial out → IsComplete
  all_told end h (inl (apart, inl s)) none =
      inr (end, no_fault end (IsTold out end status) h none.2, apart, said_so end (IsTold out end status) (λ told. Put Gains out (printed_of end told)) h s.0, s.1)
  all_told end h (inl (apart, inr s)) none = absurd (none.1 s.1)
  all_told end h (inr kept) none = inl kept.1

  complete : CallsSo shows task store dial out status → TellsCall store.files task → NoneFailed store dial out → IsComplete
  complete (called end h) t none = all_told end h h.said none
  complete (refused said r s u) t none = absurd (not_refused store.files task said r t)
  complete (unloaded rose kept u three) t none = absurd (none.0 rose)
  complete (forgotten kept u five) t none = inl five

  pub calls_for : CallsSo shows task store dial out status → CallsFor shows task store dial out status
  calls_for c = record {
    comes = c;
    taken = taken c;
    refused = λ octets t untaken. nothing c (no_text octets t untaken);
    too_long = λ octets t long. nothing c (no_script octets t long);
    complete = complete c;
  }

  -- a script was played
  pub played : (interface : TableForm) (script : List ℕ) → HasInterface store.files task.idl interface → IsLoaded call_limit store.files task.script script
      → CallsWith shows interface script task.at dial out status → CallsFor shows task store dial out status
  played interface script has loaded w =
      calls_for (called w.0 (record { interface = interface; has_interface = has; script = script; loaded = loaded; told = w.1; ends = w.2; said = w.3 }))

  -- a file was refused, and that was said or not
  said_of : (said : List ℕ) → (status ≡ 2) ⊎ (status ≡ 4) → (status ≡ 2 → Put Gains out said) → (status ≡ 4 → Rose out.before out.after) → (status ≡ 4 → Put GainsFront out said) → IsSaid out said 2 status
  said_of said (inl two) whole rose front = inl (whole two, two)
  said_of said (inr four) whole rose front = inr (front four, rose four, inr (λ e. absurd (omega (arith, e)), four))

  pub refused_so : (said : List ℕ) → RefusesCall store.files task said → (status ≡ 2) ⊎ (status ≡ 4) → (status ≡ 2 → Put Gains out said) → (status ≡ 4 → Rose out.before out.after)
      → (status ≡ 4 → Put GainsFront out said) → IsUndialled dial → CallsFor shows task store dial out status
  refused_so said r known whole rose front u = calls_for (refused said r (said_of said known whole rose front) u)

  -- the shelf failed, or memory ran out, before a link was opened
  pub shelf_failed : Rose store.before store.after → IsKept out → IsUndialled dial → status ≡ 3 → CallsFor shows task store dial out status
  shelf_failed rose kept u three = calls_for (unloaded rose kept u three)

  pub memory_out : IsKept out → IsUndialled dial → status ≡ 5 → CallsFor shows task store dial out status
  memory_out kept u five = calls_for (forgotten kept u five)
