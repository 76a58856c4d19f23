-- What the program does for its words, by what it does to a file.
use Rattle.std.proofs.Common.{◌≡◌, ◌≢◌, ◌⊎◌, ℕ, ◌<◌, Option, List, inl, inr, refl, sym, subst, arith}
use Rattle.rpc_base.specs.Causes.{Rose}
use Rattle.rpc_base.specs.Shelves.{TellsFile}
use Rattle.ndr_table.specs.Tables.{TableForm}
use Rattle.rpc_app.specs.Asks.{FileTask, Task, OfFile, OfLoad, ServeTask, CallTask, Wanted, ToDo, ToServe, ToCall, Asks, AsksFor, AsksToServe, AsksToCall, AsksForNothing}
use Rattle.rpc_app.specs.Obeys.{Obeys, Shelf, Output, IsKept, Put, HasDone, HasRefused, WasCutShort, IsTaken, TellsText, NoneFailed}
use Rattle.rpc_app.specs.Runs.{Gains, GainsFront, words_refusal}
use Rattle.rpc_app.proofs.Told.{task_refused, task_done, task_short, task_text}

abbrev pub IsKnown : ℕ → Type 0
IsKnown status = (status ≡ 0) ⊎ (status ≡ 2) ⊎ (status ≡ 3) ⊎ (status ≡ 4) ⊎ (status ≡ 5)

below_six : (status : ℕ) → IsKnown status → status < 6
below_six status (inl e) = omega arith
below_six status (inr (inl e)) = omega arith
below_six status (inr (inr (inl e))) = omega arith
below_six status (inr (inr (inr (inl e)))) = omega arith
below_six status (inr (inr (inr (inr e)))) = omega arith

not_one : (status : ℕ) → IsKnown status → status ≢ 1
not_one status (inl e) one = absurd (omega arith)
not_one status (inr (inl e)) one = absurd (omega arith)
not_one status (inr (inr (inl e))) one = absurd (omega arith)
not_one status (inr (inr (inr (inl e)))) one = absurd (omega arith)
not_one status (inr (inr (inr (inr e)))) one = absurd (omega arith)

one_task : (x y : Task) → ToDo x ≡ ToDo y → x ≡ y
one_task x y e = cc

-- what is left where nothing failed and the file isn't refused
left_over : (status : ℕ) (store : Shelf) (out log : Output) → IsKnown status → status ≢ 2 → (status ≡ 3 → Rose store.before store.after) → (status ≡ 4 → Rose out.before out.after ⊎ Rose log.before log.after) → NoneFailed store out log → (status ≡ 0) ⊎ (status ≡ 5)
left_over status store out log (inl e) two shelf sinks none = inl e
left_over status store out log (inr (inl e)) two shelf sinks none = absurd (two e)
left_over status store out log (inr (inr (inl e))) two shelf sinks none = absurd (none.0 (shelf e))
left_over status store out log (inr (inr (inr (inl e)))) two shelf sinks none = elim (sinks e) [ inl o ↦ absurd (none.1 o) | inr l ↦ absurd (none.2 l) ]
left_over status store out log (inr (inr (inr (inr e)))) two shelf sinks none = inr e

-- the words ask for a task, and it is done or not
pub obeyed : (given : List (List ℕ)) (store : Shelf) (out log : Output) (status : ℕ) (task : Task) → AsksFor given task → ((other : Wanted) → Asks given other → other ≡ ToDo task)
    → IsKnown status → (status ≡ 0 → HasDone task store out log) → (status ≡ 2 → HasRefused task store out log) → (status ≡ 3 → Rose store.before store.after)
    → (status ≡ 4 → Rose out.before out.after ⊎ Rose log.before log.after) → (status ≡ 4 → WasCutShort task store out log)
    → ((status ≡ 3) ⊎ (status ≡ 5) → IsKept out) → ((status ≡ 3) ⊎ (status ≡ 5) → IsKept log) → Obeys given store out log status
obeyed given store out log status task asks alone known done refused shelf sinks fronts silent quiet =
    let takes = λ (other : FileTask) (echo : Option TableForm) (octets : List ℕ) (a : AsksFor given (OfFile other)) (x : TellsText store.files other.idl echo) (t : TellsFile store.files other.file octets)
    (k : IsTaken echo other.command octets) (e : status ≡ 2).
    let r = subst (λ (z : Task). HasRefused z store out log) (sym (one_task (OfFile other) task (alone (ToDo (OfFile other)) a))) (refused e) in
    task_refused store.files other echo octets r.refusal r.refuses x t k in
    let does = λ (other : FileTask) (a : AsksFor given (OfFile other)) (e : status ≡ 0). subst (λ (z : Task). HasDone z store out log) (sym (one_task (OfFile other) task (alone (ToDo (OfFile other)) a))) (done e) in
    let loads = λ (number steps : ℕ) (a : AsksFor given (OfLoad number steps)) (e : status ≡ 2).
    let r = subst (λ (z : Task). HasRefused z store out log) (sym (one_task (OfLoad number steps) task (alone (ToDo (OfLoad number steps)) a))) (refused e) in
    r.refuses in
    record {
      known = below_six status known;
      done = λ e. (task, asks, done e);
      words = λ e. absurd (not_one status known e);
      outside = λ e. (task, asks, refused e);
      shelf = λ e. (shelf e, (task, asks, tt));
      sinks = sinks;
      fronts = λ e. inr (task, asks, fronts e);
      silent = silent;
      quiet = quiet;
      unknown = λ none. absurd (none (ToDo task) asks);
      taken = λ other echo octets a x t k. (not_one status known, takes other echo octets a x t k);
      refused = λ other echo octets a x t no e.
          let d = does other a e in
          no (task_done store.files other echo octets d.printed d.logged d.does x t);
      too_long = λ other octets a t long. (λ e. let d = does other a e in task_short store.files other octets d.printed d.logged d.does t long, not_one status known);
      text_refused = λ other name octets a i t no. (λ e. let d = does other a e in no (task_text store.files other name octets d.printed d.logged d.does i t), not_one status known);
      complete = λ other echo octets a x t k none. left_over status store out log known (takes other echo octets a x t k) shelf sinks none;
      load_taken = λ number steps a. (not_one status known, loads number steps a);
      load_complete = λ number steps a none. left_over status store out log known (loads number steps a) shelf sinks none;
    }

one_or_four : (status : ℕ) → (status ≡ 1) ⊎ (status ≡ 4) → (status < 6) × (status ≢ 0) × (status ≢ 2) × (status ≢ 3) × (status ≢ 5)
one_or_four status (inl e) = (omega arith, λ z. absurd (omega arith), λ z. absurd (omega arith), λ z. absurd (omega arith), λ z. absurd (omega arith))
one_or_four status (inr e) = (omega arith, λ z. absurd (omega arith), λ z. absurd (omega arith), λ z. absurd (omega arith), λ z. absurd (omega arith))

neither : (status : ℕ) → status ≢ 3 → status ≢ 5 → (status ≡ 3) ⊎ (status ≡ 5) → ⊥
neither status three five (inl e) = three e
neither status three five (inr e) = five e

refused_so : (status : ℕ) → (status ≡ 1) ⊎ (status ≡ 4) → (status ≡ 1) ⊎ (status ≡ 4) ⊎ (status ≡ 5)
refused_so status (inl e) = inl e
refused_so status (inr e) = inr (inl e)

-- the words ask for nothing, and are refused
pub unasked : (given : List (List ℕ)) (store : Shelf) (out log : Output) (status : ℕ) → AsksForNothing given → (status ≡ 1) ⊎ (status ≡ 4) → (status ≡ 1 → Put Gains out words_refusal)
    → (status ≡ 4 → Rose out.before out.after) → (status ≡ 4 → Put GainsFront out words_refusal) → IsKept log → Obeys given store out log status
unasked given store out log status nothing known said failed front kept =
    let no = one_or_four status known in
    record {
      known = no.0;
      done = λ e. absurd (no.1 e);
      words = λ e. (nothing, said e, kept);
      outside = λ e. absurd (no.2 e);
      shelf = λ e. absurd (no.3 e);
      sinks = λ e. inl (failed e);
      fronts = λ e. inl (nothing, front e, kept);
      silent = λ e. absurd (neither status no.3 no.4 e);
      quiet = λ e. kept;
      unknown = λ e. refused_so status known;
      taken = λ other echo octets a x t k. absurd (nothing (ToDo (OfFile other)) a);
      refused = λ other echo octets a x t k. absurd (nothing (ToDo (OfFile other)) a);
      too_long = λ other octets a t k. absurd (nothing (ToDo (OfFile other)) a);
      text_refused = λ other name octets a i t k. absurd (nothing (ToDo (OfFile other)) a);
      complete = λ other echo octets a x t k none. absurd (nothing (ToDo (OfFile other)) a);
      load_taken = λ number steps a. absurd (nothing (ToDo (OfLoad number steps)) a);
      load_complete = λ number steps a none. absurd (nothing (ToDo (OfLoad number steps)) a);
    }

-- memory ran out while the words were read
pub memory : (given : List (List ℕ)) (store : Shelf) (out log : Output) → IsKept out → IsKept log → Obeys given store out log 5
memory given store out log kept quiet = record {
  known = omega arith;
  done = λ e. absurd (omega (arith, e));
  words = λ e. absurd (omega (arith, e));
  outside = λ e. absurd (omega (arith, e));
  shelf = λ e. absurd (omega (arith, e));
  sinks = λ e. absurd (omega (arith, e));
  fronts = λ e. absurd (omega (arith, e));
  silent = λ e. kept;
  quiet = λ e. quiet;
  unknown = λ none. inr (inr refl);
  taken = λ other echo octets a x t k. (λ e. absurd (omega (arith, e)), λ e. absurd (omega (arith, e)));
  refused = λ other echo octets a x t no e. absurd (omega (arith, e));
  too_long = λ other octets a t long. (λ e. absurd (omega (arith, e)), λ e. absurd (omega (arith, e)));
  text_refused = λ other name octets a i t no. (λ e. absurd (omega (arith, e)), λ e. absurd (omega (arith, e)));
  complete = λ other echo octets a x t k none. inr refl;
  load_taken = λ number steps a. (λ e. absurd (omega (arith, e)), λ e. absurd (omega (arith, e)));
  load_complete = λ number steps a none. inr refl;
}

-- words that ask for a task, or for nothing, ask neither for connections nor for calls
module _ (given : List (List ℕ)) (task : Task) (status : ℕ) (alone : (other : Wanted) → Asks given other → other ≡ ToDo task) where
  pub no_server : (server : ServeTask) → AsksToServe given server → status ≡ 5
  no_server server a = absurd (differ server task (alone (ToServe server) a))
    where
      differ : (x : ServeTask) (y : Task) → ToServe x ≡ ToDo y → ⊥
      differ x y e = absurd (cc)

  pub no_caller : (caller : CallTask) → AsksToCall given caller → status ≡ 5
  no_caller caller a = absurd (differ caller task (alone (ToCall caller) a))
    where
      differ : (x : CallTask) (y : Task) → ToCall x ≡ ToDo y → ⊥
      differ x y e = absurd (cc)
