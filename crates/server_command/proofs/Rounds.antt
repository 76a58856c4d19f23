-- What is known behind a round.
use Rattle.std.proofs.Common.{◌≡◌, ℕ, ◌+◌, ◌<◌, ◌≤◌, Bool, Result, Ok, Err, IfOk, IfErr, List, inl, inr, refl, sym, subst, arith, length}
use Rattle.rpc_base.specs.Causes.{Rose}
use Rattle.rpc_base.specs.declared.fault.OutFault.{OutFault}
use Rattle.rpc_base.specs.declared.fault.OutFault.TheVariants as faults
use Rattle.rpc_outside.specs.Links.{Shown}
use Rattle.rpc_outside.specs.Doors.{DoorShown, ListensAt, Listens}
use Rattle.rpc_outside.specs.declared.address.Address.{Address}
use Rattle.handle_model.specs.declared.entry.DueItem.{DueItem}
use Rattle.ndr_table.specs.Tables.{TableForm}
use Rattle.manager_api.specs.Answers.{Ans}
use Rattle.manager_api.specs.Calls.{Call}
use Rattle.group_hub.specs.declared.hub.Hub.{Hub}
use Rattle.group_hub.specs.declared.pass.Pass.{Pass}
use Rattle.group_hub.specs.Passes.{IsPassOf}
use Rattle.server_rounds.specs.declared.round.Round.{Round}
use Rattle.server_rounds.specs.declared.round.Stop.{Stop}
use Rattle.server_rounds.specs.declared.round.Stop.TheVariants.{Done, DoorClosed, DoorFault, Memory}
use Rattle.server_rounds.specs.Rounds.{IsRound, Stops}
use Rattle.server_rounds.specs.Desks.{RoundHad}
use Rattle.server_command.specs.Desks.{ServesHad}
use Rattle.server_command.specs.Doors.{links_in, AreOut, TakesBack}
use Rattle.server_command.specs.Serves.{IsFirst, IsOver, Serves, HasFailed, IsWhy, fault_with}
use Rattle.server_command.proofs.Doors.{are_out}
use Rattle.server_command.proofs.Groups.{copies_ended}
use Rattle.server_command.proofs.Logged.{logged}
use Rattle.server_command.proofs.Apart.{apart}
use Rattle.server_command.proofs.Connections.{hold}
use Rattle.server_command.proofs.Statuses.{rose_later}

pub if_err : {T E : Type 0} (P Q : E → Type 0) (r : Result T E) → ((x : E) → P x → Q x) → IfErr r P → IfErr r Q
if_err P Q (Ok x) f h = h
if_err P Q (Err e) f h = f e h

pub if_ok : {T E : Type 0} (P Q : T → Type 0) (r : Result T E) → ((x : T) → P x → Q x) → IfOk r P → IfOk r Q
if_ok P Q (Ok x) f h = f x h
if_ok P Q (Err e) f h = h

module _ {K : Type 0} (shows : K → Shown) (may : Call → Bool → Ans → Type 0) (tables : List TableForm) where
  few_of : (a b : DoorShown K) (most count : ℕ) (stop : Stop) → Stops a b most count stop → count ≤ most
  few_of a b most count Done s = omega (arith, s)
  few_of a b most count DoorClosed s = let low = s.0 in omega (arith, low)
  few_of a b most count DoorFault s = let low = s.0 in omega (arith, low)
  few_of a b most count Memory s = omega (arith, s)

  -- there are no more connections than there were to be, and their links are out
  pub few : (h : Hub) (p : Pass) (a b : DoorShown K) (most : ℕ) (r : Round K) → IsRound shows may tables h p a most r b → most ≤ 1000000 → length r.finished.items ≤ 1000000
  few h p a b most r round low = let fewer = few_of a b most (length r.finished.items) r.stop round.stop in omega (arith, fewer, low)

  pub out : (h : Hub) (p : Pass) (a b : DoorShown K) (most : ℕ) (r : Round K) → IsRound shows may tables h p a most r b → AreOut r.finished.items b
  out h p a b most r round = are_out a b r.finished.items round.door

  pub serves : (h : Hub) (boot : ℕ) (p : Pass) (before heard left after : DoorShown K) (at : Address) (most : ℕ) (r : Round K) (printed logged_text : List ℕ) (status : ℕ) → h.boot ≡ boot → IsFirst boot p
      → ListensAt before heard at → IsRound shows may tables h p heard most r left → IsPassOf h r.pass → TakesBack left (links_in r.finished.items) after
      → IsOver shows h r.pass r.finished.items r.stop printed logged_text status → Serves shows may tables boot before at most after printed logged_text status
  serves h boot p before heard left after at most r printed logged_text status boot_is new listens round pass back over = record {
    hub = h;
    boot_is = boot_is;
    first = p;
    new = new;
    heard = heard;
    listens = listens;
    round = r;
    left = left;
    serves = round;
    pass = pass;
    given_back = back;
    over = over;
    logged = logged shows may tables h p over.last heard left most r logged_text over.logged over.last_pass round;
    apart = apart shows may tables h p heard left most r pass round;
    holds = hold shows may tables h p over.last heard left most r logged_text over.logged over.last_pass round;
    ended = copies_ended shows may tables h p over.last heard left most r over.logged.copies round over.logged.each;
  }

  -- a failed door is known by its count
  pub failed : (h : Hub) (p : Pass) (before heard left after : DoorShown K) (at : Address) (most : ℕ) (r : Round K) → ListensAt before heard at → IsRound shows may tables h p heard most r left
      → TakesBack left (links_in r.finished.items) after → r.stop ≡ DoorFault → Rose before.faults after.faults
  failed h p before heard left after at most r listens round back stop =
      let s : Stops heard left most (length r.finished.items) DoorFault = subst (Stops heard left most (length r.finished.items)) stop round.stop in
      rose_later before.faults heard.faults left.faults after.faults listens.counts.faults s.1 (let same = back.faults in omega (arith, same))

  pub has_failed : (h : Hub) (p : Pass) (before heard left after : DoorShown K) (at : Address) (most : ℕ) (r : Round K) → ListensAt before heard at → IsRound shows may tables h p heard most r left
      → TakesBack left (links_in r.finished.items) after → (s : Stop) → r.stop ≡ s → HasFailed shows may tables before after (fault_with s)
  has_failed h p before heard left after at most r listens round back DoorFault is = failed h p before heard left after at most r listens round back is
  has_failed h p before heard left after at most r listens round back Done is = tt
  has_failed h p before heard left after at most r listens round back DoorClosed is = tt
  has_failed h p before heard left after at most r listens round back Memory is = tt

  -- nothing is printed of what was served
  pub untold : (h : Hub) (boot : ℕ) (p : Pass) (before heard left after : DoorShown K) (at : Address) (most : ℕ) (r : Round K) (why : OutFault) → h.boot ≡ boot → IsFirst boot p
      → ListensAt before heard at → IsRound shows may tables h p heard most r left → IsPassOf h r.pass → TakesBack left (links_in r.finished.items) after
      → why ≡ fault_with r.stop → IsWhy shows may tables boot before at most after why
  untold h boot p before heard left after at most r why boot_is new listens round pass back is = record {
    failed = subst (HasFailed shows may tables before after) (sym is) (has_failed h p before heard left after at most r listens round back r.stop refl);
    done = inr (record {
      hub = h;
      boot_is = boot_is;
      first = p;
      new = new;
      heard = heard;
      listens = listens;
      round = r;
      left = left;
      serves = round;
      pass = pass;
      given_back = back;
      apart = apart shows may tables h p heard left most r pass round;
      why_is = is;
    });
  }

  -- nothing was done at the door
  pub unused : (boot : ℕ) (a : DoorShown K) (at : Address) (most : ℕ) → IsWhy shows may tables boot a at most a faults.Memory
  unused boot a at most = record {
    failed = tt;
    done = inl (record { counts = record { faults = omega arith; closings = omega arith }; listens = refl; to_come = refl; back = refl; out = refl });
  }

  -- it didn't listen
  pub unheard : (boot : ℕ) (a b : DoorShown K) (at : Address) (most : ℕ) (why : OutFault) → Listens a at (Err why) b → IsWhy shows may tables boot a at most b why
  unheard boot a b at most faults.Failed h = record { failed = h.0; done = inl h.1 }
  unheard boot a b at most faults.Memory h = record { failed = tt; done = inl h }

module _ {S K P : Type 0} (shows : K → Shown) (may : S → Call → Bool → Ans → Type 0) (tables : S → List TableForm) (is_pass : S → P → Type 0) (enters : S → P → Call → Bool → Ans → P → Type 0)
    (runs_down : S → P → DueItem → P → Type 0) (splits joins : S → P → P → P → Type 0) (service : S) (desks : P) where
  -- with what the service's passes had
  pub serves_had : (h : Hub) (boot : ℕ) (p : Pass) (before heard left after : DoorShown K) (at : Address) (most : ℕ) (r : Round K) (printed logged_text : List ℕ) (status : ℕ) (last : P) → h.boot ≡ boot → IsFirst boot p
      → ListensAt before heard at → IsRound shows (may service) (tables service) h p heard most r left → IsPassOf h r.pass → TakesBack left (links_in r.finished.items) after
      → IsOver shows h r.pass r.finished.items r.stop printed logged_text status
      → is_pass service last → RoundHad tables enters runs_down splits joins service h.boot desks r.finished.items last
      → ServesHad shows may tables is_pass enters runs_down splits joins service desks boot before at most after printed logged_text status
  unfolding serves
  serves_had h boot p before heard left after at most r printed logged_text status last boot_is new listens round pass back over of had = record {
    serves = serves shows (may service) (tables service) h boot p before heard left after at most r printed logged_text status boot_is new listens round pass back over;
    last = last;
    last_pass = of;
    had = had;
  }
