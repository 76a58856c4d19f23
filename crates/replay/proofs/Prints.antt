-- A line is printed.
use Rattle.std.proofs.Common.{◌≡◌, ℕ, Option, List, [], ◌∷◌, ◌++◌, refl, sym, ap, subst, ◌∙◌, append-nil}
use Rattle.std.specs.List.{flat_map, AllByRecursion}
use Rattle.std.proofs.lemmas.Grind.{flat_map-append}
use Rattle.ndr_table.specs.Tables.{TableForm}
use Rattle.desk_service.specs.State.{Services}
use Rattle.replay_world.specs.declared.peer.Member.{Member}
use Rattle.replay_world.specs.Moments.{IsAs, Coheres}
use Rattle.replay_world.specs.Worlds.{Peer, Printed, World, printing}
use Rattle.replay_world.specs.Printing.{printed_text, out_text}
use Rattle.replay_world.specs.Answered.{FitsPrinted}
use Rattle.replay_events.specs.declared.played.Played.{Played}
use Rattle.replay_events.specs.declared.played.Kept.{Kept}
use Rattle.replay_events.specs.declared.player.Player.{Player}
use Rattle.replay_events.specs.Standing.{Minds, Handles}
use Rattle.replay_events.specs.Hands.{Leads}
use Rattle.replay.specs.Hands.{PrintsIn}

text_more : (before text : List ℕ) (printed : List Printed) (line : Printed) → before ≡ out_text printed → text ≡ before ++ printed_text line → text ≡ out_text (printed ++ line ∷ [])
unfolding out_text
text_more before text printed line b e =
    e ∙ ap (λ (x : List ℕ). x ++ printed_text line) b
    ∙ ap (λ (x : List ℕ). flat_map printed_text printed ++ x) (sym (append-nil (printed_text line))) ∙ sym (flat_map-append printed_text printed (line ∷ []))

-- what was printed has no part in what is kept of a call
minds_printing : (echo : Option TableForm) (w : World Services) (lines : List Printed) (p : Peer) (call : Option Kept) → Minds echo w p call → Minds echo (printing w lines) p call
minds_printing echo w lines p call h m k kept a b c =
    let z = h m k kept a b c in
    record { asked = z.asked; is_request = z.is_request; cookies = z.cookies; orphaned = z.orphaned }

-- nor in what holds at each moment
as_before : {S : Type 0} (w : World S) (lines : List Printed) (c : ℕ) (p : Peer) (m : Member) → IsAs (printing w lines) c p m → IsAs w c p m
as_before w lines c p m i = record { there = i.there; member = i.member }

coheres_printing : {S : Type 0} (w : World S) (lines : List Printed) → Coheres w → Coheres (printing w lines)
coheres_printing w lines h = record {
  grouped = λ c p m i. h.grouped c p m (as_before w lines c p m i);
  joined = λ c p m i. h.joined c p m (as_before w lines c p m i);
  apart = λ c d p q m i j. h.apart c d p q m (as_before w lines c p m i) (as_before w lines d q m j);
  here = λ c p m i o. h.here c p m (as_before w lines c p m i) o;
  calls = λ c k p m i u. h.calls c k p m (as_before w lines c p m i) u;
}

one_more : (lines : List Printed) (line : Printed) → AllByRecursion FitsPrinted lines → FitsPrinted line → AllByRecursion FitsPrinted (lines ++ line ∷ [])
one_more [] line all fit = (fit, tt)
one_more (first ∷ lines) line all fit = (all.0, one_more lines line all.1 fit)

pub printed : (x y : Player) (t : Played) (line : Printed) → FitsPrinted line → y ≡ record x { out = y.out } → y.out.items ≡ x.out.items ++ printed_text line → Leads (PrintsIn (line ∷ [])) x t y t
printed x y t line fit is e =
    (refl, λ echo w h. (printing w (line ∷ []), refl, subst (λ (z : Player). Handles echo z t (printing w (line ∷ []))) (sym is) (at echo w h)))
  where
    at : (echo : Option TableForm) (w : World Services) → Handles echo x t w → Handles echo (record x { out = y.out }) t (printing w (line ∷ []))
    at echo w h = record {
      holds = record { keeps = h.holds.keeps; boot = h.holds.boot; desks = h.holds.desks; echo_is = h.holds.echo_is; tables = h.holds.tables };
      coheres = coheres_printing w (line ∷ []) h.coheres;
      peer = h.peer;
      there = h.there;
      shows = h.shows;
      minds = minds_printing echo w (line ∷ []) h.peer t.call h.minds;
      told = λ reply m k e a b. h.told reply m k e a b;
      others = h.others;
      minds_others = λ d p s n a b. minds_printing echo w (line ∷ []) p s.call (h.minds_others d p s n a b);
      totals = h.totals;
      printed = text_more x.out.items y.out.items w.out line h.printed e;
      fit = one_more w.out line h.fit fit;
    }
