-- A step of a load is played.
use Rattle.std.proofs.Common.{◌≡◌, ℕ, ◌+◌, ◌<◌, ◌≤◌, Option, None, List, [], ◌∷◌, ◌++◌, length, drop, refl, sym, ap, subst, ◌∙◌, arith}
use Rattle.std.specs.List.{AllByRecursion}
use Rattle.std.proofs.Math.Seq.{drop-append_seam}
use Rattle.std.proofs.lemmas.List.{length-append}
use Rattle.ndr_table.specs.Tables.{TableForm}
use Rattle.desk_service.specs.State.{Services}
use Rattle.desk_service.specs.Start.{at_start}
use Rattle.replay_script.specs.declared.line.Line.{Line}
use Rattle.replay_world.specs.Worlds.{World, Printed, booted}
use Rattle.replay_world.specs.Printing.{out_text}
use Rattle.replay_groups.specs.Service.{service_of}
use Rattle.replay_events.specs.declared.player.Player.{Player}
use Rattle.replay_events.specs.Standing.{Stands}
use Rattle.replay_events.specs.Hands.{Plays}
use Rattle.replay_events.proofs.Happening.{text_more}
use Rattle.replay.specs.Lines.{HasWorld, PlaysLine}
use Rattle.replay.specs.Closing.{AllEnded}
use Rattle.replay_script.specs.declared.counts.Counts.{Counts}
use Rattle.replay_script.specs.Counting.{TellsJournals, counts_of}
use Rattle.replay_script.specs.Summary.{Told, summary_text}
use Rattle.replay_script.specs.declared.deed.Step.{Step}
use Rattle.replay_script.specs.declared.load.Load.{Load}
use Rattle.replay_script.specs.Rounds.{Round, step_after}
use Rattle.replay_script.specs.LoadScripts.{lines_of}
use Rattle.replay_script.specs.Knowing.{Knows}
use Rattle.replay_world.specs.Answered.{FitsPrinted, AddsText}
use Rattle.replay_world.specs.Loads.{PlaysRound, IsSummary}
use Rattle.replay.specs.Playing.{LinesLead, IsBehind, HasPlayed}
use Rattle.replay.proofs.Growing.{leads_grew, leads_last}

-- ---- lines

pub no_lines : (ls : List Line) (x : Player) → ls ≡ [] → Plays (LinesLead ls) x x
no_lines ls x e echo w s = (w, subst (λ (l : List Line). LinesLead l echo w w) (sym e) refl, s)

pub world_behind : (ls : List Line) (x y : Player) → Plays (LinesLead ls) x y → HasWorld x → HasWorld y
world_behind ls x y p h = let t = p h.0 h.1 h.2 in (h.0, t.0, t.2)

pub one_line_more : (ls front : List Line) (last : Line) (x y z : Player) → ls ≡ front ++ last ∷ [] → Plays (LinesLead front) x y → PlaysLine y last z → Plays (LinesLead ls) x z
one_line_more ls front last x y z e p q echo w s =
    let t = p echo w s in
    let u = q echo t.0 t.2 in
    (u.0, subst (λ (l : List Line). LinesLead l echo w u.0) (sym e) (leads_last (service_of echo) w t.0 u.0 front last t.1 u.1), u.2)

-- the text on out grows
pub grown : (ls : List Line) (x y : Player) → HasWorld x → Plays (LinesLead ls) x y → length x.out.items ≤ length y.out.items
grown ls x y h p =
    let t = p h.0 h.1 h.2 in
    let g = leads_grew (service_of h.0) h.1 t.0 ls t.1 in
    let all : y.out.items ≡ x.out.items ++ out_text g.more =
    t.2.printed ∙ ap out_text g.out ∙ text_more h.1.out g.more ∙ ap (λ (o : List ℕ). o ++ out_text g.more) (sym h.2.printed) in
    omega (arith, ap length all, length-append x.out.items (out_text g.more))

-- ---- what a step prints

fit_back : (a b : List Printed) → AllByRecursion FitsPrinted (a ++ b) → AllByRecursion FitsPrinted b
fit_back [] b f = f
fit_back (p ∷ a) b f = fit_back a b f.1

module _ (number : ℕ) (rounds : List Round) (x y : Player) (l m : Load) (step : Step) (ls : List Line) (printed : List ℕ) (pdus : List (List ℕ)) (at : IsBehind number rounds x l) where
  pub stepped : step ≡ step_after number rounds → ls ≡ lines_of step.deed → Plays (LinesLead ls) x y → printed ≡ drop (length x.out.items) y.out.items → AddsText printed [] pdus
      → Knows number (record { step = step; answers = pdus } ∷ rounds) m → (r : Round) × IsBehind number (r ∷ rounds) y m
  stepped step_is lines_are plays text heard knows =
      let w : World Services = at.played.world in
      let t = plays None w at.played.stands in
      let v : World Services = t.0 in
      let g = leads_grew (service_of None) w v ls t.1 in
      let r : Round = record { step = step; answers = pdus } in
      let all : y.out.items ≡ x.out.items ++ out_text g.more =
      t.2.printed ∙ ap out_text g.out ∙ text_more w.out g.more ∙ ap (λ (o : List ℕ). o ++ out_text g.more) (sym at.played.stands.printed) in
      let own : printed ≡ out_text g.more = text ∙ ap (drop (length x.out.items)) all ∙ drop-append_seam x.out.items (out_text g.more) in
      let fit : AllByRecursion FitsPrinted g.more = fit_back w.out g.more (subst (AllByRecursion FitsPrinted) g.out t.2.fit) in
      let round : PlaysRound (service_of None) w r v = record {
        leads = subst (λ (z : List Line). LinesLead z None w v) lines_are t.1;
        lines = g.more;
        printed = g.out;
        answers = heard g.more fit own;
      } in (
        r,
        record {
          knows = knows;
          played = record { made = (at.played.made, step_is); world = v; plays = (w, at.played.plays, round); stands = t.2 };
        },
      )

-- ---- all steps

pub begun : (number : ℕ) (x : Player) (l : Load) → Stands None x (booted 1 (at_start None)) → Knows number [] l → IsBehind number [] x l
begun number x l s k = record { knows = k; played = record { made = tt; world = booted 1 (at_start None); plays = refl; stands = s } }

-- so many steps were played, of those that are to be
pub record SoFar (number steps : ℕ) (x : Player) (l : Load) : Type 0 where
  pub rounds : List Round
  pub behind : IsBehind number rounds x l
  pub few : length rounds ≤ steps

pub none_so_far : (number steps : ℕ) (x : Player) (l : Load) → Stands None x (booted 1 (at_start None)) → Knows number [] l → SoFar number steps x l
none_so_far number steps x l s k = record { rounds = []; behind = begun number x l s k; few = omega arith }

pub world_so_far : (number steps : ℕ) (x : Player) (l : Load) → SoFar number steps x l → HasWorld x
world_so_far number steps x l h = (None, h.behind.played.world, h.behind.played.stands)

pub more_so_far : (number steps : ℕ) (x : Player) (l : Load) → SoFar number steps x l → l.steps < steps → steps ≤ 100000 → l.steps < 100000
more_so_far number steps x l h low most = omega (arith, low, most)

pub one_more : (number steps : ℕ) (x y : Player) (l m : Load) → SoFar number steps x l → l.steps < steps
    → ((n : ℕ) (rounds : List Round) → IsBehind n rounds x l → (r : Round) × IsBehind n (r ∷ rounds) y m) → SoFar number steps y m
one_more number steps x y l m h low leads =
    let t = leads number h.rounds h.behind in
    record { rounds = t.0 ∷ h.rounds; behind = t.1; few = omega (arith, low, h.behind.knows.steps_are) }

pub further : (number steps : ℕ) (x y : Player) (l m : Load) (h : SoFar number steps x l) → ((n : ℕ) (rounds : List Round) → IsBehind n rounds x l → (r : Round) × IsBehind n (r ∷ rounds) y m) → m.steps ≡ l.steps + 1
further number steps x y l m h leads =
    let t = leads number h.rounds h.behind in
    omega (arith, h.behind.knows.steps_are, t.1.knows.steps_are)

pub all_so_far : (number steps : ℕ) (x : Player) (l : Load) → SoFar number steps x l → steps ≤ l.steps → HasPlayed number steps x
all_so_far number steps x l h done = (h.rounds, omega (arith, h.behind.knows.steps_are, h.few, done), h.behind.played)

-- ---- the line

pub played_world : (number steps : ℕ) (x : Player) → HasPlayed number steps x → HasWorld x
played_world number steps x h = (None, h.2.world, h.2.stands)

pub summed : (number steps : ℕ) (x y : Player) (counts : Counts) (old new : List ℕ) → HasPlayed number steps x → Plays AllEnded x y
    → ((echo : Option TableForm) (w : World Services) → Stands echo y w → TellsJournals counts w.groups) → old ≡ [] → Told steps counts old new → IsSummary (service_of None) number steps new
summed number steps x y counts old new h ends tells none told =
    let t = ends None h.2.world h.2.stands in (
      t.0,
      record { rounds = h.0; many = h.1; made = h.2.made; last = h.2.world; plays = h.2.plays; closes = t.1 },
      told (counts_of t.0.groups) (tells None t.0 t.2) ∙ ap (λ (o : List ℕ). o ++ summary_text steps (counts_of t.0.groups)) none,
    )
