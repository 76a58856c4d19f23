-- What closing a replay comes to.
use Rattle.std.proofs.Common.{◌≡◌, ℕ, suc, ◌+◌, ◌<◌, ◌≤◌, Bool, true, false, Option, Some, List, [], ◌∷◌, ◌++◌, drop, get_or, length, map, refl, sym, ap, subst, ◌∙◌, arith}
use Rattle.std.proofs.Math.Seq.{drop-cons}
use Rattle.std.proofs.lemmas.List.{drop_all}
use Rattle.ndr_table.specs.Tables.{TableForm}
use Rattle.desk_service.specs.State.{Services}
use Rattle.replay_world.specs.Services.{Service}
use Rattle.replay_world.specs.Worlds.{Peer, World}
use Rattle.replay_world.specs.Plays.{OfPeer, Finishes}
use Rattle.replay_world.specs.Replays.{name_of, names_of, LosesIfOpen, LosesAll, FinishesAll, log_text}
use Rattle.replay_groups.specs.Service.{service_of}
use Rattle.replay_events.specs.declared.played.Played.{Played}
use Rattle.replay_events.specs.Tables.{ShowAll}
use Rattle.replay_events.specs.declared.player.Player.{Player}
use Rattle.replay_events.specs.Standing.{Stands, Holds}
use Rattle.replay_events.specs.Hands.{Plays, Leads, Picks, PutsBack}
use Rattle.replay_events.proofs.Minding.{sound_of}
use Rattle.replay.specs.Lines.{HasWorld}
use Rattle.replay.specs.Hands.{EndsOrElse, LosesIfThere, MayEnd}
use Rattle.replay.specs.Closing.{LosesNames, FinishesNames, AllLost, AllFinished, AllEnded, IsLeft}
use Rattle.replay.proofs.Hands.{Step, leads_as, plays_by, still_world}
use Rattle.replay.proofs.Sound.{journals_sound}

-- ---- by names, one after the other

-- the steps of the names that are left lead on to all steps
abbrev pub Behind : (List ℕ → Step) → List ℕ → List ℕ → Player → Player → Type 0
Behind R names rest x y =
    (echo : Option TableForm) (w : World Services) → Stands echo x w
    → (v : World Services) × ((z : World Services) → R rest echo v z → R names echo w z) × Stands echo y v

pub nothing_done : (R : List ℕ → Step) (names : List ℕ) (x : Player) → Behind R names names x x
nothing_done R names x echo w s = (w, λ z r. r, s)

module _ (R : List ℕ → Step) (S : ℕ → Step) (more : (echo : Option TableForm) (w u v : World Services) (c : ℕ) (cs : List ℕ) → S c echo w u → R cs echo u v → R (c ∷ cs) echo w v) where
  pub one_done : (names rest : List ℕ) (c : ℕ) (x y z : Player) → Behind R names (c ∷ rest) x y → Plays (S c) y z → Behind R names rest x z
  one_done names rest c x y z b p echo w s =
      let t = b echo w s in
      let u = p echo t.0 t.2 in
      (u.0, λ v r. t.1 v (more echo t.0 u.0 v c rest u.1 r), u.2)

pub all_done : (R : List ℕ → Step) (names rest : List ℕ) (x y : Player) → rest ≡ [] → ((echo : Option TableForm) (w : World Services) → R [] echo w w) → Behind R names rest x y → Plays (R names) x y
all_done R names rest x y e none b echo w s =
    let t = b echo w s in
    (t.0, t.1 t.0 (subst (λ (l : List ℕ). R l echo t.0 t.0) (sym e) (none echo t.0)), t.2)

pub world_behind : (R : List ℕ → Step) (names rest : List ℕ) (x y : Player) → HasWorld x → Behind R names rest x y → HasWorld y
world_behind R names rest x y h b = let t = b h.0 h.1 h.2 in (h.0, t.0, t.2)

pub loses_next : (echo : Option TableForm) (w u v : World Services) (c : ℕ) (cs : List ℕ) → LosesIfThere c echo w u → LosesNames cs echo u v → LosesNames (c ∷ cs) echo w v
loses_next echo w u v c cs l r = (u, l, r)

pub finishes_next : (echo : Option TableForm) (w u v : World Services) (c : ℕ) (cs : List ℕ) → EndsOrElse (λ x. x) c echo w u → FinishesNames cs echo u v → FinishesNames (c ∷ cs) echo w v
finishes_next echo w u v c cs l r = (u, l, r)

-- ---- all names

pub all_lost : (names : List ℕ) (x y : Player) → ((ps : List Peer) → ShowAll x.peers ps → names ≡ map name_of ps) → Plays (LosesNames names) x y → Plays AllLost x y
all_lost names x y n p echo w s =
    let t = p echo w s in
    (t.0, subst (λ (l : List ℕ). LosesAll (service_of echo) w l t.0) (n w.peers s.shown) t.1, t.2)

pub all_finished : (names : List ℕ) (x y : Player) → ((ps : List Peer) → ShowAll x.peers ps → names ≡ map name_of ps) → Plays (FinishesNames names) x y → Plays AllFinished x y
all_finished names x y n p echo w s =
    let t = p echo w s in
    (t.0, subst (λ (l : List ℕ). FinishesAll (service_of echo) w l t.0) (n w.peers s.shown) t.1, t.2)

-- ---- what is left

pub ended : (x y z : Player) → Plays AllLost x y → Plays AllFinished y z → Plays AllEnded x z
ended x y z l f echo w s =
    let a = l echo w s in
    let b = f echo a.0 a.2 in
    (b.0, (a.0, a.1, b.1), b.2)

pub closed : (x z : Player) (log : List ℕ) → Plays AllEnded x z → ((echo : Option TableForm) (w : World Services) → Holds echo z.realm w → log ≡ [] ++ log_text w) → IsLeft x z.out.items log
closed x z log e text echo w s =
    let b = e echo w s in
    record {
      end = b.0;
      closes = b.1;
      printed = b.2.printed;
      logged = text echo b.0 b.2.holds;
      sound = journals_sound z.realm.groups b.0 b.2.holds.keeps b.2.holds.boot;
      whole = sound_of echo z.realm b.0 b.2.holds;
    }

pub loses_named : (c : ℕ) (x y z p : Player) (t u : Played) → Picks c x (Some t) y → Leads (LosesIfThere t.name) y t z u → PutsBack z u p → Plays (LosesIfThere c) x p
loses_named c x y z p t u k l b = plays_by (LosesIfThere c) c x y z p t u k (subst (λ (n : ℕ). Leads (LosesIfThere n) y t z u) k.0 l) b

-- where it had no call to end, nothing happened
ends_or_stays : (b : Bool) (x y : Player) (t u : Played) → MayEnd b x t y u → Leads (EndsOrElse (λ w. w) t.name) x t y u
ends_or_stays true x y t u m = m (λ w. w)
ends_or_stays false x y t u m =
    let same : World Services → World Services = λ w. w in
    leads_as (λ echo w v. EndsOrElse same t.name echo w (same w) × (v ≡ w)) (EndsOrElse same t.name) x y t u
    (λ echo w v h a. subst (λ (z : World Services). EndsOrElse same t.name echo w z) (sym a.1) a.0) (m same)

pub finishes_named : (c : ℕ) (b : Bool) (x y z p : Player) (t u : Played) → Picks c x (Some t) y → MayEnd b y t z u → PutsBack z u p → Plays (EndsOrElse (λ w. w) c) x p
finishes_named c b x y z p t u k m back =
    plays_by (EndsOrElse (λ w. w) c) c x y z p t u k (subst (λ (n : ℕ). Leads (EndsOrElse (λ w. w) n) y t z u) k.0 (ends_or_stays b y z t u m)) back

-- ---- a name of a list, and no more

next_in : (names : List ℕ) (i : ℕ) → i < length names → drop i names ≡ get_or names i 0 ∷ drop (i + 1) names
next_in names i low = drop-cons names i 0 low ∙ ap (λ (n : ℕ). get_or names i 0 ∷ drop n names) (let e : suc i ≡ i + 1 = omega arith in e)

pub lost_next : (names : List ℕ) (i : ℕ) (x y z : Player) → i < length names → HasWorld y × Behind LosesNames names (drop i names) x y → Plays (LosesIfThere (get_or names i 0)) y z
    → HasWorld z × Behind LosesNames names (drop (i + 1) names) x z
lost_next names i x y z low h p =
    let behind = subst (λ (l : List ℕ). Behind LosesNames names l x y) (next_in names i low) h.1 in
    (still_world (LosesIfThere (get_or names i 0)) y z h.0 p, one_done LosesNames LosesIfThere loses_next names (drop (i + 1) names) (get_or names i 0) x y z behind p)

pub finished_next : (names : List ℕ) (i : ℕ) (x y z : Player) → i < length names → HasWorld y × Behind FinishesNames names (drop i names) x y → Plays (EndsOrElse (λ w. w) (get_or names i 0)) y z
    → HasWorld z × Behind FinishesNames names (drop (i + 1) names) x z
finished_next names i x y z low h p =
    let behind = subst (λ (l : List ℕ). Behind FinishesNames names l x y) (next_in names i low) h.1 in
    (still_world (EndsOrElse (λ w. w) (get_or names i 0)) y z h.0 p, one_done FinishesNames (EndsOrElse (λ w. w)) finishes_next names (drop (i + 1) names) (get_or names i 0) x y z behind p)

none_left : (names : List ℕ) (i : ℕ) → length names ≤ i → drop i names ≡ []
none_left names i high = drop_all i names high

pub all_names_lost : (names : List ℕ) (i : ℕ) (x y : Player) → length names ≤ i → Behind LosesNames names (drop i names) x y → Plays (LosesNames names) x y
all_names_lost names i x y high b = all_done LosesNames names (drop i names) x y (none_left names i high) (λ echo w. refl) b

pub all_names_finished : (names : List ℕ) (i : ℕ) (x y : Player) → length names ≤ i → Behind FinishesNames names (drop i names) x y → Plays (FinishesNames names) x y
all_names_finished names i x y high b = all_done FinishesNames names (drop i names) x y (none_left names i high) (λ echo w. refl) b
