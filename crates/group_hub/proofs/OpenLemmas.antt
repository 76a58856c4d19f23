-- Shards are looked at one after the other.
use Rattle.std.proofs.Common.{◌≡◌, ◌≢◌, ℕ, suc, ◌+◌, ◌%◌, ◌<◌, ◌≤◌, Bool, true, false, Result, Ok, Err, IfOk, [], ◌++◌, length, refl, sym, ap, ◌∙◌, subst, inl, inr, arith, ⊎_elim}
use mathlib.Core.Logic.{dite}
use native.Mathlib.Decide.{dec_lt, ℕ_discrete}
use Rattle.hub_story.specs.Directories.{next_id, id_of, opened_ids}
use Rattle.hub_story.specs.Histories.{marks_in}
use Rattle.hub_story.specs.Passes.{Seen, Serves}
use Rattle.turn_lock.specs.Histories.{Within}
use Rattle.hub_story.specs.Still.{StillHas}
use Rattle.hub_story.proofs.StillLemmas.{still_has, still_self}
use Rattle.group_hub.proofs.ShardOpen.{opened_serves, opened_still}
use Rattle.group_hub.specs.declared.hub.Hub.{Hub}
use Rattle.group_hub.proofs.ListLemmas.{some_item}
use Rattle.hub_story.specs.Calls.{Enters}
use Rattle.hub_shard.specs.declared.answer.OpenRefusal.{OpenRefusal}
use Rattle.hub_shard.specs.declared.answer.OpenRefusal.TheVariants.{GroupsFull, Ids, Memory}
use Rattle.group_hub.specs.declared.pass.Pass.{Pass}
use Rattle.group_hub.specs.Shards.{shard_of}
use Rattle.group_hub.specs.Passes.{at_shard, At, IsPassOf}
use Rattle.group_hub.specs.Openings.{HadNoRoom, PassedBy, Quiet, OpensThere, Opens, NoneHadRoom, OneHadRoom, NoneEntered, Tries, looked_of, StandsSo}

-- ONE SHARD

no_room_full : (boot n : ℕ) (v w : Seen) → Tries boot n (Err GroupsFull) v w → HadNoRoom boot n true v w
no_room_full boot n v w t = record { between = t.0; enters = subst (Enters boot n v w t.0) t.3.0.1 t.2; full_is = t.3.0.0; used_up = λ e. absurd cc }

no_room_used : (boot n : ℕ) (v w : Seen) → Tries boot n (Err Ids) v w → HadNoRoom boot n false v w
no_room_used boot n v w t = record { between = t.0; enters = subst (Enters boot n v w t.0) t.3.0.2 t.2; full_is = t.3.0.0; used_up = λ e. t.3.0.1 }

-- the shard of an id of the shard n
shard_is : (n k : ℕ) → n < 16 → shard_of (id_of n k) ≡ n
shard_is n k low = omega arith

-- AMONG SOME

pub none_yet : (boot a : ℕ) (p : Pass) → NoneHadRoom boot a a p false p
none_yet boot a p = record {
  each = λ t low high. absurd (omega arith);
  used_up = λ e t low high. absurd (omega arith);
  one_full = λ e. absurd cc;
  below = λ t low. refl;
  above = λ t low. refl;
}

module _ (boot a n : ℕ) (full : Bool) (p q r : Pass) (so : NoneHadRoom boot a n p full q) (from : a ≤ n) where
  module _ (Does : Seen → Seen → Type 0) (did : At n q r Does) where
    -- before this one
    earlier : (t : ℕ) → t < n → at_shard r t ≡ at_shard q t
    earlier t low = did.others t (λ e. absurd (omega (arith, e)))

    later : (t : ℕ) → suc n ≤ t → at_shard r t ≡ at_shard q t
    later t low = did.others t (λ e. absurd (omega (arith, e)))

    pub stays_below : (t : ℕ) → t < a → at_shard r t ≡ at_shard p t
    stays_below t low = earlier t (omega arith) ∙ so.below t low

    pub stays_above : (t : ℕ) → suc n ≤ t → at_shard r t ≡ at_shard p t
    stays_above t low = later t low ∙ so.above t (omega arith)

    pub did_here : Does (at_shard p n) (at_shard r n)
    did_here = subst (λ v. Does v (at_shard r n)) (so.above n (omega arith)) did.here

    -- one more had no room
    extend : (f : Bool) → HadNoRoom boot n f (at_shard p n) (at_shard r n) → (t : ℕ) → a ≤ t → t < n + 1 → (g : Bool) × HadNoRoom boot t g (at_shard p t) (at_shard r t)
    extend f h t low high = dite (ℕ_discrete t n)
        (λ (e : t ≡ n). (f, subst (λ (k : ℕ). HadNoRoom boot k f (at_shard p k) (at_shard r k)) (sym e) h))
        (λ apart. let old = so.each t low (omega (arith, apart)) in (old.0, subst (HadNoRoom boot t old.0 (at_shard p t)) (sym (earlier t (omega (arith, apart)))) old.1))

    passed : (t : ℕ) → t ≢ n → PassedBy boot t (at_shard p t) (at_shard r t)
    passed t apart = dite (dec_lt t a)
        (λ low. inr (stays_below t low))
        (λ high. dite (dec_lt t n)
        (λ low. let old = so.each t (omega arith) low in inl (old.0, subst (HadNoRoom boot t old.0 (at_shard p t)) (sym (earlier t low)) old.1))
        (λ beyond. inr (stays_above t (omega (arith, apart)))))

  pub one_more_full : At n q r (Tries boot n (Err GroupsFull)) → NoneHadRoom boot a (n + 1) p true r
  one_more_full did =
      let here : HadNoRoom boot n true (at_shard p n) (at_shard r n) = no_room_full boot n (at_shard p n) (at_shard r n) (did_here (Tries boot n (Err GroupsFull)) did) in
      record {
        each = extend (Tries boot n (Err GroupsFull)) did true here;
        used_up = λ e. absurd cc;
        one_full = λ e. (n, from, omega arith, here);
        below = stays_below (Tries boot n (Err GroupsFull)) did;
        above = λ t low. stays_above (Tries boot n (Err GroupsFull)) did t (omega arith);
      }

  pub one_more_used : At n q r (Tries boot n (Err Ids)) → NoneHadRoom boot a (n + 1) p full r
  one_more_used did =
      let here : HadNoRoom boot n false (at_shard p n) (at_shard r n) = no_room_used boot n (at_shard p n) (at_shard r n) (did_here (Tries boot n (Err Ids)) did) in
      record {
        each = extend (Tries boot n (Err Ids)) did false here;
        used_up = λ e t low high. dite (ℕ_discrete t n)
            (λ (s : t ≡ n). subst (λ (k : ℕ). HadNoRoom boot k false (at_shard p k) (at_shard r k)) (sym s) here)
            (λ apart. subst (HadNoRoom boot t false (at_shard p t)) (sym (earlier (Tries boot n (Err Ids)) did t (omega (arith, apart)))) (so.used_up e t low (omega (arith, apart))));
        one_full = λ e. let old = so.one_full e in (old.0, old.1, omega (arith, old.2), subst (HadNoRoom boot old.0 true (at_shard p old.0)) (sym (earlier (Tries boot n (Err Ids)) did old.0 old.2)) old.3);
        below = stays_below (Tries boot n (Err Ids)) did;
        above = λ t low. stays_above (Tries boot n (Err Ids)) did t (omega arith);
      }

  pub one_had_room : (b id : ℕ) → n < b → n < 16 → At n q r (Tries boot n (Ok id)) → OneHadRoom boot a b p id r
  one_had_room b id high low did =
      let here = did_here (Tries boot n (Ok id)) did in
      let is : id ≡ next_id n (marks_in ((at_shard p n).log ++ here.0)) = here.3.0.2 in
      let shard : shard_of id ≡ n = ap shard_of is ∙ shard_is n (length (opened_ids (marks_in ((at_shard p n).log ++ here.0)))) low in
      record {
        low = omega (arith, shard, from);
        high = omega (arith, shard, high);
        opens = subst (λ (k : ℕ). OpensThere boot k id (at_shard p k) (at_shard r k)) (sym shard) here;
        others = λ t small apart. passed (Tries boot n (Ok id)) did t (λ e. apart (e ∙ sym shard));
        below = stays_below (Tries boot n (Ok id)) did;
        above = λ t up. stays_above (Tries boot n (Ok id)) did t (omega arith);
      }

  pub none_entered : (b : ℕ) → n < b → At n q r (Tries boot n (Err Memory)) → NoneEntered boot a b p r
  none_entered b high did =
      let here = did_here (Tries boot n (Err Memory)) did in
      record {
        quiet = λ t small. dite (ℕ_discrete t n)
            (λ (e : t ≡ n). subst (λ (k : ℕ). Quiet boot k (at_shard p k) (at_shard r k)) (sym e) (inl (here.0, subst (Enters boot n (at_shard p n) (at_shard r n) here.0) here.3.0 here.2)))
            (λ apart. quieter boot t (at_shard p t) (at_shard r t) (passed (Tries boot n (Err Memory)) did t apart));
        below = stays_below (Tries boot n (Err Memory)) did;
        above = λ t up. stays_above (Tries boot n (Err Memory)) did t (omega arith);
      }
    where
      quieter : (boot t : ℕ) (v w : Seen) → PassedBy boot t v w → Quiet boot t v w
      quieter boot t v w h = ⊎_elim (λ l. inl (l.1.between, l.1.enters)) (λ e. inr e) h

-- TWO PARTS

-- a shard of which one part said so, and which the other left as it was
both_first : (boot t : ℕ) (f : Bool) (u v w : Seen) → w ≡ v → HadNoRoom boot t f u v → HadNoRoom boot t f u w
both_first boot t f u v w e h = subst (HadNoRoom boot t f u) (sym e) h

both_second : (boot t : ℕ) (f : Bool) (u v w : Seen) → v ≡ u → HadNoRoom boot t f v w → HadNoRoom boot t f u w
both_second boot t f u v w e h = subst (λ z. HadNoRoom boot t f z w) e h

module _ (boot first : ℕ) (p q r : Pass) where
  pub opened_first : (id : ℕ) → OneHadRoom boot first 16 p id q → Opens boot p (Ok (id, 1)) q
  opened_first id h = (refl, h.opens, h.others)

  module _ (full : Bool) (so : NoneHadRoom boot first 16 p full q) where
    pub opened_second : (id : ℕ) → OneHadRoom boot 0 first q id r → Opens boot p (Ok (id, 1)) r
    opened_second id h = (
      refl,
      subst (λ (v : Seen). OpensThere boot (shard_of id) id v (at_shard r (shard_of id))) (so.below (shard_of id) h.high) h.opens,
      λ t small apart. dite (dec_lt t first)
          (λ early. subst (λ (v : Seen). PassedBy boot t v (at_shard r t)) (so.below t early) (h.others t small apart))
          (λ late. let had = so.each t (omega arith) small in inl (had.0, both_first boot t had.0 (at_shard p t) (at_shard q t) (at_shard r t) (h.above t (omega arith)) had.1)),
    )

    pub quiet_second : NoneEntered boot 0 first q r → Opens boot p (Err Memory) r
    quiet_second h = λ t small. dite (dec_lt t first)
        (λ early. subst (λ (v : Seen). Quiet boot t v (at_shard r t)) (so.below t early) (h.quiet t small))
        (λ late.
        let had = so.each t (omega arith) small in
        let now = both_first boot t had.0 (at_shard p t) (at_shard q t) (at_shard r t) (h.above t (omega arith)) had.1 in
        inl (now.between, now.enters))

    module _ (more : Bool) (h : NoneHadRoom boot 0 first q more r) where
      all_passed : (t : ℕ) → t < 16 → (f : Bool) × HadNoRoom boot t f (at_shard p t) (at_shard r t)
      all_passed t small = dite (dec_lt t first)
          (λ early. let had = h.each t (omega arith) early in (had.0, both_second boot t had.0 (at_shard p t) (at_shard q t) (at_shard r t) (so.below t early) had.1))
          (λ late. let had = so.each t (omega arith) small in (had.0, both_first boot t had.0 (at_shard p t) (at_shard q t) (at_shard r t) (h.above t (omega arith)) had.1))

      pub full_first : full ≡ true → Opens boot p (Err GroupsFull) r
      full_first e =
          let one = so.one_full e in
          (all_passed, (one.0, one.2, both_first boot one.0 true (at_shard p one.0) (at_shard q one.0) (at_shard r one.0) (h.above one.0 one.1) one.3))

      pub full_second : first ≤ 16 → more ≡ true → Opens boot p (Err GroupsFull) r
      full_second low e =
          let one = h.one_full e in
          (all_passed, (one.0, omega (arith, one.2, low), both_second boot one.0 true (at_shard p one.0) (at_shard q one.0) (at_shard r one.0) (so.below one.0 one.2) one.3))

      pub none_left : full ≡ false → more ≡ false → Opens boot p (Err Ids) r
      none_left e f = λ t small. dite (dec_lt t first)
          (λ early. both_second boot t false (at_shard p t) (at_shard q t) (at_shard r t) (so.below t early) (h.used_up f t (omega arith) early))
          (λ late. both_first boot t false (at_shard p t) (at_shard q t) (at_shard r t) (h.above t (omega arith)) (so.used_up e t (omega arith) small))

-- the pass has joined what it opened
pub open_serves : (boot : ℕ) (p : Pass) (r : Result (ℕ × ℕ) OpenRefusal) (q : Pass) → Opens boot p r q → IfOk r (λ o. Serves (at_shard q (shard_of o.0)) o.0 o.1)
open_serves boot p (Ok (id, c)) q o = subst (Serves (at_shard q (shard_of id)) id) (sym o.0) (opened_serves boot (shard_of id) (record {}) (at_shard p (shard_of id)) (at_shard q (shard_of id)) (Ok id) o.1)
open_serves boot p (Err e) q o = tt

-- and what it had to call with it still has, at each shard
module _ (h : Hub) (p q : Pass) (of_hub : IsPassOf h p) (sixteen : length h.shards.items ≡ 16) where
  within_at : (t : ℕ) → t < 16 → Within (at_shard p t).own (length (at_shard p t).log)
  within_at t low = let l = some_item h.shards.items t (omega (arith, sixteen)) in (of_hub.each t l.0 low l.1).within

  had_still : (t : ℕ) (full : Bool) → t < 16 → HadNoRoom h.boot t full (at_shard p t) (at_shard q t) → StillHas (at_shard p t) (at_shard q t) []
  had_still t full low had = still_has h.boot t (at_shard p t) (at_shard q t) had.between [] had.enters (within_at t low)

  passed_still : (t : ℕ) → t < 16 → PassedBy h.boot t (at_shard p t) (at_shard q t) → StillHas (at_shard p t) (at_shard q t) []
  passed_still t low by = ⊎_elim (λ had. had_still t had.0 low had.1) (λ same. subst (λ u. StillHas (at_shard p t) u []) (sym same) (still_self (at_shard p t))) by

  quiet_still : (t : ℕ) → t < 16 → Quiet h.boot t (at_shard p t) (at_shard q t) → StillHas (at_shard p t) (at_shard q t) []
  quiet_still t low by =
      ⊎_elim (λ e. still_has h.boot t (at_shard p t) (at_shard q t) e.0 [] e.1 (within_at t low)) (λ same. subst (λ u. StillHas (at_shard p t) u []) (sym same) (still_self (at_shard p t))) by

  pub open_still : (r : Result (ℕ × ℕ) OpenRefusal) → Opens h.boot p r q → (t : ℕ) → t < 16 → StillHas (at_shard p t) (at_shard q t) []
  open_still (Ok (id, c)) o t low = dite (ℕ_discrete t (shard_of id))
      (λ (e : t ≡ shard_of id). subst (λ (k : ℕ). StillHas (at_shard p k) (at_shard q k) []) (sym e)
      (opened_still h.boot (shard_of id) (record {}) (at_shard p (shard_of id)) (at_shard q (shard_of id)) (Ok id) (within_at (shard_of id) (subst (λ (k : ℕ). k < 16) e low)) o.1))
      (λ apart. passed_still t low (o.2 t low apart))
  open_still (Err GroupsFull) o t low = let had = o.0 t low in had_still t had.0 low had.1
  open_still (Err Ids) o t low = had_still t false low (o t low)
  open_still (Err Memory) o t low = quiet_still t low (o t low)

-- ONE LOOK MORE

-- what one look more comes to
pub one_more : (boot a n b : ℕ) (full : Bool) (p q r : Pass) → NoneHadRoom boot a n p full q → a ≤ n → n < b → n < 16 → (result : Result ℕ OpenRefusal) → At n q r (Tries boot n result) → StandsSo boot a n b p (looked_of result full) r
one_more boot a n b full p q r so from high low (Ok id) did = one_had_room boot a n full p q r so from b id high low did
one_more boot a n b full p q r so from high low (Err GroupsFull) did = one_more_full boot a n full p q r so from did
one_more boot a n b full p q r so from high low (Err Ids) did = one_more_used boot a n full p q r so from did
one_more boot a n b full p q r so from high low (Err Memory) did = none_entered boot a n full p q r so from b high did

pub mod_low : (n : ℕ) → n % 16 ≤ 16
mod_low n = omega arith
