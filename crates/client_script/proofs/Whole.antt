-- What a whole script comes to, once its links are given back.
use Rattle.std.proofs.Common.{◌≡◌, ℕ, ◌+◌, ◌-◌, ◌≤◌, false, Option, Some, None, List, [], ◌∷◌, ◌++◌, length, map, refl, sym, ap, ◌∙◌, subst, arith, append_assoc, append-nil}
use Rattle.std.specs.Prelude.{slice_get, replicate, IfSome}
use Rattle.std.specs.List.{AllZip}
use Rattle.std.specs.Option.{option_map}
use Rattle.std.proofs.lemmas.List.{length-map}
use Rattle.std.proofs.lemmas.Option.{slice_get-map}
use Rattle.rpc_base.specs.Causes.{Rose}
use Rattle.rpc_outside.specs.declared.address.Address.{Address}
use Rattle.rpc_outside.specs.Links.{Shown}
use Rattle.rpc_outside.specs.Dials.{DialShown, DialBacks}
use Rattle.rpc_outside.specs.Doors.{HasOut}
use Rattle.ndr_table.specs.Tables.{TableForm}
use Rattle.client_script.specs.declared.channel.Channel.{Channel}
use Rattle.client_script.specs.declared.calling.CallEnd.{CallEnd}
use Rattle.client_script.specs.declared.calling.CallEnd.TheVariants as ends
use Rattle.client_script.specs.declared.player.Player.{Player}
use Rattle.client_script.specs.Worlds.{Association, World, nothing_yet}
use Rattle.client_script.specs.Scripts.{GivesBack, GivesLinks, Ends, IsLinkOf}
use Rattle.client_script.specs.Shows.{Holds}
use Rattle.client_script.specs.Plays.{Opened, Runs, AllEnds, link_of, HasOuts, Returns}
use Rattle.client_script.proofs.Index.{index_of_none}
use Rattle.client_script.proofs.Lists.{zip_long}
use Rattle.client_script.proofs.Dials.{opened_none, returns_none, returns_more}

-- as many links are out as were opened
enough : (o a : Option ℕ) (n : ℕ) → o ≡ option_map (λ x. x + n) a → IfSome o (λ x. n ≤ x)
enough None a n e = tt
enough (Some x) None n e = absurd (cc)
enough (Some x) (Some y) n e = let same : Some x ≡ Some (y + n) = e in let is : x ≡ y + n = cc in omega (arith, is)

-- ---- links are given back

map_push : {A B : Type 0} (f : A → B) (xs : List A) (x : A) → map f (xs ++ x ∷ []) ≡ map f xs ++ f x ∷ []
map_push f [] x = refl
map_push f (y ∷ xs) x = ap (λ zs. f y ∷ zs) (map_push f xs x)

no_item : {A : Type 0} (xs : List A) → length xs ≡ 0 → xs ≡ []
no_item [] e = refl
no_item (x ∷ xs) e = absurd (omega (arith, e))

module _ {K : Type 0} where
  -- some channels' links were given back, and these are left
  pub record Returned (first : DialShown K) (all left : List (Channel K)) (count : ℕ) (now : DialShown K) : Type 0 where
    pub done : List (Channel K)
    pub whole : all ≡ done ++ left
    pub counted : count ≡ length left
    pub returns : Returns first (map link_of done) now
    pub outs : HasOuts left now

  pub returned_none : (first : DialShown K) (all left : List (Channel K)) (count : ℕ) → HasOuts all first → left ≡ all → count ≡ length all → Returned first all left count first
  returned_none first all left count h e c = record { done = []; whole = sym e; counted = c ∙ ap length (sym e); returns = returns_none first; outs = subst (λ (cs : List (Channel K)). HasOuts cs first) (sym e) h }

  one_less : (o : Option ℕ) (c : Channel K) (rest : List (Channel K)) → IfSome o (λ n. length (c ∷ rest) ≤ n) → IfSome (option_map (λ n. n - 1) o) (λ n. length rest ≤ n)
  one_less None c rest h = tt
  one_less (Some n) c rest h = omega arith

  some_out : (o : Option ℕ) (c : Channel K) (rest : List (Channel K)) → IfSome o (λ n. length (c ∷ rest) ≤ n) → HasOut o
  some_out None c rest h = tt
  some_out (Some n) c rest h = omega arith

  pub has_out : (first now : DialShown K) (all left rest : List (Channel K)) (c : Channel K) (count : ℕ) → Returned first all left count now → left ≡ c ∷ rest → HasOut now.out
  has_out first now all left rest c count h e = some_out now.out c rest (subst (λ (cs : List (Channel K)). HasOuts cs now) e h.outs)

  pub returned_more : (first now next : DialShown K) (all left rest : List (Channel K)) (c : Channel K) (count fewer : ℕ) → Returned first all left count now → left ≡ c ∷ rest → fewer + 1 ≡ count → DialBacks now c.wire.link next → Returned first all rest fewer next
  returned_more first now next all left rest c count fewer h e l b =
      let counted = h.counted in
      let long : length left ≡ length (c ∷ rest) = ap length e in
      let few : fewer ≡ length rest = omega (arith, counted, long, l) in
      record {
        done = h.done ++ c ∷ [];
        whole = h.whole ∙ (ap (λ (cs : List (Channel K)). h.done ++ cs) e ∙ sym (append_assoc h.done (c ∷ []) rest));
        counted = few;
        returns = subst (λ links. Returns first links next) (sym (map_push link_of h.done c)) (returns_more first now next (map link_of h.done) c.wire.link h.returns b);
        outs = subst (λ o. IfSome o (λ n. length rest ≤ n)) (sym b.out) (one_less now.out c rest (subst (λ (cs : List (Channel K)). HasOuts cs now) e h.outs));
      }

  pub returned_all : (first now : DialShown K) (all left : List (Channel K)) (count : ℕ) → Returned first all left count now → count ≡ 0 → Returns first (map link_of all) now
  returned_all first now all left count h e =
      let none : left ≡ [] = no_item left (sym h.counted ∙ e) in
      subst (λ (cs : List (Channel K)). Returns first (map link_of cs) now) (sym (h.whole ∙ (ap (λ (cs : List (Channel K)). h.done ++ cs) none ∙ append-nil h.done))) h.returns

-- ---- the beginning

module _ {K : Type 0} (shows : K → Shown) (interface : TableForm) (at : Address) (first : DialShown K) where
  pub begins : (p : Player K) → p.channels.items ≡ [] → p.known ≡ [] → p.out.items ≡ [] → p.failed ≡ false → Runs shows interface at first p first nothing_yet
  begins p cs known out failed = (
    record { channels = subst (λ x. AllZip (Holds shows interface) x []) (sym cs) tt; known = known; out = out; failed = failed; indexed = index_of_none p.places p.channels.items cs },
    subst (λ (n : ℕ). Opened at first n first) (sym (ap length cs)) (opened_none at first),
  )

module _ {K : Type 0} (shows : K → Shown) (interface : TableForm) (at : Address) (first now : DialShown K) where
  opened_of : (text : List ℕ) (end : CallEnd) (p : Player K) → AllEnds shows interface at text first end p now → Opened at first (length p.channels.items) now
  opened_of text ends.Done p h = h.3.1
  opened_of text ends.Failed p h = h.3.1
  opened_of text ends.Lost p h = h.6.1
  opened_of text (ends.Line n) p h = h.6.1
  opened_of text ends.DialFault p h = h.6.1
  opened_of text ends.Memory p h = h

  pub has_outs : (text : List ℕ) (end : CallEnd) (p : Player K) → AllEnds shows interface at text first end p now → HasOuts p.channels.items now
  has_outs text end p h = let o = opened_of text end p h in enough now.out first.out (length p.channels.items) o.out

  links_held : (cs : List (Channel K)) (bs : List Association) → AllZip (Holds shows interface) cs bs → AllZip (IsLinkOf shows interface) bs (map link_of cs)
  links_held [] [] h = tt
  links_held [] (b ∷ bs) h = absurd h
  links_held (c ∷ cs) [] h = absurd h
  links_held (c ∷ cs) (b ∷ bs) h = (record { new = shows c.wire.first.value; is_new = h.0.first; spoken = h.0.spoken; closed = h.0.closed }, links_held cs bs h.1)

  module _ (p : Player K) (last : DialShown K) (r : Returns now (map link_of p.channels.items) last) where
    gives_back : (w : World) → Runs shows interface at first p now w → GivesBack shows interface first at w.associations (map link_of p.channels.items) last
    gives_back w runs = record {
      are_links = links_held p.channels.items w.associations runs.0.channels;
      dialled = r.dialled ∙ (runs.1.dialled ∙ ap (λ n. option_map (λ addresses. addresses ++ replicate n at) first.dialled) (zip_long (Holds shows interface) p.channels.items w.associations runs.0.channels));
      back = r.back ∙ ap (λ b. option_map (λ before. before ++ map link_of p.channels.items) b) runs.1.back;
    }

    gives_links : Opened at first (length p.channels.items) now → GivesLinks first at (map link_of p.channels.items) last
    gives_links o = record {
      dialled = r.dialled ∙ (o.dialled ∙ ap (λ n. option_map (λ addresses. addresses ++ replicate n at) first.dialled) (sym (length-map p.channels.items link_of)));
      back = r.back ∙ ap (λ b. option_map (λ before. before ++ map link_of p.channels.items) b) o.back;
    }

    lost_there : (place : ℕ) (c : Channel K) → slice_get p.channels.items place ≡ Some c → slice_get (map link_of p.channels.items) place ≡ Some c.wire.link
    lost_there place c h = slice_get-map link_of p.channels.items place ∙ ap (λ o. option_map link_of o) h

    rose_still : (a b c : ℕ) → Rose a b → c ≡ b → Rose a c
    rose_still a b c h e = omega arith

    pub comes_to : (text : List ℕ) (end : CallEnd) → AllEnds shows interface at text first end p now → Ends shows interface text at first p.out.items end last
    comes_to text ends.Done h = (h.0, map link_of p.channels.items, h.1, h.2, h.3.0.out, gives_back h.0 h.3)
    comes_to text ends.Failed h = (h.0, map link_of p.channels.items, h.1, h.2, h.3.0.out, gives_back h.0 h.3)
    comes_to text ends.Lost h = (
      h.0,
      map link_of p.channels.items,
      h.1,
      h.2,
      h.3,
      h.7.0.wire.link,
      h.4,
      h.6.0.out,
      gives_back h.0 h.6,
      h.5,
      lost_there h.1 h.7.0 h.7.1,
      record { new = shows h.7.0.wire.first.value; is_new = h.7.3.holds.first; from = h.7.2; lost = h.7.3.lost },
    )
    comes_to text (ends.Line n) h = (h.0, map link_of p.channels.items, h.1, h.2, h.3, h.4, h.5, h.6.0.out, gives_back h.0 h.6)
    comes_to text ends.DialFault h = (h.0, map link_of p.channels.items, h.1, h.2, h.3, rose_still _ _ _ h.4 r.faults, h.5, h.6.0.out, gives_back h.0 h.6)
    comes_to text ends.Memory h = (map link_of p.channels.items, gives_links h)
