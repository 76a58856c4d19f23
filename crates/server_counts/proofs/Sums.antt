-- What further packets add to what was counted.
use Rattle.std.proofs.Common.{◌≡◌, ◌∙◌, ℕ, ◌+◌, ◌-◌, ◌^◌, ◌<◌, List, [], ◌∷◌, ◌++◌, length, filter, refl, sym, ap, arith}
use Rattle.std.specs.Prelude.{min}
use Rattle.std.proofs.lemmas.List.{length-append}
use Rattle.std.proofs.lemmas.List.Elements.{filter-append}
use Rattle.desk_counts.specs.Numbers.{Numbers, none_yet, stopped, with_more, listed}
use Rattle.server_counts.specs.Packets.{ends_call}
use Rattle.server_counts.specs.declared.place.NewPackets.{NewPackets}
use Rattle.server_counts.specs.Packets.{PacketsView, Comes, AreMany, Stands, at_start}
use Rattle.server_counts.proofs.Fronts.{counted_are_packets}
use Rattle.server_counts.specs.declared.counting.Counting.{Counting}
use Rattle.server_counts.specs.Stats.{numbers_of, AreStats}
use Rattle.server_counts.specs.Counting.{HasCounted, Takes, Puts, at_first}

twice : (a b : ℕ) → stopped (stopped a + stopped b) ≡ stopped (a + b)
twice a b = omega arith

same : (a : ℕ) → stopped (stopped a + 0) ≡ stopped a
same a = omega arith

calls_more : (came more : List (List ℕ)) → length (filter ends_call (came ++ more)) ≡ length (filter ends_call came) + length (filter ends_call more)
calls_more came more = ap length (filter-append ends_call came more) ∙ length-append (filter ends_call came) (filter ends_call more)

numbers_in : (came gone more : List (List ℕ)) (n : NewPackets) → AreMany n more
    → with_more (numbers_of came gone) (stopped n.calls) (stopped n.packets) 0 ≡ numbers_of (came ++ more) gone
numbers_in came gone more n many = λ i. record {
  calls = (twice (length (filter ends_call came)) n.calls ∙ ap (λ m. stopped (length (filter ends_call came) + m)) many.calls ∙ ap stopped (sym (calls_more came more))) i;
  packets_in = (twice (length came) n.packets ∙ ap (λ m. stopped (length came + m)) many.packets ∙ ap stopped (sym (length-append came more))) i;
  packets_out = same (length gone) i;
}

numbers_out : (came gone more : List (List ℕ)) (n : NewPackets) → AreMany n more
    → with_more (numbers_of came gone) 0 0 (stopped n.packets) ≡ numbers_of came (gone ++ more)
numbers_out came gone more n many = λ i. record {
  calls = same (length (filter ends_call came)) i;
  packets_in = same (length came) i;
  packets_out = (twice (length gone) n.packets ∙ ap (λ m. stopped (length gone + m)) many.packets ∙ ap stopped (sym (length-append gone more))) i;
}

pub took : (old : Counting) (octets : List ℕ) (came : PacketsView) (n : NewPackets) (calls packets : ℕ) (numbers : Numbers)
    → Comes old.came octets n came → calls ≡ stopped n.calls → packets ≡ stopped n.packets → numbers ≡ with_more old.numbers calls packets 0
    → Takes old octets (record { came = came; gone = old.gone; numbers = numbers })
took old octets came n calls packets numbers comes c p sum taken put h =
    let m = comes h.came taken h.came_stands in
    record {
      came = h.came ++ m.0;
      came_stands = m.1;
      gone = h.gone;
      gone_stands = h.gone_stands;
      numbers_are = sum ∙ ((λ i. with_more (h.numbers_are i) (c i) (p i) 0) ∙ numbers_in h.came h.gone m.0 n m.2);
    }

pub puts : (old : Counting) (octets : List ℕ) (gone : PacketsView) (n : NewPackets) (packets : ℕ) (numbers : Numbers)
    → Comes old.gone octets n gone → packets ≡ stopped n.packets → numbers ≡ with_more old.numbers 0 0 packets
    → Puts old octets (record { came = old.came; gone = gone; numbers = numbers })
puts old octets gone n packets numbers comes p sum taken put h =
    let m = comes h.gone put h.gone_stands in
    record {
      came = h.came;
      came_stands = h.came_stands;
      gone = h.gone ++ m.0;
      gone_stands = m.1;
      numbers_are = sum ∙ ((λ i. with_more (h.numbers_are i) 0 0 (p i)) ∙ numbers_out h.came h.gone m.0 n m.2);
    }

none_stand : Stands at_start [] []
none_stand = record { rest = []; front = refl; place = (refl, omega arith) }

pub none_counted : HasCounted [] [] at_first
none_counted = record { came = []; came_stands = none_stand; gone = []; gone_stands = none_stand; numbers_are = refl }

pub stats_are : (taken put numbers : List ℕ) (c : Counting) → HasCounted taken put c → numbers ≡ listed c.numbers → AreStats taken put numbers
stats_are taken put numbers c h e = record {
  came = h.came;
  are_came = counted_are_packets c.came h.came taken h.came_stands;
  gone = h.gone;
  are_gone = counted_are_packets c.gone h.gone put h.gone_stands;
  numbers_are = e ∙ ap listed h.numbers_are;
}
