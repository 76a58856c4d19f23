use Rattle.std.proofs.Common.{◌≡◌, ◌++◌, length, take, drop}
use Rattle.presentation.specs.Offers.{contexts_after, results_after}
use Rattle.presentation.proofs.contexts.offer_all.Given as goal

-- what stands and what the elements that are left bring is what all bring; those accepted before stand in front
abbrev pub invariant-loop-element : goal.invariant-loop-element
invariant-loop-element l = record {
  results : l.results ++ results_after l.ids l.accepted.items (drop l.element-index l.elements) ≡ l.initial.results ++ results_after l.ids l.initial.accepted.items l.elements;
  contexts : contexts_after l.ids l.accepted.items (drop l.element-index l.elements) ≡ contexts_after l.ids l.initial.accepted.items l.elements;
  front : take (length l.initial.accepted.items) l.accepted.items ≡ l.initial.accepted.items;
}
