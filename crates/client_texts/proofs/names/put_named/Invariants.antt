use Rattle.std.proofs.Common.{length}
use Rattle.client_texts.proofs.Renamed.{Adds}
use Rattle.client_texts.proofs.Lacks.{HasNames}
use Rattle.client_texts.proofs.names.put_named.Given as goal

abbrev pub invariant-loop-first : goal.invariant-loop-first
invariant-loop-first l = record {
  adds : Adds l.known l.wires l.text l.initial.into.items l.rest l.into.items;
  left : HasNames l.known l.wires l.text → HasNames l.known l.wires l.rest;
}

abbrev pub decreases-loop-first : goal.decreases-loop-first
decreases-loop-first l = length l.rest
