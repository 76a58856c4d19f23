use Rattle.std.proofs.Common.{length}
use Rattle.client_texts.proofs.Requests.{Goes, Back}
use Rattle.client_texts.proofs.names.with_places.Given as goal

abbrev pub invariant-loop-first : goal.invariant-loop-first
invariant-loop-first l = record {
  goes : Goes l.known l.text l.wires l.plain.items l.rest;
  back : Back l.known l.text l.wires l.plain.items l.rest;
}

abbrev pub decreases-loop-first : goal.decreases-loop-first
decreases-loop-first l = length l.rest
