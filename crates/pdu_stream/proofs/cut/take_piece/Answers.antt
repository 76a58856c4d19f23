use Rattle.std.proofs.Common.{ℕ, List, Option, Some, Result, Ok, Err, subst, ◌≡◌, ◌++◌}
use Rattle.std.specs.Prelude.{IfOk}
use Rattle.pdu_codec.specs.declared.pdu.Pdu.{Pdu}
use Rattle.pdu_codec.specs.declared.fault.PduFault.{PduFault}
use Rattle.rpc_base.specs.declared.fault.NoMemory.{NoMemory}
use Rattle.pdu_stream.specs.Cuts.{Fed, IsCutSoFar, TakesPdus}
use Rattle.pdu_stream.proofs.Takes.{piece_stopped, piece_taken}
use Rattle.pdu_stream.proofs.cut.take_piece.Goals as goal

pub returns-in-Some : goal.returns-in-Some
returns-in-Some c = λ stream h.
    let stopped : IsCutSoFar stream c.args.pdus.now c.args.feed.now (Some c.in-Some.fault) = subst (λ (f : Option PduFault). IsCutSoFar stream c.args.pdus.now c.args.feed.now f) c.in-Some.is h in
    piece_stopped stream c.args.piece.now c.args.pdus.now c.args.feed.now c.push.new.self c.in-Some.fault stopped c.in_ok-push.ensures.ok

taken : (stream piece : List ℕ) (given after : List Pdu) (old mid new : Fed) (fault : Option PduFault) (result : Result (Option PduFault) NoMemory) → IsCutSoFar stream given old fault
    → mid ≡ record { rest = old.rest ++ piece; fault = old.fault } → IfOk result (λ told. TakesPdus mid given told new after) → IfOk result (IsCutSoFar (stream ++ piece) after new)
taken stream piece given after old mid new fault (Ok told) c e t = piece_taken stream piece given after old mid new fault told c e t
taken stream piece given after old mid new fault (Err f) c e t = tt

pub returns-in-None : goal.returns-in-None
returns-in-None c = λ stream h.
    taken stream c.args.piece.now c.args.pdus.now c.take_pdus.new.pdus c.args.feed.now c.push.new.self c.take_pdus.new.feed c.args.fault c.take_pdus.result h c.in_ok-push.ensures.ok
    c.take_pdus.ensures
