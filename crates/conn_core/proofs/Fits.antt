-- Answers to offers can be written.
use Rattle.std.proofs.Common.{◌≡◌, ℕ, ◌<◌, List, [], ◌∷◌, length, refl, arith}
use Rattle.std.specs.List.{AllByRecursion}
use Rattle.rpc_base.specs.declared.identifiers.SyntaxId.{SyntaxId}
use Rattle.rpc_base.specs.Fields.{FitsSyntax}
use Rattle.pdu_codec.specs.declared.pdu.Pdu.{Pdu}
use Rattle.pdu_codec.specs.declared.pdu.Body.{Body}
use Rattle.pdu_codec.specs.declared.pdu.Body.TheVariants as bodies
use Rattle.pdu_codec.specs.declared.pdu.Element.{Element}
use Rattle.pdu_codec.specs.Pdus.{IsPdu, HasSpelling}
use Rattle.pdu_codec.proofs.SizeLaws.{pdu_writable}
use Rattle.presentation.specs.declared.verdict.Accepted.{Accepted}
use Rattle.presentation.specs.declared.verdict.Verdict.{Verdict}
use Rattle.presentation.specs.declared.verdict.Verdict.TheVariants.{Accept, Reject}
use Rattle.presentation.specs.Offers.{ServedSyntaxes, verdict, result_of, after, contexts_after, results_after}
use Rattle.conn_asks.specs.Asks.{offered_by}
use Rattle.conn_asks.specs.Answers.{AreResults}
use Rattle.conn_core.specs.Doing.{with_elements}

fits_result : (v : Verdict) → FitsSyntax (result_of v).transfer
fits_result (Accept k) = record { id = refl; major = omega arith; minor = omega arith }
fits_result (Reject reason) = record { id = refl; major = omega arith; minor = omega arith }

all_fit : (ids : List SyntaxId) (a : List Accepted) (es : List Element) → AllByRecursion (λ r. FitsSyntax r.transfer) (results_after ids a es)
unfolding results_after
all_fit ids a [] = tt
all_fit ids a (e ∷ es) = (fits_result (verdict ids a e), all_fit ids (after ids a e) es)

count : (ids : List SyntaxId) (a : List Accepted) (es : List Element) → length (results_after ids a es) ≡ length es
unfolding results_after
count ids a [] = refl
count ids a (e ∷ es) = omega (arith, count ids (after ids a e) es)

pub results_fit : (ids : List SyntaxId) (a : List Accepted) (es : List Element) → length es < 256 → AreResults (results_after ids a es)
results_fit ids a es few = (omega (arith, count ids a es, few), all_fit ids a es)

few_in : (flags : ℕ) (body : Body) → HasSpelling flags body → length (offered_by body) < 256
few_in flags (bodies.Request b) h = omega arith
few_in flags (bodies.Response b) h = omega arith
few_in flags (bodies.Fault b) h = omega arith
few_in flags (bodies.Bind b) h = h.0
few_in flags (bodies.BindAck b) h = omega arith
few_in flags (bodies.BindNak b) h = omega arith
few_in flags (bodies.Alter b) h = h.0
few_in flags (bodies.AlterResp b) h = omega arith
few_in flags bodies.Shutdown h = omega arith
few_in flags bodies.CoCancel h = omega arith
few_in flags bodies.Orphaned h = omega arith

-- a PDU that came offers no more elements than its count tells
pub few_offered : (p : Pdu) (octets : List ℕ) → IsPdu p octets → length (offered_by p.body) < 256
few_offered p octets is = few_in p.flags p.body (pdu_writable p octets is).body

-- elements that aren't there change nothing
pub nothing_offered : (s : ServedSyntaxes) → s ≡ with_elements s []
unfolding contexts_after
nothing_offered s = refl
