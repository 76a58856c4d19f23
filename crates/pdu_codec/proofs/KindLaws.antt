-- A body of a PTYPE is read exactly where the octets spell one.
use Rattle.std.proofs.Common.{◌≡◌, ℕ, inl, inr, cond, eqb, List, Option, Some, None, refl, sym, ap, subst, ◌∙◌}
use Rattle.std.proofs.lemmas.Bool.{eqb-true}
use Rattle.rpc_base.specs.declared.identifiers.Order.{Order}
use Rattle.rpc_base.specs.Fields.{IsOctets}
use Rattle.pdu_codec.specs.Constants.{request_type, response_type, fault_type, bind_type, bind_ack_type, bind_nak_type, alter_context_type, alter_context_resp_type, shutdown_type, co_cancel_type, orphaned_type}
use Rattle.pdu_codec.specs.declared.pdu.Body.{Body}
use Rattle.pdu_codec.specs.declared.pdu.Body.TheVariants.{Request, Response, Fault, Bind, BindAck, BindNak, Alter, AlterResp, Shutdown, CoCancel, Orphaned}
use Rattle.pdu_codec.specs.declared.pdu.AlterBody.{AlterBody}
use Rattle.pdu_codec.specs.declared.pdu.AlterRespBody.{AlterRespBody}
use Rattle.pdu_codec.specs.Pdus.{kind_of, FitsBody, FitsBind, FitsBindAck, IsBody, IsBind, IsBindAck, as_bind, as_bind_ack}
use Rattle.pdu_codec.specs.Faults.{Spells}
use Rattle.pdu_codec.specs.Reading.{◌>>=◌, request_at, response_at, fault_at, bind_at, bind_ack_at, bind_nak_at, as_alter, as_alter_resp, alter_at, alter_resp_at, body_at}
use Rattle.pdu_codec.proofs.FieldsAgain.{bind_ok, some_is, through}
use Rattle.pdu_codec.proofs.HeadLaws.{chosen}
use Rattle.pdu_codec.proofs.BodiesAgain.{request_takes, request_again, response_takes, response_again, fault_takes, fault_again, bind_takes, bind_again, bind_ack_takes, bind_ack_again, bind_nak_takes, bind_nak_again}

-- ---- bodies with the fields of a bind, and of a bind_ack

pub alter_takes : (order : Order) (octets : List ℕ) (b : AlterBody) → IsOctets octets → alter_at order octets ≡ Some b → IsBind order (as_bind b) octets × FitsBind (as_bind b)
unfolding alter_at
alter_takes order octets b fits e =
    let x = bind_ok (bind_at order octets) (λ y. Some (as_alter y)) b e in
    subst (λ (y : AlterBody). IsBind order (as_bind y) octets × FitsBind (as_bind y)) (some_is (as_alter x.0) b x.2) (bind_takes order octets x.0 fits x.1)

pub alter_again : (order : Order) (octets : List ℕ) (b : AlterBody) → IsBind order (as_bind b) octets → FitsBind (as_bind b) → alter_at order octets ≡ Some b
unfolding alter_at
alter_again order octets b is fits = through (bind_at order octets) (λ y. Some (as_alter y)) (as_bind b) (bind_again order octets (as_bind b) is fits)

pub alter_resp_takes : (order : Order) (octets : List ℕ) (b : AlterRespBody) → IsOctets octets → alter_resp_at order octets ≡ Some b → IsBindAck order (as_bind_ack b) octets × FitsBindAck (as_bind_ack b)
unfolding alter_resp_at
alter_resp_takes order octets b fits e =
    let x = bind_ok (bind_ack_at order octets) (λ y. Some (as_alter_resp y)) b e in
    subst (λ (y : AlterRespBody). IsBindAck order (as_bind_ack y) octets × FitsBindAck (as_bind_ack y)) (some_is (as_alter_resp x.0) b x.2) (bind_ack_takes order octets x.0 fits x.1)

pub alter_resp_again : (order : Order) (octets : List ℕ) (b : AlterRespBody) → IsBindAck order (as_bind_ack b) octets → FitsBindAck (as_bind_ack b) → alter_resp_at order octets ≡ Some b
unfolding alter_resp_at
alter_resp_again order octets b is fits = through (bind_ack_at order octets) (λ y. Some (as_alter_resp y)) (as_bind_ack b) (bind_ack_again order octets (as_bind_ack b) is fits)

-- ---- a body of a PTYPE

-- one PTYPE, whose body is made of what is read, and the others after it
takes_one : {B : Type 0} (order : Order) (flags kind : ℕ) (octets : List ℕ) (b : Body) (n : ℕ) (read : Option B) (make : B → Body) (others : Option Body)
    → ((x : B) → read ≡ Some x → IsBody order flags (make x) octets × FitsBody (make x)) → ((x : B) → kind_of (make x) ≡ n)
    → (others ≡ Some b → Spells order flags kind b octets)
    → cond (eqb kind n) (read >>= λ x. Some (make x)) others ≡ Some b → Spells order flags kind b octets
takes_one {B} order flags kind octets b n read make others each is behind e =
    elim (chosen (eqb kind n) (read >>= λ x. Some (make x)) others (Some b) e) [
      | inl here ↦
          let x = bind_ok read (λ y. Some (make y)) b here.1 in
          let t = each x.0 x.1 in
          let all : Spells order flags kind (make x.0) octets = record { is_kind = is x.0 ∙ sym (eqb-true kind n here.0); fits = t.1; is_body = t.0 } in
          subst (λ (y : Body). Spells order flags kind y octets) (some_is (make x.0) b x.2) all
      | inr other ↦ behind other.1
    ]

-- one PTYPE without fields, and the others after it
takes_plain : (order : Order) (flags kind : ℕ) (octets : List ℕ) (b : Body) (n : ℕ) (plain : Body) (others : Option Body)
    → IsBody order flags plain octets → FitsBody plain → kind_of plain ≡ n
    → (others ≡ Some b → Spells order flags kind b octets)
    → cond (eqb kind n) (Some plain) others ≡ Some b → Spells order flags kind b octets
takes_plain order flags kind octets b n plain others is_body fits is behind e =
    elim (chosen (eqb kind n) (Some plain) others (Some b) e) [
      | inl here ↦
          let all : Spells order flags kind plain octets = record { is_kind = is ∙ sym (eqb-true kind n here.0); fits = fits; is_body = is_body } in
          subst (λ (y : Body). Spells order flags kind y octets) (some_is plain b here.1) all
      | inr other ↦ behind other.1
    ]

takes_none : (order : Order) (flags kind : ℕ) (octets : List ℕ) (b : Body) → None ≡ Some b → Spells order flags kind b octets
takes_none order flags kind octets b e = absurd cc

pub body_takes : (order : Order) (flags kind : ℕ) (octets : List ℕ) (b : Body) → IsOctets octets → body_at order flags kind octets ≡ Some b → Spells order flags kind b octets
unfolding body_at
body_takes order flags kind octets b fits e =
    takes_one order flags kind octets b request_type (request_at order flags octets) (λ x. Request x) _ (λ x. request_takes order flags octets x fits) (λ x. refl)
    (takes_one order flags kind octets b response_type (response_at order octets) (λ x. Response x) _ (λ x. response_takes order octets x fits) (λ x. refl)
    (takes_one order flags kind octets b fault_type (fault_at order octets) (λ x. Fault x) _ (λ x. fault_takes order octets x fits) (λ x. refl)
    (takes_one order flags kind octets b bind_type (bind_at order octets) (λ x. Bind x) _ (λ x. bind_takes order octets x fits) (λ x. refl)
    (takes_one order flags kind octets b bind_ack_type (bind_ack_at order octets) (λ x. BindAck x) _ (λ x. bind_ack_takes order octets x fits) (λ x. refl)
    (takes_one order flags kind octets b bind_nak_type (bind_nak_at order octets) (λ x. BindNak x) _ (λ x. bind_nak_takes order octets x fits) (λ x. refl)
    (takes_one order flags kind octets b alter_context_type (alter_at order octets) (λ x. Alter x) _ (λ x. alter_takes order octets x fits) (λ x. refl)
    (takes_one order flags kind octets b alter_context_resp_type (alter_resp_at order octets) (λ x. AlterResp x) _ (λ x. alter_resp_takes order octets x fits) (λ x. refl)
    (takes_plain order flags kind octets b shutdown_type Shutdown _ tt tt refl
    (takes_plain order flags kind octets b co_cancel_type CoCancel _ tt tt refl
    (takes_plain order flags kind octets b orphaned_type Orphaned _ tt tt refl (takes_none order flags kind octets b))))))))))) e

again_one : {B : Type 0} (order : Order) (flags kind : ℕ) (octets : List ℕ) (b : Body) (read : Option B) (make : B → Body) (x : B) → kind_of b ≡ kind → read ≡ Some x → make x ≡ b
    → body_at order flags (kind_of b) octets ≡ (read >>= λ y. Some (make y)) → body_at order flags kind octets ≡ Some b
again_one {B} order flags kind octets b read make x is e made computed =
    ap (λ k. body_at order flags k octets) (sym is) ∙ computed ∙ through read (λ y. Some (make y)) x e ∙ ap (λ (y : Body). Some y) made

pub body_again : (order : Order) (flags kind : ℕ) (octets : List ℕ) (b : Body) → Spells order flags kind b octets → body_at order flags kind octets ≡ Some b
unfolding body_at
body_again order flags kind octets (Request b) s = again_one order flags kind octets (Request b) (request_at order flags octets) (λ x. Request x) b s.is_kind (request_again order flags octets b s.is_body s.fits) refl refl
body_again order flags kind octets (Response b) s = again_one order flags kind octets (Response b) (response_at order octets) (λ x. Response x) b s.is_kind (response_again order octets b s.is_body s.fits) refl refl
body_again order flags kind octets (Fault b) s = again_one order flags kind octets (Fault b) (fault_at order octets) (λ x. Fault x) b s.is_kind (fault_again order octets b s.is_body s.fits) refl refl
body_again order flags kind octets (Bind b) s = again_one order flags kind octets (Bind b) (bind_at order octets) (λ x. Bind x) b s.is_kind (bind_again order octets b s.is_body s.fits) refl refl
body_again order flags kind octets (BindAck b) s = again_one order flags kind octets (BindAck b) (bind_ack_at order octets) (λ x. BindAck x) b s.is_kind (bind_ack_again order octets b s.is_body s.fits) refl refl
body_again order flags kind octets (BindNak b) s = again_one order flags kind octets (BindNak b) (bind_nak_at order octets) (λ x. BindNak x) b s.is_kind (bind_nak_again order octets b s.is_body s.fits) refl refl
body_again order flags kind octets (Alter b) s = again_one order flags kind octets (Alter b) (alter_at order octets) (λ x. Alter x) b s.is_kind (alter_again order octets b s.is_body s.fits) refl refl
body_again order flags kind octets (AlterResp b) s = again_one order flags kind octets (AlterResp b) (alter_resp_at order octets) (λ x. AlterResp x) b s.is_kind (alter_resp_again order octets b s.is_body s.fits) refl refl
body_again order flags kind octets Shutdown s = ap (λ k. body_at order flags k octets) (sym s.is_kind)
body_again order flags kind octets CoCancel s = ap (λ k. body_at order flags k octets) (sym s.is_kind)
body_again order flags kind octets Orphaned s = ap (λ k. body_at order flags k octets) (sym s.is_kind)
