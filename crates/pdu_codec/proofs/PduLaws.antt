-- PDUs and the octets that spell them.
use Rattle.std.proofs.Common.{◌≡◌, ℕ, ◌<◌, ◌≤◌, Bool, true, List, ◌++◌, length, slice_index, take, drop, Option, Some, None, refl, sym, ap, subst, ◌∙◌, arith}
use Rattle.std.specs.Int.{w32}
use Rattle.std.proofs.lemmas.List.{length-take, length-drop}
use Rattle.rpc_base.specs.declared.identifiers.Order.{Order}
use Rattle.rpc_base.specs.Fields.{IsOctets, number_of}
use Rattle.rpc_base.proofs.FieldLaws.{wide16, wide32, IsOctets-drop, part_at}
use Rattle.pdu_codec.specs.Constants.{header_size}
use Rattle.pdu_codec.specs.declared.pdu.Pdu.{Pdu}
use Rattle.pdu_codec.specs.declared.pdu.Body.{Body}
use Rattle.pdu_codec.specs.declared.pdu.Body.TheVariants as bodies
use Rattle.pdu_codec.specs.declared.pdu.Head.{Head}
use Rattle.pdu_codec.specs.declared.fault.PduFault.{PduFault}
use Rattle.pdu_codec.specs.declared.fault.PduFault.TheVariants as faults
use Rattle.pdu_codec.specs.Pdus.{kind_of, head_octets, head_of, IsPdu}
use Rattle.pdu_codec.specs.Faults.{is_known, kind_at, flags_at, length_order, frag_length, PassesHead, IsHeadFault, head_at, Spells, IsFault}
use Rattle.pdu_codec.specs.Reading.{BodyFails, body_at}
use Rattle.pdu_codec.proofs.HeadLaws.{Says, says, no_head_fault, stands}
use Rattle.pdu_codec.proofs.KindLaws.{body_takes, body_again}
use Rattle.pdu_codec.proofs.Early.{ends_early}

-- what a PDU's octets say
pub pdu_says : (p : Pdu) (octets : List ℕ) → (is : IsPdu p octets) → Says p.minor (head_of p (length octets)) is.body octets
pdu_says p octets is =
    subst (λ (o : List ℕ). Says p.minor (head_of p (length octets)) is.body o) (sym is.whole) (says p.minor is.drep (head_of p (length octets)) is.body is.three is.size is.fits.call_id)

pub pdu_long : (p : Pdu) (octets : List ℕ) → IsPdu p octets → header_size ≤ length octets
pdu_long p octets is = omega (arith, (pdu_says p octets is).len)

-- the protocol has the PTYPE of every body
pub body_known : (b : Body) → is_known (kind_of b) ≡ true
unfolding is_known
body_known (bodies.Request b) = refl
body_known (bodies.Response b) = refl
body_known (bodies.Fault b) = refl
body_known (bodies.Bind b) = refl
body_known (bodies.BindAck b) = refl
body_known (bodies.BindNak b) = refl
body_known (bodies.Alter b) = refl
body_known (bodies.AlterResp b) = refl
body_known bodies.Shutdown = refl
body_known bodies.CoCancel = refl
body_known bodies.Orphaned = refl

-- a PDU has no fault in its header
pub pdu_no_head_fault : (p : Pdu) (octets : List ℕ) → IsPdu p octets
    → (f : PduFault) → IsHeadFault (Some (length octets)) octets f → ⊥
pdu_no_head_fault p octets is f wrong =
    let s = pdu_says p octets is in
    no_head_fault (Some (length octets)) p.minor (head_of p (length octets)) is.body octets s is.minor (ap is_known s.kind ∙ body_known p.body) (pdu_long p octets is, refl) f wrong

-- what is known once a header has been read
pub record Opened (octets : List ℕ) (h : Head) : Type 0 where
  pub fits : IsOctets octets
  pub long : header_size ≤ length octets
  pub passes : PassesHead (Some (length octets)) h.order octets
  pub head : h ≡ head_at h.order octets

-- the PDU of a header and a body
abbrev pub pdu_of : List ℕ → Head → Body → Pdu
pdu_of octets h b = record { minor = slice_index octets 1; flags = h.flags; order = h.order; call_id = h.call_id; body = b }

opened_spells : (octets : List ℕ) (h : Head) (b : Body) → Opened octets h → body_at h.order h.flags h.kind (drop header_size octets) ≡ Some b → Spells h.order h.flags h.kind b (drop header_size octets)
opened_spells octets h b o e = body_takes h.order h.flags h.kind (drop header_size octets) b (IsOctets-drop header_size octets o.fits) e

pub opened_found : (octets : List ℕ) (h : Head) (b : Body) → Opened octets h → body_at h.order h.flags h.kind (drop header_size octets) ≡ Some b → IsPdu (pdu_of octets h b) octets
opened_found octets h b o e =
    let t = opened_spells octets h b o e in
    let size_is : frag_length octets ≡ length octets = o.passes.0.0.1.1 in
    let p8 = part_at 2 8 octets (omega (arith, o.long)) o.fits in
    let p12 = part_at 4 12 octets (omega (arith, o.long)) o.fits in
    let size : frag_length octets < 65536 = wide16.below (length_order (slice_index octets 4)) (take 2 (drop 8 octets)) p8.fits in
    let drep = take 3 (drop 5 octets) in
    let flags_is : h.flags ≡ slice_index octets 3 = ap (λ (x : Head). x.flags) o.head in
    let call_is : h.call_id ≡ number_of h.order w32 (take 4 (drop 12 octets)) = ap (λ (x : Head). x.call_id) o.head in
    let kind_is : kind_at octets ≡ kind_of b = sym (t.is_kind ∙ ap (λ (x : Head). x.kind) o.head) in
    let same : head_at h.order octets ≡ head_of (pdu_of octets h b) (length octets) =
    λ i. record { kind = kind_is i; flags = sym flags_is i; order = h.order; length = size_is i; call_id = sym call_is i } in
    record {
      fits = record {
        flags = omega (arith, o.fits 3, flags_is);
        call_id = omega (arith, call_is, wide32.below h.order (take 4 (drop 12 octets)) p12.fits);
        body = t.fits;
      };
      minor = o.passes.0.0.0.0.1;
      drep = drep;
      three = omega (arith, length-take 3 (drop 5 octets), length-drop 5 octets, o.long);
      size = omega (arith, size, size_is);
      body = drop header_size octets;
      is_body = t.is_body;
      whole = stands (Some (length octets)) h.order octets o.fits o.long o.passes
          ∙ ap (λ (x : Head). head_octets (slice_index octets 1) drep x ++ drop header_size octets) same;
    }

abbrev pub given : {A : Type 0} → A → Option A
given x = Some x

pub some_same : {A : Type 0} (x y : A) → given x ≡ given y → x ≡ y
some_same x y e = cc

-- the header of a PDU's octets is the PDU's
opened_head : (p : Pdu) (octets : List ℕ) (h : Head) → IsPdu p octets → Opened octets h → h ≡ head_of p (length octets)
opened_head p octets h is o =
    let s = pdu_says p octets is in
    let order_is : h.order ≡ p.order = some_same h.order p.order (sym o.passes.1 ∙ s.order) in
    o.head ∙ ap (λ (x : Order). head_at x octets) order_is ∙ s.head

opened_body : (p : Pdu) (octets : List ℕ) (h : Head) → IsPdu p octets → Opened octets h → body_at h.order h.flags h.kind (drop header_size octets) ≡ Some p.body
opened_body p octets h is o =
    let s = pdu_says p octets is in
    let e = opened_head p octets h is o in
    let spelled : Spells p.order p.flags (kind_of p.body) p.body is.body = record { is_kind = refl; fits = is.fits.body; is_body = is.is_body } in
    (λ i. body_at (e i).order (e i).flags (e i).kind (s.behind i)) ∙ body_again p.order p.flags (kind_of p.body) is.body p.body spelled

pub opened_same : (p : Pdu) (octets : List ℕ) (h : Head) (b : Body) → IsPdu p octets → Opened octets h → body_at h.order h.flags h.kind (drop header_size octets) ≡ Some b → pdu_of octets h b ≡ p
opened_same p octets h b is o e =
    let s = pdu_says p octets is in
    let head_is = opened_head p octets h is o in
    let body_is : b ≡ p.body = some_same b p.body (sym e ∙ opened_body p octets h is o) in
    λ i. record { minor = s.minor_is i; flags = (head_is i).flags; order = (head_is i).order; call_id = (head_is i).call_id; body = body_is i }

pub opened_read : (p : Pdu) (octets : List ℕ) (h : Head) → IsPdu p octets → Opened octets h → body_at h.order h.flags h.kind (drop header_size octets) ≡ None → ⊥
opened_read p octets h is o e = absurd (cc (e, opened_body p octets h is o))

-- a body that isn't read ends early
pub opened_early : (octets : List ℕ) (h : Head) → Opened octets h → body_at h.order h.flags h.kind (drop header_size octets) ≡ None → IsFault octets faults.Body
opened_early octets h o e =
    let known : is_known (kind_at octets) ≡ true = o.passes.0.0.0.1 in
    let unread : body_at h.order (flags_at octets) (kind_at octets) (drop header_size octets) ≡ None = (λ i. body_at h.order (sym o.head i).flags (sym o.head i).kind (drop header_size octets)) ∙ e in
    (o.long, h.order, o.passes, ends_early h.order (flags_at octets) (kind_at octets) (drop header_size octets) known (IsOctets-drop header_size octets o.fits) unread)

-- a reader's fault, by cases
pub fails_memory : (f : PduFault) (read : Option Body) → BodyFails f read → (read ≡ None → ⊥) → f ≡ faults.Memory
fails_memory faults.Version read h k = absurd h
fails_memory faults.Kind read h k = absurd h
fails_memory faults.Length read h k = absurd h
fails_memory faults.Auth read h k = absurd h
fails_memory faults.Characters read h k = absurd h
fails_memory faults.Body read h k = absurd (k h)
fails_memory faults.Memory read h k = refl

pub fails_fault : (octets : List ℕ) (f : PduFault) (read : Option Body) → BodyFails f read → (read ≡ None → IsFault octets faults.Body) → IsFault octets f
fails_fault octets faults.Version read h k = absurd h
fails_fault octets faults.Kind read h k = absurd h
fails_fault octets faults.Length read h k = absurd h
fails_fault octets faults.Auth read h k = absurd h
fails_fault octets faults.Characters read h k = absurd h
fails_fault octets faults.Body read h k = k h
fails_fault octets faults.Memory read h k = tt

-- what opens octets, as a call says it
pub opened : (octets : List ℕ) (h : Head) → IsOctets octets → header_size ≤ length octets → PassesHead (Some (length octets)) h.order octets → h ≡ head_at h.order octets → Opened octets h
opened octets h fits long passes head =
    record { fits = fits; long = long; passes = passes; head = head }

-- octets spell at most one PDU
pub one_pdu : (p q : Pdu) (octets : List ℕ) → IsPdu p octets → IsPdu q octets → p ≡ q
one_pdu p q octets is is' =
    let s = pdu_says p octets is in
    let t = pdu_says q octets is' in
    let order_is : p.order ≡ q.order = some_same p.order q.order (sym s.order ∙ t.order) in
    let head_is : head_of p (length octets) ≡ head_of q (length octets) = sym s.head ∙ ap (λ (x : Order). head_at x octets) order_is ∙ t.head in
    let behind : is.body ≡ is'.body = sym s.behind ∙ t.behind in
    let one : Spells p.order p.flags (kind_of p.body) p.body is.body = record { is_kind = refl; fits = is.fits.body; is_body = is.is_body } in
    let two : Spells q.order q.flags (kind_of q.body) q.body is'.body = record { is_kind = refl; fits = is'.fits.body; is_body = is'.is_body } in
    let body_is : p.body ≡ q.body = some_same p.body q.body (sym (body_again p.order p.flags (kind_of p.body) is.body p.body one)
    ∙ (λ i. body_at (head_is i).order (head_is i).flags (head_is i).kind (behind i)) ∙ body_again q.order q.flags (kind_of q.body) is'.body q.body two) in
    λ i. record { minor = (sym s.minor_is ∙ t.minor_is) i; flags = (head_is i).flags; order = (head_is i).order; call_id = (head_is i).call_id; body = body_is i }
