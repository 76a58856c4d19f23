-- What a header's octets say, and back.
use Rattle.std.proofs.Common.{◌≡◌, ℕ, suc, ◌+◌, ◌/◌, ◌%◌, ◌^◌, ◌<◌, ◌≤◌, ◌⊎◌, inl, inr, Bool, true, false, cond, eqb, List, [], ◌∷◌, ◌++◌, length, take, drop, drop-drop, drop-cons, slice_index, Option, Some, None, refl, sym, ap, subst, ◌∙◌, append_assoc, arith}
use Rattle.std.specs.Int.{w16, w32}
use Rattle.std.proofs.lemmas.Bool.{eqb-true}
use Rattle.std.proofs.lemmas.List.{take-append-drop}
use Rattle.rpc_base.specs.declared.identifiers.Order.{Order}
use Rattle.rpc_base.specs.declared.identifiers.Order.TheVariants.{Big, Little}
use Rattle.rpc_base.specs.Fields.{IsOctets, number_octets, number_of, order_of}
use Rattle.rpc_base.proofs.FieldLaws.{wide16, wide32, part_at}
use Rattle.pdu_codec.specs.Constants.{header_size, major_version, most_minor}
use Rattle.pdu_codec.specs.declared.pdu.Head.{Head}
use Rattle.pdu_codec.specs.declared.fault.PduFault.{PduFault}
use Rattle.pdu_codec.specs.declared.fault.PduFault.TheVariants as faults
use Rattle.pdu_codec.specs.Pdus.{head_octets, drep_octet}
use Rattle.pdu_codec.specs.Faults.{is_known, kind_at, flags_at, length_order, frag_length, auth_length, IsRightLength, PassesHead, IsHeadFault, head_at}

-- what octets say that begin with this header
pub record Says (minor : ℕ) (h : Head) (body octets : List ℕ) : Type 0 where
  pub major : slice_index octets 0 ≡ major_version
  pub minor_is : slice_index octets 1 ≡ minor
  pub kind : kind_at octets ≡ h.kind
  pub flags : flags_at octets ≡ h.flags
  pub order : order_of (slice_index octets 4) ≡ Some h.order
  pub size : frag_length octets ≡ h.length
  pub auth : auth_length octets ≡ 0
  pub head : head_at h.order octets ≡ h
  pub behind : drop header_size octets ≡ body
  pub len : length octets ≡ header_size + length body

said : (order : Order) (minor kind flags size call a b c : ℕ) (body : List ℕ) → size < 2 ^ 16 → call < 2 ^ 32
    → let h : Head = record { kind = kind; flags = flags; order = order; length = size; call_id = call } in Says minor h body (head_octets minor (a ∷ b ∷ c ∷ []) h ++ body)
unfolding head_octets number_octets
said Big minor kind flags size call a b c body size_fits call_fits =
    let s = wide16.again Big size size_fits in
    let n = wide32.again Big call call_fits in
    record {
      major = refl;
      minor_is = refl;
      kind = refl;
      flags = refl;
      order = refl;
      size = s;
      auth = wide16.again Big 0 (omega arith);
      head = λ i. record { kind = kind; flags = flags; order = Big; length = s i; call_id = n i };
      behind = refl;
      len = omega arith;
    }
said Little minor kind flags size call a b c body size_fits call_fits =
    let s = wide16.again Little size size_fits in
    let n = wide32.again Little call call_fits in
    record {
      major = refl;
      minor_is = refl;
      kind = refl;
      flags = refl;
      order = refl;
      size = s;
      auth = wide16.again Little 0 (omega arith);
      head = λ i. record { kind = kind; flags = flags; order = Little; length = s i; call_id = n i };
      behind = refl;
      len = omega arith;
    }

pub says : (minor : ℕ) (drep : List ℕ) (h : Head) (body : List ℕ) → length drep ≡ 3 → h.length < 2 ^ 16 → h.call_id < 2 ^ 32 → Says minor h body (head_octets minor drep h ++ body)
says minor [] h body three size call = absurd (omega arith)
says minor (a ∷ []) h body three size call = absurd (omega arith)
says minor (a ∷ b ∷ []) h body three size call = absurd (omega arith)
says minor (a ∷ b ∷ c ∷ []) h body three size call = said h.order minor h.kind h.flags h.length h.call_id a b c body size call
says minor (a ∷ b ∷ c ∷ d ∷ drep) h body three size call = absurd (omega arith)

-- octets that begin with a header which passes have none of a header's faults
pub no_head_fault : (size : Option ℕ) (minor : ℕ) (h : Head) (body octets : List ℕ) → Says minor h body octets → minor ≤ most_minor → is_known (kind_at octets) ≡ true → IsRightLength size h.length
    → (f : PduFault) → IsHeadFault size octets f → ⊥
no_head_fault size minor h body octets s low k right faults.Version (inl wrong) = wrong s.major
no_head_fault size minor h body octets s low k right faults.Version (inr wrong) = absurd (omega (arith, s.minor_is))
no_head_fault size minor h body octets s low k right faults.Kind wrong = absurd (cc (wrong.1, k))
no_head_fault None minor h body octets s low k right faults.Length wrong = absurd (omega (arith, s.size, wrong.1))
no_head_fault (Some n) minor h body octets s low k right faults.Length wrong =
    elim wrong.1 [ inl less ↦ omega (arith, s.size, less, right.0) | inr other ↦ other (s.size ∙ right.1) ]
no_head_fault size minor h body octets s low k right faults.Auth wrong = wrong.1 s.auth
no_head_fault size minor h body octets s low k right faults.Characters wrong = absurd (cc (wrong.1, s.order))
no_head_fault size minor h body octets s low k right faults.Body wrong = wrong
no_head_fault size minor h body octets s low k right faults.Memory wrong = wrong

-- ---- back: the octets of a header that passes

pub chosen : {A : Type 0} (b : Bool) (x y z : A) → cond b x y ≡ z → ((b ≡ true) × (x ≡ z)) ⊎ ((b ≡ false) × (y ≡ z))
chosen true x y z e = inl (refl, e)
chosen false x y z e = inr (refl, e)

-- the octet that names an order
pub drep_is : (n : ℕ) (order : Order) → order_of n ≡ Some order → (n ≡ drep_octet order) × (length_order n ≡ order)
drep_is n order e =
    elim (chosen (eqb (n % 16) 0) (cond (eqb (n / 16) 0) (Some Big) (cond (eqb (n / 16) 1) (Some Little) None)) None (Some order) e) [
      | inl low ↦ elim (chosen (eqb (n / 16) 0) (Some Big) (cond (eqb (n / 16) 1) (Some Little) None) (Some order) low.1) [
        | inl big ↦
            let big_is : Big ≡ order = cc (big.1) in
            let n_is : n ≡ 0 = omega (arith, eqb-true _ _ low.0, eqb-true _ _ big.0) in
            subst (λ (o : Order). (n ≡ drep_octet o) × (length_order n ≡ o)) big_is (n_is, ap (λ (b : Bool). cond b Big Little) big.0)
        | inr other ↦ elim (chosen (eqb (n / 16) 1) (Some Little) None (Some order) other.1) [
          | inl little ↦
              let little_is : Little ≡ order = cc (little.1) in
              let n_is : n ≡ 16 = omega (arith, eqb-true _ _ low.0, eqb-true _ _ little.0) in
              subst (λ (o : Order). (n ≡ drep_octet o) × (length_order n ≡ o)) little_is (n_is, ap (λ (b : Bool). cond b Big Little) other.0)
          | inr wrong ↦ absurd (cc (wrong.1))
        ]
      ]
      | inr wrong ↦ absurd (cc (wrong.1))
    ]

cell : (i : ℕ) (octets : List ℕ) → i < length octets → slice_index octets i ∷ drop (suc i) octets ≡ drop i octets
cell i octets lt = sym (drop-cons octets i 0 lt)

piece : (n k : ℕ) (octets : List ℕ) → take k (drop n octets) ++ drop (n + k) octets ≡ drop n octets
piece n k octets = ap (λ (t : List ℕ). take k (drop n octets) ++ t) (sym (drop-drop k n octets)) ∙ take-append-drop k (drop n octets)

pub stands : (size : Option ℕ) (order : Order) (octets : List ℕ) → IsOctets octets → header_size ≤ length octets → PassesHead size order octets
    → octets ≡ head_octets (slice_index octets 1) (take 3 (drop 5 octets)) (head_at order octets) ++ drop header_size octets
unfolding head_octets
stands size order octets fits long passes =
    let d = drep_is (slice_index octets 4) order passes.1 in
    let p8 = part_at 2 8 octets (omega arith) fits in
    let p10 = part_at 2 10 octets (omega arith) fits in
    let p12 = part_at 4 12 octets (omega arith) fits in
    let size_is : number_octets order w16 (frag_length octets) ≡ take 2 (drop 8 octets) =
    ap (λ (o : Order). number_octets order w16 (number_of o w16 (take 2 (drop 8 octets)))) d.1 ∙ wide16.back order (take 2 (drop 8 octets)) p8.len p8.fits in
    let auth_is : number_octets order w16 0 ≡ take 2 (drop 10 octets) =
    ap (number_octets order w16) (sym passes.0.1 ∙ ap (λ (o : Order). number_of o w16 (take 2 (drop 10 octets))) d.1) ∙ wide16.back order (take 2 (drop 10 octets)) p10.len p10.fits in
    let call_is : number_octets order w32 (number_of order w32 (take 4 (drop 12 octets))) ≡ take 4 (drop 12 octets) = wide32.back order (take 4 (drop 12 octets)) p12.len p12.fits in
    let major : slice_index octets 0 ≡ major_version = passes.0.0.0.0.0 in
    let rest : List ℕ = drop header_size octets in
    let t12 : number_octets order w32 (number_of order w32 (take 4 (drop 12 octets))) ++ rest ≡ drop 12 octets = ap (λ (t : List ℕ). t ++ rest) call_is ∙ piece 12 4 octets in
    let t10 : number_octets order w16 0 ++ drop 12 octets ≡ drop 10 octets = ap (λ (t : List ℕ). t ++ drop 12 octets) auth_is ∙ piece 10 2 octets in
    let t8 : number_octets order w16 (frag_length octets) ++ drop 10 octets ≡ drop 8 octets = ap (λ (t : List ℕ). t ++ drop 10 octets) size_is ∙ piece 8 2 octets in
    let five : (take 3 (drop 5 octets) ++ (number_octets order w16 (frag_length octets) ++ (number_octets order w16 0 ++ number_octets order w32 (number_of order w32 (take 4 (drop 12 octets)))))) ++ rest ≡ drop 5 octets =
    regroup (take 3 (drop 5 octets)) (number_octets order w16 (frag_length octets)) (number_octets order w16 0) (number_octets order w32 (number_of order w32 (take 4 (drop 12 octets)))) rest
    ∙ ap (λ (t : List ℕ). take 3 (drop 5 octets) ++ t) (ap (λ (t : List ℕ). number_octets order w16 (frag_length octets) ++ t) (ap (λ (t : List ℕ). number_octets order w16 0 ++ t) t12 ∙ t10) ∙ t8)
    ∙ piece 5 3 octets in
    let front : slice_index octets 0 ∷ slice_index octets 1 ∷ slice_index octets 2 ∷ slice_index octets 3 ∷ slice_index octets 4 ∷ drop 5 octets ≡ octets =
    ap (λ (t : List ℕ). slice_index octets 0 ∷ t) (ap (λ (t : List ℕ). slice_index octets 1 ∷ t) (ap (λ (t : List ℕ). slice_index octets 2 ∷ t) (ap (λ (t : List ℕ). slice_index octets 3 ∷ t) (cell 4 octets (omega arith)) ∙ cell 3 octets (omega arith)) ∙ cell 2 octets (omega arith)) ∙ cell 1 octets (omega arith)) ∙ cell 0 octets (omega arith) in
    sym ((λ i. sym major i ∷ slice_index octets 1 ∷ slice_index octets 2 ∷ slice_index octets 3 ∷ sym d.0 i ∷ five i) ∙ front)
  where
    regroup : (a b c d e : List ℕ) → (a ++ (b ++ (c ++ d))) ++ e ≡ a ++ (b ++ (c ++ (d ++ e)))
    regroup a b c d e = simp append_assoc
