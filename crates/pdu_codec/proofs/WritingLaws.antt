-- What writing adds, and what stays where it fails.
use Rattle.std.proofs.Common.{◌≡◌, ℕ, ◌+◌, ◌-◌, ◌≤◌, List, ◌++◌, length, take, drop, refl, sym, ap, ◌∙◌, append_assoc, arith}
use Rattle.std.proofs.lemmas.List.{length-append, take-take}
use Rattle.std.proofs.Math.Seq.{take-append_seam, take-append-add, drop-append-add}
use Rattle.rpc_base.specs.declared.identifiers.Order.{Order}
use Rattle.rpc_base.specs.declared.identifiers.Order.TheVariants.{Big, Little}
use Rattle.rpc_base.specs.Fields.{number_octets, u16_octets}
use Rattle.pdu_codec.specs.Constants.{header_size}
use Rattle.pdu_codec.specs.declared.pdu.Pdu.{Pdu}
use Rattle.pdu_codec.specs.declared.pdu.Head.{Head}
use Rattle.pdu_codec.specs.Pdus.{zeros_3, head_octets, head_of, body_octets, pdu_octets}
use Rattle.pdu_codec.specs.Writing.{KeepsFront}

pub keeps_then : (old more mid new : List ℕ) → mid ≡ old ++ more → KeepsFront mid new → KeepsFront old new
keeps_then old more mid new mid_is kept =
    let within : length old ≤ length mid = omega (arith, ap length mid_is, length-append old more) in
    sym (take-take (length old) (length mid) new within) ∙ ap (take (length old)) (kept ∙ mid_is) ∙ take-append_seam old more

length-head : (order : Order) (minor kind flags size call : ℕ) → length (head_octets minor zeros_3 (record { kind = kind; flags = flags; order = order; length = size; call_id = call })) ≡ header_size
unfolding head_octets number_octets
length-head Big minor kind flags size call = refl
length-head Little minor kind flags size call = refl

pub length-head_octets : (minor : ℕ) (h : Head) → length (head_octets minor zeros_3 h) ≡ header_size
length-head_octets minor h = length-head h.order minor h.kind h.flags h.length h.call_id

pub length-pdu_octets : (p : Pdu) → length (pdu_octets p) ≡ header_size + length (body_octets p.order p.body)
unfolding pdu_octets
length-pdu_octets p =
    let body = body_octets p.order p.body in
    let h = head_of p (header_size + length body) in
    length-append (head_octets p.minor zeros_3 h) body ∙ ap (λ n. n + length body) (length-head_octets p.minor h)

-- the size put into a header
head_sized : (order : Order) (minor kind flags size call : ℕ) (body : List ℕ)
    → let zero_size : Head = record { kind = kind; flags = flags; order = order; length = 0; call_id = call } in
    let sized : Head = record { kind = kind; flags = flags; order = order; length = size; call_id = call } in
    take 8 (head_octets minor zeros_3 zero_size ++ body) ++ (u16_octets order size ++ drop 10 (head_octets minor zeros_3 zero_size ++ body)) ≡ head_octets minor zeros_3 sized ++ body
unfolding head_octets number_octets
head_sized Big minor kind flags size call body = refl
head_sized Little minor kind flags size call body = refl

-- a header without a size and a body that were put
pub record IsPut (old : List ℕ) (p : Pdu) (mid : List ℕ) : Type 0 where
  pub parts : mid ≡ old ++ (head_octets p.minor zeros_3 (head_of p 0) ++ body_octets p.order p.body)
  pub size : length mid ≡ length old + length (pdu_octets p)
  pub long : header_size ≤ length (pdu_octets p)

pub is_put : (old first mid : List ℕ) (p : Pdu) (h : Head) → h ≡ head_of p 0 → first ≡ old ++ head_octets p.minor zeros_3 h → mid ≡ first ++ body_octets p.order p.body → IsPut old p mid
is_put old first mid p h h_is put_is mid_is =
    let first_is : first ≡ old ++ head_octets p.minor zeros_3 (head_of p 0) = put_is ∙ ap (λ (x : Head). old ++ head_octets p.minor zeros_3 x) h_is in
    let head = head_octets p.minor zeros_3 (head_of p 0) in
    let body = body_octets p.order p.body in
    let parts : mid ≡ old ++ (head ++ body) = mid_is ∙ ap (λ (t : List ℕ). t ++ body) first_is ∙ append_assoc old head body in
    record {
      parts = parts;
      size = omega (arith, ap length parts, length-append old (head ++ body), length-append head body, length-head_octets p.minor (head_of p 0), length-pdu_octets p);
      long = omega (arith, length-pdu_octets p);
    }

-- a header and a body that were put
pub whole_put : (old mid new : List ℕ) (p : Pdu) (size : ℕ) → size ≡ length (pdu_octets p) → mid ≡ old ++ head_octets p.minor zeros_3 (head_of p size) → new ≡ mid ++ body_octets p.order p.body
    → new ≡ old ++ pdu_octets p
unfolding pdu_octets
whole_put old mid new p size size_is mid_is new_is =
    let body = body_octets p.order p.body in
    let head = head_octets p.minor zeros_3 (head_of p size) in
    new_is ∙ ap (λ (t : List ℕ). t ++ body) mid_is ∙ append_assoc old head body
    ∙ ap (λ n. old ++ (head_octets p.minor zeros_3 (head_of p n) ++ body)) (size_is ∙ length-pdu_octets p)

pub sized : (old : List ℕ) (p : Pdu) (at size : ℕ) (mid new : List ℕ) → IsPut old p mid → at ≡ length old → size ≡ length mid - at
    → new ≡ take (at + 8) mid ++ u16_octets p.order size ++ drop (at + 10) mid → new ≡ old ++ pdu_octets p
unfolding pdu_octets
sized old p at size mid new put at_is size_is new_is =
    let body = body_octets p.order p.body in
    let blank = head_octets p.minor zeros_3 (head_of p 0) ++ body in
    let size_now : size ≡ header_size + length body = omega (arith, put.size, length-pdu_octets p) in
    let front : take (at + 8) mid ≡ old ++ take 8 blank = (λ i. take (at_is i + 8) (put.parts i)) ∙ take-append-add old blank 8 in
    let back : drop (at + 10) mid ≡ drop 10 blank = (λ i. drop (at_is i + 10) (put.parts i)) ∙ drop-append-add old blank 10 in
    let kind = (head_of p 0).kind in
    let written : take 8 blank ++ (u16_octets p.order size ++ drop 10 blank) ≡ head_octets p.minor zeros_3 (head_of p size) ++ body = head_sized p.order p.minor kind p.flags size p.call_id body in
    new_is ∙ (λ i. front i ++ u16_octets p.order size ++ back i) ∙ regroup old (take 8 blank) (u16_octets p.order size) (drop 10 blank)
    ∙ ap (λ (t : List ℕ). old ++ t) (written ∙ ap (λ n. head_octets p.minor zeros_3 (head_of p n) ++ body) size_now)
  where
    regroup : (a b c d : List ℕ) → ((a ++ b) ++ c) ++ d ≡ a ++ (b ++ (c ++ d))
    regroup a b c d = simp append_assoc
