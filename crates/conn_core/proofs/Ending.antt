-- No PDU is taken once a connection has ended.
use Rattle.std.proofs.Common.{◌≡◌, List, [], ◌∷◌, Option, Some, None, Result, Ok, Err, inl, inr, refl, sym, ap, subst, ◌∙◌}
use Rattle.rpc_base.specs.declared.fault.NoMemory.{NoMemory}
use Rattle.pdu_codec.specs.declared.pdu.Pdu.{Pdu}
use Rattle.pdu_codec.specs.declared.pdu.Body.{Body}
use Rattle.pdu_codec.specs.declared.pdu.Body.TheVariants.{Shutdown}
use Rattle.conn_asks.specs.declared.events.Act.{Act}
use Rattle.conn_asks.specs.declared.events.Waits.{Waits}
use Rattle.conn_asks.specs.declared.events.Waits.TheVariants.{Over, Failed}
use Rattle.conn_asks.specs.States.{ConnState, MayCome, SkipsAll, Acts, IsStuck, MayFail, Goes}

-- no PDU may come
abbrev pub TakesNone : Waits → Type 0
TakesNone waits = (body : Body) → MayCome waits body → ⊥

skips_none : (m : ConnState) (ps : List Pdu) (n : ConnState) → TakesNone m.waits → SkipsAll m ps n → n ≡ m
skips_none m [] n none all = all
skips_none m (p ∷ ps) n none all = absurd (none p.body all.1.takes.may)

acts_not : (m n : ConnState) (act : Act) → TakesNone m.waits → Acts m act n → ⊥
acts_not m n act none (inl a) = none a.0.body a.1.takes.may
acts_not m n act none (inr s) = none Shutdown (subst (λ (x : Waits). MayCome x Shutdown) (sym s.1.free) tt)

goes_not : (m between n : ConnState) (act : Act) (ps : List Pdu) → TakesNone m.waits → SkipsAll m ps between → Acts between act n → ⊥
goes_not m between n act ps none all acts =
    acts_not m n act none (subst (λ (x : ConnState). Acts x act n) (skips_none m ps between none all) acts)

over_takes : (m : ConnState) → m.waits ≡ Over → TakesNone m.waits
over_takes m over body may = subst (λ (x : Waits). MayCome x body) over may

failed_takes : (m : ConnState) → m.waits ≡ Failed → TakesNone m.waits
failed_takes m failed body may = subst (λ (x : Waits). MayCome x body) failed may

pub closed : (m n : ConnState) (answer : Result (Option Act) NoMemory) → m.waits ≡ Over → Goes m answer n → (answer ≡ Ok None) × (n ≡ m)
closed m n (Ok None) over g = (refl, skips_none m g.0 n (over_takes m over) g.1)
closed m n (Ok (Some act)) over g = absurd (goes_not m g.1 n act g.0 (over_takes m over) g.2 g.3)
closed m n (Err e) over g = absurd (subst (λ (x : Waits). MayFail x) over g.may)

pub failed : (m n : ConnState) (answer : Result (Option Act) NoMemory) → m.waits ≡ Failed → Goes m answer n → (e : NoMemory) × (answer ≡ Err e) × (n.waits ≡ Failed)
failed m n (Ok None) short g =
    let same = skips_none m g.0 n (failed_takes m short) g.1 in
    absurd (subst (λ (x : Waits). IsStuck x n.rest) (ap (λ (x : ConnState). x.waits) same ∙ short) g.2)
failed m n (Ok (Some act)) short g = absurd (goes_not m g.1 n act g.0 (failed_takes m short) g.2 g.3)
failed m n (Err e) short g = (e, refl, g.waits)
