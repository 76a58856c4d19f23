-- Numbers of calls and packets, each of which stops at the greatest of 32 bits.
use Rattle.std.specs.Prelude.{ℕ, ◌+◌, ◌-◌, ◌^◌, min, List, [], ◌∷◌}

pub record Numbers : Type 0 where
  pub calls : ℕ
  pub packets_in : ℕ
  pub packets_out : ℕ

abbrev pub none_yet : Numbers
none_yet = record { calls = 0; packets_in = 0; packets_out = 0 }

abbrev pub stopped : ℕ → ℕ
stopped n = min n (2 ^ 32 - 1)

abbrev pub with_more : Numbers → ℕ → ℕ → ℕ → Numbers
with_more n calls packets_in packets_out = record { calls = stopped (n.calls + calls); packets_in = stopped (n.packets_in + packets_in); packets_out = stopped (n.packets_out + packets_out) }

-- calls in, calls out, packets in, packets out: a server makes no calls
abbrev pub listed : Numbers → List ℕ
listed n = n.calls ∷ 0 ∷ n.packets_in ∷ n.packets_out ∷ []
