-- Numbers that are left, counted down.
use Rattle.std.specs.Prelude.{ℕ, ◌-◌, nat_lt, Option, Some, None, if◌then◌else◌}

-- one less, if there is one
abbrev pub one_less : Option ℕ → Option ℕ
one_less None = None
one_less (Some n) = if nat_lt 0 n then Some (n - 1) else None

-- so many less, if there are as many
abbrev pub less_by : ℕ → Option ℕ → Option ℕ
less_by m None = None
less_by m (Some n) = if nat_lt n m then None else Some (n - m)
