-- What a clause sees of a device of std.
use Rattle.std.specs.Prelude.{ℕ, refl}
use Rattle.std.specs.Coded.{Coded, code_by, coded×, coded_ℕ}

-- the reader or writer, and how often it has failed
pub record Counted (D : Type 0) : Type 0 where
  pub device : D
  pub faults : ℕ

-- it is stored as the pair of its fields
abbrev pub counted_code : {D : Type 0} → Coded D → Coded (Counted D)
counted_code {D} code = code_by (D × ℕ) (coded× code coded_ℕ) (λ c. (c.device, c.faults))
    (λ p. record { device = p.0; faults = p.1 }) (λ _. refl)
