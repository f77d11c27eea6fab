-- How many comparisons a look makes.
use Rattle.std.specs.Prelude.{◌≡◌, ℕ, ◌+◌, ◌-◌, ◌*◌, ◌^◌, ◌≤◌, min}
use Rattle.desk_base.specs.Counts.{Counts}

-- the comparisons rise by at most as many as the number of rows has binary digits
abbrev pub RisesByDigits : ℕ → Counts → Counts → Type 0
RisesByDigits rows old new =
    (more : ℕ) × (2 ^ more ≤ 2 * rows + 1) × (new.compares ≡ min (old.compares + more) (2 ^ 64 - 1))
