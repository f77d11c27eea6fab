-- The sessions that draws open, one after another.
use Rattle.std.proofs.Common.{◌≡◌, ℕ, suc, ◌+◌, ◌*◌, ◌-◌, arith}
use Rattle.desk_made.specs.Draws.{drawn, next, number_after}
use Rattle.desk_made.specs.Made.{enter, enter_at}

-- two numbers more
pub number_after-more : (start place : ℕ)
    → number_after start (2 * (place + 1)) ≡ next (next (number_after start (2 * place)))
number_after-more start place =
    let twice : 2 * (place + 1) ≡ suc (suc (2 * place)) = omega arith in
    rw twice

-- the session after so many is opened by the next two draws
pub enter_at-more : (start place : ℕ) → let number : ℕ = number_after start (2 * place) in
    enter_at start (place + 1) ≡ enter (place + 1) (drawn (next number)) (drawn (next (next number)))
enter_at-more start place =
    let once : 2 * (place + 1) - 1 ≡ suc (2 * place) = omega arith in
    let twice : 2 * (place + 1) ≡ suc (suc (2 * place)) = omega arith in
    rw (once, twice)
