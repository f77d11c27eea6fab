use Rattle.std.proofs.Common.{◌≡◌, ◌<◌, ◌≤◌, ℕ, get_or, length}
use Rattle.std.specs.Prelude.{vec_capacity}
use Rattle.fix_engine.specs.declared.looks.Remembered.TheVariants.{Pending}
use Rattle.fix_engine.proofs.looks.Looks.forget.Given as goal

-- the places so far are forgotten
abbrev pub invariant-places : goal.invariant-places
invariant-places l = record {
  whole : length l.self.remembered.items ≡ length l.rules;
  forgotten : (earlier : ℕ) → earlier < l.place → get_or l.self.remembered.items earlier Pending ≡ Pending;
  room : vec_capacity l.fn.self.remembered ≤ vec_capacity l.self.remembered;
}
