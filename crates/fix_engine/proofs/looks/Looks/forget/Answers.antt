use Rattle.std.proofs.Common.{rules, ◌≤◌, arith, length}
use Rattle.fix_engine.specs.declared.looks.Remembered.TheVariants.{Pending}
use Rattle.fix_engine.proofs.Known.{replicate-each}
use Rattle.fix_engine.proofs.looks.Looks.forget.Goals as goal

pub returns-clause-forgotten : goal.returns-clause-forgotten
returns-clause-forgotten c =
    let all : length c.places.self.remembered.items ≤ c.places.place = search rules in
    rw (← c.places.invariant.whole) (replicate-each Pending c.places.self.remembered.items
    (λ place within. c.places.invariant.forgotten place (omega (arith, within, all))))
