use Rattle.std.proofs.Common.{◌∙◌, ◌||◌, List, ℕ, not, ap}
use Rattle.region_derive.specs.Seen.{are_same, has_come}
use Rattle.region_derive.proofs.Keys.{has, has-insert_key, has-key}
use Rattle.region_derive.proofs.seen.Seen.keep.Goals as goal
use Rattle.region_derive.proofs.seen.Seen.keep.Goals.{in-Ok, in-Err}

pub returns-clause-new : goal.returns-clause-new
returns-clause-new c = elim c.match-insert.branch [
  | in-Ok w ↦ rw w.result-is (w.in-Ok.ensures.added
      ∙ ap not (has-key c.args.self.now.lists.keys c.in_ok-key_of.field-0
      ∙ ap (has c.args.self.now.lists.keys) c.in_ok-key_of.ensures))
  | in-Err w ↦ rw w.result-is tt
]

pub returns-clause-kept : goal.returns-clause-kept
returns-clause-kept c = elim c.match-insert.branch [
  | in-Ok w ↦ rw w.result-is (λ other.
      ap (λ keys. has keys other) w.in-Ok.ensures.keys
      ∙ has-insert_key c.args.self.now.lists.keys c.in_ok-key_of.field-0 other
      ∙ ap (λ (l : List (List ℕ)). are_same other l || has_come c.args.self.now other) c.in_ok-key_of.ensures)
  | in-Err w ↦ rw w.result-is tt
]
