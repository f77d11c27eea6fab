-- Carry, as a look: how a session is shown, and how it would be once it is carried to a newer version of its edition.
use Rattle.std.specs.Prelude.{ℕ, not, List, map, filter}
use Rattle.desk_base.specs.Places.{has_text}
use Rattle.desk_words.specs.declared.reply.Carried.{Carried}
use Rattle.desk_words.specs.declared.view.View.{View}
use Rattle.desk_words.specs.Tables.{Published}
use Rattle.machine_core.specs.Checked.{Checked, ◌>>=◌, changes_for, done}
use Rattle.machine_core.specs.Clerk.Carry.{carry_row}
use Rattle.machine_core.specs.Look.View.{view_at}
use Rattle.machine_core.specs.Own.{Own}
use Rattle.machine_core.specs.Views.{view_of}

-- the words of the attributes that a view shows
abbrev pub words_in : View → List (List ℕ)
words_in view = map (λ cell. cell.name) view.cells

-- those that the other view does not show
abbrev pub words_apart : View → View → List (List ℕ)
words_apart view other = filter (λ word. not (has_text (words_in other) word)) (words_in view)

-- what changes from one view to another
abbrev pub carried_between : View → View → Checked Carried
carried_between before after = do
  pairs ← changes_for before after
  done (record {
    added = words_apart after before;
    dropped = words_apart before after;
    before = before;
    after = after;
    changed = pairs;
  })

-- the tests of Carry, the two views, and what changes between them
abbrev pub carrying : Published → Own → ℕ → ℕ → Checked Carried
carrying published own number version = do
  moved ← carry_row published own number version
  before ← view_at published own number
  after ← view_of published number moved
  carried_between before after
