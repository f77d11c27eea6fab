-- Withdraw: attributes of a session are confirmed no longer. Their texts stay.
use Rattle.std.specs.Prelude.{ℕ, ◌-◌, Bool, false, List, [], ◌∷◌, slice_index_or, slice_set}
use Rattle.desk_words.specs.declared.refusal.Refusal.TheVariants.{NotConfirmed}
use Rattle.desk_words.specs.declared.rows.act.Act.TheVariants as act
use Rattle.desk_words.specs.declared.rows.session.SessionRow.{SessionRow}
use Rattle.desk_words.specs.Tables.{Published}
use Rattle.machine_core.specs.Answers.{bound_for}
use Rattle.machine_core.specs.Checked.{Checked, ◌>>=◌, ◌>>◌, done, each, unless}
use Rattle.machine_core.specs.Own.{Own, puts}
use Rattle.machine_core.specs.declared.deed.Deed.{Deed}
use Rattle.machine_core.specs.Tests.{active_session, attribute_of}

-- the place of a confirmed attribute with this name
abbrev pub confirmed_place : List (List ℕ) → List Bool → List ℕ → Checked ℕ
confirmed_place attributes confirmed name = do
  place ← attribute_of attributes name
  unless (slice_index_or confirmed place false) (NotConfirmed name)
  done place

-- the flags without those at these places
abbrev pub cleared : List Bool → List ℕ → List Bool
cleared confirmed [] = confirmed
cleared confirmed (place ∷ places) = cleared (slice_set confirmed place false) places

-- the tests, in their order, and the session after them; all names are tested against the session as it stands
abbrev pub withdraw_row : Published → Own → ℕ → List (List ℕ) → Checked SessionRow
withdraw_row published own number names = do
  session ← active_session own.sessions number
  bound ← bound_for published session
  places ← each (confirmed_place bound.names.attributes session.confirmed) names
  done (record session { confirmed = cleared session.confirmed places })

-- the deed: in the session of this number these attributes are confirmed no longer
abbrev pub withdraw : Published → Own → ℕ → List (List ℕ) → Checked Deed
withdraw published own number names = do
  session ← withdraw_row published own number names
  done (puts (number - 1) session act.Changed)
