-- Sessions on editions.
use Rattle.std.specs.Prelude.{◌≡◌, ◌<◌, IfSome, length}
use Rattle.desk_words.specs.declared.rows.session.SessionRow.{SessionRow}
use Rattle.desk_words.specs.Tables.{Published}
use Rattle.desk_valid.specs.Readings.{width_at}

-- on an edition, with a text and a flag for each attribute
pub record IsSessionOf (published : Published) (session : SessionRow) : Type 0 where
  pub edition : session.edition < length published.editions
  pub typed : IfSome (width_at published session.edition) (λ width. length session.typed ≡ width)
  pub confirmed : IfSome (width_at published session.edition) (λ width. length session.confirmed ≡ width)
