-- Bodies: a version of a schema, a master or a rulebook, byte for byte as it was published.
use Rattle.std.specs.Prelude.{ℕ, List, Option, slice_get}
use Rattle.desk_words.specs.declared.desk_look.Publication.{Publication}
use Rattle.desk_words.specs.declared.desk_look.Publication.TheVariants as publication
use Rattle.desk_words.specs.declared.refusal.Kind.{Kind}
use Rattle.desk_words.specs.declared.refusal.Kind.TheVariants as kind
use Rattle.desk_words.specs.declared.refusal.Refusal.TheVariants.{NoSuch}
use Rattle.desk_words.specs.Tables.{Published}
use Rattle.machine_core.specs.Checked.{Checked, ◌>>=◌, certainly, done, some_or}
use Rattle.machine_core.specs.Finding.{rulebook_named, text_named}

-- the body of the row at the place that was found; refused where none was
abbrev pub body_at : {T : Type 0} → (T → List ℕ) → Kind → List T → Option ℕ → Checked (List ℕ)
body_at body_in kind rows found = do
  place ← some_or found (NoSuch kind)
  row ← certainly (slice_get rows place)
  done (body_in row)

-- the body of this version of a schema, a master or a rulebook
abbrev pub body_of : Published → Publication → List ℕ → ℕ → Checked (List ℕ)
body_of published publication.Schema name version =
    body_at (λ row. row.body) kind.Schema published.schemas (text_named published.schemas name version)
body_of published publication.Master name version =
    body_at (λ row. row.body) kind.Master published.masters (text_named published.masters name version)
body_of published publication.Rulebook name version =
    body_at (λ row. row.body) kind.Rulebook published.rulebooks (rulebook_named published.rulebooks name version)
