-- Changes that are put.
use Rattle.std.proofs.Common.{◌≡◌, inl, inr, List, Some, Option, sym, ap, subst, ◌∙◌}
use Rattle.std.specs.List.{AllByRecursion}
use Rattle.desk_words.specs.Changes.{changed_all}
use Rattle.desk_words.specs.Tables.{Rows}
use Rattle.desk_words.specs.declared.change.Change.{Change}
use Rattle.desk_packing.proofs.Changing.{StandIn-changes, shape-changed_all}
use Rattle.desk_packing.specs.Lines.{Line, put_lines}
use Rattle.desk_packing.specs.Shapes.{FitsFields, Lengths, grown_all, lines_of_changes, shape_of}
use Rattle.keeper_core.specs.Keeping.{FitTold}
use Rattle.row_store.specs.Calls.{Becomes, IsUp, Lasts, Leaves, Stays}
use Rattle.row_store.specs.Stored.{Puts}
use Rattle.sqlite.specs.Effect.{Database}
use Rattle.sqlite.specs.State.{State}
use Rattle.keeper_sqlite.specs.declared.loading.Age.TheVariants as age
use Rattle.keeper_sqlite.specs.Steps.{ChangesTables, Known, Knows}
use Rattle.keeper_sqlite.specs.Telling.{HoldsTables, told}
use Rattle.keeper_sqlite.proofs.Told.{told_holding, told_up}

-- a database holds one value of tables at most
pub same_tables : (db : Database) (a b : Rows) → HoldsTables db a → HoldsTables db b → a ≡ b
same_tables db a b left right =
    let e : ◌≡◌ {A = Option Rows} (Some a) (Some b) =
    sym (told_holding age.New db a left) ∙ told_holding age.New db b right in cc

module _ (lengths : Lengths) (changes : List Change) (more : List Line) (old new : State)
    (is : more ≡ lines_of_changes lengths changes) (fields : AllByRecursion FitsFields changes)
    (known : IsUp old → Known old lengths) where
  -- lines that are put change the tables
  puts_change : IsUp old → (db : Database) → Puts more old.now db → ChangesTables changes old.now db
  puts_change up db put rows holds fit =
      let k = known up in
      let same : k.rows ≡ rows = same_tables old.now k.rows rows k.holds holds in
      let shape : lengths ≡ shape_of rows = sym k.long ∙ ap shape_of same in
      let lines : more ≡ lines_of_changes (shape_of rows) changes = is ∙ ap (λ l. lines_of_changes l changes) shape in
      record {
        lines = put_lines holds.lines more;
        stand = (put holds.lines holds.stand).0;
        tables = rw lines (StandIn-changes holds.lines rows changes holds.tables fit fields);
      }

  pub becomes_changed : Becomes (Puts more) old new → Becomes (ChangesTables changes) old new
  becomes_changed becomes = λ clean.
      let (up, is_open, put) = becomes clean in (up, is_open, puts_change up new.now put)

  pub leaves_changed : Leaves (Puts more) old new → Leaves (ChangesTables changes) old new
  leaves_changed leaves =
      λ alone up clean db found.
      elim (leaves alone up clean db found) [ inl same ↦ inl same | inr put ↦ inr (puts_change up db put) ]

  -- and how long their lists are is known
  pub knows_changed : (grown : Lengths) → grown ≡ grown_all lengths changes → FitTold (told old) changes
      → Becomes (Puts more) old new → (IsUp old → Lasts new) → Knows new (Some grown)
  knows_changed grown shape fit becomes lasts = (
    λ up. lasts (becomes up.0).0 up,
    λ up.
        let (was_up, is_open, put) = becomes up.0 in
        let k = known was_up in
        let told_old : told old ≡ Some k.rows = told_up old was_up ∙ told_holding age.New old.now k.rows k.holds in
        let fits = rw told_old at fit in
        record {
          rows = changed_all k.rows changes;
          holds = puts_change was_up new.now put k.rows k.holds fits;
          long = shape-changed_all k.rows changes ∙ ap (λ l. grown_all l changes) k.long ∙ sym shape;
        },
  )

-- what was known is so where nothing was put
pub knows_kept : (lengths : Lengths) (old new : State) → Knows old (Some lengths) → Stays old new
    → (IsUp old → Lasts new) → Knows new (Some lengths)
knows_kept lengths old new known stays lasts = (
  λ up. let back = (stays up.0).1 up.1 in lasts ((stays up.0).0, back.0) up,
  λ up.
      let back = (stays up.0).1 up.1 in
      let k = known.1 ((stays up.0).0, back.0) in
      record { rows = k.rows; holds = subst (λ db. HoldsTables db k.rows) (sym back.1) k.holds; long = k.long },
)
