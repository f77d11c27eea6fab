-- Books stay those of their editions where tables change, and so a workplace is ready as it was.
use Rattle.std.proofs.Common.{◌≡◌, ◌∙◌, ℕ, List, [], ◌∷◌, ◌++◌, Some, append_assoc, ap, subst, sym}
use Rattle.std.specs.Prelude.{OnErr, OnOk, Result, Ok, Err}
use Rattle.std.proofs.lemmas.List.Elements.{All-weaker}
use Rattle.desk_words.specs.declared.change.Change.{Change}
use Rattle.desk_words.specs.Changes.{changed, changed_all}
use Rattle.desk_words.specs.Tables.{Published, Rows, published_of}
use Rattle.desk_valid.specs.Bindings.{bound_at}
use Rattle.desk_valid.specs.declared.bound.Bound.{Bound}
use Rattle.desk_valid.specs.Valid.{AreValid}
use Rattle.master_index.specs.declared.shelf.Shelved.{Shelved}
use Rattle.machine_core.specs.Shelves.{AreHeld, bound_on}
use Rattle.machine_laws.proofs.Kept.{bound_at-more}
use Rattle.machine_laws.proofs.Lists.{Begins}
use Rattle.machine_laws.proofs.More.{AreMore, AreMore-changed, AreMore-same}
use Rattle.machine_workplace.specs.Upshots.{AreTrue}
use Rattle.machine_workplace.specs.declared.workplace.Workplace.{Workplace}
use Rattle.machine_workplace.specs.Ready.{IsReady}
use Rattle.machine_workplace.proofs.Noting.{AreTrue-later}
use Rattle.machine_core.proofs.Widths.{edition-stands}

-- a list begins with all that the list before it begins with
Begins-through : {T : Type 0} (first second third : List T) → Begins first second → Begins second third
    → Begins first third
Begins-through first second third one other =
    (one.0 ++ other.0, other.1 ∙ ap (λ list. list ++ other.0) one.1 ∙ append_assoc first one.0 other.0)

-- and so does each table that is published
AreMore-through : (first second third : Published) → AreMore first second → AreMore second third
    → AreMore first third
AreMore-through first second third one other = record {
  schemas = Begins-through first.schemas second.schemas third.schemas one.schemas other.schemas;
  masters = Begins-through first.masters second.masters third.masters one.masters other.masters;
  rulebooks = Begins-through first.rulebooks second.rulebooks third.rulebooks one.rulebooks other.rulebooks;
  editions = Begins-through first.editions second.editions third.editions one.editions other.editions;
  regions = Begins-through first.regions second.regions third.regions one.regions other.regions;
}

-- what was published stays where all changes are made
AreMore-changed_all : (rows : Rows) (changes : List Change)
    → AreMore (published_of rows) (published_of (changed_all rows changes))
AreMore-changed_all rows [] = AreMore-same (published_of rows)
AreMore-changed_all rows (change ∷ changes) = AreMore-through (published_of rows)
    (published_of (changed rows change)) (published_of (changed_all rows (change ∷ changes)))
    (AreMore-changed rows change) (AreMore-changed_all (changed rows change) changes)

-- an edition that is bound stays bound so
bound-stays : (rows : Rows) (changes : List Change) → AreValid rows → (edition : ℕ) (bound : Bound)
    → bound_at (published_of rows) edition ≡ Some bound
    → bound_at (published_of (changed_all rows changes)) edition ≡ Some bound
bound-stays rows changes valid edition bound is =
    bound_at-more rows valid (published_of (changed_all rows changes)) (AreMore-changed_all rows changes) edition
    (edition-stands (published_of rows) edition bound is) ∙ is

-- so each book that is held is that of its edition still
AreHeld-changed : (rows : Rows) (changes : List Change) (held : List (ℕ × Shelved)) → AreValid rows
    → AreHeld (published_of rows) held → AreHeld (published_of (changed_all rows changes)) held
AreHeld-changed rows changes held valid are =
    let later : Published = published_of (changed_all rows changes) in
    All-weaker (λ pair. bound_at (published_of rows) pair.0 ≡ Some (bound_on pair.1))
    (λ pair. bound_at later pair.0 ≡ Some (bound_on pair.1))
    (λ pair bound. bound-stays rows changes valid pair.0 (bound_on pair.1) bound) held are

-- and the workplace is ready whether changes that leave valid tables were made or not
pub IsReady-settled : {E : Type 0} (rows after : Rows) (changes : List Change) (workplace : Workplace)
    (result : Result (Unit {0}) E) → IsReady rows workplace → AreValid (changed_all rows changes)
    → OnOk result (after ≡ changed_all rows changes) → OnErr result (after ≡ rows) → IsReady after workplace
IsReady-settled rows after changes workplace (Ok done) ready valid made stayed = record {
  valid = subst AreValid (sym made) valid;
  held = subst (λ tables. AreHeld (published_of tables) workplace.shelf) (sym made)
      (AreHeld-changed rows changes workplace.shelf ready.valid ready.held);
  room = ready.room;
  known = subst (λ tables. AreTrue (published_of tables) workplace.upshots) (sym made)
      (AreTrue-later (published_of rows) (published_of (changed_all rows changes)) workplace.upshots
      (bound-stays rows changes ready.valid) ready.known);
}
IsReady-settled rows after changes workplace (Err fail) ready valid made stayed =
    subst (λ tables. IsReady tables workplace) (sym stayed) ready
