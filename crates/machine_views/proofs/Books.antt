-- The book of a session's edition.
use Rattle.std.proofs.Common.{◌≡◌, ◌∙◌, ℕ, ◌≤◌, length, map, Option, Some, sym, subst}
use Rattle.std.specs.Prelude.{All, IfSome, IsSomeAnd, Ok, Result, slice_get}
use Rattle.std.proofs.lemmas.List.Elements.{All-map}
use Rattle.std.proofs.lemmas.Option.{option_and_then_some, same_Some}
use Rattle.desk_base.specs.Grid.{GridRows}
use Rattle.desk_base.specs.declared.limits.TheConstants.{MAX_SHEET_ROWS}
use Rattle.desk_words.specs.declared.rows.session.SessionRow.{SessionRow}
use Rattle.desk_words.specs.Tables.{Published, Rows, published_of}
use Rattle.desk_valid.specs.declared.bound.Bound.{Bound}
use Rattle.desk_valid.specs.Bindings.{IsNamedKit, bound_at, bound_in, bound_of, names_of}
use Rattle.desk_valid.specs.Readings.{width_at}
use Rattle.desk_valid.specs.Valid.{AreValid}
use Rattle.desk_valid.proofs.Kits.{bound_at-read, bound_of-kit, edition-kit, edition-read}
use Rattle.desk_valid.proofs.Unrowed.{bound-parts}
use Rattle.fix_model.specs.declared.kit.Kit.{Kit}
use Rattle.master_index.specs.declared.shelf.Shelved.{Shelved}
use Rattle.machine_core.specs.declared.stop.Stop.{Stop}
use Rattle.machine_core.specs.Answers.{bound_for}
use Rattle.machine_core.specs.Checked.{Checked, ◌>>=◌, IsFound}
use Rattle.machine_core.specs.Outcomes.{Answers}
use Rattle.machine_core.specs.Sessions.{IsSessionOf}
use Rattle.machine_core.specs.Shelves.{bound_on}
use Rattle.machine_core.proofs.Answering.{Answers-found, Answers-then}
use Rattle.machine_core.proofs.Widths.{edition-stands, width-bound}
use Rattle.machine_views.specs.Answered.{IsBookFor, IsNamedBook}

-- a master has no more rows than a sheet may have
abbrev IsSmall : GridRows → Type 0
IsSmall master = length master.rows ≤ MAX_SHEET_ROWS

-- so have those of an edition of valid tables
few-rows : (rows : Rows) (edition : ℕ) (bound : Bound) → AreValid rows
    → bound_at (published_of rows) edition ≡ Some bound → All IsSmall bound.kit.masters
few-rows rows edition bound valid is =
    option_and_then_some (bound_in (published_of rows)) (slice_get rows.editions edition) bound is (λ row stands made.
    let known = edition-read rows edition row valid stands in
    let rules = known.parts.rules in
    let whole : Bound = record { kit = known.binds.kit; names = names_of known.parts } in
    let binds : bound_of known.parts row.folded ≡ Some whole =
    bound_of-kit known.parts row.folded known.binds.kit known.binds.binds in
    let same : whole ≡ bound = same_Some whole bound
    (sym binds ∙ sym (bound_at-read rows edition row known.parts stands known.reads) ∙ is) in
    let kit = (bound-parts rules.rulebook rules.schema known.parts.masters row.folded known.binds.kit
    known.binds.binds).1 in
    let small : All IsSmall (map (λ master. master.1.grid) known.parts.masters) =
    All-map IsSmall (λ master. master.1.grid) known.parts.masters
    (λ place past within. (known.bindable.masters.each place past within).few) in
    let Small : Kit → Type 0 = λ one. All IsSmall one.masters in
    let SmallBound : Bound → Type 0 = λ one. All IsSmall one.kit.masters in
    subst SmallBound same (subst Small kit small))

-- the book of an edition of valid tables has all its names
pub IsNamedBook-at : (rows : Rows) (edition : ℕ) (shelved : Shelved) → AreValid rows
    → bound_at (published_of rows) edition ≡ Some (bound_on shelved) → IsNamedBook shelved
IsNamedBook-at rows edition shelved valid is =
    let Named : Option Bound → Type 0 = λ found. IsSomeAnd found IsNamedKit in
    record {
      named = subst Named is
          (edition-kit rows edition valid (edition-stands (published_of rows) edition (bound_on shelved) is));
      few_rows = few-rows rows edition (bound_on shelved) valid is;
    }

-- a list that is as long as the edition is wide is as long as its kit is
as-wide : (rows : Rows) (edition count : ℕ) (shelved : Shelved) → AreValid rows
    → bound_at (published_of rows) edition ≡ Some (bound_on shelved)
    → IfSome (width_at (published_of rows) edition) (λ width. count ≡ width) → count ≡ shelved.book.width
as-wide rows edition count shelved valid is wide =
    let Wide : Option ℕ → Type 0 = λ found. IfSome found (λ width. count ≡ width) in
    let names : count ≡ length shelved.names.attributes =
    subst Wide (width-bound (published_of rows) edition (bound_on shelved) is) wide in
    names ∙ (IsNamedBook-at rows edition shelved valid is).named.attributes

-- the book of a session's edition is the book for the session
pub IsBookFor-bound : (rows : Rows) (session : SessionRow) (shelved : Shelved)
    → bound_at (published_of rows) session.edition ≡ Some (bound_on shelved) → AreValid rows
    → IsSessionOf (published_of rows) session → IsBookFor (published_of rows) session shelved
IsBookFor-bound rows session shelved bound valid is = record {
  bound = bound;
  suits = record {
    book = IsNamedBook-at rows session.edition shelved valid bound;
    typed = as-wide rows session.edition (length session.typed) shelved valid bound is.typed;
    confirmed = as-wide rows session.edition (length session.confirmed) shelved valid bound is.confirmed;
  };
}

-- what is made of a session that is found, over the book of its edition
pub session-given : {A : Type 0} {published : Published} (find : Checked SessionRow)
    (on : Bound → SessionRow → Checked A) (session : SessionRow) (shelved : Shelved) (result : Result A Stop)
    → IsFound find session → IsBookFor published session shelved → Answers result (on (bound_on shelved) session)
    → Answers result (find >>= (λ one. bound_for published one >>= (λ its. on its one)))
session-given {A} {published} find on session shelved result found book answers =
    Answers-then find (λ one. bound_for published one >>= (λ its. on its one)) session result
    (Answers-found find (Ok session) found) (rw book.bound answers)
