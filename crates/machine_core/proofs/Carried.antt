-- A session that is carried to a newer version of its edition.
use Rattle.std.proofs.Common.{◌≡◌, ℕ, ◌-◌, ◌<◌, ◌≤◌, nat_lt, false, true, List, length, get_or, Option, Some, None, refl}
use Rattle.std.proofs.Common.{sym, ap, subst, arith}
use Rattle.std.specs.Prelude.{[], IfSome, IsSomeAnd, Err, slice_get}
use Rattle.std.proofs.lemmas.Bool.Decides.{nat_tests}
use Rattle.std.proofs.lemmas.List.{length-map}
use Rattle.desk_carry.specs.Moves.{kept}
use Rattle.desk_words.specs.declared.refusal.Kind.TheVariants as kind
use Rattle.desk_words.specs.declared.refusal.Refusal.TheVariants.{NoSuch, NotNewer}
use Rattle.desk_words.specs.declared.rows.edition.EditionRow.{EditionRow}
use Rattle.desk_words.specs.declared.rows.session.SessionRow.{SessionRow}
use Rattle.desk_words.specs.Tables.{Published, Rows, published_of}
use Rattle.desk_valid.specs.declared.bound.Bound.{Bound}
use Rattle.desk_valid.specs.Bindings.{IsNamedKit, bound_at}
use Rattle.desk_valid.specs.Valid.{AreValid}
use Rattle.desk_valid.proofs.Kits.{edition-kit}
use Rattle.machine_core.specs.Checked.{IsFound, IsRefused, told}
use Rattle.machine_core.specs.Clerk.Carry.{carried_to, carry_row}
use Rattle.machine_core.specs.Finding.{edition_named}
use Rattle.machine_core.specs.Own.{IsOwn, Own}
use Rattle.machine_core.specs.Sessions.{IsSessionOf}
use Rattle.machine_core.specs.Tests.{active_session}
use Rattle.machine_core.specs.Views.{edition_at}
use Rattle.machine_core.proofs.GoodRows.{own-session}
use Rattle.machine_core.proofs.ReadRows.{edition-read}
use Rattle.machine_core.proofs.Widths.{edition-stands, width-bound}

-- what there is
some-value : {A : Type 0} (P : A → Type 0) (found : Option A) → IsSomeAnd found P → (value : A) × (found ≡ Some value)
some-value P None is = absurd is
some-value P (Some value) is = (value, refl)

-- an edition of valid tables binds
edition-binds : (rows : Rows) (edition : ℕ) → AreValid rows → edition < length rows.editions
    → (bound : Bound) × (bound_at (published_of rows) edition ≡ Some bound)
edition-binds rows edition valid within =
    some-value IsNamedKit (bound_at (published_of rows) edition) (edition-kit rows edition valid within)

-- a session that is found for a clerk, and the row of its edition that is read
pub record IsPinned (rows : Rows) (own : Own) (number : ℕ) (session : SessionRow) (pinned : EditionRow) : Type 0 where
  pub found : IsFound (active_session own.sessions number) session
  pub good : IsSessionOf (published_of rows) session
  pub same : pinned ≡ edition_at (published_of rows) session.edition

-- it is as its number names it
pub own-pinned : (rows : Rows) (own : Own) (number : ℕ) (session : SessionRow) (pinned : EditionRow)
    {sessions : List SessionRow} {editions : List EditionRow} → AreValid rows → IsOwn rows own
    → sessions ≡ own.sessions → IsFound (active_session sessions number) session
    → slice_get sessions (number - 1) ≡ Some session → editions ≡ rows.editions
    → pinned ≡ get_or editions session.edition pinned → IsPinned rows own number session pinned
own-pinned rows own number session pinned valid is same found stands all read =
    let good = own-session rows own valid is number session same stands in
    record {
      found = rw same at found;
      good = good;
      same = edition-read (published_of rows) session.edition pinned good.edition (rw all at read);
    }

module _ (published : Published) (own : Own) (number version : ℕ) (session : SessionRow) (pinned : EditionRow)
    (found : IsFound (active_session own.sessions number) session)
    (same : pinned ≡ edition_at published session.edition) where
  -- there is no such version
  pub carry-missing : edition_named published.editions pinned.name version ≡ None
      → IsRefused (carry_row published own number version) (NoSuch kind.Edition)
  carry-missing none =
      let Named : EditionRow → Type 0 = λ one. edition_named published.editions one.name version ≡ None in
      rw (found, subst Named same none) refl

  module _ (edition : ℕ) (named : edition_named published.editions pinned.name version ≡ Some edition) where
    named-so : edition_named published.editions (edition_at published session.edition).name version ≡ Some edition
    named-so = subst (λ (one : EditionRow). edition_named published.editions one.name version ≡ Some edition) same named

    -- it is no newer
    pub carry-old : version ≤ pinned.version
        → IsRefused (carry_row published own number version) (NotNewer pinned.version)
    carry-old old =
        let fails : nat_lt pinned.version version ≡ false = grind (arith, nat_tests, old) in
        let fails_so : nat_lt (edition_at published session.edition).version version ≡ false =
        subst (λ (one : EditionRow). nat_lt one.version version ≡ false) same fails in
        rw (found, named-so, fails_so) (ap (λ (one : EditionRow). told (Err (NotNewer one.version))) (sym same))

    -- it is newer
    pub carry-newer : (before after : Bound) → pinned.version < version
        → bound_at published session.edition ≡ Some before → bound_at published edition ≡ Some after
        → IsFound (carry_row published own number version) (carried_to session edition before after)
    carry-newer before after newer here there =
        let holds : nat_lt pinned.version version ≡ true = grind (arith, nat_tests, newer) in
        let holds_so : nat_lt (edition_at published session.edition).version version ≡ true =
        subst (λ (one : EditionRow). nat_lt one.version version ≡ true) same holds in
        rw (found, named-so, holds_so, here, there) refl

-- it has a text and a flag for each attribute of that version
pub carried-stands : (published : Published) (session : SessionRow) (edition : ℕ) (before after : Bound)
    → bound_at published edition ≡ Some after → IsSessionOf published (carried_to session edition before after)
carried-stands published session edition before after there =
    let Wide : ℕ → Option ℕ → Type 0 = λ count found. IfSome found (λ width. count ≡ width) in
    let width = sym (width-bound published edition after there) in
    let words = after.names.attributes in
    record {
      edition = edition-stands published edition after there;
      typed = subst (Wide (length (carried_to session edition before after).typed)) width
          (length-map words (kept before.names.attributes session.typed []));
      confirmed = subst (Wide (length (carried_to session edition before after).confirmed)) width
          (length-map words (kept before.names.attributes session.confirmed false));
    }

-- a session as it is carried between editions of valid tables, which bind
pub record IsCarried (published : Published) (session : SessionRow) (edition : ℕ) (carried : SessionRow) : Type 0 where
  pub before : Bound
  pub after : Bound
  pub binds : bound_at published session.edition ≡ Some before
  pub binds_after : bound_at published edition ≡ Some after
  pub is : carried ≡ carried_to session edition before after

-- it is carried from what its edition binds to to what the other does
pub session-carried : {rows : Rows} {session : SessionRow} {edition : ℕ} {carried : SessionRow} → AreValid rows
    → IsSessionOf (published_of rows) session → edition < length rows.editions
    → ((before after : Bound) → bound_at (published_of rows) session.edition ≡ Some before
    → bound_at (published_of rows) edition ≡ Some after → carried ≡ carried_to session edition before after)
    → IsCarried (published_of rows) session edition carried
session-carried {rows} {session} {edition} {carried} valid good within is =
    let before = edition-binds rows session.edition valid good.edition in
    let after = edition-binds rows edition valid within in
    record {
      before = before.0;
      after = after.0;
      binds = before.1;
      binds_after = after.1;
      is = is before.0 after.0 before.1 after.1;
    }

-- so it stands
pub IsCarried-stands : {published : Published} {session : SessionRow} {edition : ℕ} {carried : SessionRow}
    → IsCarried published session edition carried → IsSessionOf published carried
IsCarried-stands {published} {session} {edition} {carried} is =
    subst (IsSessionOf published) (sym is.is)
    (carried-stands published session edition is.before is.after is.binds_after)
