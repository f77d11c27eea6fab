-- What a text means, by what its one statement means.
use Rattle.std.proofs.Common.{◌≡◌, ℕ, ◌+◌, List, [], None, Ok, arith, refl, length}
use Rattle.sqlite.specs.Command.{Command}
use Rattle.sqlite.specs.Listing.{understood}
use Rattle.sqlite.specs.Schema.{Schema}
use Rattle.sqlite.proofs.Callers.{IsPlain, command_of}
use Rattle.sqlite_resolve.specs.Compile.{command, compiled, first, meaning, planned, returning, small, timed}
use Rattle.sqlite_resolve.specs.Compile.{with_command}
use Rattle.sqlite_syntax.specs.declared.statement.Parsed.{Parsed}
use Rattle.row_store.proofs.Refused.{IsWhole}

-- the text is this one statement, with so many parameters
pub record IsRead (text : List ℕ) (count : ℕ) (p : Parsed) : Type 0 where
  pub is : first text ≡ Ok p
  pub untimed : p.formats ≡ []
  pub counted : small p.names ≡ count
  pub whole : p.tail ≡ length text
  pub named : count ≡ length p.names

-- the statement is this command: it reads no time and shows no row
pub record IsMeant (schema : Schema) (count : ℕ) (p : Parsed) (meant : Command) : Type 0 where
  pub untimed : timed schema p.formats p.statement ≡ []
  pub unshown : returning schema count p.statement ≡ Ok None
  pub commands : command schema p.formats count p.statement ≡ Ok meant

module _ {schema : Schema} {text : List ℕ} {count : ℕ} {p : Parsed} {meant : Command} (read : IsRead text count p)
    (is : IsMeant schema count p meant) where
  -- its meaning
  meaning_is : meaning schema p count ≡ Ok (meant, None)
  unfolding meaning
  meaning_is = rw is.unshown (rw is.commands refl)

  -- as it is planned
  planned_is : planned schema p ≡ Ok ([], (meant, None))
  unfolding planned
  planned_is =
      let base : count + 0 ≡ count = omega arith in
      rw is.untimed (rw read.counted (rw base (rw meaning_is refl)))

  -- as it is compiled
  pub compiled_is : compiled schema text ≡ Ok (with_command p ([], (meant, None)))
  unfolding compiled
  compiled_is = rw read.is (rw planned_is refl)

  -- as it is understood
  pub understood_is : understood schema text ≡ Ok (with_command p ([], (meant, None)))
  unfolding understood
  understood_is = rw compiled_is refl

  -- the command that the text means
  pub command_is : command_of (understood schema text) ≡ meant
  command_is = rw understood_is refl

  -- it shows no row, and reads no time
  pub is_plain : IsPlain (understood schema text)
  is_plain = rw understood_is (refl, refl)

  -- it is one statement with these parameters
  pub is_whole : IsWhole text count (understood schema text)
  is_whole = rw understood_is (read.whole, read.named)
