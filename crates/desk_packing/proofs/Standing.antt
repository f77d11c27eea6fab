-- The lines of tables are read back as the tables, and nothing else is read.
use Rattle.std.proofs.Common.{◌≡◌, inl, inr, ℕ, zero, suc, ◌+◌, ◌<◌, ◌≤◌, ◌^◌, true, false, ◌&&◌, ◌==◌, List, [], ◌∷◌}
use Rattle.std.proofs.Common.{◌++◌, length, Some, None, All, refl, sym, ap, ap₂, ◌∙◌, append_assoc}
use Rattle.std.proofs.Common.{append-nil, arith}
use Rattle.std.specs.Prelude.{nat_le, nat_lt, if◌then◌else◌, option_map}
use Rattle.std.specs.List.{AllByRecursion}
use Rattle.std.proofs.lemmas.Bool.{and_parts, and_from, and_right, cases_Bool, eq-eqb, eqb-true, leb-true, lt-ltb}
use Rattle.std.proofs.lemmas.Bool.{ltb-true, ne_eqb}
use Rattle.std.proofs.lemmas.List.{nil_from_length}
use Rattle.std.proofs.lemmas.List.Elements.{All-cons, All-head, All-nil, All-tail}
use Rattle.desk_words.specs.Tables.{AreListsOf, IsShort}
use Rattle.desk_packing.specs.Formats.{Format, IsExact, whole}
use Rattle.desk_packing.specs.Lines.{Line}
use Rattle.desk_packing.specs.Reading.{is_of, list_in, lists_in, row_at}
use Rattle.desk_packing.specs.Stands.{list_lines, own_lines, row_line}
use Rattle.desk_base.proofs.Options.{option_map-Some}
use Rattle.desk_packing.proofs.Options.{and_then-some, if-found, if-some, pair-parts, some-pair}
use Rattle.desk_packing.proofs.Permutations.{each-append, each-weaker}

-- of no line is the list of this kind and owner
abbrev pub AreOthers : ℕ → ℕ → List Line → Type 0
AreOthers kind owner lines = AllByRecursion (λ line. is_of kind owner line ≡ false) lines

-- a line is its parts
pub line-is : (line : Line) (kind owner place : ℕ) (body : List ℕ) → line.kind ≡ kind → line.owner ≡ owner
    → line.place ≡ place → line.body ≡ body
    → line ≡ record { kind = kind; owner = owner; place = place; body = body }
line-is line kind owner place body a b c d = λ i. record { kind = a i; owner = b i; place = c i; body = d i }

is_of-own : (kind owner place : ℕ) (body : List ℕ)
    → is_of kind owner (record { kind = kind; owner = owner; place = place; body = body }) ≡ true
is_of-own kind owner place body = and_from (kind == kind) (owner == owner) (eq-eqb kind kind refl)
    (eq-eqb owner owner refl)

module _ {A : Type 0} (format : Format A) where
  pub list_lines-kind : (kind owner place : ℕ) (rows : List A)
      → AllByRecursion (λ line. line.kind ≡ kind) (list_lines format kind owner place rows)
  list_lines-kind kind owner place [] = tt
  list_lines-kind kind owner place (x ∷ rows) = (refl, list_lines-kind kind owner (place + 1) rows)

  pub list_lines-owner : (kind owner place : ℕ) (rows : List A)
      → AllByRecursion (λ line. (line.kind ≡ kind) × (line.owner ≡ owner)) (list_lines format kind owner place rows)
  list_lines-owner kind owner place [] = tt
  list_lines-owner kind owner place (x ∷ rows) = ((refl, refl), list_lines-owner kind owner (place + 1) rows)

  pub own_lines-kind : (kind owner : ℕ) (lists : List (List A))
      → AllByRecursion (λ line. line.kind ≡ kind) (own_lines format kind owner lists)
  own_lines-kind kind owner [] = tt
  own_lines-kind kind owner (rows ∷ lists) = each-append (λ line. line.kind ≡ kind)
      (list_lines format kind owner 0 rows) (own_lines format kind (owner + 1) lists)
      (list_lines-kind kind owner 0 rows) (own_lines-kind kind (owner + 1) lists)

  -- the lines of the clerks after one
  pub own_lines-owner : (kind low owner : ℕ) (lists : List (List A)) → low < owner
      → AllByRecursion (λ line. (line.kind ≡ kind) × (low < line.owner)) (own_lines format kind owner lists)
  own_lines-owner kind low owner [] above = tt
  own_lines-owner kind low owner (rows ∷ lists) above = each-append (λ line. (line.kind ≡ kind) × (low < line.owner))
      (list_lines format kind owner 0 rows) (own_lines format kind (owner + 1) lists)
      (each-weaker (λ line. (line.kind ≡ kind) × (line.owner ≡ owner)) (λ line. (line.kind ≡ kind) × (low < line.owner))
      (λ line is. (is.0, rw is.1 above)) (list_lines format kind owner 0 rows) (list_lines-owner kind owner 0 rows))
      (own_lines-owner kind low (owner + 1) lists (omega arith))

  own_lines-others : (kind owner : ℕ) (lists : List (List A))
      → AreOthers kind owner (own_lines format kind (owner + 1) lists)
  own_lines-others kind owner lists =
      each-weaker (λ line. (line.kind ≡ kind) × (owner < line.owner)) (λ line. is_of kind owner line ≡ false)
      (λ line is. and_right (line.kind == kind) (line.owner == owner)
      (ne_eqb line.owner owner (λ e. absurd (omega arith))))
      (own_lines format kind (owner + 1) lists) (own_lines-owner kind owner (owner + 1) lists (omega arith))

-- the rows stand in front of the lines, from a place on, and nothing but the rest comes after them
pub record IsListIn {A : Type 0} (format : Format A) (kind owner place : ℕ) (rows : List A) (lines rest : List Line)
    : Type 0 where
  pub fit : AllByRecursion format.Fits rows
  pub lines_are : lines ≡ list_lines format kind owner place rows ++ rest
  pub few : place + length rows < 2 ^ 31

-- so do the lists of so many clerks
pub record AreListsIn {A : Type 0} (format : Format A) (kind owner clerks : ℕ) (lists : List (List A))
    (lines rest : List Line) : Type 0 where
  pub fit : AllByRecursion (AllByRecursion format.Fits) lists
  pub lines_are : lines ≡ own_lines format kind owner lists ++ rest
  pub are : AreListsOf clerks lists

module _ {A : Type 0} (format : Format A) (exact : IsExact format) where
  whole-back : (x : A) → format.Fits x → whole format (format.print x) ≡ Some x
  whole-back x fits =
      let found : format.parse (format.print x) ≡ Some (x, []) = rw append-nil at (exact.back x [] fits) in
      rw found refl

  whole-only : (packed : List ℕ) (x : A) → whole format packed ≡ Some x → format.Fits x × (packed ≡ format.print x)
  whole-only packed x found =
      let (front, front_is, made) = and_then-some (λ found. if nat_le (length found.1) 0 then Some found.0 else None)
      (format.parse packed) x found in
      let (none, is) = if-some (nat_le (length front.1) 0) front.0 x made in
      let less : length front.1 ≤ 0 = leb-true (length front.1) 0 none in
      let empty : front.1 ≡ [] = nil_from_length front.1 (omega arith) in
      let (fits, starts) = exact.only packed front.1 front.0 front_is in (
        rw (← is) fits,
        starts ∙ ap (λ rest. format.print front.0 ++ rest) empty ∙ append-nil (format.print front.0)
            ∙ ap format.print is,
      )

  row_at-back : (kind owner place : ℕ) (x : A) → format.Fits x → place + 1 < 2 ^ 31
      → row_at format place (row_line format kind owner place x) ≡ Some x
  row_at-back kind owner place x fits short =
      rw (eq-eqb place place refl, lt-ltb (place + 1) (2 ^ 31) short) (whole-back x fits)

  row_at-only : (kind owner place : ℕ) (line : Line) (x : A) → is_of kind owner line ≡ true
      → row_at format place line ≡ Some x
      → format.Fits x × (line ≡ row_line format kind owner place x) × (place + 1 < 2 ^ 31)
  row_at-only kind owner place line x is found =
      let (there, whole_is) = if-found ((line.place == place) && nat_lt (place + 1) (2 ^ 31)) (whole format line.body) x
      found in
      let (same_kind, same_owner) = and_parts (line.kind == kind) (line.owner == owner) is in
      let (same_place, short) = and_parts (line.place == place) (nat_lt (place + 1) (2 ^ 31)) there in
      let (fits, body) = whole-only line.body x whole_is in (
        fits,
        line-is line kind owner place (format.print x) (eqb-true line.kind kind same_kind)
            (eqb-true line.owner owner same_owner) (eqb-true line.place place same_place) body,
        ltb-true (place + 1) (2 ^ 31) short,
      )

  list_in-none_of : (kind owner place : ℕ) (rest : List Line) → AreOthers kind owner rest
      → list_in format kind owner place rest ≡ Some ([], rest)
  list_in-none_of kind owner place [] others = refl
  list_in-none_of kind owner place (line ∷ rest) others = rw others.0 refl

  pub list_in-back : (kind owner place : ℕ) (rows : List A) (rest : List Line) → AllByRecursion format.Fits rows
      → place + length rows < 2 ^ 31 → AreOthers kind owner rest
      → list_in format kind owner place (list_lines format kind owner place rows ++ rest) ≡ Some (rows, rest)
  list_in-back kind owner place [] rest fit short others = list_in-none_of kind owner place rest others
  list_in-back kind owner place (x ∷ rows) rest fit short others =
      rw (is_of-own kind owner place (format.print x))
      (rw (row_at-back kind owner place x fit.0 (omega arith))
      (rw (list_in-back kind owner (place + 1) rows rest fit.1 (omega arith) others) refl))

  pub list_in-only : (kind owner place : ℕ) (lines rest : List Line) (rows : List A) → place < 2 ^ 31
      → list_in format kind owner place lines ≡ Some (rows, rest)
      → IsListIn format kind owner place rows lines rest
  list_in-only kind owner place [] rest rows short found =
      let (none, rest_is) = some-pair [] rows [] rest found in
      rw (← none) (record { fit = tt; lines_are = rest_is; few = omega arith })
  list_in-only kind owner place (line ∷ lines) rest rows short found = elim (cases_Bool (is_of kind owner line)) [
    | inl is ↦
        let (row, row_is, next) = and_then-some
        (λ row. option_map (λ more. (row ∷ more.0, more.1)) (list_in format kind owner (place + 1) lines))
        (row_at format place line) (rows, rest) (rw is at found) in
        let (more, more_are, made) = option_map-Some (λ more. (row ∷ more.0, more.1))
        (list_in format kind owner (place + 1) lines) (rows, rest) next in
        let (rows_are, rest_is) = pair-parts (row ∷ more.0) rows more.1 rest made in
        let (fits, starts, below) = row_at-only kind owner place line row is row_is in
        let others = list_in-only kind owner (place + 1) lines more.1 more.0 below more_are in
        rw (← rows_are) (record {
          fit = (fits, others.fit);
          lines_are = ap₂ ◌∷◌ starts
              (others.lines_are ∙ ap (λ b. list_lines format kind owner (place + 1) more.0 ++ b) rest_is);
          few = omega (arith, others.few);
        })
    | inr other ↦
        let (none, rest_is) = some-pair [] rows (line ∷ lines) rest (rw other at found) in
        rw (← none) (record { fit = tt; lines_are = rest_is; few = omega arith })
  ]

  pub lists_in-back : (kind owner : ℕ) (lists : List (List A)) (rest : List Line)
      → AllByRecursion (AllByRecursion format.Fits) lists → All IsShort lists
      → ((one : ℕ) → AreOthers kind one rest)
      → lists_in format kind owner (length lists) (own_lines format kind owner lists ++ rest) ≡ Some (lists, rest)
  lists_in-back kind owner [] rest fit short others = refl
  lists_in-back kind owner (rows ∷ lists) rest fit short others =
      let following = own_lines format kind (owner + 1) lists ++ rest in
      let few : length rows < 2 ^ 31 = All-head IsShort rows lists short in
      rw (append_assoc (list_lines format kind owner 0 rows) (own_lines format kind (owner + 1) lists) rest)
      (rw (list_in-back kind owner 0 rows following fit.0 (omega arith)
      (each-append (λ line. is_of kind owner line ≡ false) (own_lines format kind (owner + 1) lists) rest
      (own_lines-others format kind owner lists) (others owner)))
      (rw (lists_in-back kind (owner + 1) lists rest fit.1 (All-tail IsShort rows lists short) others) refl))

  pub lists_in-only : (kind owner clerks : ℕ) (lines rest : List Line) (lists : List (List A))
      → lists_in format kind owner clerks lines ≡ Some (lists, rest)
      → AreListsIn format kind owner clerks lists lines rest
  lists_in-only kind owner zero lines rest lists found =
      let (none, rest_is) = some-pair [] lists lines rest found in
      rw (← none) (record { fit = tt; lines_are = rest_is; are = record { each = refl; short = All-nil IsShort } })
  lists_in-only kind owner (suc clerks) lines rest lists found =
      let (rows, rows_are, next) = and_then-some
      (λ rows. option_map (λ more. (rows.0 ∷ more.0, more.1)) (lists_in format kind (owner + 1) clerks rows.1))
      (list_in format kind owner 0 lines) (lists, rest) found in
      let (more, more_are, made) = option_map-Some (λ more. (rows.0 ∷ more.0, more.1))
      (lists_in format kind (owner + 1) clerks rows.1) (lists, rest) next in
      let (lists_are, rest_is) = pair-parts (rows.0 ∷ more.0) lists more.1 rest made in
      let one = list_in-only kind owner 0 lines rows.1 rows.0 (omega arith) rows_are in
      let others = lists_in-only kind (owner + 1) clerks rows.1 more.1 more.0 more_are in
      rw (← lists_are) (record {
        fit = (one.fit, others.fit);
        lines_are = one.lines_are ∙ ap (λ b. list_lines format kind owner 0 rows.0 ++ b)
            (others.lines_are ∙ ap (λ b. own_lines format kind (owner + 1) more.0 ++ b) rest_is)
            ∙ sym (append_assoc (list_lines format kind owner 0 rows.0) (own_lines format kind (owner + 1) more.0)
            rest);
        are = record {
          each = ap suc others.are.each;
          short = All-cons IsShort rows.0 more.0 (omega (arith, one.few)) others.are.short;
        };
      })
