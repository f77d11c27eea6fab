-- The newest version of a name is the last row that has it.
use Rattle.std.proofs.Common.{◌≡◌, ◌∙◌, ◌≤◌, ◌<◌, ◌+◌, ◌==◌, ◌&&◌, ℕ, Bool, true, false, List, [], ◌∷◌, length, take}
use Rattle.std.proofs.Common.{get_or, Some, None, inl, inr, sym, ap, arith, refl}
use Rattle.std.specs.Prelude.{count_by, position, slice_get, if◌then◌else◌, MatchOption, Option}
use Rattle.std.specs.List.{position_or_len}
use Rattle.std.specs.Str.{bytes_eq}
use Rattle.std.specs.Cmp.Lexicographic.{bytes_decides}
use Rattle.std.proofs.lemmas.Bool.{cases_Bool}
use Rattle.std.proofs.lemmas.Bool.Decides.{nat_tests}
use Rattle.std.proofs.lemmas.List.{take-take}
use Rattle.std.proofs.lemmas.List.Sums.{count_by_more_yes, position_or_len_is, sum_by-take-le}
use Rattle.std.proofs.lemmas.Option.{get_or_from_slice_get, same_Some, slice_get-get_or, slice_get_within}
use Rattle.desk_valid.specs.Versions.{count_before}
use Rattle.machine_core.specs.Finding.{newest_of, version_count}
use Rattle.machine_core.specs.Versions.{AreVersions, IsLastNamed}

-- the first row that passes
position_some : {T : Type 0} (test : T → Bool) (rows : List T) (place : ℕ) (row : T) → slice_get rows place ≡ Some row
    → test row ≡ true → ((earlier : ℕ) → earlier < place → test (get_or rows earlier row) ≡ false)
    → position test rows ≡ Some place
position_some test rows place row stands passes before =
    let within = slice_get_within rows place row stands in
    let first : position_or_len test rows ≡ place = position_or_len_is test rows place row (omega (arith, within))
    before (λ _. ap test (get_or_from_slice_get rows place row row stands) ∙ passes) in
    grind (arith, nat_tests, first, within)

-- where no row passes there is no place
position_none : {T : Type 0} (test : T → Bool) (rows : List T)
    → ((place : ℕ) (row : T) → slice_get rows place ≡ Some row → test row ≡ false) → position test rows ≡ None
position_none test [] fails = refl
position_none {T} test (row ∷ rows) fails =
    let first : position_or_len test (row ∷ rows) ≡ length (row ∷ rows) =
    position_or_len_is test (row ∷ rows) (length (row ∷ rows)) row (omega arith)
    (λ place before. fails place (get_or (row ∷ rows) place row) (slice_get-get_or (row ∷ rows) place row before))
    (λ beyond. absurd (omega arith)) in
    grind (arith, nat_tests, first)

module _ {T : Type 0} (name_of : T → List ℕ) (version_of : T → ℕ) (rows : List T) (name : List ℕ)
    (versions : AreVersions name_of version_of rows) where
  abbrev pub has : T → Bool
  has row = bytes_eq (name_of row) name

  -- more rows have as many of the name or more
  counts-grow : (other place : ℕ) → place ≤ other → count_by has (take place rows) ≤ count_by has (take other rows)
  counts-grow other place below = rw (take-take place other rows below) at
      (sum_by-take-le (λ row. if has row then 1 else 0) (take other rows) place)

  -- a row of the name has the version that follows those before it
  version-at : (place : ℕ) (row : T) → slice_get rows place ≡ Some row → has row ≡ true
      → version_of row ≡ count_by has (take place rows) + 1
  version-at place row stands is =
      (versions place row stands).next
      ∙ ap (λ one. count_before name_of rows place one + 1) ((bytes_decides (name_of row) name).0 is)

  -- the test of a row
  abbrev tested : T → Bool
  tested row = has row && (version_of row == version_count name_of rows name)

  module _ (place : ℕ) (last : IsLastNamed name_of rows name place) where
    within : place < length rows
    within = slice_get_within rows place last.row last.stands

    here : get_or rows place last.row ≡ last.row
    here = get_or_from_slice_get rows place last.row last.row last.stands

    counted : count_by has rows ≡ count_by has (take place rows) + 1
    counted = sym last.last ∙ count_by_more_yes has rows place last.row within (ap has here ∙ last.named)

    -- its version is how many there are
    pub version-last : version_of last.row ≡ version_count name_of rows name
    version-last = version-at place last.row last.stands last.named ∙ sym counted

    tested-before : (earlier : ℕ) → earlier < place → tested (get_or rows earlier last.row) ≡ false
    tested-before earlier before = elim (cases_Bool (has (get_or rows earlier last.row))) [
      | inr other ↦ rw other refl
      | inl same ↦
          let one = version-at earlier (get_or rows earlier last.row)
          (slice_get-get_or rows earlier last.row (omega (arith, within))) same in
          let more = count_by_more_yes has rows earlier last.row (omega (arith, within)) same in
          let grown = counts-grow place (earlier + 1) (omega arith) in
          grind (arith, nat_tests, same, one, more, grown, counted)
    ]

    -- and it is the newest
    pub newest-last : newest_of name_of version_of rows name ≡ Some place
    newest-last =
        let version = version-last in
        position_some tested rows place last.row last.stands (grind (arith, nat_tests, last.named, version))
        tested-before

  -- without a row of the name there is none
  pub newest-none : count_by has rows ≡ 0 → newest_of name_of version_of rows name ≡ None
  newest-none none =
      let never : (place : ℕ) (row : T) → slice_get rows place ≡ Some row → has row ≡ false =
      λ place row stands. elim (cases_Bool (has row)) [
        | inr other ↦ other
        | inl same ↦
            let within = slice_get_within rows place row stands in
            let more = count_by_more_yes has rows place row within
            (ap has (get_or_from_slice_get rows place row row stands) ∙ same) in
            let most = sum_by-take-le (λ one. if has one then 1 else 0) rows (place + 1) in
            absurd (omega (arith, more, most, none))
      ] in
      position_none tested rows (λ place row stands. rw (never place row stands) refl)

  -- what is found is the newest, or there is none
  pub newest-found : (found : Option ℕ)
      → MatchOption found (count_by (λ row. bytes_eq (name_of row) name) rows ≡ 0) (IsLastNamed name_of rows name)
      → found ≡ newest_of name_of version_of rows name
  newest-found None last = sym (newest-none last)
  newest-found (Some place) last = sym (newest-last place last)

  -- the row that is read at the last place of the name has their number as its version
  pub version-read : (place : ℕ) (row : T) → IsLastNamed name_of rows name place → row ≡ get_or rows place row
      → version_of row ≡ version_count name_of rows name
  version-read place row last read =
      let stands : slice_get rows place ≡ Some row = slice_get-get_or rows place row
      (slice_get_within rows place last.row last.stands) ∙ ap Some (sym read) in
      ap version_of (same_Some row last.row (sym stands ∙ last.stands)) ∙ version-last place last
