-- The text of a report (docs/formats.md, Reports and records).
use Rattle.std.specs.Prelude.{ℕ, List, [], ◌∷◌, ◌++◌, Option, Some, None, codes, decimal, flat_map}
use Rattle.desk_base.specs.Texts.{line}
use Rattle.desk_words.specs.declared.report.ReportLine.{ReportLine}
use Rattle.desk_words.specs.declared.report.ReportSheet.{ReportSheet}

-- a number, after a space
abbrev pub spaced : ℕ → List ℕ
spaced number = 32 ∷ decimal number

-- whose sessions these are: a clerk's, or those of all
abbrev pub title : Option (List ℕ) → List ℕ
title None = line (codes "desk")
title (Some clerk) = line (codes "clerk " ++ clerk)

-- what the columns are
abbrev pub heading : List ℕ
heading = line
    (codes "edition version sessions active committed abandoned certain partial conflict confirmed fixed uncovered")

-- the numbers of an edition, in the order of the heading
abbrev pub numbers_of : ReportLine → List ℕ
numbers_of counted =
    counted.version ∷ counted.sessions
    ∷ counted.active ∷ counted.committed ∷ counted.abandoned
    ∷ counted.certain ∷ counted.partial ∷ counted.conflict
    ∷ counted.confirmed ∷ counted.fixed ∷ counted.uncovered
    ∷ []

-- the line of an edition
abbrev pub edition_line : ReportLine → List ℕ
edition_line counted = line (counted.edition ++ flat_map spaced (numbers_of counted))

-- the sum of the sessions
abbrev pub total_line : ℕ → List ℕ
total_line total = line (codes "total" ++ spaced total)

-- a report
abbrev pub report_text : ReportSheet → List ℕ
report_text sheet = title sheet.clerk ++ heading ++ flat_map edition_line sheet.lines ++ total_line sheet.total
