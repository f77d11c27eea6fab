use Rattle.std.proofs.Common.{◌≡◌, ◌∙◌, [], ◌∷◌, ◌++◌, List, ap}
use Rattle.std.specs.Prelude.{codes}
use Rattle.serde_json.specs.Data.{Data}
use Rattle.desk_words.specs.Tables.{lists_of, rows_of}
use Rattle.desk_dump.specs.Dumps.{first_line, lines_of, lists_lines, table_lines}
use Rattle.desk_dump.specs.Fields.{batch_fields, clerk_fields, edition_fields, record_fields, region_fields}
use Rattle.desk_dump.specs.Fields.{rulebook_fields, session_fields, text_fields}
use Rattle.desk_dump.specs.Writing.{with_lines}
use Rattle.desk_dump.proofs.Whole.{more-written, nothing, whole-written}
use Rattle.desk_dump.proofs.dumping.dump_text.Goals as goal

pub returns : goal.returns
returns c =
    let tables = c.args.tables.now in
    let clerks : List Data = table_lines (codes "clerk") clerk_fields tables.clerks.items in
    let schemas : List Data = table_lines (codes "schema") text_fields tables.schemas.items in
    let masters : List Data = table_lines (codes "master") text_fields tables.masters.items in
    let rulebooks : List Data = table_lines (codes "rulebook") rulebook_fields tables.rulebooks.items in
    let editions : List Data = table_lines (codes "edition") edition_fields tables.editions.items in
    let regions : List Data = table_lines (codes "region") region_fields tables.regions.items in
    let sessions : List Data = lists_lines (codes "session") session_fields (lists_of tables.sessions) in
    let records : List Data = lists_lines (codes "record") record_fields (lists_of tables.records) in
    let batches : List Data = lists_lines (codes "batch") batch_fields (lists_of tables.batches) in
    let begun : c.begin.new.self ≡ with_lines nothing (first_line ∷ []) =
    c.in_ok-begin.ensures ∙ ap (λ one. with_lines one (first_line ∷ [])) c.new-text.ensures in
    let one = more-written c.begin.new.self c.write_table.new.text (first_line ∷ []) clerks begun
    (rw c.as_slice.ensures at c.in_ok-write_table.ensures) in
    let two = more-written c.write_table.new.text c.write_table-2.new.text (first_line ∷ clerks) schemas one
    (rw c.as_slice-2.ensures at c.in_ok-write_table-2.ensures) in
    let three = more-written c.write_table-2.new.text c.write_table-3.new.text (first_line ∷ (clerks ++ schemas)) masters
    two (rw c.as_slice-3.ensures at c.in_ok-write_table-3.ensures) in
    let four = more-written c.write_table-3.new.text c.write_table-4.new.text
    (first_line ∷ (clerks ++ schemas ++ masters)) rulebooks three
    (rw c.as_slice-4.ensures at c.in_ok-write_table-4.ensures) in
    let five = more-written c.write_table-4.new.text c.write_table-5.new.text
    (first_line ∷ (clerks ++ schemas ++ masters ++ rulebooks)) editions four
    (rw c.as_slice-5.ensures at c.in_ok-write_table-5.ensures) in
    let six = more-written c.write_table-5.new.text c.write_table-6.new.text
    (first_line ∷ (clerks ++ schemas ++ masters ++ rulebooks ++ editions)) regions five
    (rw c.as_slice-6.ensures at c.in_ok-write_table-6.ensures) in
    let seven = more-written c.write_table-6.new.text c.write_lists.new.text
    (first_line ∷ (clerks ++ schemas ++ masters ++ rulebooks ++ editions ++ regions)) sessions six
    c.in_ok-write_lists.ensures in
    let eight = more-written c.write_lists.new.text c.write_lists-2.new.text
    (first_line ∷ (clerks ++ schemas ++ masters ++ rulebooks ++ editions ++ regions ++ sessions)) records seven
    c.in_ok-write_lists-2.ensures in
    let nine = more-written c.write_lists-2.new.text c.write_lists-3.new.text
    (first_line ∷ (clerks ++ schemas ++ masters ++ rulebooks ++ editions ++ regions ++ sessions ++ records)) batches
    eight c.in_ok-write_lists-3.ensures in
    c.into_bytes.ensures ∙ whole-written c.write_lists-3.new.text c.end.new.self (lines_of (rows_of tables)) nine
    c.in_ok-end.ensures
