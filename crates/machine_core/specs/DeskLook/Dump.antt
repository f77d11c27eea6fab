-- Dump: all rows of all tables.
use Rattle.desk_words.specs.declared.tables.Tables.{Tables}
use Rattle.desk_words.specs.Tables.{Rows, tables_of}
use Rattle.machine_core.specs.Checked.{Checked, done}

-- it is never refused
abbrev pub dump : Rows → Checked Tables
dump rows = done (tables_of rows)
