use Rattle.std.proofs.Common.{◌≡◌, map, take}
use Rattle.desk_base.specs.Texts.{bytes_of}
use Rattle.clean_run.specs.Words.{AreSheets, sheet_word}
use Rattle.clean_run.proofs.words.sheets_of.Given as goal

-- the masters so far are those of the first words
abbrev pub invariant-words : goal.invariant-words
invariant-words l = record {
  words : map sheet_word l.sheets ≡ bytes_of (take l.word-index l.words);
  sheets : AreSheets l.sheets;
}
