-- The files that are written beside the clean sheet.
use Rattle.std.proofs.Common.{◌≡◌, ◌++◌, ◌∷◌, [], List, false, ℕ, Ok, Err, Some, codes}
use Rattle.std.specs.Borrow.{Bor}
use Rattle.std.specs.Prelude.{All, Result}
use Rattle.std.specs.Result.{OnOk}
use Rattle.std.proofs.lemmas.List.Elements.{All-cons, All-nil}
use Rattle.clean_run.specs.Words.{files_written, is_read}
use Rattle.clean_run.specs.declared.ended.Ended.{Ended}
use Rattle.clean_run.specs.declared.words.Words.{Words}

-- where none of the three files is read, none that is written is
pub unread-written : (words : Words) (file : Bor (List ℕ)) (result : Result (Unit {0}) Ended)
    → words.changes ≡ Some file → is_read words file.now ≡ false
    → is_read words (file.now ++ codes ".conflicts") ≡ false
    → OnOk result (is_read words (file.now ++ codes ".dissents") ≡ false)
    → OnOk result (All (λ name. is_read words name ≡ false) (files_written words.changes))
unread-written words file (Ok done) some first second third =
    let unread : List ℕ → Type 0 = λ name. is_read words name ≡ false in
    let conflicts = file.now ++ codes ".conflicts" in
    let dissents = file.now ++ codes ".dissents" in
    rw some (All-cons unread file.now (conflicts ∷ dissents ∷ []) first
    (All-cons unread conflicts (dissents ∷ []) second (All-cons unread dissents [] third (All-nil unread))))
unread-written words file (Err ended) some first second third = tt
