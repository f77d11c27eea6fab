use Rattle.std.proofs.Common.{◌≡◌, ◌∙◌, ◌<◌, true, false, not, cond, [], ◌∷◌, ◌++◌, ap, arith, length, refl, sym, take}
use Rattle.std.proofs.lemmas.List.{append-nil}
use Rattle.machine_views.proofs.Carried.{apart-more, apart-words}
use Rattle.machine_views.proofs.looks.carry.words_apart.Goals as goal
use Rattle.machine_views.proofs.looks.carry.words_apart.Goals.{else-not-has_word}
use Rattle.machine_views.proofs.looks.carry.words_apart.Goals.{then-not-has_word+in_ok-copy+in_ok-push}

pub cells-preserved : goal.cells-preserved
cells-preserved c =
    let cells = c.args.view.now.cells in
    let other = c.args.other.now in
    let place = c.cells.cell-index in
    let cell = c.cell-item.result in
    let before = apart-words other (take place cells) in
    let within : place < length cells = omega (arith, c.cells-test.true, ap length c.as_slice-cell-items.ensures) in
    let is = rw c.as_slice-cell-items.ensures at c.cell-item.is in
    let has = rw (c.as_str.ensures.text, c.as_slice.ensures) at c.has_word.ensures in
    let more = apart-more other cells place cell c.has_word.result within is has in
    elim c.if-not-has_word.branch [
      | then-not-has_word+in_ok-copy+in_ok-push w ↦ (
          let apart : not c.has_word.result ≡ true = rw w.if-not-has_word.true refl in
          w.words-is ∙ w.in_ok-push.ensures.pushed ∙ ap (λ words. words ++ w.in_ok-copy.field-0 ∷ []) c.cells.invariant
          ∙ ap (λ word. before ++ word ∷ []) w.in_ok-copy.ensures.copied
          ∙ sym (more ∙ ap (λ test. before ++ cond test (cell.name ∷ []) []) apart))
      | else-not-has_word w ↦ (
          let there : not c.has_word.result ≡ false = rw w.if-not-has_word.false refl in
          w.words-is ∙ c.cells.invariant
          ∙ sym (more ∙ ap (λ test. before ++ cond test (cell.name ∷ []) []) there ∙ append-nil before))
    ]
