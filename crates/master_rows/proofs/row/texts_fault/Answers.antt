use Rattle.std.proofs.Common.{◌≤◌, ◌+◌, ◌∙◌, [], ℕ, List, Bor, suc, below_more, drop, get_or, length, sym, ap, add-one}
use Rattle.std.proofs.Common.{arith}
use Rattle.std.proofs.lemmas.List.{get_or_default}
use Rattle.desk_base.specs.Texts.{bytes_of}
use Rattle.desk_base.specs.declared.limits.TheConstants.{MAX_TEXT}
use Rattle.desk_base.proofs.Slices.{drop-texts}
use Rattle.master_rows.specs.Row.{cells_fault}
use Rattle.master_rows.proofs.Faults.{cells_fault-long, cells_fault-next}
use Rattle.master_rows.proofs.row.texts_fault.Goals as goal

pub returns-then-text-gt-MAX_TEXT-clause-fault : goal.returns-then-text-gt-MAX_TEXT-clause-fault
returns-then-text-gt-MAX_TEXT-clause-fault c =
    let texts = c.args.texts.now in
    let place = c.texts.place in
    let none : Bor (List ℕ) = record { ref_ptr = (0, 0); now = [] } in
    sym (c.texts.invariant.left
    ∙ ap (cells_fault c.args.row (place + 1)) (drop-texts texts place none c.texts-test.true)
    ∙ cells_fault-long c.args.row (place + 1) (get_or texts place none).now (drop (suc place) (bytes_of texts))
    c.if-text-gt-MAX_TEXT.true)

pub texts-preserved : goal.texts-preserved
texts-preserved c =
    let texts = c.args.texts.now in
    let place = c.texts.place in
    let none : Bor (List ℕ) = record { ref_ptr = (0, 0); now = [] } in
    let short : length (get_or texts place none).now ≤ MAX_TEXT = c.if-text-gt-MAX_TEXT.false in
    record {
      left = c.texts.invariant.left
          ∙ ap (cells_fault c.args.row (place + 1)) (drop-texts texts place none c.texts-test.true)
          ∙ cells_fault-next c.args.row (place + 1) (get_or texts place none).now (drop (suc place) (bytes_of texts)) short
          ∙ ap (λ n. cells_fault c.args.row (place + 1 + 1) (drop n (bytes_of texts))) (sym (add-one place));
      fit = λ d. below_more (λ (at : ℕ). length (get_or texts at d).now ≤ MAX_TEXT) place (c.texts.invariant.fit d)
          (rw (get_or_default texts place d none c.texts-test.true) short);
    }

pub returns-clause-fits : goal.returns-clause-fits
returns-clause-fits c _ place d within = c.texts.invariant.fit d place (omega (arith, within, c.texts-test.false))
