use Rattle.std.proofs.Common.{ℕ, List, Bor, ◌+◌, ◌<◌, ◌≡◌, ◌++◌, ◌∷◌, [], ◌∙◌, ap, sym, arith, length, length-append, add-one}
use Rattle.std.proofs.Math.Nat.{suc-mul}
use Rattle.std.proofs.lemmas.List.{length-map}
use Rattle.desk_base.proofs.Rows.{length-rows_of, rows_of-append}
use Rattle.desk_base.specs.Grid.{rows_of}
use Rattle.desk_base.specs.Texts.{bytes_of}
use Rattle.desk_base.specs.declared.limits.TheConstants.{MAX_SHEET_ROWS}
use Rattle.desk_base.proofs.grid.Grid.push_row.Goals as goal

pub invariant_of-self : goal.invariant_of-self
invariant_of-self c =
    let inside = c.self.inside in
    let room : inside.count < MAX_SHEET_ROWS = rw (length-rows_of inside.width inside.count inside.cells) at
    (rw (← c.self.view_is) at c.requires.room) in
    let row = bytes_of c.args.row.now in
    let full : length row ≡ inside.width = length-map c.args.row.now (λ (text : Bor (List ℕ)). text.now)
    ∙ (rw (← c.self.view_is) at c.requires.full) in
    let grown : c.push_texts.new.cells ≡ inside.cells ++ row = c.in-Ok.ensures.pushed in (
      omega arith,
      rw (grown, length-append, full, c.self.invariant.1, add-one)
          (sym (suc-mul inside.count inside.width)),
    )

pub returns-in-Ok-clause-pushed : goal.returns-in-Ok-clause-pushed
returns-in-Ok-clause-pushed c =
    let inside = c.self.inside in
    let row = bytes_of c.args.row.now in
    let full : length row ≡ inside.width = length-map c.args.row.now (λ (text : Bor (List ℕ)). text.now)
    ∙ (rw (← c.self.view_is) at c.requires.full) in
    let grown : c.push_texts.new.cells ≡ inside.cells ++ row = c.in-Ok.ensures.pushed in
    let rows : rows_of inside.width (inside.count + 1) c.push_texts.new.cells ≡
    rows_of inside.width inside.count inside.cells ++ row ∷ [] = rw grown
    (rows_of-append inside.width inside.count inside.cells row c.self.invariant.1 full) in
    rw (← c.self.view_is) (ap (λ rows. record { columns = inside.width; rows = rows }) rows)
