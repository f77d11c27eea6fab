-- What was taken and drafted of a sheet, as records are taken and drafts are written.
use Rattle.std.proofs.Common.{◌≡◌, ◌+◌, ℕ, List, [], ◌∷◌, ◌++◌, length, refl, sym, ap, subst, ◌∙◌, arith, inl, inr}
use Rattle.std.proofs.Common.{append-nil, append_assoc, length-append}
use Rattle.std.specs.Prelude.{Option, Some, None, IfErr, OnOk, Result, Ok, Err, is_none, true, false}
use Rattle.fix_model.specs.declared.kit.Kit.{Kit}
use Rattle.sheet_clean.specs.declared.drafts.Drafts.{Drafts}
use Rattle.sheet_clean.specs.declared.layout.Layout.{Layout}
use Rattle.sheet_clean.specs.declared.setting.Setting.{Setting}
use Rattle.sheet_clean.specs.declared.summary.Summary.{Summary}
use Rattle.sheet_clean.specs.Decision.{Row}
use Rattle.sheet_clean.specs.Header.{header_fault}
use Rattle.sheet_clean.specs.Row.{row_fault}
use Rattle.sheet_clean.specs.Sheets.{Sheets, added, heads, joined, no_sheets, row_sheets, row_summary}
use Rattle.sheet_clean.specs.Sheets.{rows_sheets, rows_summary}
use Rattle.sheet_clean.specs.Writing.{GivesRow, HaveWritten}
use Rattle.sheet_filter.specs.declared.cleaning.Cleaning.{Cleaning}
use Rattle.sheet_filter.specs.declared.outputs.Outputs.{Outputs}
use Rattle.sheet_filter.specs.declared.stop.Stop.{Stop}
use Rattle.sheet_filter.specs.declared.stop.Stop.TheVariants.{Refused, Failed, NoMemory}
use Rattle.sheet_filter.specs.Cleaning.{AreTaken, DraftsOver, NoneIsTaken, StandsOver}
use Rattle.sheet_filter.specs.Cleaning.{StopsFlush, StopsHeader, StopsRecord, StopsWriting}
use Rattle.sheet_filter.specs.Ends.{Begins, WritesPart, WritesSome, sheets_of}
use Rattle.sheet_filter.specs.Outputs.{AreHeaded, ArePartly, AreWritten, SinkStates}
use Rattle.sheet_filter.specs.Outputs.{TakeRest}
use Rattle.sheet_filter.proofs.Rows.{Begins-first, Begins-header, Begins-more, Begins-on, cells_of}
use Rattle.sheet_filter.proofs.Rows.{rows_sheets-append, rows_sheets-one, rows_summary-more, rows_summary-rows}
use Rattle.sheet_filter.proofs.Texts.{AreHeaded-then, AreWritten-then, joined-assoc, joined-none}
use Rattle.sheet_filter.proofs.Texts.{TakeRest-none}

-- ---- a row is taken

-- the number of the next row, by the summary
next-number : (kit : Kit) (setting : Setting) (header : List (List ℕ)) (summary : Summary) (done due : List Row)
    → summary ≡ rows_summary kit setting header 1 (done ++ due) → summary.rows + 1 ≡ length (done ++ due) + 1
next-number kit setting header summary done due is =
    ap (λ s. s.rows + 1) is ∙ ap (λ n. n + 1) (rows_summary-rows kit setting header 1 (done ++ due))

-- the same, counted by the rows that were written and those that are due
due-number : (done due : List Row) → length (done ++ due) + 1 ≡ length done + 1 + length due
due-number done due = omega (arith, length-append done due)

pub DraftsOver-row : (kit : Kit) (setting : Setting) (layout : Layout) (summary counted : Summary)
    (before after : Drafts) (old now : SinkStates) (records : List (List (List ℕ))) (sheets : Sheets)
    (cells : List (List ℕ)) → row_fault setting layout.header (summary.rows + 1) cells ≡ None
    → GivesRow kit setting layout.header (summary.rows + 1) cells before after counted
    → DraftsOver kit setting (Some layout) summary before old now records sheets
    → DraftsOver kit setting (Some layout) (added summary counted) after old now (records ++ cells ∷ []) sheets
DraftsOver-row kit setting layout summary counted before after old now records sheets cells fits gives
    (done, due, taken, drafted) =
    let header = layout.header in
    let row : Row = record { cells = cells; decision = gives.decision } in
    let number = next-number kit setting header summary done due taken.summary_is in
    let place = number ∙ due-number done due in
    let count : 1 + length (done ++ due) ≡ summary.rows + 1 = omega (arith, number) in
    let one = rows_sheets-one kit setting header (length done + 1 + length due) row in (
      done,
      due ++ row ∷ [],
      record {
        begins = subst (λ rows. Begins kit setting (records ++ cells ∷ []) header rows [])
            (append_assoc done due (row ∷ []))
            (Begins-more kit setting records header (done ++ due) row taken.begins
            (ap (λ n. row_fault setting header n cells) (sym number) ∙ fits) gives.decided);
        sheets_are = taken.sheets_are;
        written = taken.written;
        summary_is = ap (λ s. added s counted) taken.summary_is
            ∙ ap (added (rows_summary kit setting header 1 (done ++ due))) (gives.lines.summary_is
            ∙ ap (λ n. row_summary kit setting header n row) (sym count))
            ∙ sym (rows_summary-more kit setting header 1 (done ++ due) row)
            ∙ ap (rows_summary kit setting header 1) (append_assoc done due (row ∷ []));
      },
      subst (HaveWritten setting after)
          (ap (joined (rows_sheets kit setting header (length done + 1) due))
          (ap (λ n. row_sheets kit setting header n row) place ∙ sym one)
          ∙ sym (rows_sheets-append kit setting header (length done + 1) due (row ∷ [])))
          (gives.lines.written (rows_sheets kit setting header (length done + 1) due) drafted),
    )

-- ---- a header is taken

pub DraftsOver-header : (kit : Kit) (setting : Setting) (layout : Layout) (summary : Summary) (drafts : Drafts)
    (old now new : SinkStates) (records : List (List (List ℕ))) (sheets : Sheets) (fields : List (List ℕ))
    → layout.header ≡ fields → header_fault setting fields ≡ None → AreWritten now new (heads setting fields)
    → DraftsOver kit setting None summary drafts old now records sheets
    → DraftsOver kit setting (Some layout) summary drafts old new (records ++ fields ∷ [])
    (joined sheets (heads setting fields))
DraftsOver-header kit setting layout summary drafts old now new records sheets fields is fits written
    (none, drafted) = (
      [],
      [],
      record {
        begins = rw (none.none, is) (Begins-header kit setting fields fits);
        sheets_are = rw (none.sheets_are, is) (sym (joined-none (heads setting fields)));
        written = rw none.sheets_are (subst (λ s. AreWritten s new (heads setting fields)) none.written written);
        summary_is = none.summary_is;
      },
      drafted,
    )

-- ---- what was taken was written in part

-- whatever follows, some of the rows were written, or nothing was
pub DraftsOver-some : (kit : Kit) (setting : Setting) (layout : Option Layout) (summary : Summary) (drafts : Drafts)
    (old now : SinkStates) (records : List (List (List ℕ))) (sheets : Sheets) (later : List (List (List ℕ)))
    → DraftsOver kit setting layout summary drafts old now records sheets
    → WritesSome kit setting old now (records ++ later)
DraftsOver-some kit setting None summary drafts old now records sheets later (none, drafted) =
    record { rest = []; summary = None; written = inl none.written }
DraftsOver-some kit setting (Some layout) summary drafts old now records sheets later (done, due, taken, drafted) =
    let header = layout.header in
    let rest = cells_of due ++ later in
    record {
      rest = rest;
      summary = Some (rows_summary kit setting header 1 done);
      written = inr (record {
        header = header;
        rows = done;
        begins = Begins-on kit setting records later header done (cells_of due)
            (Begins-first kit setting records header done due taken.begins);
        written = subst (AreWritten old now) taken.sheets_are taken.written;
        summary_is = refl;
      });
    }

-- ---- drafts are written

-- the sheets of all rows are those that were written, and then what is due
sheets-due : (kit : Kit) (setting : Setting) (header : List (List ℕ)) (sheets : Sheets) (done due : List Row)
    → sheets ≡ sheets_of kit setting header done
    → joined sheets (rows_sheets kit setting header (length done + 1) due) ≡ sheets_of kit setting header (done ++ due)
sheets-due kit setting header sheets done due is =
    let first = heads setting header in
    let one = rows_sheets kit setting header 1 done in
    let number : length done + 1 ≡ 1 + length done = omega arith in
    ap (λ s. joined s (rows_sheets kit setting header (length done + 1) due)) is
    ∙ joined-assoc first one (rows_sheets kit setting header (length done + 1) due)
    ∙ ap (λ n. joined first (joined one (rows_sheets kit setting header n due))) number
    ∙ ap (joined first) (sym (rows_sheets-append kit setting header 1 done due))

-- all that was due was written
written-whole : (kit : Kit) (setting : Setting) (layout : Layout) (summary : Summary)
    (old now new : SinkStates) (records : List (List (List ℕ))) (sheets : Sheets) (done due : List Row)
    → AreTaken kit setting layout.header done due summary old now records sheets
    → AreWritten now new (rows_sheets kit setting layout.header (length done + 1) due)
    → StandsOver kit setting (Some layout) summary old new records
    (joined sheets (rows_sheets kit setting layout.header (length done + 1) due))
written-whole kit setting layout summary old now new records sheets done due taken written =
    let header = layout.header in
    let all = append-nil (done ++ due) in (
      done ++ due,
      record {
        begins = subst (λ rows. Begins kit setting records header rows []) (sym all) taken.begins;
        sheets_are = sheets-due kit setting header sheets done due taken.sheets_are;
        written = AreWritten-then old now new sheets (rows_sheets kit setting header (length done + 1) due)
            taken.written written;
        summary_is = taken.summary_is ∙ ap (rows_summary kit setting header 1) (sym all);
      },
    )

-- a part of it was
written-part : (kit : Kit) (setting : Setting) (header : List (List ℕ)) (summary : Summary)
    (old now new : SinkStates) (records later : List (List (List ℕ))) (sheets : Sheets) (done due : List Row)
    → AreTaken kit setting header done due summary old now records sheets
    → ArePartly now new (rows_sheets kit setting header (length done + 1) due)
    → WritesPart kit setting old new (records ++ later)
written-part kit setting header summary old now new records later sheets done due taken part =
    let number : length done + 1 ≡ 1 + length done = omega arith in
    let one = rows_sheets kit setting header 1 done in
    inr (record {
      header = header;
      rows = done ++ due;
      rest = later;
      begins = Begins-on kit setting records later header (done ++ due) [] taken.begins;
      written = subst (AreHeaded old new (heads setting header))
          (ap (λ n. joined one (rows_sheets kit setting header n due)) number
          ∙ sym (rows_sheets-append kit setting header 1 done due))
          (AreHeaded-then old now new (heads setting header) one
          (rows_sheets kit setting header (length done + 1) due)
          (subst (AreWritten old now) taken.sheets_are taken.written) part);
    })

-- why it was not
stops-writing : (kit : Kit) (setting : Setting) (layout : Layout) (HasRoom : Sheets → Type 0) (summary : Summary)
    (drafts : Drafts) (old now new : SinkStates) (records : List (List (List ℕ))) (sheets : Sheets)
    (done due : List Row) → AreTaken kit setting layout.header done due summary old now records sheets
    → HaveWritten setting drafts (rows_sheets kit setting layout.header (length done + 1) due)
    → (stop : Stop)
    → StopsWriting HasRoom now new (rows_sheets kit setting layout.header (length done + 1) due) stop
    → StopsFlush kit setting HasRoom old now new records sheets stop
stops-writing kit setting layout HasRoom summary drafts old now new records sheets done due taken drafted
    (Refused fault) stops = stops
stops-writing kit setting layout HasRoom summary drafts old now new records sheets done due taken drafted Failed
    (part, failed, full) = λ later. (
      written-part kit setting layout.header summary old now new records later sheets done due taken part,
      failed,
      record {
        header = layout.header;
        rows = done ++ due;
        rest = later;
        begins = Begins-on kit setting records later layout.header (done ++ due) [] taken.begins;
        due = rows_sheets kit setting layout.header (length done + 1) due;
        all = sym (sheets-due kit setting layout.header sheets done due taken.sheets_are);
        full = full;
      },
    )
stops-writing kit setting layout HasRoom summary drafts old now new records sheets done due taken drafted NoMemory
    same =
    λ later. subst (λ s. WritesSome kit setting old s (records ++ later)) (sym same)
    (DraftsOver-some kit setting (Some layout) summary drafts old now records sheets later (done, due, taken, drafted))

-- ---- drafts are flushed

module _ {W C : Type 0} (takes : W → ℕ → Type 0) (sheet_takes : C → ℕ → Type 0) (before after : Outputs W C) where
  -- nothing was due, since there is no header
  pub flush-none : (kit : Kit) (setting : Setting) (layout : Option Layout) (summary : Summary) (drafts : Drafts)
      (old now : SinkStates) (records : List (List (List ℕ))) (sheets : Sheets) → is_none layout ≡ true
      → DraftsOver kit setting layout summary drafts old now records sheets
      → (more : Sheets) × TakeRest takes sheet_takes before before more
      × StandsOver kit setting layout summary old now records (joined sheets more)
  flush-none kit setting None summary drafts old now records sheets none (taken, drafted) = (
    no_sheets,
    TakeRest-none takes sheet_takes before,
    subst (NoneIsTaken summary old now records) (sym (joined-none sheets)) taken,
  )
  flush-none kit setting (Some layout) summary drafts old now records sheets none drafting = absurd cc

  -- all was written
  pub flush-written : (kit : Kit) (setting : Setting) (layout : Option Layout) (summary : Summary) (drafts : Drafts)
      (old now new : SinkStates) (records : List (List (List ℕ))) (sheets : Sheets) → is_none layout ≡ false
      → ((setting : Setting) (sheets : Sheets) → HaveWritten setting drafts sheets → AreWritten now new sheets)
      → ((setting : Setting) (sheets : Sheets) → HaveWritten setting drafts sheets
      → TakeRest takes sheet_takes before after sheets)
      → DraftsOver kit setting layout summary drafts old now records sheets
      → (more : Sheets) × TakeRest takes sheet_takes before after more
      × StandsOver kit setting layout summary old new records (joined sheets more)
  flush-written kit setting None summary drafts old now new records sheets some written room drafting = absurd cc
  flush-written kit setting (Some layout) summary drafts old now new records sheets some written room
      (done, due, taken, drafted) = (
        rows_sheets kit setting layout.header (length done + 1) due,
        room setting _ drafted,
        written-whole kit setting layout summary old now new records sheets done due taken (written setting _ drafted),
      )

-- it was not
pub flush-stopped : (kit : Kit) (setting : Setting) (layout : Option Layout) (HasRoom : Sheets → Type 0)
    (summary : Summary) (drafts : Drafts) (old now new : SinkStates) (records : List (List (List ℕ)))
    (sheets : Sheets) → is_none layout ≡ false → (stop : Stop)
    → ((setting : Setting) (sheets : Sheets) → HaveWritten setting drafts sheets
    → StopsWriting HasRoom now new sheets stop)
    → DraftsOver kit setting layout summary drafts old now records sheets
    → StopsFlush kit setting HasRoom old now new records sheets stop
flush-stopped kit setting None HasRoom summary drafts old now new records sheets some stop stops drafting = absurd cc
flush-stopped kit setting (Some layout) HasRoom summary drafts old now new records sheets some stop stops
    (done, due, taken, drafted) =
    stops-writing kit setting layout HasRoom summary drafts old now new records sheets done due taken drafted stop
    (stops setting _ drafted)

-- ---- a record is not taken

is-none : (layout : Option Layout) → is_none layout ≡ true → layout ≡ None
is-none None none = refl
is-none (Some layout) none = absurd cc

-- a header was not
pub header-stops : (setting : Setting) (HasRoom : Sheets → Type 0) (cleaning : Cleaning) (drafts : Drafts)
    (now new : SinkStates) (fields : List (List ℕ)) → is_none cleaning.layout ≡ true → (stop : Stop)
    → StopsHeader setting HasRoom now new fields stop
    → StopsRecord setting HasRoom cleaning cleaning drafts drafts now new fields stop
header-stops setting HasRoom cleaning drafts now new fields none (Refused fault) (bad, same) = (
  record {
    bad = rw (is-none cleaning.layout none) bad;
    layout = refl;
    summary = refl;
    drafts = refl;
  },
  same,
)
header-stops setting HasRoom cleaning drafts now new fields none Failed stops = (is-none cleaning.layout none, stops)
header-stops setting HasRoom cleaning drafts now new fields none NoMemory same = same

-- a header was taken where there was none
pub header-drafted : (kit : Kit) (setting : Setting) (before : Option Layout) (layout : Layout) (summary : Summary)
    (drafts : Drafts) (old now new : SinkStates) (records : List (List (List ℕ))) (sheets : Sheets)
    (fields : List (List ℕ)) → is_none before ≡ true → layout.header ≡ fields → header_fault setting fields ≡ None
    → AreWritten now new (heads setting fields)
    → DraftsOver kit setting before summary drafts old now records sheets
    → DraftsOver kit setting (Some layout) summary drafts old new (records ++ fields ∷ [])
    (joined sheets (heads setting fields))
header-drafted kit setting None layout summary drafts old now new records sheets fields none is fits written drafting =
    DraftsOver-header kit setting layout summary drafts old now new records sheets fields is fits written drafting
header-drafted kit setting (Some earlier) layout summary drafts old now new records sheets fields none is fits written
    drafting = absurd cc

-- ---- results

-- what holds of a result's error, or of its value, by what was known of it
pub on-error : {T : Type 0} {Known Wanted : Stop → Type 0} (result : Result T Stop) → IfErr result Known
    → ((stop : Stop) → Known stop → Wanted stop) → IfErr result Wanted
on-error (Ok value) known then = tt
on-error (Err stop) known then = then stop known

pub on-value : {T E : Type 0} {Known Wanted : Type 0} (result : Result T E) → OnOk result Known
    → (Known → Wanted) → OnOk result Wanted
on-value (Ok value) known then = then known
on-value (Err error) known then = tt

pub on-both : {T E : Type 0} {One Other Wanted : Type 0} (result : Result T E) → OnOk result One → OnOk result Other
    → (One → Other → Wanted) → OnOk result Wanted
on-both (Ok value) one other then = then one other
on-both (Err error) one other then = tt
