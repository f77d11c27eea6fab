-- A block is taken: what was drafted of it is written, or a part of that.
use Rattle.std.proofs.Common.{◌≡◌, ◌+◌, ℕ, List, [], ◌∷◌, ◌++◌, length, refl, sym, ap, subst, ◌∙◌, append-nil}
use Rattle.std.proofs.Common.{inl, inr}
use Rattle.std.specs.Prelude.{Option, Some, None}
use Rattle.fix_model.specs.declared.kit.Kit.{Kit}
use Rattle.sheet_clean.specs.declared.drafts.Drafts.{Drafts}
use Rattle.sheet_clean.specs.declared.fault.SheetFault.{SheetFault}
use Rattle.sheet_clean.specs.declared.layout.Layout.{Layout}
use Rattle.sheet_clean.specs.declared.setting.Setting.{Setting}
use Rattle.sheet_clean.specs.declared.summary.Summary.{Summary}
use Rattle.sheet_clean.specs.Row.{row_fault}
use Rattle.sheet_clean.specs.Sheets.{Sheets, joined, no_sheets, rows_summary}
use Rattle.sheet_clean.specs.Writing.{HaveWritten}
use Rattle.sheet_filter.specs.declared.outputs.Outputs.{Outputs}
use Rattle.sheet_filter.specs.declared.stop.Stop.{Stop}
use Rattle.sheet_filter.specs.declared.stop.Stop.TheVariants.{Refused, Failed, NoMemory}
use Rattle.sheet_filter.specs.Cleaning.{Drafting, DraftsNoMore, DraftsOn, DraftsOver, Flushes, FlushesNoMore, IsFaultOf}
use Rattle.sheet_filter.specs.Cleaning.{LacksRoom, Moment, Stands, StandsNoMore, StandsOn, StandsOver, Stops}
use Rattle.sheet_filter.specs.Cleaning.{StopsFlush, summary_told, told}
use Rattle.sheet_filter.specs.Ends.{Begins, RefusesRecord}
use Rattle.sheet_filter.specs.Outputs.{AreWritten, HaveRoom, Later, SinkStates, TakeRest}
use Rattle.sheet_filter.proofs.Rows.{Begins-on, rows_summary-rows}
use Rattle.sheet_filter.proofs.Texts.{SomeSinkFailed-later, TakeRest-then, joined-assoc, lacks-before}

-- nothing is drafted yet
starts : (kit : Kit) (setting : Setting) (layout : Option Layout) (summary : Summary) (drafts : Drafts)
    (old now : SinkStates) (records : List (List (List ℕ))) (sheets : Sheets) → HaveWritten setting drafts no_sheets
    → StandsOver kit setting layout summary old now records sheets
    → DraftsOver kit setting layout summary drafts old now records sheets
starts kit setting None summary drafts old now records sheets empty stands = (stands, empty)
starts kit setting (Some layout) summary drafts old now records sheets empty (done, taken) = (done, [], taken, empty)

-- ---- a record is refused

-- by what was taken before it, which was all written
refused : (kit : Kit) (setting : Setting) (layout : Option Layout) (summary : Summary) (old now : SinkStates)
    (records taken rest : List (List (List ℕ))) (sheets : Sheets) (fields : List (List ℕ)) (fault : SheetFault)
    → records ≡ taken ++ fields ∷ rest → IsFaultOf setting layout summary fields fault
    → StandsOver kit setting layout summary old now taken sheets
    → RefusesRecord kit setting old now records fault (summary_told layout summary)
refused kit setting None summary old now records taken rest sheets fields fault split bad stands = inl (record {
  header = fields;
  rest = rest;
  first = split ∙ ap (λ l. l ++ fields ∷ rest) stands.none;
  bad = bad;
  written = stands.written;
  summary_is = refl;
})
refused kit setting (Some layout) summary old now records taken rest sheets fields fault split bad (done, all) =
    let header = layout.header in
    let same : done ++ [] ≡ done = append-nil done in
    let begins : Begins kit setting taken header done [] =
    subst (λ rows. Begins kit setting taken header rows []) same all.begins in
    let counted : summary ≡ rows_summary kit setting header 1 done =
    all.summary_is ∙ ap (rows_summary kit setting header 1) same in
    let number : summary.rows + 1 ≡ length done + 1 =
    ap (λ s. s.rows + 1) counted ∙ ap (λ n. n + 1) (rows_summary-rows kit setting header 1 done) in
    inr (record {
      header = header;
      rows = done;
      cells = fields;
      rest = rest;
      begins = subst (λ l. Begins kit setting l header done (fields ∷ rest)) (sym split)
          (Begins-on kit setting taken (fields ∷ rest) header done [] begins);
      bad = ap (λ n. row_fault setting header n fields) (sym number) ∙ bad;
      written = subst (AreWritten old now) all.sheets_are all.written;
      summary_is = ap (λ s. Some s) counted;
    })

-- ---- a block is taken

module _ {W C : Type 0} {takes : W → ℕ → Type 0} {sheet_takes : C → ℕ → Type 0} (kit : Kit) (setting : Setting) where
  -- what is due has no room after more, so it and this have none before
  LacksRoom-before : (first outputs : Outputs W C) (records : List (List (List ℕ))) (sheets more : Sheets)
      → TakeRest takes sheet_takes first outputs more
      → LacksRoom kit setting (HaveRoom takes sheet_takes outputs) records (joined sheets more)
      → LacksRoom kit setting (HaveRoom takes sheet_takes first) records sheets
  LacksRoom-before first outputs records sheets more took lacks = record {
    header = lacks.header;
    rows = lacks.rows;
    rest = lacks.rest;
    begins = lacks.begins;
    due = joined more lacks.due;
    all = lacks.all ∙ joined-assoc sheets more lacks.due;
    full = lacks-before takes sheet_takes first outputs more lacks.due took lacks.full;
  }

  -- what was drafted could not be written, whatever follows
  flush-stops : (summary : Option Summary) (old then now new : SinkStates) (first outputs : Outputs W C)
      (records later all : List (List (List ℕ))) (sheets more : Sheets) → Later then now
      → TakeRest takes sheet_takes first outputs more → all ≡ records ++ later → (stop : Stop)
      → StopsFlush kit setting (HaveRoom takes sheet_takes outputs) old now new records (joined sheets more) stop
      → Stops kit setting (HaveRoom takes sheet_takes first) summary old then new all sheets stop
  flush-stops summary old then now new first outputs records later all sheets more no_less took is (Refused fault)
      stops = absurd stops
  flush-stops summary old then now new first outputs records later all sheets more no_less took is Failed stops =
      let (part, failed, lacks) = stops later in (
        rw is part,
        SomeSinkFailed-later then now new no_less failed,
        rw is (LacksRoom-before first outputs (records ++ later) sheets more took lacks),
      )
  flush-stops summary old then now new first outputs records later all sheets more no_less took is NoMemory stops =
      rw is (stops later)

-- what was taken was written, and nothing is drafted yet
starting : {W C : Type 0} (kit : Kit) (setting : Setting) (from : Moment W C) (empty : Drafts)
    → HaveWritten setting empty no_sheets → (old : SinkStates) (records : List (List (List ℕ))) (sheets : Sheets)
    → Stands kit setting from.cleaning old from.sinks records sheets
    → Drafting kit setting from.cleaning empty old from.sinks records sheets
starting kit setting from empty none old records sheets =
    starts kit setting from.cleaning.layout from.cleaning.summary empty old from.sinks records sheets none

module _ {W C : Type 0} {takes : W → ℕ → Type 0} {sheet_takes : C → ℕ → Type 0} {kit : Kit} {setting : Setting}
    {from on : Moment W C} {empty drafts : Drafts} {block : List (List (List ℕ))}
    (none : HaveWritten setting empty no_sheets) where
  -- the block was drafted and written
  pub take-whole : {last : Outputs W C} {new : SinkStates}
      → DraftsOn takes sheet_takes kit setting from on empty drafts block
      → Flushes takes sheet_takes kit setting on (record on { outputs = last; sinks = new }) drafts
      → StandsOn takes sheet_takes kit setting from (record on { outputs = last; sinks = new }) block
  take-whole {last} {new} some flushed = record {
    stands = λ old records sheets stands.
        let (more, took, drafted) = some.drafted old records sheets
        (starting kit setting from empty none old records sheets stands) in
        let (further, took_on, written) = flushed.written old (records ++ block) (joined sheets more) drafted in (
          joined more further,
          TakeRest-then takes sheet_takes from.outputs on.outputs last more further took took_on,
          subst (Stands kit setting on.cleaning old new (records ++ block)) (joined-assoc sheets more further) written,
        );
  }

  -- it was drafted, and not written
  pub take-stops : {last : Outputs W C} {new : SinkStates}
      → DraftsOn takes sheet_takes kit setting from on empty drafts block → Later from.sinks on.sinks
      → (stop : Stop)
      → FlushesNoMore takes sheet_takes kit setting on (record on { outputs = last; sinks = new }) drafts stop
      → StandsNoMore takes sheet_takes kit setting from (record on { outputs = last; sinks = new }) block stop
  take-stops {last} {new} some no_less stop flushing = record {
    stops = λ old records sheets stands.
        let (more, took, drafted) = some.drafted old records sheets
        (starting kit setting from empty none old records sheets stands) in
        flush-stops kit setting (told on.cleaning) old from.sinks on.sinks new from.outputs on.outputs
        (records ++ block) [] (records ++ block) sheets more no_less took (sym (append-nil (records ++ block))) stop
        (flushing.stops old (records ++ block) (joined sheets more) drafted);
  }

  -- a record has a fault, and what was drafted before it was written
  pub refuses-whole : {last : Outputs W C} {new : SinkStates} (fault : SheetFault)
      → DraftsNoMore takes sheet_takes kit setting from on empty drafts block (Refused fault)
      → Flushes takes sheet_takes kit setting on (record on { outputs = last; sinks = new }) drafts
      → StandsNoMore takes sheet_takes kit setting from (record on { outputs = last; sinks = new }) block
      (Refused fault)
  refuses-whole {last} {new} fault drafting flushed = record {
    stops = λ old records sheets stands.
        let (taken, more, took, drafted, next) = drafting.stops old records sheets
        (starting kit setting from empty none old records sheets stands) in
        let (further, took_on, written) = flushed.written old taken (joined sheets more) drafted in
        refused kit setting on.cleaning.layout on.cleaning.summary old new (records ++ block) taken next.rest
        (joined (joined sheets more) further) next.fields fault next.split next.bad written;
  }

  -- or it was not
  pub refuses-stops : {last : Outputs W C} {new : SinkStates} → Later from.sinks on.sinks → (fault : SheetFault)
      → DraftsNoMore takes sheet_takes kit setting from on empty drafts block (Refused fault) → (stop : Stop)
      → FlushesNoMore takes sheet_takes kit setting on (record on { outputs = last; sinks = new }) drafts stop
      → StandsNoMore takes sheet_takes kit setting from (record on { outputs = last; sinks = new }) block stop
  refuses-stops {last} {new} no_less fault drafting stop flushing = record {
    stops = λ old records sheets stands.
        let (taken, more, took, drafted, next) = drafting.stops old records sheets
        (starting kit setting from empty none old records sheets stands) in
        flush-stops kit setting (told on.cleaning) old from.sinks on.sinks new from.outputs on.outputs taken
        (next.fields ∷ next.rest) (records ++ block) sheets more no_less took next.split stop
        (flushing.stops old taken (joined sheets more) drafted);
  }

  -- a write failed, or there was no memory
  pub draft-failed : DraftsNoMore takes sheet_takes kit setting from on empty drafts block Failed
      → StandsNoMore takes sheet_takes kit setting from on block Failed
  draft-failed drafting = record {
    stops = λ old records sheets stands.
        drafting.stops old records sheets (starting kit setting from empty none old records sheets stands);
  }

  pub draft-lost : DraftsNoMore takes sheet_takes kit setting from on empty drafts block NoMemory
      → StandsNoMore takes sheet_takes kit setting from on block NoMemory
  draft-lost drafting = record {
    stops = λ old records sheets stands.
        drafting.stops old records sheets (starting kit setting from empty none old records sheets stands);
  }
