-- A sheet that is being cleaned, block by block, and what is left where that ends.
use Rattle.std.proofs.Common.{◌≡◌, ◌≤◌, ℕ, List, [], ◌∷◌, ◌++◌, Bool, true, false, refl, sym, ap, subst, ◌∙◌}
use Rattle.std.proofs.Common.{append-nil, append_assoc, arith, inl, inr}
use Rattle.std.specs.Prelude.{Option, Some, None}
use Rattle.std.proofs.KnownBytes.{Consumes-kept, Consumes-nil, Consumes-trans}
use Rattle.std.specs.Io.KnownBytes.{Consumes, IsAtEnd, Keeps}
use Rattle.csv.specs.Reading.{records}
use Rattle.desk_base.specs.Faults.{Rose, HasTaken}
use Rattle.fix_model.specs.declared.kit.Kit.{Kit}
use Rattle.sheet_blocks.specs.declared.fault.BlocksFault.{BlocksFault}
use Rattle.sheet_blocks.specs.declared.fault.BlocksFault.TheVariants as blocks_fault
use Rattle.sheet_blocks.specs.Front.{IsPartOfMark}
use Rattle.sheet_blocks.specs.Sheets.{IsDelimiter, records_read, sheet_records}
use Rattle.master_rows.specs.Sheet.{delimited}
use Rattle.sheet_blocks.specs.Standing.{AreCut, BlocksSeen, Grows, IsOpened}
use Rattle.sheet_blocks.specs.Standing.{Stands as BlocksStand}
use Rattle.sheet_blocks.proofs.Records.{records-append, records-read}
use Rattle.sheet_blocks.proofs.Standings.{Stands-grown, Stands-taken, ended_records-more, ended_records-partial}
use Rattle.sheet_blocks.proofs.Standings.{records-fed, records_read-more, records_read-stands}
use Rattle.sheet_clean.specs.declared.layout.Layout.{Layout}
use Rattle.sheet_clean.specs.declared.setting.Setting.{Setting}
use Rattle.sheet_clean.specs.declared.summary.Summary.{Summary}
use Rattle.sheet_clean.specs.Sheets.{Sheets, joined, no_rows, no_sheets, rows_summary}
use Rattle.sheet_filter.specs.declared.cleaning.Cleaning.{Cleaning}
use Rattle.sheet_filter.specs.declared.outputs.Outputs.{Outputs}
use Rattle.sheet_filter.specs.declared.stop.Stop.{Stop}
use Rattle.sheet_filter.specs.declared.stop.Stop.TheVariants.{Refused, Failed, NoMemory}
use Rattle.sheet_filter.specs.declared.end.End.TheVariants as end
use Rattle.sheet_filter.specs.Cleaning.{LacksRoom, Moment, Stands, StandsNoMore, StandsOn, StandsOver, Stops}
use Rattle.sheet_filter.specs.Cleaning.{stop_end, summary_told, told, unread_end, whole_end}
use Rattle.sheet_filter.specs.Ends.{AreRead, Begins, Ends, HaveRoomForAll, IsFaultless, NoneFell, World, WritesAll}
use Rattle.sheet_filter.specs.Ends.{WritesRows, WritesSome, sheets_of}
use Rattle.sheet_filter.specs.Outputs.{AreWritten, HaveRoom, Later, SinkStates, TakeRest}
use Rattle.sheet_filter.proofs.Rows.{Begins-on}
use Rattle.sheet_filter.proofs.Texts.{Later-then, Rose-later, SomeSinkFailed-later, TakeRest-then}

-- ---- all that was taken was written

-- the header and these rows
written-rows : (kit : Kit) (setting : Setting) (layout : Layout) (summary : Summary) (old now : SinkStates)
    (taken later : List (List (List ℕ))) (sheets : Sheets)
    → StandsOver kit setting (Some layout) summary old now taken sheets
    → WritesRows kit setting old now (taken ++ later) later (Some summary)
written-rows kit setting layout summary old now taken later sheets (done, all) =
    let header = layout.header in
    let same = append-nil done in
    record {
      header = header;
      rows = done;
      begins = Begins-on kit setting taken later header done []
          (subst (λ rows. Begins kit setting taken header rows []) same all.begins);
      written = subst (AreWritten old now) all.sheets_are all.written;
      summary_is = ap (λ s. Some s) (all.summary_is ∙ ap (rows_summary kit setting header 1) same);
    }

-- all records
writes-all : (kit : Kit) (setting : Setting) (layout : Option Layout) (summary : Summary) (old now : SinkStates)
    (taken : List (List (List ℕ))) (sheets : Sheets) → StandsOver kit setting layout summary old now taken sheets
    → WritesAll kit setting old now taken (summary_told layout summary)
writes-all kit setting None summary old now taken sheets stands =
    inl (record { none = stands.none; written = stands.written; summary_is = refl })
writes-all kit setting (Some layout) summary old now taken sheets stands =
    inr (subst (λ r. WritesRows kit setting old now r [] (Some summary)) (append-nil taken)
    (written-rows kit setting layout summary old now taken [] sheets stands))

-- whatever follows, some of them
writes-some : (kit : Kit) (setting : Setting) (layout : Option Layout) (summary : Summary) (old now : SinkStates)
    (taken later : List (List (List ℕ))) (sheets : Sheets)
    → StandsOver kit setting layout summary old now taken sheets → WritesSome kit setting old now (taken ++ later)
writes-some kit setting None summary old now taken later sheets stands =
    record { rest = []; summary = None; written = inl stands.written }
writes-some kit setting (Some layout) summary old now taken later sheets stands = record {
  rest = later;
  summary = Some summary;
  written = inr (written-rows kit setting layout summary old now taken later sheets stands);
}

-- at the end of the sheet
ends-whole : (kit : Kit) (setting : Setting) (layout : Option Layout) (summary : Summary) (old new : World)
    (taken : List (List (List ℕ))) (sheets : Sheets) → AreRead setting old new true taken
    → StandsOver kit setting layout summary old.sinks new.sinks taken sheets
    → Ends kit setting old new (whole_end (summary_told layout summary))
ends-whole kit setting None summary old new taken sheets read stands = (
  true,
  taken,
  read,
  inl (refl, refl, record { none = stands.none; written = stands.written; summary_is = refl }),
)
ends-whole kit setting (Some layout) summary old new taken sheets read stands = (
  taken,
  read,
  subst (λ r. WritesRows kit setting old.sinks new.sinks r [] (Some summary)) (append-nil taken)
      (written-rows kit setting layout summary old.sinks new.sinks taken [] sheets stands),
)

-- ---- blocks

-- bytes that were read, and those of them that were taken before the block
pub record HasRead (setting : Setting) (blocks : BlocksSeen) : Type 0 where
  pub bytes : List ℕ
  pub taken : List ℕ
  pub delimiter_is : blocks.delimiter ≡ setting.delimiter
  pub stands : BlocksStand bytes taken blocks

-- all that was taken was written, and this is the room that is left
pub record IsWritten (kit : Kit) (setting : Setting) (LeavesRoom : Sheets → Type 0) (cleaning : Cleaning)
    (old now : World) (taken : List (List (List ℕ))) : Type 0 where
  pub sheets : Sheets
  pub written : Stands kit setting cleaning old.sinks now.sinks taken sheets
  pub room : LeavesRoom sheets
  pub none_fell : NoneFell old now

-- the records of bytes that were taken
abbrev pub records_taken : BlocksSeen → List ℕ → List (List (List ℕ))
records_taken blocks taken = records (delimited blocks.delimiter) taken

-- and then those of the block
abbrev pub records_with : BlocksSeen → List ℕ → List (List (List ℕ))
records_with blocks taken = records_taken blocks taken ++ records_taken blocks blocks.block

-- what was taken of the bytes that were read was written
pub record IsUnderway (kit : Kit) (setting : Setting) (LeavesRoom : Sheets → Type 0) (cleaning : Cleaning)
    (blocks : BlocksSeen) (old now : World) : Type 0 where
  pub from : HasRead setting blocks
  pub read : Consumes old.left now.left from.bytes
  pub ended : blocks.whole ≡ true → IsAtEnd now.left
  pub done : IsWritten kit setting LeavesRoom cleaning old now (records_taken blocks from.taken)

-- and the block after it, which was taken too
pub record IsTaken (kit : Kit) (setting : Setting) (LeavesRoom : Sheets → Type 0) (cleaning : Cleaning)
    (blocks : BlocksSeen) (old now : World) : Type 0 where
  pub from : HasRead setting blocks
  pub read : Consumes old.left now.left from.bytes
  pub ended : blocks.whole ≡ true → IsAtEnd now.left
  pub cut : AreCut blocks
  pub done : IsWritten kit setting LeavesRoom cleaning old now (records_with blocks from.taken)

-- the records of what was read, whole or not
are-read : {setting : Setting} {blocks : BlocksSeen} (old now : World) (from : HasRead setting blocks)
    → Consumes old.left now.left from.bytes → (blocks.whole ≡ true → IsAtEnd now.left) → AreCut blocks
    → AreRead setting old now blocks.whole (records_with blocks from.taken)
are-read {setting} {blocks} old now from read ended cut = record {
  bytes = from.bytes;
  taken = read;
  ended = ended;
  are = sym (records_read-stands from.bytes from.taken blocks from.stands cut)
      ∙ ap (λ d. records_read d blocks.whole from.bytes) from.delimiter_is;
}

-- ---- the ends

module _ (kit : Kit) (setting : Setting) where
  -- nothing was read yet
  pub ends-before : (old : World) → Ends kit setting old old end.NoMemory
  ends-before old = (
    false,
    records_read setting.delimiter false [],
    record {
      bytes = [];
      taken = Consumes-nil old.left;
      ended = λ e. absurd (let f = e in cc);
      are = refl;
    },
    record { rest = []; summary = None; written = inl refl },
  )

  -- some bytes were
  pub ends-lost : (old new : World) → HasTaken old.left new.left → new.sinks ≡ old.sinks
      → Ends kit setting old new end.NoMemory
  ends-lost old new took same = (
    false,
    records_read setting.delimiter false took.bytes,
    record { bytes = took.bytes; taken = took.taken; ended = λ e. absurd (let f = e in cc); are = refl },
    record { rest = []; summary = None; written = inl same },
  )

  -- a part of a mark was, and then a read failed
  pub ends-mark : (old new : World) → IsDelimiter setting.delimiter → IsPartOfMark old.left new.left
      → new.sinks ≡ old.sinks → Rose old.read_faults new.read_faults → Ends kit setting old new (end.ReadFault None)
  ends-mark old new delimits part same rose = (
    [],
    record {
      bytes = part.bytes;
      taken = part.taken;
      ended = λ e. absurd (let f = e in cc);
      are = sym (ended_records-partial setting.delimiter part.bytes delimits part.partial);
    },
    inl (record { none = refl; written = same; summary_is = refl }),
    rose,
  )

module _ {kit : Kit} {setting : Setting} {LeavesRoom : Sheets → Type 0} {cleaning : Cleaning} {blocks : BlocksSeen}
    {old now : World} where
  -- whatever more was read
  reads-more : (new : World) (more : List ℕ) → IsUnderway kit setting LeavesRoom cleaning blocks old now
      → blocks.whole ≡ false → Consumes now.left new.left more → new.sinks ≡ now.sinks
      → Ends kit setting old new end.NoMemory
  reads-more new more at begins on same =
      let follows = records_read-more at.from.bytes at.from.taken more blocks at.from.stands begins in (
        false,
        records_taken blocks at.from.taken ++ follows.later,
        record {
          bytes = at.from.bytes ++ more;
          taken = Consumes-trans old.left now.left new.left at.from.bytes more at.read on;
          ended = λ e. absurd (let f = e in cc);
          are = sym (ap (λ d. records_read d false (at.from.bytes ++ more)) (sym at.from.delimiter_is)
              ∙ follows.records_are);
        },
        rw same (writes-some kit setting cleaning.layout cleaning.summary old.sinks now.sinks
            (records_taken blocks at.from.taken) follows.later at.done.sheets at.done.written),
      )

  -- there were too many blocks
  pub ends-never : IsUnderway kit setting LeavesRoom cleaning blocks old now → Ends kit setting old now end.NoMemory
  ends-never at =
      let follows = ended_records-more blocks.delimiter at.from.bytes at.from.taken (blocks.block ++ blocks.begun)
      (at.from.stands.text ∙ append_assoc at.from.taken blocks.block blocks.begun) at.from.stands.taken_whole in (
        false,
        records_taken blocks at.from.taken ++ follows.later,
        record {
          bytes = at.from.bytes;
          taken = at.read;
          ended = λ e. absurd (let f = e in cc);
          are = sym (ap (λ d. records_read d false at.from.bytes) (sym at.from.delimiter_is) ∙ follows.records_are);
        },
        writes-some kit setting cleaning.layout cleaning.summary old.sinks now.sinks
            (records_taken blocks at.from.taken) follows.later at.done.sheets at.done.written,
      )

module _ {kit : Kit} {setting : Setting} {LeavesRoom : Sheets → Type 0} {cleaning : Cleaning} {blocks : BlocksSeen}
    {old now : World} (at : IsTaken kit setting LeavesRoom cleaning blocks old now) where
  -- the sheet was read to its end, and its last block taken
  pub ends-done : blocks.whole ≡ true → Ends kit setting old now (whole_end (told cleaning))
  ends-done whole =
      ends-whole kit setting cleaning.layout cleaning.summary old now _ at.done.sheets
      (subst (λ w. AreRead setting old now w (records_with blocks at.from.taken)) whole
      (are-read old now at.from at.read at.ended at.cut))
      at.done.written

  -- the block was taken; it is not the last
  block-taken : blocks.whole ≡ false
      → IsUnderway kit setting LeavesRoom cleaning (record blocks { block = [] }) old now
  block-taken begins = record {
    from = record {
      bytes = at.from.bytes;
      taken = at.from.taken ++ blocks.block;
      delimiter_is = at.from.delimiter_is;
      stands = Stands-taken at.from.bytes at.from.taken blocks at.from.stands at.cut begins;
    };
    read = at.read;
    ended = at.ended;
    done = subst (IsWritten kit setting LeavesRoom cleaning old now)
        (sym (records-append blocks.delimiter at.from.taken blocks.block at.from.stands.taken_whole)) at.done;
  }

  -- a read failed
  ends-unread : (new : World) → blocks.whole ≡ false → Keeps now.left new.left → new.sinks ≡ now.sinks
      → Rose now.read_faults new.read_faults → Ends kit setting old new (end.ReadFault (told cleaning))
  ends-unread new begins kept same rose = (
    records_with blocks at.from.taken,
    subst (λ w. AreRead setting old new w (records_with blocks at.from.taken)) begins
        (are-read old new at.from (Consumes-kept old.left now.left new.left at.from.bytes at.read kept)
        (λ whole. absurd (let e = sym begins ∙ whole in cc)) at.cut),
    rw same (writes-all kit setting cleaning.layout cleaning.summary old.sinks now.sinks _ at.done.sheets
        at.done.written),
    Rose-later old.read_faults now.read_faults new.read_faults at.done.none_fell.read_faults rose,
  )

  -- no bytes come after the block
  pub ends-unfilled : (new : World) → blocks.whole ≡ false → new.sinks ≡ now.sinks → (fault : BlocksFault)
      → (fault ≡ blocks_fault.Failed → Keeps now.left new.left × Rose now.read_faults new.read_faults)
      → (fault ≡ blocks_fault.NoMemory → HasTaken now.left new.left)
      → Ends kit setting old new (unread_end (told cleaning) fault)
  ends-unfilled new begins same blocks_fault.Failed kept lost =
      ends-unread new begins (kept refl).0 same (kept refl).1
  ends-unfilled new begins same blocks_fault.NoMemory kept lost =
      reads-more new (lost refl).bytes (block-taken begins) begins (lost refl).taken same

  -- more was read
  pub block-read : (more : BlocksSeen) (new : World) → blocks.whole ≡ false
      → Grows now.left new.left (record blocks { block = [] }) more → new.sinks ≡ now.sinks
      → now.read_faults ≤ new.read_faults → IsUnderway kit setting LeavesRoom cleaning more old new
  block-read more new begins grows same later =
      let next = block-taken begins in
      record {
        from = record {
          bytes = next.from.bytes ++ grows.bytes;
          taken = next.from.taken;
          delimiter_is = grows.delimiter_is ∙ next.from.delimiter_is;
          stands = Stands-grown next.from.bytes next.from.taken now.left new.left (record blocks { block = [] }) more
              grows next.from.stands begins;
        };
        read = Consumes-trans old.left now.left new.left next.from.bytes grows.bytes next.read grows.taken;
        ended = λ whole. elim (grows.ended whole) [
          | inl was ↦ absurd (let e = sym begins ∙ was in cc)
          | inr is_at_end ↦ is_at_end
        ];
        done = record {
          sheets = next.done.sheets;
          written = rw (same, grows.delimiter_is) next.done.written;
          room = next.done.room;
          none_fell = record {
            read_faults = omega (arith, next.done.none_fell.read_faults, later);
            sinks = rw same next.done.none_fell.sinks;
          };
        };
      }

-- the sheet was opened
pub sheet-opened : (kit : Kit) (setting : Setting) (cleaning : Cleaning) (LeavesRoom : Sheets → Type 0)
    (blocks : BlocksSeen) (old now : World) → cleaning.layout ≡ None → cleaning.summary ≡ no_rows
    → IsOpened setting.delimiter old.left now.left blocks → now.sinks ≡ old.sinks → LeavesRoom no_sheets
    → NoneFell old now → IsUnderway kit setting LeavesRoom cleaning blocks old now
sheet-opened kit setting cleaning LeavesRoom blocks old now none no_row opened same room none_fell = record {
  from = record {
    bytes = opened.bytes;
    taken = [];
    delimiter_is = opened.delimiter_is;
    stands = opened.stands;
  };
  read = opened.taken;
  ended = opened.ended;
  done = record {
    sheets = no_sheets;
    written = rw (none, no_row) (record {
      none = records-read (delimited blocks.delimiter) [];
      written = same;
      sheets_are = refl;
      summary_is = refl;
    });
    room = room;
    none_fell = none_fell;
  };
}

-- no bytes come at the front of the sheet
pub ends-unopened : (kit : Kit) (setting : Setting) (cleaning : Cleaning) (old new : World) → cleaning.layout ≡ None
    → IsDelimiter setting.delimiter → new.sinks ≡ old.sinks → (fault : BlocksFault)
    → (fault ≡ blocks_fault.Failed → IsPartOfMark old.left new.left × Rose old.read_faults new.read_faults)
    → (fault ≡ blocks_fault.NoMemory → HasTaken old.left new.left)
    → Ends kit setting old new (unread_end (told cleaning) fault)
ends-unopened kit setting cleaning old new none delimits same blocks_fault.Failed part lost =
    rw none (ends-mark kit setting old new delimits (part refl).0 same (part refl).1)
ends-unopened kit setting cleaning old new none delimits same blocks_fault.NoMemory part lost =
    ends-lost kit setting old new (lost refl) same

-- ---- a block is taken, or not

-- what was taken of the records of a block, or why no more were
ends-stopped : (kit : Kit) (setting : Setting) (HasRoom : Sheets → Type 0) (summary : Option Summary)
    (old now new : World) (whole : Bool) (records : List (List (List ℕ))) (sheets : Sheets)
    → AreRead setting old new whole records → Later old.sinks now.sinks → (stop : Stop)
    → Stops kit setting HasRoom summary old.sinks now.sinks new.sinks records sheets stop
    → Ends kit setting old new (stop_end summary stop)
ends-stopped kit setting HasRoom summary old now new whole records sheets read later (Refused fault) stops =
    (whole, records, read, inr stops)
ends-stopped kit setting HasRoom summary old now new whole records sheets read later Failed (part, failed, lacks) =
    (whole, records, read, part, SomeSinkFailed-later old.sinks now.sinks new.sinks later failed)
ends-stopped kit setting HasRoom summary old now new whole records sheets read later NoMemory stops =
    (whole, records, read, stops)

-- and where no device fails, that is no fault of one
faultless-stop : (HasRoom : Sheets → Type 0) (kit : Kit) (setting : Setting) (summary : Option Summary)
    (old now new : SinkStates) (records : List (List (List ℕ))) (sheets : Sheets) → (stop : Stop)
    → Stops kit setting HasRoom summary old now new records sheets stop
    → (¬ LacksRoom kit setting HasRoom records sheets) → IsFaultless (stop_end summary stop)
faultless-stop HasRoom kit setting summary old now new records sheets (Refused fault) stops room = tt
faultless-stop HasRoom kit setting summary old now new records sheets Failed (part, failed, lacks) room =
    absurd (room lacks)
faultless-stop HasRoom kit setting summary old now new records sheets NoMemory stops room = tt

-- the records of a block, as they are read after a line end
block-records : (setting : Setting) (blocks : BlocksSeen) (block : List ℕ) → blocks.delimiter ≡ setting.delimiter
    → block ≡ 10 ∷ blocks.block → sheet_records setting.delimiter block ≡ records_taken blocks blocks.block
block-records setting blocks block is fed =
    ap (sheet_records setting.delimiter) fed
    ∙ ap (λ d. sheet_records d (10 ∷ blocks.block)) (sym is)
    ∙ records-fed blocks.delimiter blocks.block

-- a block is at hand, after a line feed, and since then nothing was read
pub record IsAtHand (kit : Kit) (setting : Setting) (LeavesRoom : Sheets → Type 0) (cleaning : Cleaning)
    (blocks : BlocksSeen) (block : List ℕ) (old now after : World) : Type 0 where
  pub underway : IsUnderway kit setting LeavesRoom cleaning blocks old now
  pub cut : AreCut blocks
  pub fed : block ≡ 10 ∷ blocks.block
  pub left : after.left ≡ now.left
  pub read_faults : after.read_faults ≡ now.read_faults
  pub later : Later now.sinks after.sinks

module _ {W C : Type 0} {takes : W → ℕ → Type 0} {sheet_takes : C → ℕ → Type 0} {kit : Kit} {setting : Setting}
    {first outputs : Outputs W C} {cleaning : Cleaning} {blocks : BlocksSeen} {block : List ℕ} {old now after : World}
    (at : IsAtHand kit setting (TakeRest takes sheet_takes first outputs) cleaning blocks block old now after)
    (last : Outputs W C) (new : Cleaning) where
  -- the moments before the block is taken, and after it
  abbrev before_block : Moment W C
  before_block = record { cleaning = cleaning; outputs = outputs; sinks = now.sinks }

  abbrev after_block : Moment W C
  after_block = record { cleaning = new; outputs = last; sinks = after.sinks }

  -- the records that were taken before, and those of the block
  abbrev both : List (List (List ℕ))
  both = records_taken blocks at.underway.from.taken ++ sheet_records setting.delimiter block

  both-are : both ≡ records_with blocks at.underway.from.taken
  both-are = ap (λ l. records_taken blocks at.underway.from.taken ++ l)
      (block-records setting blocks block at.underway.from.delimiter_is at.fed)

  -- the block was taken
  pub block-written : StandsOn takes sheet_takes kit setting before_block after_block
      (sheet_records setting.delimiter block)
      → IsTaken kit setting (TakeRest takes sheet_takes first last) new blocks old after
  block-written takes_on =
      let done = at.underway.done in
      let (more, took, written) = takes_on.stands old.sinks (records_taken blocks at.underway.from.taken) done.sheets
      done.written in
      record {
        from = at.underway.from;
        read = rw at.left at.underway.read;
        ended = rw at.left at.underway.ended;
        cut = at.cut;
        done = record {
          sheets = joined done.sheets more;
          written = subst (λ r. Stands kit setting new old.sinks after.sinks r (joined done.sheets more)) both-are
              written;
          room = TakeRest-then takes sheet_takes first outputs last done.sheets more done.room took;
          none_fell = record {
            read_faults = rw at.read_faults done.none_fell.read_faults;
            sinks = Later-then old.sinks now.sinks after.sinks done.none_fell.sinks at.later;
          };
        };
      }

  module _ {stop : Stop} (stopped : StandsNoMore takes sheet_takes kit setting before_block after_block
      (sheet_records setting.delimiter block) stop) where
    -- why it was not
    stops-so : Stops kit setting (HaveRoom takes sheet_takes outputs) (told new) old.sinks now.sinks after.sinks both
        at.underway.done.sheets stop
    stops-so = stopped.stops old.sinks (records_taken blocks at.underway.from.taken) at.underway.done.sheets
        at.underway.done.written

    -- so it ends
    pub block-stopped : Ends kit setting old after (stop_end (told new) stop)
    block-stopped = ends-stopped kit setting (HaveRoom takes sheet_takes outputs) (told new) old now after blocks.whole
        both at.underway.done.sheets
        (subst (AreRead setting old after blocks.whole) (sym both-are)
        (are-read old after at.underway.from (rw at.left at.underway.read) (rw at.left at.underway.ended) at.cut))
        at.underway.done.none_fell.sinks stop stops-so

    -- which is no fault of a sink that has room for all that may be due
    pub block-faultless : HaveRoomForAll (HaveRoom takes sheet_takes first) kit setting old.left
        → IsFaultless (stop_end (told new) stop)
    block-faultless room =
        let read = are-read old now at.underway.from at.underway.read at.underway.ended at.cut in
        faultless-stop (HaveRoom takes sheet_takes outputs) kit setting (told new) old.sinks now.sinks after.sinks both
        at.underway.done.sheets stop stops-so
        (λ lacks. lacks.full (at.underway.done.room lacks.due (subst (HaveRoom takes sheet_takes first) lacks.all
        (room (sheets_of kit setting lacks.header lacks.rows) (record {
          bytes = read.bytes;
          after = now.left;
          taken = read.taken;
          whole = blocks.whole;
          header = lacks.header;
          rows = lacks.rows;
          rest = lacks.rest;
          begins = subst (λ r. Begins kit setting r lacks.header lacks.rows lacks.rest) (both-are ∙ read.are)
              lacks.begins;
          sheets_are = refl;
        })))))
