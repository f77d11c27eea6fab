-- What the lines of a dump tell: the changes that put its rows.
use Rattle.std.proofs.Common.{◌≡◌, ◌∙◌, ℕ, suc, ◌+◌, ◌*◌, ◌<◌, ◌≤◌, Bool, true, List, [], ◌∷◌, ◌++◌, length, map}
use Rattle.std.proofs.Common.{Some, None}
use Rattle.std.proofs.Common.{refl, sym, ap, subst, arith, inl, inr, append_assoc, append-nil}
use Rattle.std.specs.List.{AllByRecursion}
use Rattle.std.specs.Prelude.{◌^◌, Option, codes, option_map}
use Rattle.std.specs.Str.{is_utf8}
use Rattle.std.proofs.lemmas.Bool.{cases_Bool, eq-eqb, le-leb, lt-ltb}
use Rattle.std.proofs.lemmas.List.{length-append}
use Rattle.std.proofs.lemmas.Str.{IsUtf8-from_is_utf8}
use Rattle.json.proofs.Printed.Utf8.{IsUtf8-are_ascii, are_ascii}
use Rattle.serde_json.specs.Data.{Data, boolean, string}
use Rattle.serde_json.specs.Find.{as_bool}
use Rattle.serde_json.specs.View.{items_of}
use Rattle.serde_json.specs.Written.{compact_text}
use Rattle.desk_base.specs.declared.limits.TheConstants.{MAX_TEXT}
use Rattle.json_parts.specs.Parts.{◌>>=◌, each, items_in, json_of, list_in, text_in, texts_in}
use Rattle.json_parts.specs.Shapes.{list_of, whole}
use Rattle.json_parts.proofs.Reading.{all_items-items_of}
use Rattle.json_parts.proofs.Values.{json_of-read}
use Rattle.desk_words.specs.declared.change.Change.{Change}
use Rattle.desk_words.specs.declared.change.Change.TheVariants as change
use Rattle.desk_words.specs.declared.rows.act.Act.{Act}
use Rattle.desk_words.specs.declared.rows.act.Act.TheVariants as act
use Rattle.desk_words.specs.declared.rows.batch.BatchRow.{BatchRow}
use Rattle.desk_words.specs.declared.rows.clerk.ClerkRow.{ClerkRow}
use Rattle.desk_words.specs.declared.rows.edition.EditionRow.{EditionRow}
use Rattle.desk_words.specs.declared.rows.record.RecordRow.{RecordRow}
use Rattle.desk_words.specs.declared.rows.region.RegionRow.{RegionRow}
use Rattle.desk_words.specs.declared.rows.rulebook.RulebookRow.{RulebookRow}
use Rattle.desk_words.specs.declared.rows.session.SessionRow.{SessionRow}
use Rattle.desk_words.specs.declared.rows.session.Stage.{Stage}
use Rattle.desk_words.specs.declared.rows.session.Stage.TheVariants as stage
use Rattle.desk_words.specs.declared.rows.text.TextRow.{TextRow}
use Rattle.desk_words.specs.Changes.{changed_all}
use Rattle.desk_words.specs.Tables.{AreTables, IsShort, Rows, empty_rows}
use Rattle.desk_words.specs.Words.{act_word, stage_word}
use Rattle.desk_dump.specs.Dumps.{dump_of, first_line, last_line, lines_from, lines_of, lists_from, row_line}
use Rattle.desk_dump.specs.Dumps.{rows_lines, text_of}
use Rattle.desk_dump.specs.Fields.{batch_fields, body_shown, clerk_fields, edition_fields, flags_shown, text_fields}
use Rattle.desk_dump.specs.Fields.{numbers_shown, record_fields, region_fields, rulebook_fields}
use Rattle.desk_dump.specs.Fields.{session_fields, texts_shown}
use Rattle.desk_restore.specs.Changes.{changes_of, put_from, put_lists}
use Rattle.desk_restore.specs.Parts.{act_in, body_in, byte_in, digest_in, digest_of, number_in, short_in}
use Rattle.desk_restore.specs.Parts.{stage_in, whole_in}
use Rattle.desk_restore.specs.Ranges.{AreBytes, AreInRange, AreTexts, IsBatch, IsByte, IsClerk, IsEdition, IsTextRow}
use Rattle.desk_restore.specs.Ranges.{IsNumber, IsRecord, IsRegion, IsRulebook, IsSession, IsShortNumber}
use Rattle.desk_restore.specs.Ranges.{IsText}
use Rattle.desk_restore.specs.Reading.{changes_in, line_changes, lines_in, text_row_in, told_by, told_changes, told_in}
use Rattle.desk_restore.proofs.PlainValues.{ArePlain, IsPlain, IsUtf8-compact_text, inline-compact_text}
use Rattle.desk_restore.proofs.PlainValues.{read-compact_text, split-line}
use Rattle.desk_restore.proofs.Puts.{Puts-changes_of, each-short}

-- ---- parts

-- a whole number below the limit
whole-in : (n limit : ℕ) → n < limit → whole_in limit (whole n) ≡ Some n
whole-in n limit below = rw (lt-ltb n limit below) refl

-- a text
text-in : (text : List ℕ) → IsText text → text_in (string text) ≡ Some text
text-in text is = rw (le-leb (length text) MAX_TEXT is.0) refl

-- what is shown of items is read back, where it is of each
each-shown : {A : Type 0} (read : Data → Option A) (shown : A → Data) (P : A → Type 0)
    → ((x : A) → P x → read (shown x) ≡ Some x) → (items : List A) → AllByRecursion P items
    → each read (map shown items) ≡ Some items
each-shown read shown P back [] all = refl
each-shown read shown P back (x ∷ items) all =
    rw (back x all.0, each-shown read shown P back items all.1) refl

-- so is an array of it
list-shown : {A : Type 0} (read : Data → Option A) (shown : A → Data) (P : A → Type 0)
    → ((x : A) → P x → read (shown x) ≡ Some x) → (items : List A) → AllByRecursion P items
    → list_in read (list_of (map shown items)) ≡ Some items
list-shown read shown P back items all =
    ap (each read) (all_items-items_of (map shown items)) ∙ each-shown read shown P back items all

-- numbers
bytes-in : (bytes : List ℕ) → AreBytes bytes → list_in byte_in (numbers_shown bytes) ≡ Some bytes
bytes-in = list-shown byte_in whole IsByte (λ n below. whole-in n (2 ^ 8) below)

shorts-in : (numbers : List ℕ) → AllByRecursion IsShortNumber numbers
    → list_in short_in (numbers_shown numbers) ≡ Some numbers
shorts-in = list-shown short_in whole IsShortNumber (λ n below. whole-in n (2 ^ 16) below)

numbers-in : (numbers : List ℕ) → AllByRecursion IsNumber numbers
    → list_in number_in (numbers_shown numbers) ≡ Some numbers
numbers-in = list-shown number_in whole IsNumber (λ n below. whole-in n (2 ^ 32) below)

-- texts, and rows of them
texts-in : (texts : List (List ℕ)) → AreTexts texts → texts_in (texts_shown texts) ≡ Some texts
texts-in = list-shown text_in string IsText text-in

rows-in : (rows : List (List (List ℕ))) → AllByRecursion AreTexts rows
    → list_in texts_in (list_of (map texts_shown rows)) ≡ Some rows
rows-in = list-shown texts_in texts_shown AreTexts texts-in

-- flags
flags-in : (flags : List Bool) → list_in as_bool (flags_shown flags) ≡ Some flags
flags-in flags = ap (each as_bool) (all_items-items_of (map boolean flags)) ∙ each-flag flags
  where
    each-flag : (flags : List Bool) → each as_bool (map boolean flags) ≡ Some flags
    each-flag [] = refl
    each-flag (flag ∷ flags) = rw (each-flag flags) refl

-- a digest
digest-in : (bytes : List ℕ) → AreBytes bytes → length bytes ≡ 32
    → digest_in (numbers_shown bytes) ≡ Some (record { bytes = bytes })
digest-in bytes are count =
    ap (λ found. found >>= digest_of) (bytes-in bytes are) ∙ rw (eq-eqb (length bytes) 32 count) refl

-- what was published
body-in : (body : List ℕ) → AreBytes body → body_in (body_shown body) ≡ Some body
body-in body are = elim (cases_Bool (is_utf8 body)) [
  | inl utf8 ↦ rw utf8 refl
  | inr other ↦ rw other (bytes-in body are)
]

-- an act
act-in : (what : Act) → act_in (string (act_word what)) ≡ Some what
act-in act.Nothing = refl
act-in act.Clerk = refl
act-in act.Schema = refl
act-in act.Master = refl
act-in act.Rulebook = refl
act-in act.Edition = refl
act-in act.Region = refl
act-in act.Opened = refl
act-in act.Changed = refl
act-in act.Committed = refl
act-in act.Batched = refl

-- a stage
stage-in : (reached : Stage) → stage_in (string (stage_word reached)) ≡ Some reached
stage-in stage.Active = refl
stage-in stage.Committed = refl
stage-in stage.Abandoned = refl

-- ---- they are plain

-- an array of plain values
plain-list : {A : Type 0} (shown : A → Data) (P : A → Type 0) (nested : ℕ)
    → ((x : A) → P x → IsPlain (shown x) nested) → (items : List A) → AllByRecursion P items
    → ArePlain (items_of (map shown items)) nested
plain-list shown P nested plain [] all = tt
plain-list shown P nested plain (x ∷ items) all =
    (plain x all.0, plain-list shown P nested plain items all.1)

-- bytes, numbers and texts
plain-bytes : (bytes : List ℕ) → AreBytes bytes → IsPlain (numbers_shown bytes) 2
plain-bytes = plain-list whole IsByte 1 (λ n below. omega (arith, below))

plain-shorts : (numbers : List ℕ) → AllByRecursion IsShortNumber numbers → IsPlain (numbers_shown numbers) 2
plain-shorts = plain-list whole IsShortNumber 1 (λ n below. omega (arith, below))

plain-numbers : (numbers : List ℕ) → AllByRecursion IsNumber numbers → IsPlain (numbers_shown numbers) 2
plain-numbers = plain-list whole IsNumber 1 (λ n below. omega (arith, below))

plain-texts : (nested : ℕ) (texts : List (List ℕ)) → AreTexts texts → IsPlain (texts_shown texts) (suc nested)
plain-texts nested = plain-list string IsText nested (λ text is. is.1)

plain-rows : (rows : List (List (List ℕ))) → AllByRecursion AreTexts rows
    → IsPlain (list_of (map texts_shown rows)) 2
plain-rows = plain-list texts_shown AreTexts 1 (plain-texts 0)

-- flags
plain-flags : (flags : List Bool) → IsPlain (flags_shown flags) 2
plain-flags [] = tt
plain-flags (flag ∷ flags) = (tt, plain-flags flags)

-- what was published
plain-body : (body : List ℕ) → AreBytes body → IsPlain (body_shown body) 2
plain-body body are = elim (cases_Bool (is_utf8 body)) [
  | inl utf8 ↦ rw utf8 (IsUtf8-from_is_utf8 body utf8)
  | inr other ↦ rw other (plain-bytes body are)
]

-- words
plain-act : (what : Act) → IsPlain (string (act_word what)) 2
plain-act what = IsUtf8-are_ascii (act_word what) (ascii what)
  where
    ascii : (what : Act) → are_ascii (act_word what) ≡ true
    ascii act.Nothing = refl
    ascii act.Clerk = refl
    ascii act.Schema = refl
    ascii act.Master = refl
    ascii act.Rulebook = refl
    ascii act.Edition = refl
    ascii act.Region = refl
    ascii act.Opened = refl
    ascii act.Changed = refl
    ascii act.Committed = refl
    ascii act.Batched = refl

plain-stage : (reached : Stage) → IsPlain (string (stage_word reached)) 2
plain-stage reached = IsUtf8-are_ascii (stage_word reached) (ascii reached)
  where
    ascii : (reached : Stage) → are_ascii (stage_word reached) ≡ true
    ascii stage.Active = refl
    ascii stage.Committed = refl
    ascii stage.Abandoned = refl

-- ---- lines

-- a line is plain, and tells so many changes
record IsLineOf (one : Data) (changes : List Change) : Type 0 where
  plain : IsPlain one 3
  told : line_changes (compact_text one) ≡ Some changes

-- a line of plain values tells what these tell
line-of : (values : List Data) (told : Option Change) → ArePlain (items_of values) 2 → told_in values ≡ Some told
    → IsLineOf (list_of values) (told_changes told)
line-of values told plain is =
    let value : Data = list_of values in
    let found : json_of (compact_text value) ≡ Some value = json_of-read (compact_text value) value
    (IsUtf8-compact_text value 3 plain) (read-compact_text value 3 (omega arith) plain) in
    let tells : told_by (compact_text value) ≡ Some told =
    ap (λ one. one >>= (λ read. items_in read >>= told_in)) found ∙ ap told_in (all_items-items_of values) ∙ is in
    record { plain = plain; told = ap (option_map told_changes) tells }

-- the values of a line: its kind, its places and its fields
abbrev values_of : List ℕ → List ℕ → List Data → List Data
values_of kind places fields = string kind ∷ (map whole places ++ fields)

-- a word of ASCII
ascii : (word : List ℕ) → are_ascii word ≡ true → IsPlain (string word) 2
ascii word are = IsUtf8-are_ascii word are

-- a caller
clerk-line : (place : ℕ) (row : ClerkRow) → place < 2 ^ 32 → IsClerk row
    → IsLineOf (row_line (codes "clerk") (place ∷ []) (clerk_fields row)) (change.Clerk place row ∷ [])
clerk-line place row below is = line-of (values_of (codes "clerk") (place ∷ []) (clerk_fields row))
    (Some (change.Clerk place row)) (
      ascii (codes "clerk") refl,
      (
        omega (arith, below),
        (
          is.name.1,
          (
            is.last,
            (
              plain-bytes row.digest.bytes is.digest,
              (plain-act row.act, (omega (arith, is.target), tt)),
            ),
          ),
        ),
      ),
    )
    (rw (
      whole-in place (2 ^ 32) below,
      text-in row.name is.name,
      digest-in row.digest.bytes is.digest is.count,
      act-in row.act,
      whole-in row.target (2 ^ 32) is.target,
    ) refl)

-- a line of a schema or of a master is plain, and its row is read back
text_row-plain : (kind : List ℕ) (place : ℕ) (row : TextRow) → are_ascii kind ≡ true → place < 2 ^ 32 → IsTextRow row
    → ArePlain (items_of (values_of kind (place ∷ []) (text_fields row))) 2
text_row-plain kind place row are below is = (
  ascii kind are,
  (
    omega (arith, below),
    (
      is.name.1,
      (omega (arith, is.version), (plain-body row.body is.body, tt)),
    ),
  ),
)

text_row-told : (place : ℕ) (row : TextRow) → IsTextRow row → text_row_in (whole place ∷ text_fields row) ≡ Some row
text_row-told place row is =
    rw (text-in row.name is.name, whole-in row.version (2 ^ 32) is.version, body-in row.body is.body) refl

-- a schema
schema-line : (place : ℕ) (row : TextRow) → place < 2 ^ 32 → IsTextRow row
    → IsLineOf (row_line (codes "schema") (place ∷ []) (text_fields row)) (change.Schema row ∷ [])
schema-line place row below is = line-of (values_of (codes "schema") (place ∷ []) (text_fields row))
    (Some (change.Schema row)) (text_row-plain (codes "schema") place row refl below is)
    (ap (option_map (λ one. Some (change.Schema one))) (text_row-told place row is))

-- a master
master-line : (place : ℕ) (row : TextRow) → place < 2 ^ 32 → IsTextRow row
    → IsLineOf (row_line (codes "master") (place ∷ []) (text_fields row)) (change.Master row ∷ [])
master-line place row below is = line-of (values_of (codes "master") (place ∷ []) (text_fields row))
    (Some (change.Master row)) (text_row-plain (codes "master") place row refl below is)
    (ap (option_map (λ one. Some (change.Master one))) (text_row-told place row is))

-- a rulebook
rulebook-line : (place : ℕ) (row : RulebookRow) → place < 2 ^ 32 → IsRulebook row
    → IsLineOf (row_line (codes "rulebook") (place ∷ []) (rulebook_fields row)) (change.Rulebook row ∷ [])
rulebook-line place row below is = line-of (values_of (codes "rulebook") (place ∷ []) (rulebook_fields row))
    (Some (change.Rulebook row)) (
      ascii (codes "rulebook") refl,
      (
        omega (arith, below),
        (
          is.name.1,
          (
            omega (arith, is.version),
            (omega (arith, is.schema), (plain-body row.body is.body, tt)),
          ),
        ),
      ),
    )
    (rw (
      text-in row.name is.name,
      whole-in row.version (2 ^ 32) is.version,
      whole-in row.schema (2 ^ 32) is.schema,
      body-in row.body is.body,
    ) refl)

-- an edition
edition-line : (place : ℕ) (row : EditionRow) → place < 2 ^ 32 → IsEdition row
    → IsLineOf (row_line (codes "edition") (place ∷ []) (edition_fields row)) (change.Edition row ∷ [])
edition-line place row below is = line-of (values_of (codes "edition") (place ∷ []) (edition_fields row))
    (Some (change.Edition row)) (
      ascii (codes "edition") refl,
      (
        omega (arith, below),
        (
          is.name.1,
          (
            omega (arith, is.version),
            (
              omega (arith, is.rulebook),
              (plain-numbers row.masters is.masters, (plain-shorts row.folded is.folded, tt)),
            ),
          ),
        ),
      ),
    )
    (rw (
      text-in row.name is.name,
      whole-in row.version (2 ^ 32) is.version,
      whole-in row.rulebook (2 ^ 32) is.rulebook,
      numbers-in row.masters is.masters,
      shorts-in row.folded is.folded,
    ) refl)

-- a region
region-line : (place : ℕ) (row : RegionRow) → place < 2 ^ 32 → IsRegion row
    → IsLineOf (row_line (codes "region") (place ∷ []) (region_fields row)) (change.Region row ∷ [])
region-line place row below is = line-of (values_of (codes "region") (place ∷ []) (region_fields row))
    (Some (change.Region row)) (
      ascii (codes "region") refl,
      (
        omega (arith, below),
        (
          omega (arith, is.edition),
          (plain-shorts row.region.attrs is.attributes, (plain-rows row.region.rows is.rows, tt)),
        ),
      ),
    )
    (rw (
      whole-in row.edition (2 ^ 32) is.edition,
      shorts-in row.region.attrs is.attributes,
      rows-in row.region.rows is.rows,
    ) refl)

-- a session of a clerk
session-line : (clerk : ℕ) → clerk < 2 ^ 32 → (place : ℕ) (row : SessionRow) → place < 2 ^ 32 → IsSession row
    → IsLineOf (row_line (codes "session") (clerk ∷ place ∷ []) (session_fields row))
    (change.Session clerk place row ∷ [])
session-line clerk named place row below is =
    line-of (values_of (codes "session") (clerk ∷ place ∷ []) (session_fields row))
    (Some (change.Session clerk place row)) (
      ascii (codes "session") refl,
      (
        omega (arith, named),
        (
          omega (arith, below),
          (
            omega (arith, is.edition),
            (
              plain-texts 1 row.typed is.typed,
              (
                plain-flags row.confirmed,
                (
                  plain-stage row.stage,
                  (omega (arith, is.batch), tt),
                ),
              ),
            ),
          ),
        ),
      ),
    )
    (rw (
      whole-in clerk (2 ^ 32) named,
      whole-in place (2 ^ 32) below,
      whole-in row.edition (2 ^ 32) is.edition,
      texts-in row.typed is.typed,
      flags-in row.confirmed,
      stage-in row.stage,
      whole-in row.batch (2 ^ 32) is.batch,
    ) refl)

-- a record of a clerk
record-line : (clerk : ℕ) → clerk < 2 ^ 32 → (place : ℕ) (row : RecordRow) → place < 2 ^ 32 → IsRecord row
    → IsLineOf (row_line (codes "record") (clerk ∷ place ∷ []) (record_fields row)) (change.Record clerk row ∷ [])
record-line clerk named place row below is =
    line-of (values_of (codes "record") (clerk ∷ place ∷ []) (record_fields row)) (Some (change.Record clerk row)) (
      ascii (codes "record") refl,
      (
        omega (arith, named),
        (
          omega (arith, below),
          (
            omega (arith, is.session),
            (plain-texts 1 row.texts is.texts, (tt, tt)),
          ),
        ),
      ),
    )
    (rw (whole-in clerk (2 ^ 32) named, whole-in row.session (2 ^ 32) is.session, texts-in row.texts is.texts) refl)

-- a batch of a clerk
batch-line : (clerk : ℕ) → clerk < 2 ^ 32 → (place : ℕ) (row : BatchRow) → place < 2 ^ 32 → IsBatch row
    → IsLineOf (row_line (codes "batch") (clerk ∷ place ∷ []) (batch_fields row)) (change.Batch clerk row ∷ [])
batch-line clerk named place row below is =
    line-of (values_of (codes "batch") (clerk ∷ place ∷ []) (batch_fields row)) (Some (change.Batch clerk row)) (
      ascii (codes "batch") refl,
      (
        omega (arith, named),
        (
          omega (arith, below),
          (
            omega (arith, is.edition),
            (omega (arith, is.first), (omega (arith, is.count), tt)),
          ),
        ),
      ),
    )
    (rw (
      whole-in clerk (2 ^ 32) named,
      whole-in row.edition (2 ^ 32) is.edition,
      whole-in row.first (2 ^ 32) is.first,
      whole-in row.count (2 ^ 32) is.count,
    ) refl)

-- the first line, and the last one
first_line-none : IsLineOf first_line []
first_line-none =
    line-of (string (codes "fixdesk") ∷ whole 1 ∷ []) None (ascii (codes "fixdesk") refl, (omega arith, tt)) refl

last_line-none : (count : ℕ) → count < 2 ^ 64 → IsLineOf (last_line count) []
last_line-none count below =
    line-of (string (codes "end") ∷ whole count ∷ []) None (ascii (codes "end") refl, (below, tt)) refl

-- ---- lines one after another

-- lines tell these changes, each some of them
abbrev AreLinesOf : List Data → List Change → Type 0
AreLinesOf [] changes = changes ≡ []
AreLinesOf (one ∷ lines) changes = (first : List Change) × (others : List Change) × IsLineOf one first
    × AreLinesOf lines others × (changes ≡ first ++ others)

-- lines before others
lines-append : (lines more : List Data) (changes others : List Change) → AreLinesOf lines changes
    → AreLinesOf more others → AreLinesOf (lines ++ more) (changes ++ others)
lines-append [] more changes others none rest = subst (λ all. AreLinesOf more (all ++ others)) (sym none) rest
lines-append (one ∷ lines) more changes others (first, left, line, are, same) rest = (
  first,
  left ++ others,
  line,
  lines-append lines more left others are rest,
  ap (λ all. all ++ others) same ∙ append_assoc first left others,
)

-- what lines tell is what is read of their texts
lines-told : (lines : List Data) (changes : List Change) → AreLinesOf lines changes
    → changes_in (map compact_text lines ++ [] ∷ []) ≡ Some changes
lines-told [] changes none = ap Some (sym none)
lines-told (one ∷ lines) changes (first, others, line, are, same) =
    rw (line.told, lines-told lines others are) (ap Some (sym same))

-- the parts of the text of lines
lines-parts : (lines : List Data) (changes : List Change) → AreLinesOf lines changes
    → lines_in (text_of lines) ≡ map compact_text lines ++ [] ∷ []
lines-parts [] changes none = refl
lines-parts (one ∷ lines) changes (first, others, line, are, same) =
    ap lines_in (append_assoc (compact_text one) (10 ∷ []) (text_of lines))
    ∙ split-line (compact_text one) (text_of lines) (inline-compact_text one 3 line.plain)
    ∙ ap (λ parts. compact_text one ∷ parts) (lines-parts lines others are)

module _ {Row : Type 0} (kind : List ℕ) (fields : Row → List Data) (P : Row → Type 0) (clerk : List ℕ)
    (put : ℕ → Row → Change)
    (line : (place : ℕ) (row : Row) → place < 2 ^ 32 → P row
    → IsLineOf (row_line kind (clerk ++ place ∷ []) (fields row)) (put place row ∷ [])) where
  -- the lines of rows from a place on
  rows-lines : (place : ℕ) (rows : List Row) → place + length rows < 2 ^ 32 → AllByRecursion P rows
      → AreLinesOf (lines_from kind fields clerk place rows) (put_from put place rows)
  rows-lines place [] short all = refl
  rows-lines place (row ∷ rows) short all = (
    put place row ∷ [],
    put_from put (place + 1) rows,
    line place row (omega (arith, short)) all.0,
    rows-lines (place + 1) rows (omega (arith, short)) all.1,
    refl,
  )

module _ {Row : Type 0} (kind : List ℕ) (fields : Row → List Data) (P : Row → Type 0) (put : ℕ → ℕ → Row → Change)
    (line : (clerk : ℕ) → clerk < 2 ^ 32 → (place : ℕ) (row : Row) → place < 2 ^ 32 → P row
    → IsLineOf (row_line kind (clerk ∷ place ∷ []) (fields row)) (put clerk place row ∷ [])) where
  -- the lines of the clerks' lists from a clerk on
  lists-lines : (clerk : ℕ) (lists : List (List Row)) → clerk + length lists < 2 ^ 32 → AllByRecursion IsShort lists
      → AllByRecursion (AllByRecursion P) lists
      → AreLinesOf (lists_from kind fields clerk lists) (put_lists put clerk lists)
  lists-lines clerk [] few short all = refl
  lists-lines clerk (list ∷ lists) few short all =
      lines-append (lines_from kind fields (clerk ∷ []) 0 list) (lists_from kind fields (clerk + 1) lists)
      (put_from (put clerk) 0 list) (put_lists put (clerk + 1) lists)
      (rows-lines kind fields P (clerk ∷ []) (put clerk) (line clerk (omega (arith, few))) 0 list
      (omega (arith, short.0)) all.0)
      (lists-lines (clerk + 1) lists (omega (arith, few)) short.1 all.1)

-- ---- how many lines there are

-- as many as rows
length-lines_from : {Row : Type 0} (kind : List ℕ) (fields : Row → List Data) (clerk : List ℕ) (place : ℕ)
    (rows : List Row) → length (lines_from kind fields clerk place rows) ≡ length rows
length-lines_from kind fields clerk place [] = refl
length-lines_from kind fields clerk place (row ∷ rows) =
    ap suc (length-lines_from kind fields clerk (place + 1) rows)

-- fewer than 2^31 for each list
length-lists_from : {Row : Type 0} (kind : List ℕ) (fields : Row → List Data) (clerk : ℕ) (lists : List (List Row))
    → AllByRecursion IsShort lists → length (lists_from kind fields clerk lists) ≤ 2 ^ 31 * length lists
length-lists_from kind fields clerk [] short = omega arith
length-lists_from kind fields clerk (list ∷ lists) short = omega (
  arith,
  short.0,
  length-append (lines_from kind fields (clerk ∷ []) 0 list) (lists_from kind fields (clerk + 1) lists),
  length-lines_from kind fields (clerk ∷ []) 0 list,
  length-lists_from kind fields (clerk + 1) lists short.1,
)

-- ---- all lines

module _ (rows : Rows) (tables : AreTables rows) (are : AreInRange rows) where
  -- the lines of each table
  clerk-lines : AreLinesOf (lines_from (codes "clerk") clerk_fields [] 0 rows.clerks)
      (put_from change.Clerk 0 rows.clerks)
  clerk-lines = rows-lines (codes "clerk") clerk_fields IsClerk [] change.Clerk clerk-line 0 rows.clerks
      (omega (arith, tables.clerks)) are.clerks

  schema-lines : AreLinesOf (lines_from (codes "schema") text_fields [] 0 rows.schemas)
      (put_from (λ place row. change.Schema row) 0 rows.schemas)
  schema-lines = rows-lines (codes "schema") text_fields IsTextRow [] (λ place row. change.Schema row) schema-line 0
      rows.schemas (omega (arith, tables.schemas)) are.schemas

  master-lines : AreLinesOf (lines_from (codes "master") text_fields [] 0 rows.masters)
      (put_from (λ place row. change.Master row) 0 rows.masters)
  master-lines = rows-lines (codes "master") text_fields IsTextRow [] (λ place row. change.Master row) master-line 0
      rows.masters (omega (arith, tables.masters)) are.masters

  rulebook-lines : AreLinesOf (lines_from (codes "rulebook") rulebook_fields [] 0 rows.rulebooks)
      (put_from (λ place row. change.Rulebook row) 0 rows.rulebooks)
  rulebook-lines = rows-lines (codes "rulebook") rulebook_fields IsRulebook [] (λ place row. change.Rulebook row)
      rulebook-line 0 rows.rulebooks (omega (arith, tables.rulebooks)) are.rulebooks

  edition-lines : AreLinesOf (lines_from (codes "edition") edition_fields [] 0 rows.editions)
      (put_from (λ place row. change.Edition row) 0 rows.editions)
  edition-lines = rows-lines (codes "edition") edition_fields IsEdition [] (λ place row. change.Edition row)
      edition-line 0 rows.editions (omega (arith, tables.editions)) are.editions

  region-lines : AreLinesOf (lines_from (codes "region") region_fields [] 0 rows.regions)
      (put_from (λ place row. change.Region row) 0 rows.regions)
  region-lines = rows-lines (codes "region") region_fields IsRegion [] (λ place row. change.Region row) region-line 0
      rows.regions (omega (arith, tables.regions)) are.regions

  session-lines : AreLinesOf (lists_from (codes "session") session_fields 0 rows.sessions)
      (put_lists change.Session 0 rows.sessions)
  session-lines = lists-lines (codes "session") session_fields IsSession change.Session session-line 0 rows.sessions
      (omega (arith, tables.clerks, tables.sessions.each)) (each-short rows.sessions tables.sessions.short) are.sessions

  record-lines : AreLinesOf (lists_from (codes "record") record_fields 0 rows.records)
      (put_lists (λ clerk place row. change.Record clerk row) 0 rows.records)
  record-lines = lists-lines (codes "record") record_fields IsRecord (λ clerk place row. change.Record clerk row)
      record-line 0 rows.records (omega (arith, tables.clerks, tables.records.each))
      (each-short rows.records tables.records.short) are.records

  batch-lines : AreLinesOf (lists_from (codes "batch") batch_fields 0 rows.batches)
      (put_lists (λ clerk place row. change.Batch clerk row) 0 rows.batches)
  batch-lines = lists-lines (codes "batch") batch_fields IsBatch (λ clerk place row. change.Batch clerk row) batch-line
      0 rows.batches (omega (arith, tables.clerks, tables.batches.each))
      (each-short rows.batches tables.batches.short) are.batches

  -- those of all rows
  all-lines : AreLinesOf (rows_lines rows) (changes_of rows)
  all-lines = lines-append _ _ _ _ (lines-append _ _ _ _ (lines-append _ _ _ _ (lines-append _ _ _ _
      (lines-append _ _ _ _ (lines-append _ _ _ _ (lines-append _ _ _ _ (lines-append _ _ _ _ clerk-lines
      schema-lines) master-lines) rulebook-lines) edition-lines) region-lines) session-lines) record-lines) batch-lines

  -- fewer than 2^64 lines
  few-lines : length (lines_of rows) < 2 ^ 64
  few-lines =
      let clerks = lines_from (codes "clerk") clerk_fields [] 0 rows.clerks in
      let schemas = lines_from (codes "schema") text_fields [] 0 rows.schemas in
      let masters = lines_from (codes "master") text_fields [] 0 rows.masters in
      let rulebooks = lines_from (codes "rulebook") rulebook_fields [] 0 rows.rulebooks in
      let editions = lines_from (codes "edition") edition_fields [] 0 rows.editions in
      let regions = lines_from (codes "region") region_fields [] 0 rows.regions in
      let sessions = lists_from (codes "session") session_fields 0 rows.sessions in
      let records = lists_from (codes "record") record_fields 0 rows.records in
      let batches = lists_from (codes "batch") batch_fields 0 rows.batches in
      omega (
        arith,
        length-append (clerks ++ schemas ++ masters ++ rulebooks ++ editions ++ regions ++ sessions ++ records) batches,
        length-append (clerks ++ schemas ++ masters ++ rulebooks ++ editions ++ regions ++ sessions) records,
        length-append (clerks ++ schemas ++ masters ++ rulebooks ++ editions ++ regions) sessions,
        length-append (clerks ++ schemas ++ masters ++ rulebooks ++ editions) regions,
        length-append (clerks ++ schemas ++ masters ++ rulebooks) editions,
        length-append (clerks ++ schemas ++ masters) rulebooks,
        length-append (clerks ++ schemas) masters,
        length-append clerks schemas,
        length-lines_from (codes "clerk") clerk_fields [] 0 rows.clerks,
        length-lines_from (codes "schema") text_fields [] 0 rows.schemas,
        length-lines_from (codes "master") text_fields [] 0 rows.masters,
        length-lines_from (codes "rulebook") rulebook_fields [] 0 rows.rulebooks,
        length-lines_from (codes "edition") edition_fields [] 0 rows.editions,
        length-lines_from (codes "region") region_fields [] 0 rows.regions,
        length-lists_from (codes "session") session_fields 0 rows.sessions
            (each-short rows.sessions tables.sessions.short),
        length-lists_from (codes "record") record_fields 0 rows.records
            (each-short rows.records tables.records.short),
        length-lists_from (codes "batch") batch_fields 0 rows.batches
            (each-short rows.batches tables.batches.short),
        tables.clerks,
        tables.schemas,
        tables.masters,
        tables.rulebooks,
        tables.editions,
        tables.regions,
        tables.sessions.each,
        tables.records.each,
        tables.batches.each,
      )

  -- the lines of a dump, and of its text
  dump-lines : AreLinesOf (lines_of rows ++ last_line (length (lines_of rows)) ∷ []) (changes_of rows)
  dump-lines =
      let last : AreLinesOf (last_line (length (lines_of rows)) ∷ []) [] =
      ([], [], last_line-none (length (lines_of rows)) few-lines, refl, refl) in
      let all : AreLinesOf (lines_of rows) (changes_of rows) =
      ([], changes_of rows, first_line-none, all-lines, refl) in
      subst (AreLinesOf (lines_of rows ++ last_line (length (lines_of rows)) ∷ [])) (append-nil (changes_of rows))
      (lines-append (lines_of rows) (last_line (length (lines_of rows)) ∷ []) (changes_of rows) [] all last)

-- what is read of a dump are the changes that put its rows
pub changes_in-dump : (rows : Rows) → AreTables rows → AreInRange rows
    → changes_in (lines_in (dump_of rows)) ≡ Some (changes_of rows)
changes_in-dump rows tables are =
    let all : List Data = lines_of rows ++ last_line (length (lines_of rows)) ∷ [] in
    ap changes_in (lines-parts all (changes_of rows) (dump-lines rows tables are))
    ∙ lines-told all (changes_of rows) (dump-lines rows tables are)

-- equal dumps are of equal rows
pub dump_of-injective : (one other : Rows) → AreTables one → AreTables other → AreInRange one → AreInRange other
    → dump_of one ≡ dump_of other → one ≡ other
dump_of-injective one other tables also are are_too same =
    let changes : Some (changes_of one) ≡ Some (changes_of other) = sym (changes_in-dump one tables are)
    ∙ ap (λ text. changes_in (lines_in text)) same ∙ changes_in-dump other also are_too in
    let equal : changes_of one ≡ changes_of other = cc in
    sym (Puts-changes_of one tables).made ∙ ap (changed_all empty_rows) equal ∙ (Puts-changes_of other also).made
