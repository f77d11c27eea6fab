-- How the blocks of a sheet stand to the bytes that were read, as more are read and blocks are taken.
use Rattle.std.proofs.Common.{◌≡◌, ℕ, ◌-◌, ◌==◌, List, [], ◌∷◌, ◌++◌, Bool, true, false, ◌||◌, length, take}
use Rattle.std.proofs.Common.{append_assoc, inl, inr, arith, length-append, refl, sym, ap, ◌∙◌, if◌then◌else◌}
use Rattle.std.specs.Prelude.{Option}
use Rattle.std.proofs.lemmas.Bool.{and_parts, cases_Bool, eqb-true}
use Rattle.std.proofs.lemmas.List.{append-nil}
use Rattle.csv.specs.Reading.{records, strip_bom}
use Rattle.csv.specs.declared.parser.State.TheVariants as st
use Rattle.sheet_blocks.specs.Front.{IsFront, is_partial_mark}
use Rattle.sheet_blocks.specs.Places.{ends_line, is_line_end, next_place}
use Rattle.sheet_blocks.specs.Sheets.{IsDelimiter, ended_records, records_read, without_last}
use Rattle.master_rows.specs.Sheet.{delimited}
use Rattle.sheet_blocks.specs.Standing.{AreCut, BlocksSeen, Grows, IsOpened, Stands}
use Rattle.sheet_blocks.specs.Whole.{AreWhole, EndsNone}
use Rattle.sheet_blocks.specs.declared.place.Place.TheVariants.{Plain, Start}
use Rattle.sheet_blocks.specs.Kept.{IsCutAt}
use Rattle.sheet_blocks.proofs.Cuts.{AreWhole-append, IsCutAt-goes}
use Rattle.sheet_blocks.proofs.Fronts.{strip_bom-append}
use Rattle.sheet_blocks.proofs.Records.{begun, read_on, read_on-none, records-append, records-letter, records-read}

-- blocks that were opened over a front
pub IsOpened-front : (delimiter : ℕ) (left after : Option (List ℕ)) (bytes : List ℕ) (whole : Bool)
    (blocks : BlocksSeen)
    → IsFront left after bytes whole → blocks.block ++ blocks.begun ≡ strip_bom bytes → blocks.whole ≡ whole
    → blocks.delimiter ≡ delimiter → IsOpened delimiter left after blocks
IsOpened-front delimiter left after bytes whole blocks front text is delimits = record {
  bytes = bytes;
  taken = front.taken;
  stands = record {
    text = sym text;
    taken_whole = refl;
    front = elim front.enough [
      | inl all ↦ inl (is ∙ all)
      | inr apart ↦ inr (λ later. strip_bom-append bytes later apart)
    ];
  };
  ended = λ all. front.ended (sym is ∙ all);
  delimiter_is = delimits;
}

-- more bytes were read
pub Stands-grown : (bytes taken : List ℕ) (left after : Option (List ℕ)) (old new : BlocksSeen)
    (grows : Grows left after old new)
    → Stands bytes taken old → old.whole ≡ false → Stands (bytes ++ grows.bytes) taken new
Stands-grown bytes taken left after old new grows stands begins = elim stands.front [
  | inl all ↦ absurd (let e = sym all ∙ begins in cc)
  | inr on ↦ record {
    text = on grows.bytes ∙ ap (λ l. l ++ grows.bytes) stands.text
        ∙ ap (λ l. l ++ grows.bytes) (append_assoc taken old.block old.begun)
        ∙ append_assoc taken (old.block ++ old.begun) grows.bytes
        ∙ ap (λ l. taken ++ l) (sym grows.grown)
        ∙ sym (append_assoc taken new.block new.begun);
    taken_whole = rw grows.delimiter_is stands.taken_whole;
    front = inr (λ later. ap strip_bom (append_assoc bytes grows.bytes later)
        ∙ on (grows.bytes ++ later)
        ∙ sym (append_assoc (strip_bom bytes) grows.bytes later)
        ∙ ap (λ l. l ++ later) (sym (on grows.bytes)));
  }
]

-- the block was taken
pub Stands-taken : (bytes taken : List ℕ) (blocks : BlocksSeen) → Stands bytes taken blocks → AreCut blocks
    → blocks.whole ≡ false → Stands bytes (taken ++ blocks.block) (record blocks { block = [] })
Stands-taken bytes taken blocks stands cut begins = record {
  text = stands.text ∙ ap (λ l. l ++ blocks.begun) (sym (append-nil (taken ++ blocks.block)));
  taken_whole = AreWhole-append blocks.delimiter taken blocks.block stands.taken_whole (cut.whole begins);
  front = stands.front;
}

-- ---- the records of what was read

-- the items in front of the last
take-front : {T : Type 0} (items : List T) (later : List T) → take (length items) (items ++ later) ≡ items
take-front [] later = refl
take-front (item ∷ items) later = ap (λ l. item ∷ l) (take-front items later)

pub without_last-append : {T : Type 0} (items : List T) (last : T) → without_last (items ++ last ∷ []) ≡ items
without_last-append items last =
    let count : length (items ++ last ∷ []) - 1 ≡ length items = omega (arith, length-append items (last ∷ [])) in
    ap (λ n. take n (items ++ last ∷ [])) count ∙ take-front items (last ∷ [])

-- the records of a beginning are those of its whole records, and then those that end in the rest
ended_records-on : (delimiter : ℕ) (bytes done rest : List ℕ) → strip_bom bytes ≡ done ++ rest
    → AreWhole (delimited delimiter) done → ended_records delimiter bytes
    ≡ records (delimited delimiter) done ++ (read_on (delimited delimiter) begun rest).rows
ended_records-on delimiter bytes done rest text whole =
    let cfg = delimited delimiter in
    let letter = records-letter delimiter rest in
    let ended = (read_on cfg begun rest).rows in
    ap without_last (ap (λ l. records cfg (l ++ 120 ∷ [])) text
    ∙ ap (records cfg) (append_assoc done rest (120 ∷ []))
    ∙ records-append delimiter done (rest ++ 120 ∷ []) whole
    ∙ ap (λ l. records cfg done ++ l) letter.records_are
    ∙ sym (append_assoc (records cfg done) ended (letter.last ∷ [])))
    ∙ without_last-append (records cfg done ++ ended) letter.last

-- which are none in a record that was begun
ended_records-cut : (delimiter : ℕ) (bytes done rest : List ℕ) → strip_bom bytes ≡ done ++ rest
    → AreWhole (delimited delimiter) done → EndsNone (delimited delimiter) st.StartRecord rest
    → ended_records delimiter bytes ≡ records (delimited delimiter) done
ended_records-cut delimiter bytes done rest text whole none =
    ended_records-on delimiter bytes done rest text whole
    ∙ ap (λ rows. records (delimited delimiter) done ++ rows) (read_on-none (delimited delimiter) begun rest none)
    ∙ append-nil (records (delimited delimiter) done)

-- the records of what was read are those that were taken, and then those of the block
pub records_read-stands : (bytes taken : List ℕ) (blocks : BlocksSeen) → Stands bytes taken blocks → AreCut blocks
    → records_read blocks.delimiter blocks.whole bytes
    ≡ records (delimited blocks.delimiter) taken ++ records (delimited blocks.delimiter) blocks.block
records_read-stands bytes taken blocks stands cut = elim (cases_Bool blocks.whole) [
  | inl all ↦ rw all (ap (records (delimited blocks.delimiter)) (stands.text
      ∙ ap (λ l. taken ++ blocks.block ++ l) (cut.all all) ∙ append-nil (taken ++ blocks.block))
      ∙ records-append blocks.delimiter taken blocks.block stands.taken_whole)
  | inr begins ↦ rw begins (ended_records-cut blocks.delimiter bytes (taken ++ blocks.block) blocks.begun stands.text
      (AreWhole-append blocks.delimiter taken blocks.block stands.taken_whole (cut.whole begins))
      (cut.ends_none begins)
      ∙ records-append blocks.delimiter taken blocks.block stands.taken_whole)
]

-- whatever more was read, the records that were taken stand at the front of those that have ended
pub record HasMore (delimiter : ℕ) (bytes taken : List ℕ) : Type 0 where
  pub later : List (List (List ℕ))
  pub records_are : ended_records delimiter bytes ≡ records (delimited delimiter) taken ++ later

pub ended_records-more : (delimiter : ℕ) (bytes taken rest : List ℕ) → strip_bom bytes ≡ taken ++ rest
    → AreWhole (delimited delimiter) taken → HasMore delimiter bytes taken
ended_records-more delimiter bytes taken rest text whole = record {
  later = (read_on (delimited delimiter) begun rest).rows;
  records_are = ended_records-on delimiter bytes taken rest text whole;
}

-- of blocks that were not read to the end of the sheet
pub records_read-more : (bytes taken more : List ℕ) (blocks : BlocksSeen) → Stands bytes taken blocks
    → blocks.whole ≡ false → HasMore blocks.delimiter (bytes ++ more) taken
records_read-more bytes taken more blocks stands begins = elim stands.front [
  | inl all ↦ absurd (let e = sym all ∙ begins in cc)
  | inr on ↦ ended_records-more blocks.delimiter (bytes ++ more) taken ((blocks.block ++ blocks.begun) ++ more)
      (on more ∙ ap (λ l. l ++ more) stands.text
      ∙ ap (λ l. l ++ more) (append_assoc taken blocks.block blocks.begun)
      ∙ append_assoc taken (blocks.block ++ blocks.begun) more)
      stands.taken_whole
]

-- a line end before a block adds no record, and keeps a mark from being seen
strip_bom-fed : (block : List ℕ) → strip_bom (10 ∷ block) ≡ 10 ∷ block
unfolding strip_bom
strip_bom-fed [] = refl
strip_bom-fed (one ∷ []) = refl
strip_bom-fed (one ∷ two ∷ rest) = refl

records-feed : (delimiter : ℕ) → records (delimited delimiter) (10 ∷ []) ≡ []
records-feed delimiter = records-read (delimited delimiter) (10 ∷ [])

pub records-fed : (delimiter : ℕ) (block : List ℕ)
    → records (delimited delimiter) (strip_bom (10 ∷ block)) ≡ records (delimited delimiter) block
records-fed delimiter block = ap (records (delimited delimiter)) (strip_bom-fed block)
    ∙ records-append delimiter (10 ∷ []) block refl
    ∙ ap (λ l. l ++ records (delimited delimiter) block) (records-feed delimiter)

-- ---- a part of a mark

-- no line ends with the second byte of a mark, wherever the first has led
mark-goes : (test : Bool) → ends_line (if test then Start else Plain) 0xBB ≡ false
mark-goes true = refl
mark-goes false = refl

cut-none : (delimiter : ℕ) → IsCutAt delimiter [] [] Start
cut-none delimiter = record { whole = refl; ends_none = tt; at = refl }

-- no record ends in a part of a mark
EndsNone-partial : (delimiter : ℕ) (bytes : List ℕ) → IsDelimiter delimiter → is_partial_mark bytes ≡ true
    → EndsNone (delimited delimiter) st.StartRecord bytes
EndsNone-partial delimiter [] delimits partial = tt
EndsNone-partial delimiter (one ∷ []) delimits partial =
    let is : one ≡ 0xEF = eqb-true one 0xEF partial in
    rw is (IsCutAt-goes delimiter [] [] Start 0xEF delimits (cut-none delimiter) refl).ends_none
EndsNone-partial delimiter (one ∷ two ∷ []) delimits partial =
    let both = and_parts (one == 0xEF) (two == 0xBB) partial in
    let first : one ≡ 0xEF = eqb-true one 0xEF both.0 in
    let second : two ≡ 0xBB = eqb-true two 0xBB both.1 in
    let cut = IsCutAt-goes delimiter [] [] Start 0xEF delimits (cut-none delimiter) refl in
    rw (first, second) (IsCutAt-goes delimiter [] (0xEF ∷ []) (next_place delimiter Start 0xEF) 0xBB delimits cut
    (mark-goes ((0xEF == delimiter) || is_line_end 0xEF))).ends_none
EndsNone-partial delimiter (one ∷ two ∷ three ∷ rest) delimits partial = absurd cc

-- and nothing of it is passed over
strip_bom-partial : (bytes : List ℕ) → is_partial_mark bytes ≡ true → strip_bom bytes ≡ bytes
unfolding strip_bom
strip_bom-partial [] partial = refl
strip_bom-partial (one ∷ []) partial = refl
strip_bom-partial (one ∷ two ∷ []) partial = refl
strip_bom-partial (one ∷ two ∷ three ∷ rest) partial = absurd cc

pub ended_records-partial : (delimiter : ℕ) (bytes : List ℕ) → IsDelimiter delimiter → is_partial_mark bytes ≡ true
    → ended_records delimiter bytes ≡ []
ended_records-partial delimiter bytes delimits partial =
    ended_records-cut delimiter bytes [] bytes (strip_bom-partial bytes partial) refl
    (EndsNone-partial delimiter bytes delimits partial)
    ∙ records-read (delimited delimiter) []
