-- The records of a text are those of its blocks, one after another.
use Rattle.std.proofs.Common.{◌≡◌, ◌⊎◌, ℕ, zero, suc, ◌+◌, ◌≤◌, ◌==◌, List, [], ◌∷◌, ◌++◌, Bool, true, false, ◌||◌}
use Rattle.std.proofs.Common.{if◌then◌else◌, length, append_assoc, refl, sym, ap, ◌∙◌, arith, inl, inr}
use Rattle.std.specs.Prelude.{Some, ⊤}
use Rattle.std.proofs.lemmas.Bool.{cases_Bool}
use Rattle.std.proofs.lemmas.List.{append-nil}
use Rattle.csv.specs.Machine.{step, is_end, next_record, fields_after, field_after, ends_at_end, in_field}
use Rattle.csv.specs.Machine.{start_field, start_record}
use Rattle.csv.specs.Reading.{records, records_from, records_next}
use Rattle.csv.specs.declared.parser.Config.{Config}
use Rattle.csv.specs.declared.parser.State.{State}
use Rattle.csv.specs.declared.parser.State.TheVariants as st
use Rattle.csv.specs.declared.parser.Action.{Action}
use Rattle.csv.specs.declared.parser.Action.TheVariants as act
use Rattle.master_rows.specs.Sheet.{delimited}
use Rattle.sheet_blocks.specs.Whole.{AreWhole, EndsNone, state_after}

-- ---- reading byte by byte

-- where a reader stands: the machine's state, the fields of the record at hand, the field at hand, and the records that
-- have ended
pub record Reading : Type 0 where
  pub state : State
  pub fields : List (List ℕ)
  pub field : List ℕ
  pub rows : List (List (List ℕ))

-- it has read nothing
abbrev pub begun : Reading
begun = record { state = st.StartRecord; fields = []; field = []; rows = [] }

-- after a byte that ends the record at hand, or not
abbrev stepped_by : Bool → Reading → ℕ → State × Action → Reading
stepped_by true reading byte after = record {
  state = after.0;
  fields = [];
  field = [];
  rows = reading.rows ++ fields_after after.1 reading.fields reading.field ∷ [];
}
stepped_by false reading byte after = record {
  state = after.0;
  fields = fields_after after.1 reading.fields reading.field;
  field = field_after after.1 byte reading.field;
  rows = reading.rows;
}

-- after a byte whose step is this
abbrev stepped : Reading → ℕ → State × Action → Reading
stepped reading byte after = stepped_by (is_end after.1) reading byte after

-- its state is that of the step
stepped-state : (ends : Bool) (reading : Reading) (byte : ℕ) (after : State × Action)
    → (stepped_by ends reading byte after).state ≡ after.0
stepped-state true reading byte after = refl
stepped-state false reading byte after = refl

-- after some bytes
abbrev pub read_on : Config → Reading → List ℕ → Reading
read_on cfg reading [] = reading
read_on cfg reading (byte ∷ later) = read_on cfg (stepped reading byte (step cfg reading.state byte)) later

-- the records, if the text ends here, in a state that ends a record then, or not
abbrev finished_by : Bool → Reading → List (List (List ℕ))
finished_by true reading = reading.rows ++ (reading.fields ++ reading.field ∷ []) ∷ []
finished_by false reading = reading.rows

-- the records, if the text ends here
abbrev pub finished : Reading → List (List (List ℕ))
finished reading = finished_by (ends_at_end reading.state) reading

-- no record is left of an empty text, between two
records_from-nil : (cfg : Config) (fuel : ℕ) → records_from cfg fuel st.StartRecord [] ≡ []
unfolding records_from next_record
records_from-nil cfg zero = refl
records_from-nil cfg (suc fuel) = refl

-- after the end of a record too, where it is so of the rest
read-ended : (cfg : Config) (fuel : ℕ) (state : State) (row : List (List ℕ)) (text : List ℕ)
    (rows : List (List (List ℕ))) (all : List (List (List ℕ))) → suc (length text) ≤ fuel
    → ((less : ℕ) → length text ≤ less
    → (rows ++ row ∷ []) ++ records_next (records_from cfg less) (next_record cfg state [] [] text) ≡ all)
    → rows ++ row ∷ records_from cfg fuel state text ≡ all
unfolding records_from
read-ended cfg zero state row text rows all enough rest = absurd (omega (arith, enough))
read-ended cfg (suc fuel) state row text rows all enough rest =
    sym (append_assoc rows (row ∷ []) _) ∙ rest fuel (omega (arith, enough))

-- the records that have ended, and those that csv states for the rest, are those that are read byte by byte
read-rest : (cfg : Config) (fuel : ℕ) (state : State) (fields : List (List ℕ)) (field text : List ℕ)
    (rows : List (List (List ℕ))) → length text ≤ fuel
    → rows ++ records_next (records_from cfg fuel) (next_record cfg state fields field text)
    ≡ finished (read_on cfg (record { state = state; fields = fields; field = field; rows = rows }) text)
unfolding next_record
read-rest cfg fuel state fields field [] rows enough = elim (cases_Bool (ends_at_end state)) [
  | inl over ↦ rw (over, records_from-nil cfg fuel) refl
  | inr still ↦ rw still (append-nil rows)
]
read-rest cfg fuel state fields field (byte ∷ later) rows enough =
    let after = step cfg state byte in
    let row = fields_after after.1 fields field in
    let at_hand = field_after after.1 byte field in
    let reading : Reading = record { state = state; fields = fields; field = field; rows = rows } in
    let next = λ (ends : Bool). rows ++ records_next (records_from cfg fuel)
    (if ends then Some (row, after.0, later) else next_record cfg after.0 row at_hand later) in
    let end = λ (ends : Bool). finished (read_on cfg (stepped_by ends reading byte after) later) in
    elim (cases_Bool (is_end after.1)) [
      | inl ends ↦ ap next ends
          ∙ read-ended cfg fuel after.0 row later rows (end true) (omega (arith, enough))
          (λ less few. read-rest cfg less after.0 [] [] later (rows ++ row ∷ []) few)
          ∙ ap end (sym ends)
      | inr goes ↦ ap next goes
          ∙ read-rest cfg fuel after.0 row at_hand later rows (omega (arith, enough))
          ∙ ap end (sym goes)
    ]

-- the same from nothing
read-from : (cfg : Config) (fuel : ℕ) (text : List ℕ) → suc (length text) ≤ fuel
    → records_from cfg fuel st.StartRecord text ≡ finished (read_on cfg begun text)
unfolding records_from
read-from cfg zero text enough = absurd (omega (arith, enough))
read-from cfg (suc fuel) text enough = read-rest cfg fuel st.StartRecord [] [] text [] (omega (arith, enough))

-- the records of a text are those that are read byte by byte
pub records-read : (cfg : Config) (text : List ℕ) → records cfg text ≡ finished (read_on cfg begun text)
records-read cfg text = read-from cfg (length text + 1) text (omega arith)

-- one text is read on after another
pub read_on-append : (cfg : Config) (reading : Reading) (text later : List ℕ)
    → read_on cfg reading (text ++ later) ≡ read_on cfg (read_on cfg reading text) later
read_on-append cfg reading [] later = refl
read_on-append cfg reading (byte ∷ text) later =
    read_on-append cfg (stepped reading byte (step cfg reading.state byte)) text later

-- the state is that of csv's machine
pub read_on-state : (cfg : Config) (reading : Reading) (text : List ℕ)
    → (read_on cfg reading text).state ≡ state_after cfg reading.state text
read_on-state cfg reading [] = refl
read_on-state cfg reading (byte ∷ text) =
    read_on-state cfg (stepped reading byte (step cfg reading.state byte)) text
    ∙ ap (λ s. state_after cfg s text) (stepped-state (is_end (step cfg reading.state byte).1) reading byte _)

-- ---- records in front

-- the same, with records in front of those that have ended
abbrev shifted : List (List (List ℕ)) → Reading → Reading
shifted rows reading = record reading { rows = rows ++ reading.rows }

stepped-shifted : (ends : Bool) (rows : List (List (List ℕ))) (reading : Reading) (byte : ℕ) (after : State × Action)
    → stepped_by ends (shifted rows reading) byte after ≡ shifted rows (stepped_by ends reading byte after)
stepped-shifted true rows reading byte after =
    ap (λ l. record { state = after.0; fields = []; field = []; rows = l }) (append_assoc rows reading.rows _)
stepped-shifted false rows reading byte after = refl

read_on-shifted : (cfg : Config) (rows : List (List (List ℕ))) (reading : Reading) (text : List ℕ)
    → read_on cfg (shifted rows reading) text ≡ shifted rows (read_on cfg reading text)
read_on-shifted cfg rows reading [] = refl
read_on-shifted cfg rows reading (byte ∷ text) =
    let after = step cfg reading.state byte in
    ap (λ r. read_on cfg r text) (stepped-shifted (is_end after.1) rows reading byte after)
    ∙ read_on-shifted cfg rows (stepped reading byte after) text

finished-shifted : (ends : Bool) (rows : List (List (List ℕ))) (reading : Reading)
    → finished_by ends (shifted rows reading) ≡ rows ++ finished_by ends reading
finished-shifted true rows reading = append_assoc rows reading.rows _
finished-shifted false rows reading = refl

-- ---- between two records

-- between two records, after these
abbrev pub between : State → List (List (List ℕ)) → Reading
between state rows = record { state = state; fields = []; field = []; rows = rows }

-- after a CR a reader goes on as at the start
pub step-return : (delimiter byte : ℕ)
    → step (delimited delimiter) st.AfterCr byte ≡ step (delimited delimiter) st.StartRecord byte
step-return delimiter byte = elim (cases_Bool (byte == 10)) [
  | inl feed ↦ elim (cases_Bool (byte == 13)) [
    | inl return ↦ rw (feed, return) refl
    | inr other ↦ rw (feed, other) refl
  ]
  | inr other ↦ rw other refl
]

-- what was read between two records tells nothing of the state
stepped-between : (ends : Bool) (one other : State) (rows : List (List (List ℕ))) (byte : ℕ) (after : State × Action)
    → stepped_by ends (between one rows) byte after ≡ stepped_by ends (between other rows) byte after
stepped-between true one other rows byte after = refl
stepped-between false one other rows byte after = refl

restart : (delimiter : ℕ) (state : State) (rows : List (List (List ℕ))) (text : List ℕ) → ends_at_end state ≡ false
    → finished (read_on (delimited delimiter) (between state rows) text)
    ≡ finished (read_on (delimited delimiter) (between st.StartRecord rows) text)
restart delimiter st.StartRecord rows text apart = refl
restart delimiter st.AfterCr rows [] apart = refl
restart delimiter st.AfterCr rows (byte ∷ text) apart =
    let after = step (delimited delimiter) st.AfterCr byte in
    ap (λ r. finished (read_on (delimited delimiter) r text))
    (stepped-between (is_end after.1) st.AfterCr st.StartRecord rows byte after)
    ∙ ap (λ after. finished (read_on (delimited delimiter) (stepped (between st.StartRecord rows) byte after) text))
    (step-return delimiter byte)
restart delimiter st.StartField rows text apart = absurd cc
restart delimiter st.InField rows text apart = absurd cc
restart delimiter st.InQuoted rows text apart = absurd cc
restart delimiter st.AfterQuote rows text apart = absurd cc
restart delimiter st.InEscape rows text apart = absurd cc
restart delimiter st.InComment rows text apart = absurd cc

-- the states that such a reader comes to
abbrev pub IsReached : State → Type 0
IsReached st.InEscape = ⊥
IsReached st.InComment = ⊥
IsReached st.StartRecord = ⊤
IsReached st.AfterCr = ⊤
IsReached st.StartField = ⊤
IsReached st.InField = ⊤
IsReached st.InQuoted = ⊤
IsReached st.AfterQuote = ⊤

-- a step leads to such a state; between two records it leads by the end of one, or it passes over a byte there
abbrev Tidy : State → State × Action → Type 0
Tidy before after = IsReached after.0
    × (ends_at_end after.0 ≡ false → (is_end after.1 ≡ true) ⊎ ((after.1 ≡ act.Skip) × (ends_at_end before ≡ false)))

choose : (test : Bool) (before : State) (yes_step no_step : State × Action) → Tidy before yes_step
    → Tidy before no_step → Tidy before (if test then yes_step else no_step)
choose true before yes_step no_step first second = first
choose false before yes_step no_step first second = second

-- a step that leads into a record
inside : (before state : State) (action : Action) → IsReached state → ends_at_end state ≡ true
    → Tidy before (state, action)
inside before state action reached within = (reached, λ apart. absurd (let e = sym within ∙ apart in cc))

-- a line's end
line_step : (before : State) (test : Bool) → Tidy before (if test then st.AfterCr else st.StartRecord, act.EndRecord)
line_step before true = (tt, λ _. inl refl)
line_step before false = (tt, λ _. inl refl)

field_step : (delimiter : ℕ) (before : State) (byte : ℕ) → Tidy before (in_field (delimited delimiter) byte)
field_step delimiter before byte = choose (byte == delimiter) before _ _
    (inside before st.StartField act.EndField tt refl)
    (choose ((byte == 13) || (byte == 10)) before _ _ (line_step before (byte == 13))
    (inside before st.InField act.Copy tt refl))

first_step : (delimiter : ℕ) (before : State) (byte : ℕ) → Tidy before (start_field (delimited delimiter) byte)
first_step delimiter before byte = choose (byte == 34) before _ _ (inside before st.InQuoted act.Skip tt refl)
    (field_step delimiter before byte)

record_step : (delimiter : ℕ) (before : State) (byte : ℕ) → ends_at_end before ≡ false
    → Tidy before (start_record (delimited delimiter) byte)
record_step delimiter before byte apart = choose ((byte == 13) || (byte == 10)) before _ _
    (tt, λ _. inr (refl, apart)) (first_step delimiter before byte)

every_step : (delimiter : ℕ) (before : State) (byte : ℕ) → IsReached before
    → Tidy before (step (delimited delimiter) before byte)
every_step delimiter st.StartRecord byte reached = record_step delimiter st.StartRecord byte refl
every_step delimiter st.AfterCr byte reached = choose (byte == 10) st.AfterCr _ _ (tt, λ _. inr (refl, refl))
    (record_step delimiter st.AfterCr byte refl)
every_step delimiter st.StartField byte reached = first_step delimiter st.StartField byte
every_step delimiter st.InField byte reached = field_step delimiter st.InField byte
every_step delimiter st.InQuoted byte reached = choose (byte == 34) st.InQuoted _ _
    (inside st.InQuoted st.AfterQuote act.Skip tt refl) (inside st.InQuoted st.InQuoted act.Copy tt refl)
every_step delimiter st.AfterQuote byte reached = choose (byte == 34) st.AfterQuote _ _
    (inside st.AfterQuote st.InQuoted act.Copy tt refl) (field_step delimiter st.AfterQuote byte)
every_step delimiter st.InEscape byte reached = absurd reached
every_step delimiter st.InComment byte reached = absurd reached

-- between two records no record is at hand
pub record IsNeat (reading : Reading) : Type 0 where
  pub reached : IsReached reading.state
  pub fields : ends_at_end reading.state ≡ false → reading.fields ≡ []
  pub field : ends_at_end reading.state ≡ false → reading.field ≡ []

neat_by : (ends : Bool) (reading : Reading) (byte : ℕ) (after : State × Action) → is_end after.1 ≡ ends
    → IsNeat reading → Tidy reading.state after → IsNeat (stepped_by ends reading byte after)
neat_by true reading byte after is neat tidy = record { reached = tidy.0; fields = λ _. refl; field = λ _. refl }
neat_by false reading byte after is neat tidy = record {
  reached = tidy.0;
  fields = λ apart. elim (tidy.1 apart) [
    | inl ends ↦ absurd (let e = sym is ∙ ends in cc)
    | inr passed ↦ rw passed.0 (neat.fields passed.1)
  ];
  field = λ apart. elim (tidy.1 apart) [
    | inl ends ↦ absurd (let e = sym is ∙ ends in cc)
    | inr passed ↦ rw passed.0 (neat.field passed.1)
  ];
}

pub IsNeat-read_on : (delimiter : ℕ) (reading : Reading) (text : List ℕ) → IsNeat reading
    → IsNeat (read_on (delimited delimiter) reading text)
IsNeat-read_on delimiter reading [] neat = neat
IsNeat-read_on delimiter reading (byte ∷ text) neat =
    let after = step (delimited delimiter) reading.state byte in
    IsNeat-read_on delimiter (stepped reading byte after) text
    (neat_by (is_end after.1) reading byte after refl neat (every_step delimiter reading.state byte neat.reached))

-- nothing read is neat
pub IsNeat-begun : IsNeat begun
IsNeat-begun = record { reached = tt; fields = λ _. refl; field = λ _. refl }

-- after whole records a reader stands between two
pub whole-between : (delimiter : ℕ) (block : List ℕ) → AreWhole (delimited delimiter) block
    → read_on (delimited delimiter) begun block
    ≡ between (state_after (delimited delimiter) st.StartRecord block) (records (delimited delimiter) block)
whole-between delimiter block whole =
    let reading = read_on (delimited delimiter) begun block in
    let state = read_on-state (delimited delimiter) begun block in
    let neat = IsNeat-read_on delimiter begun block IsNeat-begun in
    let apart : ends_at_end reading.state ≡ false = ap ends_at_end state ∙ whole in
    let all : records (delimited delimiter) block ≡ reading.rows =
    records-read (delimited delimiter) block ∙ ap (λ b. finished_by b reading) apart in
    ap (λ f. record { state = reading.state; fields = f; field = reading.field; rows = reading.rows })
    (neat.fields apart)
    ∙ ap (λ f. record { state = reading.state; fields = []; field = f; rows = reading.rows }) (neat.field apart)
    ∙ ap (λ s. between s reading.rows) state
    ∙ ap (λ rows. between (state_after (delimited delimiter) st.StartRecord block) rows) (sym all)

-- the records of a text are those of a block of whole records, and then those of what follows it
pub records-append : (delimiter : ℕ) (block later : List ℕ) → AreWhole (delimited delimiter) block
    → records (delimited delimiter) (block ++ later)
    ≡ records (delimited delimiter) block ++ records (delimited delimiter) later
records-append delimiter block later whole =
    let cfg = delimited delimiter in
    let rows = records cfg block in
    let all = read_on cfg begun later in
    records-read cfg (block ++ later)
    ∙ ap finished (read_on-append cfg begun block later)
    ∙ ap (λ r. finished (read_on cfg r later)) (whole-between delimiter block whole)
    ∙ restart delimiter (state_after cfg st.StartRecord block) rows later whole
    ∙ ap (λ l. finished (read_on cfg (between st.StartRecord l) later)) (sym (append-nil rows))
    ∙ ap finished (read_on-shifted cfg rows begun later)
    ∙ finished-shifted (ends_at_end all.state) rows all
    ∙ ap (λ l. rows ++ l) (sym (records-read cfg later))

-- ---- a record that was begun

-- where no record ends in a text, those that ended before are all
pub read_on-none : (cfg : Config) (reading : Reading) (text : List ℕ) → EndsNone cfg reading.state text
    → (read_on cfg reading text).rows ≡ reading.rows
read_on-none cfg reading [] none = refl
read_on-none cfg reading (byte ∷ text) none =
    let after = step cfg reading.state byte in
    let goes : Reading = stepped_by false reading byte after in
    ap (λ ends. (read_on cfg (stepped_by ends reading byte after) text).rows) none.0
    ∙ read_on-none cfg goes text none.1

-- a letter goes into a record, as the next field where it is the delimiter
letter_goes : (parts : Bool)
    → let after : State × Action = if parts then (st.StartField, act.EndField) else (st.InField, act.Copy) in
    (ends_at_end after.0 ≡ true) × (is_end after.1 ≡ false)
letter_goes true = (refl, refl)
letter_goes false = (refl, refl)

letter_step : (delimiter : ℕ) (state : State) → IsReached state
    → (ends_at_end (step (delimited delimiter) state 120).0 ≡ true)
    × (is_end (step (delimited delimiter) state 120).1 ≡ false)
letter_step delimiter st.StartRecord reached = letter_goes (120 == delimiter)
letter_step delimiter st.AfterCr reached = letter_goes (120 == delimiter)
letter_step delimiter st.StartField reached = letter_goes (120 == delimiter)
letter_step delimiter st.InField reached = letter_goes (120 == delimiter)
letter_step delimiter st.InQuoted reached = (refl, refl)
letter_step delimiter st.AfterQuote reached = letter_goes (120 == delimiter)
letter_step delimiter st.InEscape reached = absurd reached
letter_step delimiter st.InComment reached = absurd reached

-- a text with a letter more has the records that have ended, and one more
pub record HasLast (cfg : Config) (text : List ℕ) : Type 0 where
  pub last : List (List ℕ)
  pub records_are : records cfg (text ++ 120 ∷ []) ≡ (read_on cfg begun text).rows ++ last ∷ []

pub records-letter : (delimiter : ℕ) (text : List ℕ) → HasLast (delimited delimiter) text
records-letter delimiter text =
    let cfg = delimited delimiter in
    let reading = read_on cfg begun text in
    let neat = IsNeat-read_on delimiter begun text IsNeat-begun in
    let (into, goes) = letter_step delimiter reading.state neat.reached in
    let after = step cfg reading.state 120 in
    let all = records-read cfg (text ++ 120 ∷ []) ∙ ap finished (read_on-append cfg begun text (120 ∷ [])) in
    record {
      last = (stepped_by false reading 120 after).fields ++ (stepped_by false reading 120 after).field ∷ [];
      records_are = all
          ∙ ap (λ ends. finished (stepped_by ends reading 120 after)) goes
          ∙ ap (λ over. finished_by over (stepped_by false reading 120 after)) into;
    }
