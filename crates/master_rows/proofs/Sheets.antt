-- What a reader has given of a sheet so far stands at the front of all its records, whatever stands between its fields.
use Rattle.std.proofs.Common.{◌≡◌, ℕ, zero, suc, ◌+◌, ◌<◌, ◌≤◌, ◌==◌, List, [], ◌∷◌, ◌++◌, Bool, true, false, ◌||◌}
use Rattle.std.proofs.Common.{if◌then◌else◌, length, length-append, refl, sym, ap, ◌∙◌, arith, inl, inr}
use Rattle.std.specs.Prelude.{Option, Some, None, All}
use Rattle.std.proofs.lemmas.Bool.{cases_Bool}
use Rattle.std.proofs.lemmas.List.{append-nil}
use Rattle.std.proofs.lemmas.List.Elements.{All-nil, All-cons}
use Rattle.csv.specs.Machine.{Read, step, is_end, next_record, fields_after, field_after, ends_at_end, in_field}
use Rattle.csv.specs.Machine.{start_record}
use Rattle.csv.specs.Reading.{Reached, records, records_from, records_next}
use Rattle.csv.specs.declared.parser.State.{State}
use Rattle.csv.specs.declared.parser.State.TheVariants as st
use Rattle.csv.specs.declared.parser.Action.{Action}
use Rattle.csv.specs.declared.parser.Action.TheVariants as act
use Rattle.master_rows.specs.Sheet.{delimited}

-- where a byte ends a record, the machine stands between two
abbrev LeavesNone : State × Action → Type 0
LeavesNone after = is_end after.1 ≡ true → ends_at_end after.0 ≡ false

-- a choice of two steps that do
choose : (test : Bool) (yes_step no_step : State × Action) → LeavesNone yes_step → LeavesNone no_step
    → LeavesNone (if test then yes_step else no_step)
choose true yes_step no_step first second = first
choose false yes_step no_step first second = second

-- a step that ends no record does
continues : (s : State) (a : Action) → is_end a ≡ false → LeavesNone (s, a)
continues s a goes ends = absurd (let e = sym goes ∙ ends in cc)

-- a line's end leaves the machine between two records
ends_line : (test : Bool) → ends_at_end (if test then st.AfterCr else st.StartRecord) ≡ false
ends_line true = refl
ends_line false = refl

-- the step of a byte in a field does
field_step : (delimiter c : ℕ) → LeavesNone (in_field (delimited delimiter) c)
field_step delimiter c = choose (c == delimiter) _ _ (continues st.StartField act.EndField refl)
    (choose ((c == 13) || (c == 10)) _ _ (λ _. ends_line (c == 13)) (continues st.InField act.Copy refl))

-- the step of a byte before a record does
first_step : (delimiter c : ℕ) → LeavesNone (start_record (delimited delimiter) c)
first_step delimiter c = choose ((c == 13) || (c == 10)) _ _ (continues st.StartRecord act.Skip refl)
    (choose (c == 34) _ _ (continues st.InQuoted act.Skip refl) (field_step delimiter c))

-- each step does
every_step : (delimiter : ℕ) (s : State) (c : ℕ) → LeavesNone (step (delimited delimiter) s c)
every_step delimiter st.StartRecord c = first_step delimiter c
every_step delimiter st.StartField c = choose (c == 34) _ _ (continues st.InQuoted act.Skip refl)
    (field_step delimiter c)
every_step delimiter st.InField c = field_step delimiter c
every_step delimiter st.InQuoted c = choose (c == 34) _ _ (continues st.AfterQuote act.Skip refl)
    (continues st.InQuoted act.Copy refl)
every_step delimiter st.AfterQuote c = choose (c == 34) _ _ (continues st.InQuoted act.Copy refl)
    (field_step delimiter c)
every_step delimiter st.InEscape c = continues st.InQuoted act.Copy refl
every_step delimiter st.InComment c = choose (c == 10) _ _ (continues st.StartRecord act.Skip refl)
    (continues st.InComment act.Skip refl)
every_step delimiter st.AfterCr c = choose (c == 10) _ _ (continues st.StartRecord act.Skip refl)
    (first_step delimiter c)

-- a record has a field, takes bytes where none was begun, and leaves the machine between two records
record IsTaken (s : State) (text : List ℕ) (taken : Read) : Type 0 where
  some : 1 ≤ length taken.0
  no_longer : length taken.2 ≤ length text
  shorter : ends_at_end s ≡ false → length taken.2 < length text
  between : ends_at_end taken.1 ≡ false

-- the byte that ends a record ends a field
ends_with_field : (a : Action) (fields : List (List ℕ)) (field : List ℕ) → is_end a ≡ true
    → 1 ≤ length (fields_after a fields field)
ends_with_field act.EndRecord fields field ends = omega (arith, length-append fields (field ∷ []))
ends_with_field act.Skip fields field ends = absurd cc
ends_with_field act.Copy fields field ends = absurd cc
ends_with_field act.EndField fields field ends = absurd cc

-- the next record is such a one
next-taken : (delimiter : ℕ) (s : State) (fields : List (List ℕ)) (field text : List ℕ) (taken : Read)
    → next_record (delimited delimiter) s fields field text ≡ Some taken → IsTaken s text taken
unfolding next_record
next-taken delimiter s fields field [] taken h = elim (cases_Bool (ends_at_end s)) [
  | inr still ↦ absurd (let e = rw still at h in cc)
  | inl over ↦
      let e = rw over at h in
      let is : taken ≡ (fields ++ (field ∷ []), st.StartRecord, []) = cc in
      rw is (record {
        some = omega (arith, length-append fields (field ∷ []));
        no_longer = omega arith;
        shorter = λ none. absurd
            (let f = sym over ∙ none in cc);
        between = refl;
      })
]
next-taken delimiter s fields field (c ∷ rest) taken h = elim (cases_Bool (is_end (step (delimited delimiter) s c).1)) [
  | inl ends ↦
      let e = rw ends at h in
      let is : taken ≡
      (fields_after (step (delimited delimiter) s c).1 fields field, (step (delimited delimiter) s c).0, rest) = cc in
      rw is (record {
        some = ends_with_field (step (delimited delimiter) s c).1 fields field ends;
        no_longer = omega arith;
        shorter = λ _. omega arith;
        between = every_step delimiter s c ends;
      })
  | inr goes ↦
      let later = next-taken delimiter (step (delimited delimiter) s c).0
      (fields_after (step (delimited delimiter) s c).1 fields field)
      (field_after (step (delimited delimiter) s c).1 c field) rest taken (rw goes at h) in
      record {
        some = later.some;
        no_longer = omega (arith, later.no_longer);
        shorter = λ _. omega
            (arith, later.no_longer);
        between = later.between;
      }
]

-- the records that were reached stand in front of those that are left
record IsFront (delimiter : ℕ) (rows all : List (List (List ℕ))) (s : State) (rest : List ℕ) : Type 0 where
  fuel : ℕ
  enough : length rest < fuel
  between : ends_at_end s ≡ false
  front : all ≡ rows ++ records_from (delimited delimiter) fuel s rest

-- records that were reached stand in front, wherever the machine began between two
reached_front : (delimiter fuel : ℕ) (s s2 : State) (text rest : List ℕ) (rows : List (List (List ℕ)))
    → ends_at_end s ≡ false → length text < fuel → Reached (delimited delimiter) s text rows s2 rest
    → IsFront delimiter rows (records_from (delimited delimiter) fuel s text) s2 rest
unfolding Reached records_from
reached_front delimiter zero s s2 text rest rows apart enough h = absurd (omega arith)
reached_front delimiter (suc fuel) s s2 text rest [] apart enough h = rw (← h.0, ← h.1)
    (record { fuel = suc fuel; enough = enough; between = apart; front = refl })
reached_front delimiter (suc fuel) s s2 text rest (row ∷ rows) apart enough h =
    let (read, is, same, more) = h in
    let (fields, next, others) = read in
    let taken = next-taken delimiter s [] [] text read is in
    let later = reached_front delimiter fuel next s2 others rest rows taken.between
    (omega (arith, taken.shorter apart)) more in
    record {
      fuel = later.fuel;
      enough = later.enough;
      between = later.between;
      front = rw (is, same) (ap (λ l. fields ∷ l) later.front);
    }

-- of all records of a text
records-reached : (delimiter : ℕ) (text rest : List ℕ) (rows : List (List (List ℕ))) (s : State)
    → Reached (delimited delimiter) st.StartRecord text rows s rest
    → IsFront delimiter rows (records (delimited delimiter) text) s rest
records-reached delimiter text rest rows s h =
    reached_front delimiter (length text + 1) st.StartRecord s text rest rows refl (omega arith) h

-- where there is no next record, none are left
pub records_from-none : (delimiter fuel : ℕ) (s : State) (rest : List ℕ)
    → next_record (delimited delimiter) s [] [] rest ≡ None
    → records_from (delimited delimiter) fuel s rest ≡ []
unfolding records_from
records_from-none delimiter zero s rest end = refl
records_from-none delimiter (suc fuel) s rest end = rw end refl

-- where no record is left, those that were reached are all
pub records-end : (delimiter : ℕ) (text rest : List ℕ) (rows : List (List (List ℕ))) (s : State)
    → Reached (delimited delimiter) st.StartRecord text rows s rest
    → next_record (delimited delimiter) s [] [] rest ≡ None
    → rows ≡ records (delimited delimiter) text
records-end delimiter text rest rows s h end =
    let all = records-reached delimiter text rest rows s h in
    sym (all.front ∙ ap (λ more. rows ++ more) (records_from-none delimiter all.fuel s rest end) ∙ append-nil rows)

-- where the reader stands between two records, it makes no difference how much is allowed to be read, if it is enough
records_from-enough : (delimiter fuel more : ℕ) (s : State) (text : List ℕ) → ends_at_end s ≡ false
    → length text < fuel → length text < more
    → records_from (delimited delimiter) fuel s text ≡ records_from (delimited delimiter) more s text
unfolding records_from
records_from-enough delimiter zero more s text apart enough also = absurd (omega arith)
records_from-enough delimiter (suc fuel) zero s text apart enough also = absurd (omega arith)
records_from-enough delimiter (suc fuel) (suc more) s text apart enough also =
    by (next_record (delimited delimiter) s [] [] text) refl
    (λ state rest between less. records_from-enough delimiter fuel more state rest between (omega (arith, less))
    (omega (arith, less)))
  where
    by : (next : Option Read) → next_record (delimited delimiter) s [] [] text ≡ next
        → ((state : State) (rest : List ℕ) → ends_at_end state ≡ false → length rest < length text
        → records_from (delimited delimiter) fuel state rest ≡ records_from (delimited delimiter) more state rest)
        → records_next (records_from (delimited delimiter) fuel) next
        ≡ records_next (records_from (delimited delimiter) more) next
    by None is later = refl
    by (Some (fields, state, rest)) is later =
        let taken = next-taken delimiter s [] [] text (fields, state, rest) is in
        ap (λ rows. fields ∷ rows) (later state rest taken.between (taken.shorter apart))

-- the records that are left after a first one
pub record AreNext (delimiter : ℕ) (all : List (List (List ℕ))) (read : Read) : Type 0 where
  pub between : ends_at_end read.1 ≡ false
  pub next : all ≡ read.0 ∷ records_from (delimited delimiter) (length read.2 + 1) read.1 read.2

-- are those from the state that it leaves on
pub records_from-next : (delimiter fuel : ℕ) (s : State) (text : List ℕ) (read : Read) → ends_at_end s ≡ false
    → length text < fuel → next_record (delimited delimiter) s [] [] text ≡ Some read
    → AreNext delimiter (records_from (delimited delimiter) fuel s text) read
unfolding records_from
records_from-next delimiter zero s text read apart enough is = absurd (omega arith)
records_from-next delimiter (suc fuel) s text (fields, state, rest) apart enough is =
    let taken = next-taken delimiter s [] [] text (fields, state, rest) is in
    record {
      between = taken.between;
      next = rw is (ap (λ later. fields ∷ later) (records_from-enough delimiter fuel (length rest + 1) state rest
          taken.between (omega (arith, taken.shorter apart)) (omega arith)));
    }

-- a record and those after it have fields where each has
records_next-some : (next : Option Read) (more : State → List ℕ → List (List (List ℕ)))
    → ((taken : Read) → next ≡ Some taken → 1 ≤ length taken.0)
    → ((s : State) (text : List ℕ) → All (λ row. 1 ≤ length row) (more s text))
    → All (λ row. 1 ≤ length row) (records_next more next)
records_next-some None more here later = All-nil (λ row. 1 ≤ length row)
records_next-some (Some (fields, next, rest)) more here later = All-cons (λ row. 1 ≤ length row) fields (more next rest)
    (here (fields, next, rest) refl) (later next rest)

-- each record from a state on has a field
records_from-some : (delimiter fuel : ℕ) (s : State) (text : List ℕ)
    → All (λ row. 1 ≤ length row) (records_from (delimited delimiter) fuel s text)
unfolding records_from
records_from-some delimiter zero s text = All-nil (λ row. 1 ≤ length row)
records_from-some delimiter (suc fuel) s text = records_next-some (next_record (delimited delimiter) s [] [] text)
    (records_from (delimited delimiter) fuel) (λ taken is. (next-taken delimiter s [] [] text taken is).some)
    (records_from-some delimiter fuel)

-- each record of a text has a field
pub records-some : (delimiter : ℕ) (text : List ℕ) → All (λ row. 1 ≤ length row) (records (delimited delimiter) text)
records-some delimiter text = records_from-some delimiter (length text + 1) st.StartRecord text
