-- Where the bytes of a sheet are cut, after one byte more.
use Rattle.std.proofs.Common.{◌≡◌, ℕ, List, [], ◌∷◌, ◌++◌, ◌==◌, ◌||◌, Bool, true, false, refl, sym, ap, ◌∙◌}
use Rattle.std.proofs.Common.{append_assoc, if◌then◌else◌, subst}
use Rattle.std.proofs.lemmas.Bool.{eqb-true, ne_eqb}
use Rattle.csv.specs.Machine.{ends_at_end, in_field, is_end, step}
use Rattle.csv.specs.declared.parser.Action.{Action}
use Rattle.csv.specs.declared.parser.Action.TheVariants as act
use Rattle.csv.specs.declared.parser.Config.{Config}
use Rattle.csv.specs.declared.parser.State.{State}
use Rattle.csv.specs.declared.parser.State.TheVariants as st
use Rattle.sheet_blocks.specs.declared.place.Place.{Place}
use Rattle.sheet_blocks.specs.declared.place.Place.TheVariants.{Start, Plain, Quoted, Closed}
use Rattle.sheet_blocks.specs.Kept.{Follows, IsCutAt, reader_place}
use Rattle.sheet_blocks.specs.declared.blocks.Kept.{Kept}
use Rattle.std.proofs.lemmas.List.{append-nil}
use Rattle.sheet_blocks.specs.Places.{ends_line, is_line_end, next_place, place_outside}
use Rattle.sheet_blocks.specs.Sheets.{IsDelimiter}
use Rattle.master_rows.specs.Sheet.{delimited}
use Rattle.sheet_blocks.specs.Whole.{AreWhole, EndsNone, state_after}
use Rattle.sheet_blocks.proofs.Records.{IsNeat-begun, IsNeat-read_on, IsReached}
use Rattle.sheet_blocks.proofs.Records.{begun, read_on-state, step-return}

-- the state after two texts, one after the other
pub state_after-append : (cfg : Config) (state : State) (text later : List ℕ)
    → state_after cfg state (text ++ later) ≡ state_after cfg (state_after cfg state text) later
state_after-append cfg state [] later = refl
state_after-append cfg state (byte ∷ text) later = state_after-append cfg (step cfg state byte).0 text later

-- no record ends in a text and one byte more
EndsNone-more : (cfg : Config) (state : State) (text : List ℕ) (byte : ℕ) → EndsNone cfg state text
    → is_end (step cfg (state_after cfg state text) byte).1 ≡ false → EndsNone cfg state (text ++ byte ∷ [])
EndsNone-more cfg state [] byte none goes = (goes, tt)
EndsNone-more cfg state (first ∷ text) byte none goes =
    (none.0, EndsNone-more cfg (step cfg state first).0 text byte none.1 goes)

-- between two records a byte leads where it leads from the start
step-between : (delimiter : ℕ) (state : State) (byte : ℕ) → ends_at_end state ≡ false
    → step (delimited delimiter) state byte ≡ step (delimited delimiter) st.StartRecord byte
step-between delimiter st.StartRecord byte apart = refl
step-between delimiter st.AfterCr byte apart = step-return delimiter byte
step-between delimiter st.StartField byte apart = absurd cc
step-between delimiter st.InField byte apart = absurd cc
step-between delimiter st.InQuoted byte apart = absurd cc
step-between delimiter st.AfterQuote byte apart = absurd cc
step-between delimiter st.InEscape byte apart = absurd cc
step-between delimiter st.InComment byte apart = absurd cc

-- so does a text of some bytes
state_after-between : (delimiter : ℕ) (state : State) (text : List ℕ) (byte : ℕ) → ends_at_end state ≡ false
    → state_after (delimited delimiter) state (text ++ byte ∷ [])
    ≡ state_after (delimited delimiter) st.StartRecord (text ++ byte ∷ [])
state_after-between delimiter state [] byte apart = ap (λ s. s.0) (step-between delimiter state byte apart)
state_after-between delimiter state (first ∷ text) byte apart =
    ap (λ s. state_after (delimited delimiter) s.0 (text ++ byte ∷ [])) (step-between delimiter state first apart)

-- whole records after whole records are whole records
whole-between : (delimiter : ℕ) (state : State) (block : List ℕ) → ends_at_end state ≡ false
    → AreWhole (delimited delimiter) block → ends_at_end (state_after (delimited delimiter) state block) ≡ false
whole-between delimiter state [] apart whole = apart
whole-between delimiter state (byte ∷ block) apart whole =
    ap (λ s. ends_at_end (state_after (delimited delimiter) s.0 block)) (step-between delimiter state byte apart)
    ∙ whole

pub AreWhole-append : (delimiter : ℕ) (one other : List ℕ) → AreWhole (delimited delimiter) one
    → AreWhole (delimited delimiter) other → AreWhole (delimited delimiter) (one ++ other)
AreWhole-append delimiter one other first second =
    ap ends_at_end (state_after-append (delimited delimiter) st.StartRecord one other)
    ∙ whole-between delimiter (state_after (delimited delimiter) st.StartRecord one) other first second

-- what a step does, where it ends a line or not, and the place after it is this
record Agrees (line : Bool) (next : Place) (after : State × Action) : Type 0 where
  place : next ≡ reader_place after.0
  ends : line ≡ true → ends_at_end after.0 ≡ false
  start : line ≡ true → next ≡ Start
  goes : line ≡ false → is_end after.1 ≡ false

-- one that ends a line
Agrees-ends : (state : State) (action : Action) → Start ≡ reader_place state → ends_at_end state ≡ false
    → Agrees true Start (state, action)
Agrees-ends state action place apart = record {
  place = place;
  ends = λ _. apart;
  start = λ _. refl;
  goes = λ e. absurd (let f = e in cc);
}

-- one that ends none
Agrees-goes : (next : Place) (state : State) (action : Action) → next ≡ reader_place state → is_end action ≡ false
    → Agrees false next (state, action)
Agrees-goes next state action place goes = record {
  place = place;
  ends = λ e. absurd (let f = e in cc);
  start = λ e. absurd (let f = e in cc);
  goes = λ _. goes;
}

-- the step of a byte in a field, by what the byte is: a delimiter, which ends no line, a line end, a CR
Agrees-field : (parts line return : Bool) → (parts ≡ true → line ≡ false)
    → Agrees line (if parts || line then Start else Plain)
    (if parts then (st.StartField, act.EndField)
    else if line then (if return then st.AfterCr else st.StartRecord, act.EndRecord)
    else (st.InField, act.Copy))
Agrees-field true true return apart = absurd (let e = apart refl in cc)
Agrees-field true false return apart = Agrees-goes Start st.StartField act.EndField refl refl
Agrees-field false true true apart = Agrees-ends st.AfterCr act.EndRecord refl refl
Agrees-field false true false apart = Agrees-ends st.StartRecord act.EndRecord refl refl
Agrees-field false false return apart = Agrees-goes Plain st.InField act.Copy refl refl

-- that of a byte where a quote leads between quotes, and any other as it does in this step
Agrees-quote : (quote line : Bool) (action : Action) (next : Place) (after : State × Action)
    → (quote ≡ true → line ≡ false) → is_end action ≡ false → Agrees line next after
    → Agrees line (if quote then Quoted else next) (if quote then (st.InQuoted, action) else after)
Agrees-quote true true action next after apart goes does = absurd (let e = apart refl in cc)
Agrees-quote true false action next after apart goes does = Agrees-goes Quoted st.InQuoted action refl goes
Agrees-quote false line action next after apart goes does = does

-- that of a byte between two records, where a line end is passed over
Agrees-record : (line : Bool) (next : Place) (after : State × Action) → Agrees line next after
    → Agrees line next (if line then (st.StartRecord, act.Skip) else after)
Agrees-record true next after does = record {
  place = does.start refl;
  ends = λ _. refl;
  start = does.start;
  goes = λ e. absurd (let f = e in cc);
}
Agrees-record false next after does = does

-- that of a byte between quotes
Agrees-within : (quote : Bool) → Agrees false (if quote then Closed else Quoted)
    (if quote then (st.AfterQuote, act.Skip) else (st.InQuoted, act.Copy))
Agrees-within true = Agrees-goes Closed st.AfterQuote act.Skip refl refl
Agrees-within false = Agrees-goes Quoted st.InQuoted act.Copy refl refl

module _ (delimiter byte : ℕ) (delimits : IsDelimiter delimiter) where
  -- a delimiter ends no line
  no-line : (byte == delimiter) ≡ true → is_line_end byte ≡ false
  no-line parts = rw (
    eqb-true byte delimiter parts,
    ne_eqb delimiter 13 delimits.no_return,
    ne_eqb delimiter 10 delimits.no_feed,
  ) refl

  -- a byte that is no quote, or one
  agrees_plain : Agrees (is_line_end byte) (place_outside delimiter byte) (in_field (delimited delimiter) byte)
  agrees_plain = Agrees-field (byte == delimiter) (is_line_end byte) (byte == 13) no-line

  agrees_quote : (action : Action) → is_end action ≡ false
      → Agrees (is_line_end byte) (if byte == 34 then Quoted else place_outside delimiter byte)
      (if byte == 34 then (st.InQuoted, action) else in_field (delimited delimiter) byte)
  agrees_quote action goes = Agrees-quote (byte == 34) (is_line_end byte) action _ _
      (λ quote. ap is_line_end (eqb-true byte 34 quote)) goes agrees_plain

  agrees_start : Agrees (is_line_end byte) (if byte == 34 then Quoted else place_outside delimiter byte)
      (step (delimited delimiter) st.StartRecord byte)
  agrees_start = Agrees-record (is_line_end byte) _ _ (agrees_quote act.Skip refl)

  -- what a byte does to the machine, by what it does to the place
  agrees : (state : State) → IsReached state → Agrees (ends_line (reader_place state) byte)
      (next_place delimiter (reader_place state) byte) (step (delimited delimiter) state byte)
  agrees st.StartRecord reached = agrees_start
  agrees st.AfterCr reached = subst (Agrees (is_line_end byte) _) (sym (step-return delimiter byte)) agrees_start
  agrees st.StartField reached = agrees_quote act.Skip refl
  agrees st.InField reached = agrees_plain
  agrees st.InQuoted reached = Agrees-within (byte == 34)
  agrees st.AfterQuote reached = agrees_quote act.Copy refl
  agrees st.InEscape reached = absurd reached
  agrees st.InComment reached = absurd reached

-- the state after bytes of a record that was begun is one that is reached
reached-after : (delimiter : ℕ) (text : List ℕ) → IsReached (state_after (delimited delimiter) st.StartRecord text)
reached-after delimiter text = subst (λ s. IsReached s) (read_on-state (delimited delimiter) begun text)
    (IsNeat-read_on delimiter begun text IsNeat-begun).reached

-- after a byte that ends a line the record that was begun is whole
pub IsCutAt-ends : (delimiter : ℕ) (block begun_bytes : List ℕ) (place : Place) (byte : ℕ) → IsDelimiter delimiter
    → IsCutAt delimiter block begun_bytes place → ends_line place byte ≡ true
    → IsCutAt delimiter (block ++ begun_bytes ++ byte ∷ []) [] (next_place delimiter place byte)
IsCutAt-ends delimiter block begun_bytes place byte delimits cut ends =
    let cfg = delimited delimiter in
    let state = state_after cfg st.StartRecord begun_bytes in
    let does = agrees delimiter byte delimits state (reached-after delimiter begun_bytes) in
    let here : ends_line (reader_place state) byte ≡ true = ap (λ p. ends_line p byte) (sym cut.at) ∙ ends in
    record {
      whole = ap (λ l. ends_at_end (state_after cfg st.StartRecord l)) (append_assoc block begun_bytes (byte ∷ []))
          ∙ ap ends_at_end (state_after-append cfg st.StartRecord block (begun_bytes ++ byte ∷ [])
          ∙ state_after-between delimiter (state_after cfg st.StartRecord block) begun_bytes byte cut.whole
          ∙ state_after-append cfg st.StartRecord begun_bytes (byte ∷ [])) ∙ does.ends here;
      ends_none = tt;
      at = ap (λ p. next_place delimiter p byte) cut.at ∙ does.start here;
    }

-- another byte goes into the record
pub IsCutAt-goes : (delimiter : ℕ) (block begun_bytes : List ℕ) (place : Place) (byte : ℕ) → IsDelimiter delimiter
    → IsCutAt delimiter block begun_bytes place → ends_line place byte ≡ false
    → IsCutAt delimiter block (begun_bytes ++ byte ∷ []) (next_place delimiter place byte)
IsCutAt-goes delimiter block begun_bytes place byte delimits cut goes =
    let cfg = delimited delimiter in
    let state = state_after cfg st.StartRecord begun_bytes in
    let does = agrees delimiter byte delimits state (reached-after delimiter begun_bytes) in
    let here : ends_line (reader_place state) byte ≡ false = ap (λ p. ends_line p byte) (sym cut.at) ∙ goes in
    record {
      whole = cut.whole;
      ends_none = EndsNone-more cfg st.StartRecord begun_bytes byte cut.ends_none (does.goes here);
      at = ap (λ p. next_place delimiter p byte) cut.at ∙ does.place
          ∙ ap reader_place (sym (state_after-append cfg st.StartRecord begun_bytes (byte ∷ [])));
    }

-- what is kept after a byte that ends a line
pub Follows-ends : (delimiter : ℕ) (old now new : Kept) (bytes : List ℕ) (byte : ℕ) → IsDelimiter delimiter
    → Follows delimiter old bytes now → ends_line now.place byte ≡ true
    → new.block.items ≡ now.block.items ++ now.begun.items ++ byte ∷ [] → new.begun.items ≡ []
    → new.place ≡ next_place delimiter now.place byte → Follows delimiter old (bytes ++ byte ∷ []) new
Follows-ends delimiter old now new bytes byte delimits follows ends block begun_bytes place =
    let one = byte ∷ [] in
    let cut = IsCutAt-ends delimiter now.block.items now.begun.items now.place byte delimits follows.cut ends in
    record {
      cut = rw (block, begun_bytes, place) cut;
      all = ap (λ l. new.block.items ++ l) begun_bytes ∙ append-nil new.block.items ∙ block
          ∙ ap (λ l. l ++ one) follows.all
          ∙ append_assoc (old.block.items ++ old.begun.items) bytes one;
      more = follows.more ++ (now.begun.items ++ one);
      longer = block ∙ append_assoc now.block.items now.begun.items one
          ∙ ap (λ l. l ++ (now.begun.items ++ one)) follows.longer
          ∙ append_assoc old.block.items follows.more (now.begun.items ++ one);
    }

-- what is kept after another byte
pub Follows-goes : (delimiter : ℕ) (old now new : Kept) (bytes : List ℕ) (byte : ℕ) → IsDelimiter delimiter
    → Follows delimiter old bytes now → ends_line now.place byte ≡ false
    → new.block.items ≡ now.block.items → new.begun.items ≡ now.begun.items ++ byte ∷ []
    → new.place ≡ next_place delimiter now.place byte → Follows delimiter old (bytes ++ byte ∷ []) new
Follows-goes delimiter old now new bytes byte delimits follows goes block begun_bytes place =
    let one = byte ∷ [] in
    let cut = IsCutAt-goes delimiter now.block.items now.begun.items now.place byte delimits follows.cut goes in
    record {
      cut = rw (block, begun_bytes, place) cut;
      all = ap (λ l. new.block.items ++ l) begun_bytes ∙ ap (λ l. l ++ (now.begun.items ++ one)) block
          ∙ sym (append_assoc now.block.items now.begun.items one)
          ∙ ap (λ l. l ++ one) follows.all
          ∙ append_assoc (old.block.items ++ old.begun.items) bytes one;
      more = follows.more;
      longer = block ∙ follows.longer;
    }
