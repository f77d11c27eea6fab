-- A reader of a sheet in memory: what its steps leave, and which errors stop it.
use Rattle.std.proofs.Common.{◌≡◌, ◌+◌, ◌∙◌, ◌∷◌, [], ℕ, List, Bor, true, false, ap, arith, length, refl, sym, inl}
use Rattle.std.specs.Prelude.{Option, Some}
use Rattle.csv.proofs.ReadFacts.{rows-end, rows-more}
use Rattle.csv.specs.Reading.{ExplainsRead, Reached, ReadRecord, is_flexible, reader_config, reader_state}
use Rattle.csv.specs.Reading.{records_from, source_of, stops_reader, took_first}
use Rattle.csv.specs.declared.parser.Config.{Config}
use Rattle.csv.specs.declared.parser.State.{State}
use Rattle.csv.specs.declared.error.ErrorKind.{ErrorKind}
use Rattle.csv.specs.declared.error.ErrorKind.TheVariants as kind
use Rattle.csv.specs.declared.reader.Reader.{Reader}
use Rattle.master_rows.specs.Reading.{IsBetween, left_of, records_left, records_of}
use Rattle.master_rows.specs.Sheet.{delimited}
use Rattle.master_rows.proofs.Sheets.{records_from-next, records_from-none}

-- where the setting, the state and the bytes are known, so are the records that are left
records_of-known : (config known : Config) (state told : State) (source : Option (List ℕ)) (rest text : List ℕ)
    → config ≡ known → source ≡ Some rest → told ≡ state → text ≡ rest
    → records_of config state source ≡ records_from known (length text + 1) told text
records_of-known config known state told source rest text is are same left = rw (is, are, same, left) refl

-- the next record is the first of those that are left, and the reader stands before the others
pub record IsNext (old new : Reader (Bor (List ℕ))) (fields : List (List ℕ)) : Type 0 where
  pub between : IsBetween new
  pub next : records_left false old ≡ fields ∷ records_left false new

-- it is the one that was read
pub IsNext-read : (old new : Reader (Bor (List ℕ))) (fields : List (List ℕ)) → IsBetween old
    → ReadRecord left_of old new true fields → took_first new ≡ true → is_flexible new ≡ is_flexible old
    → IsNext old new fields
unfolding Reached
IsNext-read old new fields before read first flexible =
    let (next, checked, config, untrimmed, headers, widths) = read in
    let (rest, source, reached) = rows-more left_of old new fields (delimited before.delimiter) (reader_state old)
    before.rest before.rest [] before.config before.source (refl, refl) read in
    let (taken, is, same, (state, left)) = reached in
    let are = records_from-next before.delimiter (length before.rest + 1) (reader_state old) before.rest taken
    before.between (omega arith) is in
    let later = records_of-known (reader_config new) (delimited before.delimiter) (reader_state new) taken.1
    (source_of left_of new) rest taken.2 (config ∙ before.config) source state left in
    record {
      between = record {
        untrimmed = untrimmed ∙ before.untrimmed;
        ready = inl first;
        flexible = flexible ∙ before.flexible;
        delimiter = before.delimiter;
        config = config ∙ before.config;
        rest = rest;
        source = source;
        between = rw state at are.between;
      };
      next = rw (before.config, before.source) (are.next ∙ ap (λ rows. taken.0 ∷ rows) (sym later)
          ∙ ap (λ first. first ∷ records_left false new) (sym same));
    }

-- where there is no next record, none is left
pub records_left-none : (old new : Reader (Bor (List ℕ))) (fields : List (List ℕ)) → IsBetween old
    → ReadRecord left_of old new false fields → records_left false old ≡ []
records_left-none old new fields before read =
    rw (before.config, before.source) (records_from-none before.delimiter (length before.rest + 1) (reader_state old)
    before.rest (rows-end left_of old new fields (delimited before.delimiter) before.rest before.config before.source read))

-- a reader of bytes that takes records of any length is stopped by each error: it is one of memory or of the device
pub stops_reader-flexible : {R : Type 0} (rem : R → Option (List ℕ)) (old new : Reader R) (why : ErrorKind)
    → is_flexible old ≡ true → ExplainsRead rem old new false why → stops_reader why ≡ true
stops_reader-flexible rem old new (kind.Io error) flexible explained = refl
stops_reader-flexible rem old new kind.OutOfMemory flexible explained = refl
stops_reader-flexible rem old new (kind.UnequalLengths place expected count) flexible explained =
    absurd (let both = sym flexible ∙ explained.0 in cc)
stops_reader-flexible rem old new (kind.Utf8 place error) flexible explained = absurd (let never = explained.0 in cc)
stops_reader-flexible rem old new (kind.Serialize text) flexible explained = absurd explained
stops_reader-flexible rem old new (kind.Deserialize place error) flexible explained = absurd explained
