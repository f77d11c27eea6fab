-- What a keeper over SQL is to a clause.
use Rattle.std.specs.Prelude.{ℕ, List, Option, None, option_and_then, option_map, refl}
use Rattle.std.specs.Coded.{Coded, code_by, coded×, coded_list, coded_ℕ, coded_option}
use Rattle.desk_packing.specs.Shapes.{Lengths, lengths_code}
use Rattle.sqlite.specs.Held.{Held, held_code}

-- an open connection, and how long the lists of its tables are, once they were loaded
pub record Connected (S : Type 0) : Type 0 where
  pub connection : Held S
  pub lengths : Option Lengths

-- it is stored as the pair of its fields
abbrev pub connected_code : {S : Type 0} → Coded S → Coded (Connected S)
connected_code {S} store =
    code_by (Held S × Option Lengths) (coded× (held_code store) (coded_option lengths_code))
    (λ k. (k.connection, k.lengths)) (λ p. record { connection = p.0; lengths = p.1 }) (λ _. refl)

-- the same of a keeper, and how often it was called and has failed
pub record Kept (S : Type 0) : Type 0 where
  pub connection : Held S
  pub lengths : Option Lengths
  pub calls : ℕ
  pub faults : ℕ

-- it from its fields in pairs
abbrev pub kept_from : {S : Type 0} → Held S × (Option Lengths × (ℕ × ℕ)) → Kept S
kept_from (connection, (lengths, (calls, faults))) =
    record { connection = connection; lengths = lengths; calls = calls; faults = faults }

-- it is stored as the pairs of its fields
abbrev pub kept_code : {S : Type 0} → Coded S → Coded (Kept S)
kept_code {S} store =
    code_by (Held S × (Option Lengths × (ℕ × ℕ)))
    (coded× (held_code store) (coded× (coded_option lengths_code) (coded× coded_ℕ coded_ℕ)))
    (λ k. (k.connection, (k.lengths, (k.calls, k.faults)))) kept_from (λ _. refl)

-- a keeper over this connection that was not called: no tables are known, and the steps of a statement have no limit
abbrev pub kept_over : {S : Type 0} → Held S → Kept S
kept_over connection =
    record { connection = record connection { step_limit = None }; lengths = None; calls = 0; faults = 0 }

-- What a keeper over files is to a clause: their path, what they held at first until they are opened, their connection
-- from then on, and how often it was called and has failed.
pub record Filed (B S : Type 0) : Type 0 where
  pub path : List ℕ
  pub start : Option B
  pub tables : Option (Connected S)
  pub calls : ℕ
  pub faults : ℕ

-- it from its fields in pairs
abbrev pub filed_from : {B S : Type 0} → List ℕ × (Option B × (Option (Connected S) × (ℕ × ℕ))) → Filed B S
filed_from (path, (start, (tables, (calls, faults)))) =
    record { path = path; start = start; tables = tables; calls = calls; faults = faults }

-- it is stored as the pairs of its fields
abbrev pub filed_code : {B S : Type 0} → Coded B → Coded S → Coded (Filed B S)
filed_code {B} {S} start store =
    code_by (List ℕ × (Option B × (Option (Connected S) × (ℕ × ℕ))))
    (coded× (coded_list coded_ℕ)
    (coded× (coded_option start) (coded× (coded_option (connected_code store)) (coded× coded_ℕ coded_ℕ))))
    (λ k. (k.path, (k.start, (k.tables, (k.calls, k.faults))))) filed_from (λ _. refl)

-- the connection of files, where they are open
abbrev pub connection_of : {S : Type 0} → Option (Connected S) → Option (Held S)
connection_of = option_map (λ files. files.connection)

-- how long the lists of tables are that were loaded from files
abbrev pub lengths_of : {S : Type 0} → Option (Connected S) → Option Lengths
lengths_of = option_and_then (λ files. files.lengths)
