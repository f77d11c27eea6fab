-- What is said to a person where a proposal is refused: by what it proposes, and by the refusal.
use Rattle.std.specs.Prelude.{ℕ, Bool, nat_le, if◌then◌else◌, List, [], count_by, find, length, map, codes}
use Rattle.std.specs.Prelude.{Option, option_and_then, option_map, is_none}
use Rattle.std.specs.Option.{option_map_or}
use Rattle.std.specs.Str.{bytes_eq}
use Rattle.desk_base.specs.declared.limits.TheConstants.{MAX_ROWS}
use Rattle.desk_words.specs.declared.limit.Which.{Which}
use Rattle.desk_words.specs.declared.limit.Which.TheVariants as which
use Rattle.desk_words.specs.declared.proposal.Proposal.{Proposal}
use Rattle.desk_words.specs.declared.proposal.Proposal.TheVariants.{Schema, Master, Rulebook, Edition}
use Rattle.desk_words.specs.declared.refusal.Kind.{Kind}
use Rattle.desk_words.specs.declared.refusal.Kind.TheVariants as kind
use Rattle.desk_words.specs.declared.refusal.Reader.{Reader}
use Rattle.desk_words.specs.declared.refusal.Reader.TheVariants as reader
use Rattle.desk_words.specs.declared.refusal.Refusal.{Refusal}
use Rattle.desk_words.specs.declared.refusal.Refusal.TheVariants.{BadName, BadText, Limit, NoSuch, Twice, UnknownAttr}
use Rattle.desk_words.specs.declared.rows.text.TextRow.{TextRow}
use Rattle.desk_words.specs.Tables.{Published}
use Rattle.desk_valid.specs.declared.parts.Parts.{Parts}
use Rattle.desk_valid.specs.declared.reading.Rules.{Rules}
use Rattle.desk_valid.specs.Readings.{all_of, master_at, rules_at, schema_at}
use Rattle.master_rows.specs.declared.master.Master.{Master as MasterOf}
use Rattle.schema_core.specs.declared.schema.Schema.{Schema as SchemaOf}
use Rattle.fault_sentences.specs.declared.bindings.Over.TheVariants as over
use Rattle.fault_sentences.specs.declared.published.Published.TheVariants as published
use Rattle.fault_sentences.specs.Bindings.{bind_sentence, index_sentence}
use Rattle.fault_sentences.specs.Published.{absent_sentence, bad_name_sentence, cells_sentence, folded_sentence}
use Rattle.fault_sentences.specs.Published.{full_sentence, masters_sentence, twice_sentence}
use Rattle.fault_sentences.specs.Rules.{rules_sentence}
use Rattle.fault_sentences.specs.Schemas.{plain_schema_sentence}
use Rattle.fault_sentences.specs.Sheets.{sheet_sentence}
use Rattle.machine_core.specs.Codes.{bind_fault, rules_fault, schema_fault, sheet_fault}
use Rattle.machine_core.specs.Finding.{rulebook_named, text_named, version_count}

-- ---- what a proposal names

-- the schema of a version
abbrev pub schema_for : Published → List ℕ → ℕ → Option SchemaOf
schema_for rows name version = option_and_then (schema_at rows) (text_named rows.schemas name version)

-- the rules of a version of a rulebook
abbrev pub rules_for : Published → List ℕ × ℕ → Option Rules
rules_for rows book = option_and_then (rules_at rows) (rulebook_named rows.rulebooks book.0 book.1)

-- the master of a version, under its name
abbrev pub master_for : Published → List ℕ × ℕ → Option (List ℕ × MasterOf)
master_for rows master = option_and_then (master_at rows) (text_named rows.masters master.0 master.1)

-- the rules and the masters of versions, where each stands
abbrev pub parts_for : Published → List ℕ × ℕ → List (List ℕ × ℕ) → Option Parts
parts_for rows book masters =
    option_and_then (λ rules. option_map (λ found. record { rules = rules; masters = found })
    (all_of (map (master_for rows) masters))) (rules_for rows book)

-- ---- what is said

-- a name of which no version, or not this one, is there
abbrev pub absent_schema : Published → List ℕ → ℕ → List ℕ
absent_schema rows name version =
    absent_sentence published.Schema name version (version_count (λ row. row.name) rows.schemas name)

abbrev pub absent_rulebook : Published → List ℕ × ℕ → List ℕ
absent_rulebook rows book =
    absent_sentence published.Rulebook book.0 book.1 (version_count (λ row. row.name) rows.rulebooks book.0)

abbrev pub absent_master : Published → List ℕ × ℕ → List ℕ
absent_master rows master =
    absent_sentence published.Master master.0 master.1 (version_count (λ row. row.name) rows.masters master.0)

-- a version of a master is not there
abbrev pub is_absent : List TextRow → List ℕ × ℕ → Bool
is_absent masters master = is_none (text_named masters master.0 master.1)

-- the same of the first of these masters that is not there
abbrev pub absent_among : Published → List (List ℕ × ℕ) → List ℕ
absent_among rows masters = option_map_or (absent_master rows) (find (is_absent rows.masters) masters) []

-- the list of an edition in which a name stands twice: that of the folded attributes is looked through first
abbrev pub list_with : List ℕ → List (List ℕ) → List ℕ
list_with name folded = if nat_le 2 (count_by (bytes_eq name) folded) then codes "folded" else codes "masters"

-- a name that stands twice in an edition
abbrev pub stands_twice : List ℕ → List (List ℕ) → List ℕ
stands_twice name folded = twice_sentence (list_with name folded) name

-- of a schema
abbrev pub on_schema : List ℕ → Refusal → List ℕ
on_schema body (BadText reader code one other) = plain_schema_sentence (schema_fault code one) body
on_schema body (Limit which most) = full_sentence published.Schema most
on_schema body other = []

-- of a master that would be one too many, or bring too many cells
abbrev pub full_masters : Which → ℕ → List ℕ
full_masters which.MasterCells most = cells_sentence
full_masters other most = full_sentence published.Master most

-- of a master
abbrev pub on_master : List ℕ → Refusal → List ℕ
on_master body (BadName name) = bad_name_sentence name
on_master body (BadText reader code one other) = sheet_sentence (sheet_fault code one other) MAX_ROWS body
on_master body (Limit which most) = full_masters which most
on_master body other = []

-- of a rulebook
abbrev pub on_rulebook : Published → List ℕ → ℕ → List ℕ → Refusal → List ℕ
on_rulebook rows schema version body (BadName name) = bad_name_sentence name
on_rulebook rows schema version body (NoSuch what) = absent_schema rows schema version
on_rulebook rows schema version body (BadText reader code one other) =
    option_map_or (λ read. rules_sentence (rules_fault code one other) read body) (schema_for rows schema version) []
on_rulebook rows schema version body (Limit which most) = full_sentence published.Rulebook most
on_rulebook rows schema version body other = []

-- of an edition of which something is not there
abbrev pub absent_part : Published → List ℕ × ℕ → List (List ℕ × ℕ) → Kind → List ℕ
absent_part rows book masters kind.Rulebook = absent_rulebook rows book
absent_part rows book masters other = absent_among rows masters

-- of an edition that does not bind, or whose index would be too wide
abbrev pub unbound : Published → List ℕ × ℕ → List (List ℕ × ℕ) → Reader → ℕ → ℕ → ℕ → List ℕ
unbound rows book masters reader.Index code one other = index_sentence one
unbound rows book masters reader code one other =
    option_map_or (λ parts. bind_sentence (bind_fault code one other) over.Edition parts.rules.rulebook parts.masters)
    (parts_for rows book masters) []

-- of an edition of too many masters, or that would be one too many
abbrev pub full_editions : List (List ℕ × ℕ) → Which → ℕ → List ℕ
full_editions masters which.EditionMasters most = masters_sentence (length masters)
full_editions masters other most = full_sentence published.Edition most

-- of an edition
abbrev pub on_edition : Published → List ℕ × ℕ → List (List ℕ × ℕ) → List (List ℕ) → Refusal → List ℕ
on_edition rows book masters folded (BadName name) = bad_name_sentence name
on_edition rows book masters folded (NoSuch what) = absent_part rows book masters what
on_edition rows book masters folded (UnknownAttr word) =
    option_map_or (λ rules. folded_sentence word rules.schema) (rules_for rows book) []
on_edition rows book masters folded (Twice name) = stands_twice name folded
on_edition rows book masters folded (Limit which most) = full_editions masters which most
on_edition rows book masters folded (BadText reader code one other) = unbound rows book masters reader code one other
on_edition rows book masters folded other = []

-- what is said of the refusal of a proposal. No other refusals come than those that have a sentence here.
abbrev pub said_of : Published → Proposal → Refusal → List ℕ
said_of rows (Schema body) refusal = on_schema body refusal
said_of rows (Master name body) refusal = on_master body refusal
said_of rows (Rulebook name schema version body) refusal = on_rulebook rows schema version body refusal
said_of rows (Edition name book masters folded) refusal = on_edition rows book masters folded refusal
