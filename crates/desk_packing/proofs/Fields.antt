-- What is packed as the fields of each row type is read back, and nothing else is read.
use Rattle.std.proofs.Common.{◌≡◌, ℕ, zero, suc, Bool, List, Some, refl}
use Rattle.std.specs.Prelude.{slice_get}
use Rattle.desk_words.specs.declared.rows.act.Act.{Act}
use Rattle.desk_words.specs.declared.rows.act.Act.TheVariants as act
use Rattle.desk_words.specs.declared.rows.clerk.Digest.{Digest}
use Rattle.desk_words.specs.declared.rows.session.Stage.{Stage}
use Rattle.desk_words.specs.declared.rows.session.Stage.TheVariants as stage
use Rattle.desk_packing.specs.Formats.{Format, IsExact, both, bytes, fixed, flag, formed, list, none, text, u16, u32}
use Rattle.desk_packing.specs.Formats.{u64}
use Rattle.desk_packing.specs.RowFormats.{act_code, act_format, acts, batch, clerk, committed, digest, edition}
use Rattle.desk_packing.specs.RowFormats.{edition_with, old_edition, region, region_format, rulebook, text_row}
use Rattle.desk_packing.specs.RowFormats.{session, stage_code, stage_format, stages}
use Rattle.desk_packing.proofs.Exact.{both-exact, bytes-exact, coded-exact, fixed-exact, flag-exact, formed-exact}
use Rattle.desk_packing.proofs.Exact.{list-exact, none-exact, text-exact, u16-exact, u32-exact, u64-exact}

at_act : (x : Act) → slice_get acts (act_code x) ≡ Some x
at_act act.Nothing = refl
at_act act.Clerk = refl
at_act act.Schema = refl
at_act act.Master = refl
at_act act.Rulebook = refl
at_act act.Edition = refl
at_act act.Region = refl
at_act act.Opened = refl
at_act act.Changed = refl
at_act act.Committed = refl
at_act act.Batched = refl

is_act : (byte : ℕ) (x : Act) → slice_get acts byte ≡ Some x → byte ≡ act_code x
is_act zero x found = let e : x ≡ act.Nothing = cc in rw e
is_act (suc zero) x found = let e : x ≡ act.Clerk = cc in rw e
is_act (suc (suc zero)) x found = let e : x ≡ act.Schema = cc in rw e
is_act (suc (suc (suc zero))) x found = let e : x ≡ act.Master = cc in rw e
is_act (suc (suc (suc (suc zero)))) x found = let e : x ≡ act.Rulebook = cc in rw e
is_act (suc (suc (suc (suc (suc zero))))) x found = let e : x ≡ act.Edition = cc in rw e
is_act (suc (suc (suc (suc (suc (suc zero)))))) x found = let e : x ≡ act.Region = cc in rw e
is_act (suc (suc (suc (suc (suc (suc (suc zero))))))) x found = let e : x ≡ act.Opened = cc in rw e
is_act (suc (suc (suc (suc (suc (suc (suc (suc zero)))))))) x found = let e : x ≡ act.Changed = cc in rw e
is_act (suc (suc (suc (suc (suc (suc (suc (suc (suc zero))))))))) x found = let e : x ≡ act.Committed = cc in rw e
is_act (suc (suc (suc (suc (suc (suc (suc (suc (suc (suc zero)))))))))) x found = let e : x ≡ act.Batched = cc in rw e
is_act (suc (suc (suc (suc (suc (suc (suc (suc (suc (suc (suc byte))))))))))) x found = absurd cc

act-exact : IsExact act_format
act-exact = coded-exact acts act_code at_act is_act

at_stage : (x : Stage) → slice_get stages (stage_code x) ≡ Some x
at_stage stage.Active = refl
at_stage stage.Committed = refl
at_stage stage.Abandoned = refl

is_stage : (byte : ℕ) (x : Stage) → slice_get stages byte ≡ Some x → byte ≡ stage_code x
is_stage zero x found = let e : x ≡ stage.Active = cc in rw e
is_stage (suc zero) x found = let e : x ≡ stage.Committed = cc in rw e
is_stage (suc (suc zero)) x found = let e : x ≡ stage.Abandoned = cc in rw e
is_stage (suc (suc (suc byte))) x found = absurd cc

stage-exact : IsExact stage_format
stage-exact = coded-exact stages stage_code at_stage is_stage

-- a format with the proof that it is exact, and pairs of such
record Proved (A : Type 0) : Type 1 where
  format : Format A
  exact : IsExact format

abbrev beside : {A B : Type 0} → Proved A → Proved B → Proved (A × B)
beside one other = record {
  format = both one.format other.format;
  exact = both-exact one.format other.format one.exact other.exact;
}

-- a text
abbrev a_text : Proved (List ℕ)
a_text = record { format = text; exact = text-exact }

-- a number of four bytes
abbrev a_u32 : Proved ℕ
a_u32 = record { format = u32; exact = u32-exact }

-- a number of eight bytes
abbrev a_u64 : Proved ℕ
a_u64 = record { format = u64; exact = u64-exact }

-- bytes of any kind
abbrev some_bytes : Proved (List ℕ)
some_bytes = record { format = bytes; exact = bytes-exact }

-- texts
abbrev some_texts : Proved (List (List ℕ))
some_texts = record { format = list text; exact = list-exact text text-exact }

-- places of rows
abbrev places : Proved (List ℕ)
places = record { format = list u32; exact = list-exact u32 u32-exact }

-- attributes
abbrev attributes : Proved (List ℕ)
attributes = record { format = list u16; exact = list-exact u16 u16-exact }

-- digests
digest-exact : IsExact digest
digest-exact = formed-exact (fixed 32) (λ found. record { bytes = found }) (λ row. row.bytes) (λ row. refl)
    (λ found. refl)
    (fixed-exact 32)

-- a digest
abbrev a_digest : Proved Digest
a_digest = record { format = digest; exact = digest-exact }

-- an act
abbrev an_act : Proved Act
an_act = record { format = act_format; exact = act-exact }

-- a stage
abbrev a_stage : Proved Stage
a_stage = record { format = stage_format; exact = stage-exact }

-- a flag
abbrev a_flag : Proved Bool
a_flag = record { format = flag; exact = flag-exact }

-- flags
abbrev some_flags : Proved (List Bool)
some_flags = record { format = list flag; exact = list-exact flag flag-exact }

-- rows of proved fields are exact
formed_of-exact : {A B : Type 0} (fields : Proved A) (into : A → B) (back : B → A) → ((y : B) → into (back y) ≡ y)
    → ((x : A) → back (into x) ≡ x) → IsExact (formed fields.format into back)
formed_of-exact fields into back into-back back-into = formed-exact fields.format into back into-back back-into
    fields.exact

-- clerks
pub clerk-exact : IsExact clerk
clerk-exact = formed_of-exact (beside a_text (beside a_u64 (beside a_digest (beside an_act a_u32)))) _ _ (λ row. refl)
    (λ f. refl)

-- schemas and masters
pub text_row-exact : IsExact text_row
text_row-exact = formed_of-exact (beside a_text (beside a_u32 some_bytes)) _ _ (λ row. refl) (λ f. refl)

-- rulebooks
pub rulebook-exact : IsExact rulebook
rulebook-exact = formed_of-exact (beside a_text (beside a_u32 (beside a_u32 some_bytes))) _ _ (λ row. refl) (λ f. refl)

-- editions, in the version of their folded attributes
edition_with-exact : (folded : Proved (List ℕ)) → IsExact (edition_with folded.format)
edition_with-exact folded = formed_of-exact (beside a_text (beside a_u32 (beside a_u32 (beside places folded)))) _ _
    (λ row. refl) (λ f. refl)

-- editions of this version
pub edition-exact : IsExact edition
edition-exact = edition_with-exact attributes

-- editions of the old one
pub old_edition-exact : IsExact old_edition
old_edition-exact = edition_with-exact (record { format = none; exact = none-exact })

-- regions by themselves
region_format-exact : IsExact region_format
region_format-exact = formed_of-exact (beside attributes (record {
  format = list (list text);
  exact = list-exact (list text) some_texts.exact;
})) _ _ (λ row. refl) (λ f. refl)

-- regions of editions
pub region-exact : IsExact region
region-exact = formed_of-exact (beside a_u32 (record { format = region_format; exact = region_format-exact })) _ _
    (λ row. refl) (λ f. refl)

-- sessions
pub session-exact : IsExact session
session-exact = formed_of-exact (beside a_u32 (beside some_texts (beside some_flags (beside a_stage a_u32)))) _ _
    (λ row. refl) (λ f. refl)

-- records
pub committed-exact : IsExact committed
committed-exact = formed_of-exact (beside a_u32 (beside some_texts a_flag)) _ _ (λ row. refl) (λ f. refl)

-- batches
pub batch-exact : IsExact batch
batch-exact = formed_of-exact (beside a_u32 (beside a_u32 a_u32)) _ _ (λ row. refl) (λ f. refl)
