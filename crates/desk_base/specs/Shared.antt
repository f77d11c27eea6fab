-- The bytes of a text, which its copies share.
use Rattle.std.specs.Prelude.{ℕ, ◌<◌, ◌≤◌, List, [], length, ⊤}
use Rattle.std.specs.Rc.{rc_str_bytes}
use Rattle.desk_base.specs.declared.limits.TheConstants.{MAX_TEXT}
use Rattle.desk_base.specs.declared.text.Content.{Content}
use Rattle.desk_base.specs.declared.text.Content.TheVariants.{Blank, Short, Long}

-- the bytes, wherever they lie
abbrev pub content_bytes : Content → List ℕ
content_bytes Blank = []
content_bytes (Short short) = short.value.bytes
content_bytes (Long long) = rc_str_bytes long

-- some bytes, and not too many
abbrev pub FitsCell : List ℕ → Type 0
FitsCell bytes = (0 < length bytes) × (length bytes ≤ MAX_TEXT)

-- it is a blank, or some bytes and not too many
abbrev pub IsCellText : Content → Type 0
IsCellText Blank = ⊤
IsCellText (Short short) = FitsCell short.value.bytes
IsCellText (Long long) = FitsCell (rc_str_bytes long)
