use Rattle.std.proofs.Common.{◌≡◌, ◌∙◌, ℕ, List, ◌++◌, append_assoc}
use Rattle.httparse.specs.Ascii.{crlf_bytes}
use Rattle.http_desk.specs.Responses.{closing_lines, length_line, status_line, type_line}
use Rattle.http_desk.proofs.responses.head_text.Goals as goal

-- lines that are written one after another stand so
joined : (status kind count closing end : List ℕ)
    → (((status ++ kind) ++ count) ++ closing) ++ end ≡ status ++ (kind ++ (count ++ (closing ++ end)))
joined status kind count closing end = append_assoc ((status ++ kind) ++ count) closing end
    ∙ append_assoc (status ++ kind) count (closing ++ end)
    ∙ append_assoc status kind (count ++ (closing ++ end))

pub returns : goal.returns
returns c =
    rw (
      c.in_ok-extend_from_slice-2.ensures.items,
      c.in_ok-extend_from_slice.ensures.items,
      c.as_bytes.ensures.value,
      c.closing_lines.ensures,
      c.in_ok-add_length.ensures,
      c.in_ok-add_type.ensures,
      c.in_ok-add_status.ensures,
      c.new-text.ensures.items,
    ) (joined (status_line c.args.status) (type_line c.args.kind) (length_line c.args.count)
    (closing_lines c.args.closing) crlf_bytes)
