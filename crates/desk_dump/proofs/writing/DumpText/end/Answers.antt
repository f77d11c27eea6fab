use Rattle.std.proofs.Common.{◌≡◌, ℕ, [], ap, refl, subst}
use Rattle.json_parts.specs.Writing.{with_value}
use Rattle.desk_dump.specs.Dumps.{last_line}
use Rattle.desk_dump.specs.Writing.{Written}
use Rattle.desk_dump.proofs.writing.DumpText.end.Goals as goal

pub returns : goal.returns
returns c =
    let count : c.self.inside.lines ≡ c.args.self.now.1 = ap (λ (written : Written). written.1) c.self.view_is in
    let made : c.end_array.new.self ≡ with_value [] (last_line c.self.inside.lines) = rw (
      c.in_ok-end_array.ensures,
      c.in_ok-number.ensures,
      c.in_ok-string.ensures,
      c.in_ok-begin_array.ensures,
      c.in_ok-out.ensures,
    ) refl in
    let tokens : c.end_array.new.self ≡ with_value [] (last_line c.args.self.now.1) =
    subst (λ (n : ℕ). c.end_array.new.self ≡ with_value [] (last_line n)) count made in
    c.add.ensures (last_line c.args.self.now.1) (c.into_bytes.ensures (last_line c.args.self.now.1) tokens)
