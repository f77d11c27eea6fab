use Rattle.std.proofs.Common.{ℕ, List, [], ap, arith, length, replicate}
use Rattle.std.proofs.lemmas.List.{length-replicate}
use Rattle.machine_core.proofs.Widths.{length-typed_over}
use Rattle.machine_clerk.proofs.clerk.enter.entered.Goals as goal

pub bytes_in-requires : goal.bytes_in-requires
bytes_in-requires c =
    let width = length c.args.attributes.now in
    omega (
      arith,
      c.requires.attributes,
      ap length c.as_slice-2.ensures,
      ap (λ session. length session.typed) c.in_ok-session.ensures,
      length-typed_over (replicate width []) c.in_ok-texts.texts,
      length-replicate {A = List ℕ} width [],
    )
