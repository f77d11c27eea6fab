use Rattle.std.proofs.Common.{◌≡◌, ◌<◌, ◌∙◌, ◌++◌, ℕ, ap, arith, drop, get_or, map, replicate, take}
use Rattle.std.specs.Char.{to_ascii_lowercase}
use Rattle.master_index.specs.Fronts.{front}
use Rattle.master_index.proofs.Fronts.{IsFront-lowered, IsFront-padded}
use Rattle.master_index.proofs.front.front_of.Goals as goal
use Rattle.master_index.proofs.front.front_of.Goals.{then-folded, else-folded}

pub returns : goal.returns
unfolding front
returns c =
    let text = c.args.text.now in
    let size = c.min-size.result in
    let whole : c.as_bytes-bytes.result.now ≡ text = c.as_bytes-bytes.ensures.value in
    let bytes : (place : ℕ) → get_or text place 0 < 256 = λ place. omega (arith, c.type_inv.text place) in
    let is = rw whole at c.min-size.ensures in
    let cut : c.copy_from_slice.new.self ≡ take size text = rw whole at c.copy_from_slice.ensures.after in
    elim c.if-folded.branch [
      | then-folded w ↦ rw w.if-folded.true (IsFront-lowered text bytes size is c.if-folded.first
          c.from_be_bytes.result c.from_be_bytes.ensures
          (w.first-is ∙ w.make_ascii_lowercase.ensures.after
          ∙ ap (λ start. map to_ascii_lowercase (start ++ drop size (replicate 8 0))) cut))
      | else-folded w ↦ rw w.if-folded.false (IsFront-padded text bytes size is c.if-folded.first
          c.from_be_bytes.result c.from_be_bytes.ensures
          (w.first-is ∙ ap (λ start. start ++ drop size (replicate 8 0)) cut))
    ]
