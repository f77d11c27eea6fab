use Rattle.std.proofs.Common.{◌≡◌, ◌*◌, ◌≤◌, All, length, take}
use Rattle.desk_valid.specs.Tallies.{bytes_in}
use Rattle.desk_totals.proofs.texts.bytes_in.Given as goal

-- the bytes so far, of texts of at most 200
abbrev pub invariant-texts : goal.invariant-texts
invariant-texts l = record {
  bytes : l.bytes ≡ bytes_in (take l.text-index l.texts);
  few : l.bytes ≤ l.text-index * 200;
  short : All (λ text. length text ≤ 200) (take l.text-index l.texts);
}
