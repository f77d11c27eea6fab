use Rattle.std.proofs.Common.{◌≡◌, [], map, take, drop}
use Rattle.schema_core.specs.Reading.{first_fault}
use Rattle.schema_core.proofs.reading.attributes_of.Given as goal

abbrev pub invariant-strings : goal.invariant-strings
invariant-strings l = record {
  taken : l.attributes ≡ map (λ text. text.now) (take l.string-index l.strings);
  left : first_fault [] (map (λ text. text.now) l.strings) ≡ first_fault l.attributes
      (drop l.string-index (map (λ text. text.now) l.strings));
}
