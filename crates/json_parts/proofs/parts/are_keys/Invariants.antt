use Rattle.std.proofs.Common.{◌≡◌, ◌≤◌, map, drop, length, string_bytes}
use Rattle.std.specs.Cmp.Lexicographic.{pointwise}
use Rattle.std.specs.Str.{bytes_eq}
use Rattle.serde_json.specs.View.{members_view}
use Rattle.json_parts.specs.Parts.{keys_of}
use Rattle.json_parts.proofs.parts.are_keys.Given as goal

abbrev pub invariant-names : goal.invariant-names
invariant-names l = record {
  within : l.place ≤ length l.keys;
  same : pointwise bytes_eq (keys_of (members_view l.members.entries)) (map (λ key. key.now) l.keys)
      ≡ pointwise bytes_eq (map string_bytes l.name-iterator) (map (λ key. key.now) (drop l.place l.keys));
}
