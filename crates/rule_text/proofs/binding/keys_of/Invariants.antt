use Rattle.std.proofs.Common.{◌≡◌, ◌+◌, drop, map, take}
use Rattle.rule_text.specs.Binding.{bound_key, keys_fault}
use Rattle.rule_text.proofs.binding.keys_of.Given as goal

abbrev pub invariant-keys : goal.invariant-keys
invariant-keys l = record {
  found : keys_fault l.number l.master 1 l.keys ≡ keys_fault l.number l.master (l.place + 1) (drop l.place l.keys);
  so_far : l.bound ≡ map (bound_key l.master) (take l.place l.keys);
}
