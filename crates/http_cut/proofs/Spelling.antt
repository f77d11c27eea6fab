-- A path that has a plain pattern spells it.
use Rattle.std.proofs.Common.{◌≡◌, ℕ, ◌-◌, ◌<◌, List, [], ◌∷◌, length, take, true, sym, ap, arith, take-append-drop}
use Rattle.std.proofs.Common.{length-take}
use Rattle.std.proofs.lemmas.Bool.{and_parts}
use Rattle.matchit.specs.Seek.{segment}
use Rattle.matchit.proofs.ParamLemmas.{length-segment}
use Rattle.http_cut.specs.Routes.{Spells, at_end, byte, part}
use Rattle.http_cut.proofs.Segments.{is_plain}
use Rattle.http_cut.proofs.Seeking.{taken, Matches, end, literal, param, all}

takes_some : (pattern path : List ℕ) → length (segment pattern) < length (segment path)
    → 0 < length (take (taken pattern path) path)
takes_some [] path longer = omega (arith, length-take (length path) path, length-segment path)
takes_some (x ∷ pattern) path longer =
    omega (arith, length-take (length (segment path) - length (segment (x ∷ pattern))) path, length-segment path)

pub spells : {pattern path : List ℕ} → Matches pattern path → is_plain pattern ≡ true → Spells pattern path
spells end plain = at_end
spells (literal x small m) plain = byte x small (spells m (and_parts _ _ plain).1)
spells (param {pattern = rest} {path = path} longer free m) plain =
    part (take (taken rest path) path) (sym (take-append-drop (taken rest path) path))
    (λ none. let some = takes_some rest path longer in omega (arith, ap length none)) free
    (spells m (and_parts _ _ plain).1)
spells (all some) plain = cc
