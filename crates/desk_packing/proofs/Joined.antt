-- Lines in parts, one part for each kind, and a line that is put over one of them.
use Rattle.std.proofs.Common.{◌≡◌, ℕ, zero, suc, ◌+◌, ◌<◌, ◌≤◌, true, List, [], ◌∷◌, ◌++◌, ◌∙◌, length, set, drop, take}
use Rattle.std.proofs.Common.{refl, subst, sym, arith}
use Rattle.std.proofs.Math.Nat.{add-zero}
use Rattle.std.specs.List.{AllByRecursion}
use Rattle.std.proofs.lemmas.Bool.{lt-ltb, or_left}
use Rattle.std.specs.Prelude.{nat_lt}
use Rattle.desk_words.specs.Tables.{list_at}
use Rattle.desk_packing.specs.Lines.{AreByKey, Line, comes_before}
use Rattle.desk_packing.proofs.Order.{AreByKey-append}
use Rattle.desk_packing.proofs.Permutations.{each-append, each-weaker}
use Rattle.desk_packing.proofs.Putting.{Puts, kind-free, later-free, puts-following, puts-front}

-- the lines are of this kind, and in the order of their keys
pub record IsPart (kind : ℕ) (lines : List Line) : Type 0 where
  pub kinds : AllByRecursion (λ line. line.kind ≡ kind) lines
  pub order : AreByKey lines

-- the lines are of this kind or a later one, and in the order of their keys
pub record StandFrom (kind : ℕ) (lines : List Line) : Type 0 where
  pub kinds : AllByRecursion (λ line. kind ≤ line.kind) lines
  pub order : AreByKey lines

-- the parts are of one kind after another, from this kind on
abbrev pub AreParts : ℕ → List (List Line) → Type 0
AreParts kind [] = Unit {0}
AreParts kind (part ∷ parts) = IsPart kind part × AreParts (kind + 1) parts

-- the lines of all parts
abbrev pub joined : List (List Line) → List Line
joined [] = []
joined (part ∷ []) = part
joined (part ∷ (next ∷ parts)) = part ++ joined (next ∷ parts)

-- a line of an earlier kind comes first
pub kind-before : (one other : Line) → one.kind < other.kind → comes_before one other ≡ true
kind-before one other less = or_left (nat_lt one.kind other.kind) _ (lt-ltb one.kind other.kind less)

-- lines of one kind in front of lines of later kinds
StandFrom-append : (kind : ℕ) (front lines : List Line) → IsPart kind front → StandFrom (kind + 1) lines
    → StandFrom kind (front ++ lines)
StandFrom-append kind front lines part following = record {
  kinds = each-append (λ line. kind ≤ line.kind) front lines
      (each-weaker (λ line. line.kind ≡ kind) (λ line. kind ≤ line.kind) (λ line is. omega arith) front part.kinds)
      (each-weaker (λ line. kind + 1 ≤ line.kind) (λ line. kind ≤ line.kind) (λ line is. omega arith) lines
      following.kinds);
  order = AreByKey-append (λ line. line.kind ≡ kind) (λ line. kind + 1 ≤ line.kind)
      (λ one other is later. kind-before one other (omega arith)) front lines part.kinds following.kinds part.order
      following.order;
}

-- the lines of all parts
pub StandFrom-joined : (kind : ℕ) (parts : List (List Line)) → AreParts kind parts → StandFrom kind (joined parts)
StandFrom-joined kind [] are = record { kinds = tt; order = tt }
StandFrom-joined kind (part ∷ []) are = record {
  kinds = each-weaker (λ line. line.kind ≡ kind) (λ line. kind ≤ line.kind) (λ line is. omega arith) part are.0.kinds;
  order = are.0.order;
}
StandFrom-joined kind (part ∷ (next ∷ parts)) are =
    StandFrom-append kind part (joined (next ∷ parts)) are.0 (StandFrom-joined (kind + 1) (next ∷ parts) are.1)

-- the lines of the parts from a kind on
pub StandFrom-drop : (count kind from : ℕ) (parts : List (List Line)) → from ≡ kind + count → AreParts kind parts
    → StandFrom from (joined (drop count parts))
StandFrom-drop zero kind from parts is are =
    let same : kind ≡ from = sym (add-zero kind) ∙ sym is in
    subst (λ start. StandFrom start (joined parts)) same (StandFrom-joined kind parts are)
StandFrom-drop (suc count) kind from [] is are = record { kinds = tt; order = tt }
StandFrom-drop (suc count) kind from (part ∷ parts) is are = StandFrom-drop count (kind + 1) from parts (omega arith)
    are.1

-- the lines of the first parts are of earlier kinds than the parts after them
pub joined-before : (count kind : ℕ) (parts : List (List Line)) → AreParts kind parts
    → AllByRecursion (λ line. line.kind < kind + count) (joined (take count parts))
joined-before zero kind parts are = tt
joined-before (suc count) kind [] are = tt
joined-before (suc zero) kind (part ∷ parts) are =
    each-weaker (λ line. line.kind ≡ kind) (λ line. line.kind < kind + 1) (λ line is. omega arith) part are.0.kinds
joined-before (suc (suc count)) kind (part ∷ []) are =
    each-weaker (λ line. line.kind ≡ kind) (λ line. line.kind < kind + suc (suc count)) (λ line is. omega arith) part
    are.0.kinds
joined-before (suc (suc count)) kind (part ∷ (next ∷ parts)) are =
    each-append (λ line. line.kind < kind + suc (suc count)) part (joined (take (suc count) (next ∷ parts)))
    (each-weaker (λ line. line.kind ≡ kind) (λ line. line.kind < kind + suc (suc count)) (λ line is. omega arith) part
    are.0.kinds)
    (each-weaker (λ line. line.kind < (kind + 1) + suc count) (λ line. line.kind < kind + suc (suc count))
    (λ line is. omega arith) (joined (take (suc count) (next ∷ parts)))
    (joined-before (suc count) (kind + 1) (next ∷ parts) are.1))

-- a part in front of others of which one is replaced
joined-set : (part next after : List Line) (parts : List (List Line)) (place : ℕ)
    → joined (part ∷ set (next ∷ parts) place after) ≡ part ++ joined (set (next ∷ parts) place after)
joined-set part next after parts zero = refl
joined-set part next after parts (suc place) = refl

-- a line that is put over the part of its kind is put over the lines of all parts
pub puts-joined : (place kind : ℕ) (parts : List (List Line)) (line : Line) (after : List Line) → AreParts kind parts
    → line.kind ≡ kind + place → place < length parts → Puts (list_at parts place) line after
    → Puts (joined parts) line (joined (set parts place after))
puts-joined place kind [] line after are of there puts = absurd (omega arith)
puts-joined zero kind (part ∷ []) line after are of there puts = puts
puts-joined zero kind (part ∷ (next ∷ parts)) line after are of there puts =
    puts-front part after (joined (next ∷ parts)) line puts (later-free line (joined (next ∷ parts))
    (each-weaker (λ other. kind + 1 ≤ other.kind) (λ other. line.kind + 1 ≤ other.kind) (λ other later. omega arith)
    (joined (next ∷ parts)) (StandFrom-joined (kind + 1) (next ∷ parts) are.1).kinds))
puts-joined (suc place) kind (part ∷ []) line after are of there puts = absurd (omega arith)
puts-joined (suc place) kind (part ∷ (next ∷ parts)) line after are of there puts =
    rw (joined-set part next after parts place)
    (puts-following part (joined (next ∷ parts)) (joined (set (next ∷ parts) place after)) line
    (kind-free kind line part (λ same. absurd (omega arith)) are.0.kinds)
    (puts-joined place (kind + 1) (next ∷ parts) line after are.1 (omega arith) (omega arith) puts))
