-- A row of the SQL table as a clause sees it, and what the table holds after rows are put.
use Rattle.std.specs.Prelude.{ℕ, Bool, not, ◌&&◌, ◌||◌, ◌==◌, IsTrue, nat_lt, List, [], ◌∷◌, filter, fold, ⊤}
use Rattle.std.specs.List.{AllByRecursion}
use Rattle.desk_packing.specs.declared.line.PackedRow.{PackedRow}

-- which list a row is of, whose list it is, where in it the row stands, and its fields packed
pub record Line : Type 0 where
  pub kind : ℕ
  pub owner : ℕ
  pub place : ℕ
  pub body : List ℕ

-- a packed row as a line
abbrev pub line_of : PackedRow → Line
line_of row = record { kind = row.kind; owner = row.owner; place = row.place; body = row.body }

-- the lines stand at one place of one list
abbrev pub same_key : Line → Line → Bool
same_key a b = (a.kind == b.kind) && ((a.owner == b.owner) && (a.place == b.place))

-- a line stands in place of the one with its key
abbrev pub put_line : List Line → Line → List Line
put_line lines line = line ∷ filter (λ other. not (same_key other line)) lines

-- all lines are put, the first one first
abbrev pub put_lines : List Line → List Line → List Line
put_lines = fold put_line

-- the first line comes before the other, by kind, then by owner, then by place
abbrev pub comes_before : Line → Line → Bool
comes_before a b = nat_lt a.kind b.kind
    || ((a.kind == b.kind) && (nat_lt a.owner b.owner || ((a.owner == b.owner) && nat_lt a.place b.place)))

-- each line comes before those after it
abbrev pub AreByKey : List Line → Type 0
AreByKey [] = ⊤
AreByKey (line ∷ lines) = AllByRecursion (λ other. IsTrue (comes_before line other)) lines × AreByKey lines
