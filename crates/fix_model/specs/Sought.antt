-- What a look seeks at the covered keys of a rule, and which rows of a master meet it.
use Rattle.std.specs.Prelude.{◌≡◌, ℕ, ◌<◌, Bool, List, Option, MatchOption, map, All, refl}
use Rattle.std.specs.Coded.{Coded, code_by, coded×, coded_bool, coded_list, coded_ℕ}
use Rattle.desk_base.specs.Grid.{GridRows, cell_text}
use Rattle.fix_model.specs.declared.book.Hit.{Hit}
use Rattle.fix_model.specs.declared.kit.Kit.{Kit}
use Rattle.fix_model.specs.declared.rows.SoughtText.{SoughtText}
use Rattle.fix_model.specs.declared.rule.Rule.{Rule}
use Rattle.fix_model.specs.declared.state.State.{State}
use Rattle.fix_model.specs.Alike.{AreAlike}
use Rattle.fix_model.specs.Application.{IsUsableIn}
use Rattle.fix_model.specs.Hit.{IsFirstOf, IsHitOf, IsOtherOf, covered_keys}
use Rattle.fix_model.specs.Rules.{is_folded}
use Rattle.fix_model.specs.States.{value_at}

-- a text that is sought in a column of a master, with or without regard to ASCII case
pub record Aim : Type 0 where
  pub column : ℕ
  pub text : List ℕ
  pub folded : Bool

-- it is stored as its fields
abbrev pub aim_code : Coded Aim
aim_code = code_by (ℕ × (List ℕ × Bool)) (coded× coded_ℕ (coded× (coded_list coded_ℕ) coded_bool))
    (λ a. (a.column, (a.text, a.folded)))
    (λ (column, (text, folded)). record { column = column; text = text; folded = folded }) (λ _. refl)

-- what a stored text is seen as
abbrev pub aim_of : SoughtText → Aim
aim_of sought = record { column = sought.column; text = sought.text.now; folded = sought.folded }

-- for each covered key its column, the value of its attribute, and whether that is folded
abbrev pub aims_at : Kit → State → List (ℕ × ℕ) → List Aim
aims_at kit state keys =
    map (λ key. record { column = key.1; text = value_at kit state key.0; folded = is_folded kit key.0 }) keys

-- what a look for a rule seeks
abbrev pub aims_of : Kit → State → Rule → List Aim
aims_of kit state rule = aims_at kit state (covered_keys state rule)

-- the row is usable for the rule, and its cells are alike all that is sought
pub record Meets (master : GridRows) (rule : Rule) (aims : List Aim) (row : ℕ) : Type 0 where
  pub usable : IsUsableIn master rule row
  pub alike : All (λ aim. AreAlike aim.folded aim.text (cell_text master row aim.column)) aims

-- the columns of the rule, and those in which something is sought, are columns of the master
pub record HasColumns (master : GridRows) (rule : Rule) (aims : List Aim) : Type 0 where
  pub keys : All (λ key. key.1 < master.columns) rule.keys
  pub from : rule.from < master.columns
  pub sought : All (λ aim. aim.column < master.columns) aims

-- the least row that meets what is sought, or none where no row does
abbrev pub TellsFirst : GridRows → Rule → List Aim → Option ℕ → Type 0
TellsFirst master rule aims found =
    MatchOption found ((row : ℕ) → ¬ Meets master rule aims row) (IsFirstOf (Meets master rule aims))

-- the least row that meets it and gives another text than a first one, or none where all of them give the same
abbrev pub TellsOther : GridRows → Rule → List Aim → ℕ → Option ℕ → Type 0
TellsOther master rule aims first found =
    MatchOption found
    ((row : ℕ) → Meets master rule aims row → cell_text master row rule.from ≡ cell_text master first rule.from)
    (IsOtherOf (λ row. cell_text master row rule.from) (Meets master rule aims) first)

-- the least row that meets it, and the least that gives another text, or none where no row does
abbrev pub TellsHit : GridRows → Rule → List Aim → Option Hit → Type 0
TellsHit master rule aims found =
    MatchOption found ((row : ℕ) → ¬ Meets master rule aims row)
    (IsHitOf (λ row. cell_text master row rule.from) (Meets master rule aims))
