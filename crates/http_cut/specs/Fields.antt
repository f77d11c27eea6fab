-- The fields of a head that say how its body comes.
use Rattle.std.specs.Prelude.{ℕ, Bool, List, [], ◌∷◌, map, filter, Option, Some, None, Result, Ok, Err}
use Rattle.std.specs.Str.{str_eq_ignore_ascii_case}
use Rattle.http_cut.specs.declared.fields.BadLength.{BadLength}
use Rattle.http_cut.specs.Numbers.{number}

-- the field has this name, in small or capital letters
abbrev pub has_name : List ℕ → List ℕ × List ℕ → Bool
has_name name field = str_eq_ignore_ascii_case field.0 name

-- the values of the fields of this name, of a list of names with values
abbrev pub values_of : List ℕ → List (List ℕ × List ℕ) → List (List ℕ)
values_of name fields = map (λ field. field.1) (filter (has_name name) fields)

-- what the values of `Content-Length` say: nothing where there is none; several are bad, and so are other bytes than
-- 1 to 10 digits
abbrev pub body_length : List (List ℕ) → Result (Option ℕ) BadLength
body_length [] = Ok None
body_length (value ∷ []) = said (number 10 value)
  where
    said : Option ℕ → Result (Option ℕ) BadLength
    said (Some count) = Ok (Some count)
    said None = Err (record {})
body_length (value ∷ next ∷ rest) = Err (record {})
