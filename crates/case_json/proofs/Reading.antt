-- Reading parts of a value, one after another.
use Rattle.std.proofs.Common.{◌≡◌, ℕ, ◌+◌, ◌*◌, List, [], ◌∷◌, ◌++◌, length, Option, Some, None, option_map, map, refl, ap}
use Rattle.std.proofs.Common.{Vec, Global, sym, ◌∙◌, arith, length-append}
use Rattle.std.proofs.lemmas.Grind.{common_steps}
use Rattle.serde_json.specs.Data.{Data}
use Rattle.serde_json.specs.View.{view}
use Rattle.serde_json.specs.declared.value.Value.{Value, Array}
use Rattle.serde_json.proofs.Views.{view-Array}
use Rattle.desk_base.specs.Grid.{rows_of}
use Rattle.desk_base.proofs.Rows.{rows_of-append}
use Rattle.json_parts.specs.Parts.{◌>>=◌, each, items_in}
use Rattle.json_parts.proofs.Reading.{all_items-items_of}
use Rattle.case_json.specs.Masters.{row_in}

-- the items of a value that is an array of values
pub items_in-Array : (values : Vec Value Global) → items_in (view (Array values)) ≡ Some (map view values.items)
items_in-Array values = rw (view-Array, all_items-items_of) refl

-- what stands after the parts grows by the next one
pub append-next : {A : Type 0} (parts : List A) (part : A) (rest : Option (List A))
    → option_map (λ more. parts ++ more) (rest >>= (λ more. Some (part ∷ more)))
    ≡ option_map (λ more. (parts ++ part ∷ []) ++ more) rest
append-next parts part None = refl
append-next parts part (Some more) = grind (arith, common_steps)

-- each part that is read stands after those before it
pub each-next : {A : Type 0} (read : Data → Option A) (parts : List A) (first : Data) (others : List Data) (part : A)
    → read first ≡ Some part
    → option_map (λ rest. parts ++ rest) (each read (first ∷ others))
    ≡ option_map (λ rest. (parts ++ part ∷ []) ++ rest) (each read others)
each-next read parts first others part is = rw is (append-next parts part (each read others))

-- what grew by a part that may be there grew by that part
grown : {A : Type 0} (old new : List A) (part : Option (List A)) → option_map (λ more. old ++ more) part ≡ Some new
    → (more : List A) × (part ≡ Some more) × (new ≡ old ++ more)
grown old new None is = absurd cc
grown old new (Some more) is = (more, refl, cc)

-- the cells of one more row stand after those of the rows before it
pub rows-next : (columns count : ℕ) (cells more : List (List ℕ)) (first : Data) (others : List Data)
    → length cells ≡ count * columns → length more ≡ length cells + columns
    → option_map (λ texts. cells ++ texts) (row_in columns first) ≡ Some more
    → option_map (λ rest. rows_of columns count cells ++ rest) (each (row_in columns) (first ∷ others))
    ≡ option_map (λ rest. rows_of columns (count + 1) more ++ rest) (each (row_in columns) others)
rows-next columns count cells more first others full wide is =
    let read = grown cells more (row_in columns first) is in
    let texts : List (List ℕ) = read.0 in
    let long : length texts ≡ columns = omega (arith, wide, ap length read.2, length-append cells texts) in
    let rows : rows_of columns (count + 1) more ≡ rows_of columns count cells ++ texts ∷ [] =
    ap (rows_of columns (count + 1)) read.2 ∙ rows_of-append columns count cells texts full long in
    each-next (row_in columns) (rows_of columns count cells) first others texts read.1
    ∙ ap (λ above. option_map (λ rest. above ++ rest) (each (row_in columns) others)) (sym rows)
