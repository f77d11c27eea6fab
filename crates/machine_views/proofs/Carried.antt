-- A look at a Carry, by its parts.
use Rattle.std.proofs.Common.{◌≡◌, ◌∙◌, ℕ, ◌+◌, ◌<◌, Bool, cond, not, List, [], ◌∷◌, ◌++◌, length, get_or, map}
use Rattle.std.proofs.Common.{take, refl, sym, ap}
use Rattle.std.specs.Prelude.{Ok, ◌||◌, filter}
use Rattle.std.specs.List.{list_any}
use Rattle.std.specs.Str.{bytes_eq}
use Rattle.std.proofs.lemmas.List.{map-append, take_more}
use Rattle.std.proofs.lemmas.List.Elements.{filter-append}
use Rattle.desk_base.specs.Places.{has_text}
use Rattle.desk_words.specs.declared.reply.Carried.{Carried}
use Rattle.desk_words.specs.declared.rows.session.SessionRow.{SessionRow}
use Rattle.desk_words.specs.declared.view.View.{View}
use Rattle.desk_words.specs.declared.view.ViewCell.{ViewCell}
use Rattle.desk_words.specs.Tables.{Published}
use Rattle.machine_core.specs.Checked.{Checked, ◌>>=◌, Gives, IsFound}
use Rattle.machine_core.specs.Clerk.Carry.{carry_row}
use Rattle.machine_core.specs.Look.Carry.{carried_between, carrying, words_in}
use Rattle.machine_core.specs.Look.View.{view_at}
use Rattle.machine_core.specs.Own.{Own}
use Rattle.machine_core.specs.Views.{view_of}
use Rattle.machine_core.proofs.Answering.{Answers-found}
use Rattle.machine_core.proofs.Chains.{Gives-bind}

-- whether one of the things that are made passes
pub list_any-map : {A B : Type 0} (test : B → Bool) (make : A → B) (items : List A)
    → list_any test (map make items) ≡ list_any (λ item. test (make item)) items
list_any-map test make [] = refl
list_any-map test make (first ∷ items) = ap (λ rest. test (make first) || rest) (list_any-map test make items)

-- the words of cells that a view does not show
abbrev pub apart-words : View → List ViewCell → List (List ℕ)
apart-words other cells = filter (λ word. not (has_text (words_in other) word)) (map (λ cell. cell.name) cells)

-- whether the view has the next cell's says what comes after those before it
pub apart-more : (other : View) (cells : List ViewCell) (place : ℕ) (cell : ViewCell) (shown : Bool)
    → place < length cells → cell ≡ get_or cells place cell
    → shown ≡ list_any (λ one. bytes_eq cell.name one.name) other.cells
    → apart-words other (take (place + 1) cells)
    ≡ apart-words other (take place cells) ++ cond (not shown) (cell.name ∷ []) []
apart-more other cells place cell shown within is test =
    let apart : List ℕ → Bool = λ word. not (has_text (words_in other) word) in
    let name_of : ViewCell → List ℕ = λ one. one.name in
    let before : List (List ℕ) = map name_of (take place cells) in
    let has : has_text (words_in other) cell.name ≡ shown =
    list_any-map (bytes_eq cell.name) name_of other.cells ∙ sym test in
    ap (apart-words other) (take_more cells place cell within ∙ ap (λ one. take place cells ++ one ∷ []) (sym is))
    ∙ ap (filter apart) (map-append name_of (take place cells) (cell ∷ []))
    ∙ filter-append apart before (cell.name ∷ [])
    ∙ ap (λ passes. filter apart before ++ cond (not passes) (cell.name ∷ []) []) has

module _ (published : Published) (own : Own) (number version : ℕ) where
  -- what is left once the session is shown as it stands
  abbrev left_after : SessionRow → View → Checked Carried
  left_after moved before = view_of published number moved >>= carried_between before

  -- what is left once it is carried
  abbrev left : SessionRow → Checked Carried
  left moved = view_at published own number >>= left_after moved

  -- the look is what changes from the one view to the other
  pub carrying-given : (moved : SessionRow) (before after : View) (carried : Carried)
      → IsFound (carry_row published own number version) moved
      → Gives (view_at published own number) (Ok before) → Gives (view_of published number moved) (Ok after)
      → Gives (carried_between before after) (Ok carried)
      → Gives (carrying published own number version) (Ok carried)
  carrying-given moved before after carried moves seen would gives =
      Gives-bind (carry_row published own number version) left moved (Ok carried)
      (Answers-found (carry_row published own number version) (Ok moved) moves)
      (Gives-bind (view_at published own number) (left_after moved) before (Ok carried) seen
      (Gives-bind (view_of published number moved) (carried_between before) after (Ok carried) would gives))
