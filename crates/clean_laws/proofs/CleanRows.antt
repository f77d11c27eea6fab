-- A clean row shows what a session with its cells shows.
use Rattle.std.proofs.Common.{◌≡◌, ◌≢◌, ◌<◌, ◌≤◌, ◌+◌, ℕ, zero, suc, Bool, true, false, List, [], ◌∷◌, length, map}
use Rattle.std.proofs.Common.{get_or, refl, sym, ap}
use Rattle.std.proofs.Common.{subst, ◌∙◌, arith, zero-add, Ok}
use Rattle.std.proofs.lemmas.Bool.Decides.{nat_tests}
use Rattle.std.proofs.lemmas.List.{get_or_default, take_all}
use Rattle.std.proofs.lemmas.List.FromFn.{get_or-map-range_with_len, length-range_with_len}
use Rattle.std.proofs.lemmas.List.Quantifiers.{position-Some}
use Rattle.std.proofs.lemmas.Slice.Eq.{bytes_eq-Decides}
use Rattle.std.specs.List.{range_with_len}
use Rattle.std.specs.Prelude.{All, AllPairs, Option, Some, None, position, nat_le, if◌then◌else◌, slice_index_or}
use Rattle.std.specs.Str.{bytes_eq}
use Rattle.desk_base.proofs.Utf8.{bytes_eq-apart}
use Rattle.desk_base.specs.declared.limits.TheConstants.{MAX_TEXT}
use Rattle.desk_valid.specs.Bindings.{bound_at}
use Rattle.desk_valid.specs.declared.bound.Bound.{Bound}
use Rattle.desk_words.specs.Tables.{Published}
use Rattle.desk_words.specs.declared.rows.session.SessionRow.{SessionRow}
use Rattle.desk_words.specs.declared.view.View.{View}
use Rattle.fix_engine.proofs.Once.{IsAnswer-unique}
use Rattle.fix_engine.specs.Verdicts.{IsAnswer}
use Rattle.fix_engine.specs.declared.verdict.Verdict.{Verdict}
use Rattle.fix_engine.specs.declared.verdict.Verdict.TheVariants.{Fix, Conflict}
use Rattle.fix_model.proofs.Runs.{typed-end_of}
use Rattle.fix_model.proofs.Twins.{position-some}
use Rattle.fix_model.specs.declared.kit.Kit.{Kit}
use Rattle.fix_model.specs.declared.state.Cell.TheVariants.{Uncovered}
use Rattle.fix_model.specs.declared.state.State.{State}
use Rattle.fix_model.specs.declared.state.Step.{Step}
use Rattle.fix_model.specs.Run.{end_of}
use Rattle.fix_model.specs.States.{cell_at, confirmed_cell, shown, value_at}
use Rattle.machine_core.specs.Answers.{shown_state, state_of}
use Rattle.machine_core.specs.Checked.{Answer, Gives}
use Rattle.machine_core.specs.Views.{outcome_of, view_cell, view_of, view_with}
use Rattle.sheet_clean.specs.Decision.{IsDecided, Row}
use Rattle.sheet_clean.specs.Fields.{cell_shown, cleaned_cells, column_shown}
use Rattle.sheet_clean.specs.Header.{attribute_of, column_of}
use Rattle.sheet_clean.specs.Row.{cell_in, decided_at, decided_text, is_confirmed, row_state, typed_at}
use Rattle.sheet_clean.specs.Setting.{IsSettingOf, attribute_name}
use Rattle.sheet_clean.specs.declared.setting.Setting.{Setting}
use Rattle.clean_laws.specs.Sessions.{HasRow, IsOutcomeOf, ShowsRow, shown_text}

-- ---- the state of a row is that of a session with its cells

-- two makings one after the other are one
made-twice : {A B C : Type 0} (make : A → B) (more : B → C) (items : List A)
    → map (λ item. more (make item)) items ≡ map more (map make items)
made-twice make more [] = refl
made-twice make more (item ∷ items) = ap (λ made. more (make item) ∷ made) (made-twice make more items)

-- a text of a desk is decided over as it is
decided-short : (text : List ℕ) → length text ≤ MAX_TEXT → decided_text text ≡ text
decided-short text short =
    let fits : nat_le (length text) MAX_TEXT ≡ true = grind (arith, nat_tests) in
    ap (λ test. if test then text else []) fits

-- so are texts of a desk
decided-all : (texts : List (List ℕ)) → All (λ text. length text ≤ MAX_TEXT) texts → map decided_text texts ≡ texts
decided-all [] short = refl
decided-all (text ∷ texts) short =
    let first : decided_text text ≡ text = decided-short text (short 0 text (omega arith)) in
    let rest : map decided_text texts ≡ texts =
    decided-all texts (λ place past within. short (suc place) past (omega (arith, within))) in
    cc

-- the state of the row is that of the session
state-same : (setting : Setting) (header cells : List (List ℕ)) (session : SessionRow)
    → HasRow setting header cells session → row_state setting header cells ≡ state_of session
state-same setting header cells session has =
    let range = range_with_len 0 (length setting.names.attributes) in
    let short : All (λ text. length text ≤ MAX_TEXT) (map (typed_at setting header cells) range) =
    subst (All (λ text. length text ≤ MAX_TEXT)) has.typed has.short in
    let typed : map (decided_at setting header cells) range ≡ session.typed =
    made-twice (typed_at setting header cells) decided_text range
    ∙ decided-all (map (typed_at setting header cells) range) short
    ∙ sym has.typed in
    let flags : map confirmed_cell (map (is_confirmed setting header cells) range)
    ≡ map confirmed_cell session.confirmed = ap (map confirmed_cell) (sym has.confirmed) in
    cc

-- ---- columns and attributes

-- texts that are equal are found equal
same-texts : (one other : List ℕ) → one ≡ other → bytes_eq one other ≡ true
same-texts one other same = (bytes_eq-Decides one other).1 same

-- the attribute of its column
attribute-there : (setting : Setting) (header : List (List ℕ)) (attribute column : ℕ)
    → AllPairs (λ one other. one ≢ other) setting.names.attributes → attribute < length setting.names.attributes
    → column_of setting header attribute ≡ Some column
    → (column < length header) × (attribute_of setting (get_or header column []) ≡ Some attribute)
attribute-there setting header attribute column apart within found =
    let names = setting.names.attributes in
    let name = attribute_name setting attribute in
    let there = position-Some (bytes_eq name) header column [] found in
    let is : name ≡ get_or header column [] = (bytes_eq-Decides name (get_or header column [])).0 there.1 in
    let before : (place : ℕ) → place < attribute → bytes_eq name (get_or names place []) ≡ false =
    λ place below. bytes_eq-apart name (get_or names place [])
    (λ same. apart place attribute [] below within (sym same)) in
    let at : position (bytes_eq name) names ≡ Some attribute =
    ap (position (bytes_eq name)) (sym (take_all (length names) names (omega arith)))
    ∙ position-some (bytes_eq name) names (length names) attribute [] (omega arith) within before
    (same-texts name (get_or names attribute []) refl) in
    (there.0, ap (attribute_of setting) (sym is) ∙ at)

-- ---- what a session shows

-- a view is that of an answer
view-is : (published : Published) (number : ℕ) (session : SessionRow) (bound : Bound) (view : View)
    → bound_at published session.edition ≡ Some bound → Gives (view_of published number session) (Ok view)
    → (answer : Answer) × IsAnswer bound.kit (state_of session) answer.first answer.second answer.verdict
    × (view ≡ view_with published number session bound answer)
view-is published number session bound view binds gives =
    let given = rw binds at gives in
    (given.0, given.1, (let same = given.2 in cc))

-- the text that is shown of an attribute is its value
shown-value : (published : Published) (number : ℕ) (session : SessionRow) (bound : Bound) (answer : Answer)
    (attribute : ℕ) → attribute < bound.kit.width
    → shown_text (view_with published number session bound answer) attribute
    ≡ value_at bound.kit (shown_state bound (state_of session) answer answer.verdict) attribute
shown-value published number session bound answer attribute within =
    ap (λ cell. cell.value) (get_or-map-range_with_len
    (view_cell bound (shown_state bound (state_of session) answer answer.verdict)) 0 bound.kit.width attribute
    attribute _ within (zero-add attribute))

-- the typed text of an attribute is the cell in its column
typed-there : (setting : Setting) (header cells : List (List ℕ)) (session : SessionRow) (attribute column : ℕ)
    → HasRow setting header cells session → attribute < length setting.names.attributes
    → column_of setting header attribute ≡ Some column
    → get_or session.typed attribute [] ≡ get_or cells column []
typed-there setting header cells session attribute column has within found =
    ap (λ texts. get_or texts attribute []) has.typed
    ∙ get_or-map-range_with_len (typed_at setting header cells) 0 (length setting.names.attributes) attribute
    attribute [] within (zero-add attribute)
    ∙ ap (cell_in cells) found

-- cells without a step show what was typed
shown-unfixed : (kit : Kit) (flags : List Bool) (attribute : ℕ) (typed : List ℕ)
    → shown kit (get_or (map confirmed_cell flags) attribute Uncovered) typed ≡ typed
shown-unfixed kit [] attribute typed = refl
shown-unfixed kit (true ∷ flags) zero typed = refl
shown-unfixed kit (false ∷ flags) zero typed = refl
shown-unfixed kit (flag ∷ flags) (suc attribute) typed = shown-unfixed kit flags attribute typed

module _ (setting : Setting) (header : List (List ℕ)) (row : Row) (session : SessionRow) (bound : Bound)
    (apart : AllPairs (λ one other. one ≢ other) setting.names.attributes)
    (set : IsSettingOf bound.kit setting) (has : HasRow setting header row.cells session) where
  -- at a fix
  fixed-cell : (certain : Bool) (dissent : Option Step) (run : List Step) (attribute column : ℕ)
      → attribute < length setting.names.attributes → column_of setting header attribute ≡ Some column
      → get_or (cleaned_cells bound.kit setting header row.cells (Fix certain dissent)
      (end_of bound.kit (state_of session) run)) column []
      ≡ value_at bound.kit (end_of bound.kit (state_of session) run) attribute
  fixed-cell certain dissent run attribute column within found =
      let end = end_of bound.kit (state_of session) run in
      let there = attribute-there setting header attribute column apart within found in
      let cell = get_or row.cells column [] in
      let typed : get_or end.typed attribute [] ≡ cell =
      ap (λ texts. get_or texts attribute []) (typed-end_of bound.kit (state_of session) run)
      ∙ typed-there setting header row.cells session attribute column has within found in
      get_or-map-range_with_len (cell_shown bound.kit setting header row.cells end) 0 (length header) column column []
      there.0 (zero-add column)
      ∙ ap (column_shown bound.kit end cell) there.1
      ∙ ap (shown bound.kit (cell_at end attribute)) (sym typed)

  -- at a conflict
  conflict-cell : (attribute column : ℕ) → attribute < length setting.names.attributes
      → column_of setting header attribute ≡ Some column
      → get_or row.cells column [] ≡ value_at bound.kit (state_of session) attribute
  conflict-cell attribute column within found =
      let typed = typed-there setting header row.cells session attribute column has within found in
      sym typed ∙ sym (shown-unfixed bound.kit session.confirmed attribute (get_or session.typed attribute []))

  -- a cell of the clean row, by the verdict
  clean-cell : (verdict : Verdict) (answer : Answer) (attribute column : ℕ)
      → attribute < length setting.names.attributes → column_of setting header attribute ≡ Some column
      → get_or (cleaned_cells bound.kit setting header row.cells verdict
      (end_of bound.kit (state_of session) answer.first)) column []
      ≡ value_at bound.kit (shown_state bound (state_of session) answer verdict) attribute
  clean-cell (Fix certain dissent) answer attribute column within found =
      fixed-cell certain dissent answer.first attribute column within found
  clean-cell Conflict answer attribute column within found = conflict-cell attribute column within found

-- the outcome that is shown is that of the verdict
outcome-same : (bound : Bound) (answer : Answer) (verdict : Verdict)
    → IsOutcomeOf verdict (outcome_of bound answer verdict)
outcome-same bound answer (Fix certain dissent) = refl
outcome-same bound answer Conflict = tt

-- a clean row shows what a session with its cells shows
pub ShowsRow-session : (published : Published) (number : ℕ) (session : SessionRow) (setting : Setting) (bound : Bound)
    (header : List (List ℕ)) (row : Row) (view : View)
    → AllPairs (λ one other. one ≢ other) setting.names.attributes
    → bound_at published session.edition ≡ Some bound → IsSettingOf bound.kit setting
    → HasRow setting header row.cells session → IsDecided bound.kit setting header row
    → Gives (view_of published number session) (Ok view) → ShowsRow bound.kit setting header row view
ShowsRow-session published number session setting bound header row view apart binds set has decided gives =
    let given = view-is published number session bound view binds gives in
    let answer : Answer = given.0 in
    let state : row_state setting header row.cells ≡ state_of session =
    state-same setting header row.cells session has in
    let answered = subst (λ state. IsAnswer bound.kit state decided.first_run decided.second_run row.decision.verdict)
    state decided.answer in
    let same = IsAnswer-unique bound.kit (state_of session) row.decision.verdict answer.verdict decided.first_run
    decided.second_run answer.first answer.second answered given.1 in
    let end : row.decision.first ≡ end_of bound.kit (state_of session) answer.first =
    decided.first ∙ ap (λ state. end_of bound.kit state decided.first_run) state
    ∙ ap (end_of bound.kit (state_of session)) same.0 in
    record {
      cells = λ attribute column within found.
          ap (λ last. get_or (cleaned_cells bound.kit setting header row.cells row.decision.verdict last) column []) end
          ∙ clean-cell setting header row session bound apart set has row.decision.verdict answer attribute column
          within found
          ∙ ap (λ verdict. value_at bound.kit (shown_state bound (state_of session) answer verdict) attribute) same.2
          ∙ sym (shown-value published number session bound answer attribute (omega (arith, within, set.attributes)))
          ∙ ap (λ seen. shown_text seen attribute) (sym given.2);
      outcome = subst (λ seen. IsOutcomeOf row.decision.verdict seen.outcome) (sym given.2)
          (subst (λ verdict. IsOutcomeOf verdict (outcome_of bound answer answer.verdict)) (sym same.2)
          (outcome-same bound answer answer.verdict));
    }
