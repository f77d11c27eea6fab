-- Masters under distinct names.
use Rattle.std.proofs.Common.{◌≡◌, ◌≢◌, ◌<◌, ◌++◌, ◌∷◌, ℕ, zero, suc, List, [], true, false, length}
use Rattle.std.proofs.Common.{get_or, sym, arith}
use Rattle.std.proofs.Common.{length-append, true≢false, ◌∙◌}
use Rattle.std.proofs.lemmas.List.Elements.{All-append}
use Rattle.std.proofs.lemmas.List.Folds.{list_any_at}
use Rattle.std.proofs.lemmas.List.Quantifiers.{all_pairs_push}
use Rattle.std.proofs.lemmas.Slice.Eq.{bytes_eq-Decides}
use Rattle.std.specs.Prelude.{All}
use Rattle.std.specs.Str.{bytes_eq}
use Rattle.desk_base.specs.Words.{is_name}
use Rattle.desk_base.specs.declared.limits.TheConstants.{MAX_MASTERS}
use Rattle.clean_run.specs.Words.{AreSheets, is_given}
use Rattle.clean_run.specs.declared.words.SheetWord.{SheetWord}

-- a master of a name that is not given differs from each that is
given-apart : (sheets : List SheetWord) (sheet : SheetWord) → is_given sheets sheet.name ≡ false → (place : ℕ)
    (past : SheetWord) → place < length sheets → (get_or sheets place past).name ≢ sheet.name
given-apart sheets sheet none place past within same =
    let found : is_given sheets sheet.name ≡ true =
    list_any_at (λ other. bytes_eq sheet.name other.name) sheets place past within
    ((bytes_eq-Decides sheet.name (get_or sheets place past).name).1 (sym same)) in
    true≢false (sym found ∙ none)

-- what holds of one item holds of the list of it
pub All-one : {A : Type 0} (P : A → Type 0) (item : A) → P item → All P (item ∷ [])
All-one P item holds zero past within = holds
All-one P item holds (suc place) past within = absurd (omega arith)

-- one more master is added to fewer than 8
pub AreSheets-push : (sheets : List SheetWord) (sheet : SheetWord) → AreSheets sheets
    → is_given sheets sheet.name ≡ false → length sheets ≢ MAX_MASTERS → is_name sheet.name ≡ true
    → AreSheets (sheets ++ sheet ∷ [])
AreSheets-push sheets sheet are none fewer named = record {
  few = omega (arith, length-append sheets (sheet ∷ []), are.few, fewer);
  named_apart = all_pairs_push (λ one other. one.name ≢ other.name) sheets sheet are.named_apart
      (given-apart sheets sheet none);
  named = All-append (λ other. is_name other.name ≡ true) sheets (sheet ∷ []) are.named
      (All-one (λ other. is_name other.name ≡ true) sheet named);
}
