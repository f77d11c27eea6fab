-- Masters of an edition, each under another name.
use Rattle.std.proofs.Common.{◌≡◌, ◌≢◌, ◌∙◌, ℕ, ◌<◌, Bool, true, false, List, [], ◌∷◌, ◌++◌, length, get_or, Option}
use Rattle.std.proofs.Common.{Some, refl, sym, ap, subst}
use Rattle.std.specs.Prelude.{◌&&◌, ◌==◌, Ok, not, option_map, slice_get}
use Rattle.std.specs.List.{list_any}
use Rattle.std.specs.Str.{bytes_eq}
use Rattle.std.proofs.lemmas.List.Elements.{All-get_or, All-push}
use Rattle.std.proofs.lemmas.List.Folds.{list_any_at}
use Rattle.std.proofs.lemmas.List.Quantifiers.{all_pairs_push, position-Some}
use Rattle.std.proofs.lemmas.Option.{same_Some, slice_get-get_or}
use Rattle.std.proofs.lemmas.Slice.Eq.{bytes_eq-Decides}
use Rattle.desk_words.specs.declared.refusal.Kind.TheVariants as kind
use Rattle.desk_words.specs.declared.refusal.Refusal.TheVariants.{NoSuch, Twice}
use Rattle.desk_words.specs.declared.rows.text.TextRow.{TextRow}
use Rattle.desk_words.specs.Tables.{Published}
use Rattle.machine_core.specs.Checked.{◌>>◌, done, some_or, unless, Gives}
use Rattle.machine_core.specs.Finding.{text_named}
use Rattle.machine_core.specs.Steward.AddEdition.{AreOthers, another_master, master_name}
use Rattle.machine_core.proofs.Chains.{Gives-bind_ok, done-value}
use Rattle.machine_core.proofs.Tested.{some_or-ok, unless-ok}

-- where the test says that none passes, none does
pub not-any : {T : Type 0} (test : T → Bool) (items : List T) → not (list_any test items) ≡ true
    → (index : ℕ) (past : T) → index < length items → test (get_or items index past) ≡ true → ⊥
not-any test items none index past inside passes =
    let some : list_any test items ≡ true = list_any_at test items index past inside passes in
    let both : not true ≡ true = ap not (sym some) ∙ none in
    cc

-- a master of no name
abbrev no_master : TextRow
no_master = record { name = []; version = 0; body = [] }

-- a master stands under the name by which it was found
pub master-named : (published : Published) (name : List ℕ) (version place : ℕ)
    → text_named published.masters name version ≡ Some place
    → (place < length published.masters) × (master_name published.masters place ≡ name)
master-named published name version place is =
    let found = position-Some (λ (row : TextRow). bytes_eq row.name name && (row.version == version))
    published.masters place no_master is in (
      found.0,
      (bytes_eq-Decides (master_name published.masters place) name).0 (and_left (bytes_eq
          (master_name published.masters place) name) ((get_or published.masters place no_master).version == version)
          found.1),
    )
  where
    and_left : (one other : Bool) → (one && other) ≡ true → one ≡ true
    and_left true other both = refl
    and_left false other both = absurd (cc)

-- one master more
pub another-master : (published : Published) (before : List ℕ) (master : List ℕ × ℕ) (place : ℕ)
    → AreOthers published before
    → Gives (another_master published.masters before master) (Ok place) → AreOthers published (before ++ place ∷ [])
another-master published before master place are gives =
    let is_taken : ℕ → Bool = λ earlier. bytes_eq (master_name published.masters earlier) master.0 in
    let found = Gives-bind_ok (some_or (text_named published.masters master.0 master.1) (NoSuch kind.Master)) (λ one.
    unless (not (list_any is_taken before)) (Twice master.0) >> done one) place gives in
    let free = Gives-bind_ok (unless (not (list_any is_taken before)) (Twice master.0)) (λ _. done found.0) place
    found.2 in
    let same : place ≡ found.0 = done-value found.0 place free.2 in
    let named = master-named published master.0 master.1 found.0 (some_or-ok (text_named published.masters master.0
    master.1) (NoSuch kind.Master) found.0 found.1) in
    let none = not-any is_taken before (unless-ok (not (list_any is_taken before)) (Twice master.0) free.0 free.1) in
    let Stands : ℕ → Type 0 = λ one. one < length published.masters in
    let name_at : ℕ → Option (List ℕ) = λ one. option_map (λ row. row.name) (slice_get published.masters one) in
    let shown : (one : ℕ) → Stands one → name_at one ≡ Some (master_name published.masters one) = λ one there.
    ap (option_map (λ (row : TextRow). row.name)) (slice_get-get_or published.masters one no_master there) in
    subst (λ one. AreOthers published (before ++ one ∷ [])) (sym same) (record {
      stand = All-push Stands before found.0 are.stand named.0;
      apart = all_pairs_push (λ one other. name_at one ≢ name_at other) before found.0 are.apart
          (λ index past inside equal.
          let one : ℕ = get_or before index past in
          let there : Stands one = All-get_or Stands before index past inside are.stand in
          let names : master_name published.masters one ≡ master.0 = same_Some (master_name published.masters one)
          master.0 (sym (shown one there) ∙ equal ∙ shown found.0 named.0 ∙ ap Some named.1) in
          none index past inside ((bytes_eq-Decides (master_name published.masters one) master.0).1 names));
    })
