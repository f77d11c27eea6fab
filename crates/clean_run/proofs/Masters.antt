-- Masters that are read one after another.
use Rattle.std.proofs.Common.{◌≡◌, ◌≢◌, ◌<◌, List, [], ◌∷◌, ◌++◌, ℕ, Ok, Err, length, map, refl, sym, ap, subst, ◌∙◌}
use Rattle.std.proofs.Common.{arith}
use Rattle.std.specs.Prelude.{All, AllPairs, Result}
use Rattle.std.proofs.lemmas.List.{get_or-map, length-map, map-append}
use Rattle.std.proofs.lemmas.List.Elements.{All-append}
use Rattle.desk_base.proofs.Lists.{slice_get-there}
use Rattle.desk_base.specs.declared.limits.TheConstants.{MAX_SHEET_ROWS}
use Rattle.master_rows.specs.Master.{IsMasterWithin}
use Rattle.rule_text.specs.Binding.{AreMasters}
use Rattle.clean_run.specs.Words.{AreSheets}
use Rattle.master_rows.specs.Sheet.{sheet_within}
use Rattle.master_rows.specs.declared.master.Master.{Master}
use Rattle.clean_run.specs.Files.{Folder}
use Rattle.clean_run.specs.Parts.{◌>>=◌, in_file, masters_in}
use Rattle.clean_run.proofs.Sheets.{All-one}
use Rattle.clean_run.specs.declared.ended.Status.{Status}
use Rattle.clean_run.specs.declared.words.SheetWord.{SheetWord}

abbrev Named : Type 0
Named = List (List ℕ × Master)

-- a master and those after it, where all of them are read
abbrev adds : List ℕ → Result Master Status → Result Named Status → Result Named Status
adds name one rest = one >>= (λ master. rest >>= (λ masters. Ok ((name, master) ∷ masters)))

-- with more after those
adds-longer : (name : List ℕ) (one : Result Master Status) (rest longer : Result Named Status) (masters more : Named)
    → adds name one rest ≡ Ok masters
    → ((others : Named) → rest ≡ Ok others → longer ≡ Ok (others ++ more))
    → adds name one longer ≡ Ok (masters ++ more)
adds-longer name (Err status) rest longer masters more is after = absurd cc
adds-longer name (Ok master) (Err status) longer masters more is after = absurd cc
adds-longer name (Ok master) (Ok others) longer masters more is after =
    let all : masters ≡ (name, master) ∷ others = cc in rw (all, after others refl) refl

-- with one after those that is not read
adds-stops : (name : List ℕ) (one : Result Master Status) (rest longer : Result Named Status) (masters : Named)
    (status : Status) → adds name one rest ≡ Ok masters
    → ((others : Named) → rest ≡ Ok others → longer ≡ Err status)
    → adds name one longer ≡ Err status
adds-stops name (Err other) rest longer masters status is after = absurd cc
adds-stops name (Ok master) (Err other) longer masters status is after = absurd cc
adds-stops name (Ok master) (Ok others) longer masters status is after = rw (after others refl) refl

-- one master after those that were read
pub masters_in-push : (folder : Folder) (sheets : List SheetWord) (sheet : SheetWord) (masters : Named)
    (master : Master) → masters_in folder sheets ≡ Ok masters
    → in_file (sheet_within MAX_SHEET_ROWS) (folder sheet.file.now) ≡ Ok master
    → masters_in folder (sheets ++ sheet ∷ []) ≡ Ok (masters ++ (sheet.name, master) ∷ [])
masters_in-push folder [] sheet masters master before here =
    let none : masters ≡ [] = cc in rw (none, here) refl
masters_in-push folder (first ∷ sheets) sheet masters master before here =
    adds-longer first.name (in_file (sheet_within MAX_SHEET_ROWS) (folder first.file.now)) (masters_in folder sheets)
    (masters_in folder (sheets ++ sheet ∷ [])) masters ((sheet.name, master) ∷ []) before
    (λ others is. masters_in-push folder sheets sheet others master is here)

-- one after them that is not read
pub masters_in-stop : (folder : Folder) (sheets : List SheetWord) (sheet : SheetWord) (later : List SheetWord)
    (masters : Named) (status : Status) → masters_in folder sheets ≡ Ok masters
    → in_file (sheet_within MAX_SHEET_ROWS) (folder sheet.file.now) ≡ Err status
    → masters_in folder (sheets ++ sheet ∷ later) ≡ Err status
masters_in-stop folder [] sheet later masters status before here = rw here refl
masters_in-stop folder (first ∷ sheets) sheet later masters status before here =
    adds-stops first.name (in_file (sheet_within MAX_SHEET_ROWS) (folder first.file.now)) (masters_in folder sheets)
    (masters_in folder (sheets ++ sheet ∷ later)) masters status before
    (λ others is. masters_in-stop folder sheets sheet later others status is here)

-- its name is that of its word
pub named-push : (masters : Named) (sheets : List SheetWord) (sheet : SheetWord) (master : Master)
    → map (λ one. one.0) masters ≡ map (λ one. one.name) sheets
    → map (λ one. one.0) (masters ++ (sheet.name, master) ∷ []) ≡ map (λ one. one.name) (sheets ++ sheet ∷ [])
named-push masters sheets sheet master same =
    map-append (λ one. one.0) masters ((sheet.name, master) ∷ [])
    ∙ ap (λ names. names ++ sheet.name ∷ []) same
    ∙ sym (map-append (λ one. one.name) sheets (sheet ∷ []))

-- and it is sound, as those before it are
pub sound-push : (masters : Named) (name : List ℕ) (master : Master)
    → All (λ one. IsMasterWithin MAX_SHEET_ROWS one.1) masters → IsMasterWithin MAX_SHEET_ROWS master
    → All (λ one. IsMasterWithin MAX_SHEET_ROWS one.1) (masters ++ (name, master) ∷ [])
sound-push masters name master before sound =
    All-append (λ one. IsMasterWithin MAX_SHEET_ROWS one.1) masters ((name, master) ∷ []) before
    (All-one (λ one. IsMasterWithin MAX_SHEET_ROWS one.1) (name, master) sound)

module _ {A B K : Type 0} (key : A → K) (other_key : B → K) where
  -- items that differ by a key have distinct keys
  keys-apart : (others : List B) → AllPairs (λ one later. other_key one ≢ other_key later) others
      → AllPairs (λ one later. one ≢ later) (map other_key others)
  keys-apart others apart place later past below within same =
      let inside : later < length others = omega (arith, within, length-map others other_key) in
      let item : B = (slice_get-there others later inside).0 in
      apart place later item below inside
      (sym (get_or-map other_key others place item past (omega (arith, inside, below))) ∙ same
      ∙ get_or-map other_key others later item past inside)

  -- so do items that have the same keys
  pub apart-alike : (items : List A) (others : List B) → map key items ≡ map other_key others
      → AllPairs (λ one later. other_key one ≢ other_key later) others
      → AllPairs (λ one later. key one ≢ key later) items
  apart-alike items others alike apart place later past below within same =
      let distinct : AllPairs (λ one later. one ≢ later) (map key items) =
      subst (AllPairs (λ one later. one ≢ later)) (sym alike) (keys-apart others apart) in
      distinct place later (key past) below (omega (arith, within, length-map items key))
      (get_or-map key items place past (key past) (omega (arith, within, below)) ∙ same
      ∙ sym (get_or-map key items later past (key past) within))

-- masters that are read under the names of words that fit are those of an edition
pub AreMasters-named : (masters : Named) (sheets : List SheetWord)
    → map (λ master. master.0) masters ≡ map (λ sheet. sheet.name) sheets → AreSheets sheets
    → All (λ master. IsMasterWithin MAX_SHEET_ROWS master.1) masters → AreMasters masters
AreMasters-named masters sheets named are sound =
    let same : length masters ≡ length sheets =
    sym (length-map masters (λ master. master.0)) ∙ ap length named ∙ length-map sheets (λ sheet. sheet.name) in
    record {
      few = omega (arith, same, are.few);
      each = sound;
      named_apart = apart-alike (λ master. master.0) (λ sheet. sheet.name) masters sheets named are.named_apart;
    }
