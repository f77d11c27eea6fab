-- Derived rows, as they are told and as they become a region.
use Rattle.std.proofs.Common.{◌≡◌, ◌≢◌, ◌∙◌, ℕ, ◌-◌, List, [], ◌∷◌, ◌++◌, map, drop, take, Some, inl, inr, refl, sym}
use Rattle.std.proofs.Common.{ap, subst, append_assoc, arith}
use Rattle.std.specs.Prelude.{IfSome, Ok, option_map}
use Rattle.std.specs.Str.{bytes_eq}
use Rattle.std.proofs.lemmas.List.{append-nil, length-map, length-take, map_push}
use Rattle.std.proofs.lemmas.Simd.{map-map}
use Rattle.std.proofs.lemmas.Slice.Eq.{bytes_eq-Decides}
use Rattle.desk_words.specs.declared.change.Change.{Change}
use Rattle.desk_words.specs.declared.command.Command.TheVariants.{Steward, Desk}
use Rattle.desk_words.specs.declared.desk_look.DeskLook.TheVariants.{Derive}
use Rattle.desk_words.specs.declared.command.Ticket.{Ticket}
use Rattle.desk_words.specs.declared.reply.DerivedSheet.{DerivedSheet}
use Rattle.desk_words.specs.declared.reply.Reply.{Reply}
use Rattle.desk_words.specs.declared.reply.Reply.TheVariants as reply
use Rattle.desk_words.specs.declared.rows.region.RegionRow.{RegionRow}
use Rattle.desk_words.specs.declared.proposal.Proposal.TheVariants.{}
use Rattle.desk_words.specs.declared.steward_work.StewardWork.TheVariants.{AddDerived, Publish}
use Rattle.desk_words.specs.Tables.{Published, Rows, published_of}
use Rattle.desk_words.specs.declared.command.Command.{Command}
use Rattle.desk_valid.specs.declared.bound.Bound.{Bound}
use Rattle.desk_valid.specs.Valid.{AreValid}
use Rattle.master_rows.specs.declared.master.Master.{Master}
use Rattle.region_derive.specs.Derived.{AreDerived, ArePairs}
use Rattle.machine_core.specs.Checked.{Checked, each_following, Gives}
use Rattle.machine_core.specs.declared.derivation.Derivation.{Derivation}
use Rattle.machine_core.specs.Deriving.{another_pair, derivation_of, derived_rows, places_of}
use Rattle.machine_core.specs.Machine.{IsStep, making_changes, machine, making_of}
use Rattle.machine_core.specs.Own.{own_of}
use Rattle.machine_core.specs.Steward.AddDerived.{derived_region, region_from}
use Rattle.machine_core.specs.Steward.AddEdition.{master_name}
use Rattle.machine_core.specs.Views.{edition_at, name_at}
use Rattle.machine_core.proofs.Deriving.{derivation-derivable}
use Rattle.machine_core.proofs.Walks.{Met, Met-Gives, Gives-Met}
use Rattle.machine_laws.specs.Derivations.{AddsDerived, AreGiven, IsAskedOf, IsDerivedSheet}
use Rattle.machine_laws.proofs.DerivedRegions.{derived_region-found}
use Rattle.machine_laws.proofs.DerivingWhy.{pair-words}
use Rattle.machine_laws.proofs.Lists.{find-Some}
use Rattle.machine_laws.proofs.Told.{step-told}
use Rattle.machine_laws.proofs.Writes.{steward-cases}
use Rattle.machine_laws.proofs.Makings.{region_making}

-- sheets that are replied alike are one
same-sheet : (one other : DerivedSheet) → reply.Derived one ≡ reply.Derived other → one ≡ other
same-sheet one other is = cc

-- what is found of each item has the name of the item
named-following : {A B : Type 0} (find_it : List B → A → Checked B) (name : A → List ℕ) (name_of : B → List ℕ)
    → ((before : List B) (item : A) (found : B) → Met (find_it before item) (Ok found) → name_of found ≡ name item)
    → (items : List A) (before found : List B) → Met (each_following before find_it items) (Ok found)
    → map name_of found ≡ map name_of before ++ map name items
named-following find_it name name_of named [] before found is =
    ap (map name_of) is ∙ sym (append-nil (map name_of before))
named-following find_it name name_of named (item ∷ items) before found (here, is_here, rest) =
    named-following find_it name name_of named items (before ++ here ∷ []) found rest
    ∙ ap (λ list. list ++ map name items) (map_push name_of before here)
    ∙ append_assoc (map name_of before) (name_of here ∷ []) (map name items)
    ∙ ap (λ one. map name_of before ++ one ∷ map name items) (named before item here is_here)

-- the places of pairs are under their words
places-named : (words names : List (List ℕ)) (pairs : List (List ℕ × List ℕ)) (found : List ℕ × List ℕ)
    → Gives (places_of words names pairs) (Ok found)
    → (map (name_at words) found.0 ≡ map (λ pair. pair.0) pairs)
    × (map (name_at names) found.1 ≡ map (λ pair. pair.1) pairs)
places-named words names pairs found gives =
    let first : ℕ × ℕ → ℕ = λ place. place.0 in
    let second : ℕ × ℕ → ℕ = λ place. place.1 in
    let (places, are, is) = Met-Gives (places_of words names pairs) (Ok found) gives in (
      ap (λ (one : List ℕ × List ℕ). map (name_at words) one.0) is ∙ map-map (name_at words) first places
          ∙ named-following (another_pair words names) (λ pair. pair.0) (λ place. name_at words place.0)
          (λ before pair place one. sym (pair-words words names before pair place one).0) pairs [] places are,
      ap (λ (one : List ℕ × List ℕ). map (name_at names) one.1) is ∙ map-map (name_at names) second places
          ∙ named-following (another_pair words names) (λ pair. pair.1) (λ place. name_at names place.1)
          (λ before pair place one. sym (pair-words words names before pair place one).1) pairs [] places are,
    )

-- what a derivation is asked of
pub IsAskedOf-found : (published : Published) (edition : List ℕ) (version : ℕ) (master : List ℕ)
    (pairs : List (List ℕ × List ℕ)) (derivation : Derivation)
    → Gives (derivation_of published edition version master pairs) (Ok derivation)
    → IsAskedOf published edition version master pairs derivation
IsAskedOf-found published edition version master pairs derivation gives =
    let (at, named, (bound, binds, (sheet, (place, found, (one, reads, is_sheet)), (places, are, is)))) =
    Met-Gives (derivation_of published edition version master pairs) (Ok derivation) gives in
    let there = find-Some (λ one. bytes_eq (master_name published.masters one) master)
    (edition_at published at).masters place found in
    let words = places-named bound.names.attributes sheet.columns pairs places
    (Gives-Met (places_of bound.names.attributes sheet.columns pairs) (Ok places) are) in
    subst (IsAskedOf published edition version master pairs) (sym is) (record {
      named = named;
      bound = bound;
      binds = binds;
      place = place;
      among = there.0;
      under = (bytes_eq-Decides (master_name published.masters place) master).0 there.1;
      sheet = sheet;
      reads = ap (option_map (λ (both : List ℕ × Master). both.1)) reads ∙ ap Some (sym is_sheet);
      grid = refl;
      attributes = words.0;
      columns = words.1;
    })

module _ (rows : Rows) (valid : AreValid rows) (edition : List ℕ) (version : ℕ) (master : List ℕ)
    (pairs : List (List ℕ × List ℕ)) where
  -- the rows that it gives
  AreGiven-found : (derivation : Derivation) (found : List (ℕ × List (List ℕ)))
      → Gives (derivation_of (published_of rows) edition version master pairs) (Ok derivation)
      → Gives (derived_rows (published_of rows) derivation) (Ok found)
      → AreGiven (published_of rows) edition version master pairs derivation found
  AreGiven-found derivation found gives gives_rows =
      let published : Published = published_of rows in
      let asked = IsAskedOf-found published edition version master pairs derivation gives in
      let derivable = derivation-derivable rows edition version master pairs derivation valid gives in
      let Apart : Bound → Type 0 = λ bound.
      ArePairs bound.kit derivation.grid derivation.attributes derivation.columns in
      let (bound, binds, are) = Met-Gives (derived_rows published derivation) (Ok found) gives_rows in
      let both : Some bound ≡ Some asked.bound = sym binds ∙ asked.binds in
      let same : bound ≡ asked.bound = cc in
      record {
        asked = asked;
        apart = subst (λ one. IfSome one Apart) asked.binds derivable.pairs;
        derived = subst (λ (one : Bound). AreDerived one.kit derivation.grid derivation.attributes derivation.columns
            found) same are;
      }

  pub IsDerivedSheet-step : (sheet : DerivedSheet) (changes : List Change)
      → IsStep rows (Desk (Derive edition version master pairs)) (reply.Derived sheet) changes
      → IsDerivedSheet (published_of rows) edition version master pairs sheet
  IsDerivedSheet-step sheet changes step =
      let published : Published = published_of rows in
      let command : Command = Desk (Derive edition version master pairs) in
      let (answer, (all, (derivation, derives, (found, are, is)), as_told), told_so) = Met-Gives (machine rows command)
      (Ok (reply.Derived sheet, changes)) (step-told rows command (reply.Derived sheet) changes
      (λ refusal same. cc) step) in
      let whole = same-sheet sheet all (ap (λ (both : Reply × List Change). both.0) told_so ∙ as_told) ∙ is in
      record {
        derivation = derivation;
        found = found;
        given = AreGiven-found derivation found
            (Gives-Met (derivation_of published edition version master pairs) (Ok derivation) derives)
            (Gives-Met (derived_rows published derivation) (Ok found) are);
        attributes = ap (λ (one : DerivedSheet). one.attributes) whole;
        numbered = ap (λ (one : DerivedSheet). one.rows) whole;
      }

  pub AddsDerived-step : (ticket : Ticket) (from : ℕ) (answer : Reply) (changes : List Change)
      → IsStep rows (Steward ticket (AddDerived edition version master pairs from)) answer changes → changes ≢ []
      → AddsDerived rows ticket edition version master pairs from changes
  AddsDerived-step ticket from answer changes step accepted =
      elim (steward-cases rows ticket (AddDerived edition version master pairs from) answer changes step) [
        | inl none ↦ absurd (accepted none)
        | inr new ↦
            let (row, derives, is) = Met-Gives (making_of rows (AddDerived edition version master pairs from))
            (Ok new.making) new.makes in
            let found = derived_region-found (published_of rows) edition version master pairs from row
            (Gives-Met (derived_region (published_of rows) edition version master pairs from) (Ok row) derives) in
            let region : RegionRow = region_from found.derivation from found.rows in
            let texts_of : ℕ × List (List ℕ) → List (List ℕ) = λ one. one.1 in
            let part : List (ℕ × List (List ℕ)) = take 200 (drop (from - 1) found.rows) in
            record {
              derivation = found.derivation;
              found = found.rows;
              given = AreGiven-found found.derivation found.rows found.found found.gives;
              new = region;
              on_edition = refl;
              attributes = refl;
              texts = refl;
              few = omega (arith, length-map part texts_of, length-take 200 (drop (from - 1) found.rows));
              two_changes = new.changed_so ∙ ap (making_changes (own_of rows 0).row ticket)
                  (is ∙ ap (region_making (published_of rows)) found.is);
            }
      ]
