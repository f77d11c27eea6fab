-- Changes that all is ready for, one after another.
use Rattle.std.proofs.Common.{◌≡◌, ℕ, ◌+◌, ◌-◌, ◌≤◌, ◌<◌, ◌==◌, ◌||◌, ◌∙◌, sym, ap, subst, refl, Bool, true, false}
use Rattle.std.proofs.Common.{List, [], ◌∷◌, ◌++◌, length, get_or, reverse, take, IsTrue, arith}
use Rattle.std.specs.Prelude.{slice_get}
use Rattle.std.proofs.lemmas.List.{reverse-append}
use Rattle.std.proofs.lemmas.List.Folds.{list_any_more}
use Rattle.desk_base.specs.Roomy.{Roomy}
use Rattle.desk_base.proofs.Bools.{or-second}
use Rattle.desk_words.specs.declared.change.Change.{Change}
use Rattle.desk_words.specs.declared.rows.batch.BatchRow.{BatchRow}
use Rattle.desk_words.specs.declared.rows.record.RecordRow.{RecordRow}
use Rattle.desk_words.specs.declared.rows.session.SessionRow.{SessionRow}
use Rattle.desk_words.specs.declared.tables.Tables.{Tables}
use Rattle.desk_words.proofs.Changes.{AreTables-changed}
use Rattle.desk_words.specs.Changes.{FitAll, changed, changed_all}
use Rattle.desk_words.specs.Tables.{AreTables, rows_of}
use Rattle.keeper_core.specs.declared.room.Fresh.{Fresh}
use Rattle.keeper_core.proofs.Rooms.{HavePlaces-fewer, IfSome-weaker}
use Rattle.keeper_core.specs.Making.{AreEmptyLists, AreFresh, HasPlaces, HasRoom, IsReady, clerk_count, is_named}
use Rattle.keeper_core.specs.Making.{is_of}

-- one of two is true
or-first : (one other : Bool) → IsTrue (one || false) → IsTrue (one || other)
or-first true other is = refl
or-first false other is = absurd cc

-- the first of two is true where the second is not
or-none : (one : Bool) → IsTrue (one || false) → IsTrue one
or-none true is = refl
or-none false is = absurd cc

-- places for more, of more clerks, are places for fewer
pub HasPlaces-fewer : {T : Type 0} (rooms : Roomy (Roomy T)) (some all : ℕ → Bool) (fewer count : ℕ)
    → ((clerk : ℕ) → IsTrue (some clerk) → IsTrue (all clerk)) → fewer ≤ count → HasPlaces rooms all count
    → HasPlaces rooms some fewer
HasPlaces-fewer {T} rooms some all fewer count among less have = record {
  clerks = omega (arith, have.clerks);
  lists = λ clerk is_named.
      let Had : Roomy T → Type 0 = λ room. count ≤ room.spare in
      let Has : Roomy T → Type 0 = λ room. fewer ≤ room.spare in
      IfSome-weaker Had Has (slice_get rooms.items clerk) (λ room enough. omega arith)
      (have.lists clerk (among clerk is_named));
}

-- room for more, of more clerks, is room for fewer
HasRoom-fewer : (tables : Tables) (some all : ℕ → Bool) (fewer count : ℕ)
    → ((clerk : ℕ) → IsTrue (some clerk) → IsTrue (all clerk)) → fewer ≤ count → HasRoom tables all count
    → HasRoom tables some fewer
HasRoom-fewer tables some all fewer count among less room = record {
  clerks = omega (arith, room.clerks);
  schemas = omega (arith, room.schemas);
  masters = omega (arith, room.masters);
  rulebooks = omega (arith, room.rulebooks);
  editions = omega (arith, room.editions);
  regions = omega (arith, room.regions);
  sessions = HasPlaces-fewer tables.sessions some all fewer count among less room.sessions;
  records = HasPlaces-fewer tables.records some all fewer count among less room.records;
  batches = HasPlaces-fewer tables.batches some all fewer count among less room.batches;
}

-- empty lists for more clerks, with more places, are such for fewer
AreEmptyLists-fewer : {T : Type 0} (fresh : List (Roomy T)) (clerks other fewer count : ℕ) → other ≤ clerks
    → fewer ≤ count → AreEmptyLists fresh clerks count → AreEmptyLists fresh other fewer
AreEmptyLists-fewer fresh clerks other fewer count less few have = record {
  enough = omega (arith, have.enough);
  empty = have.empty;
  places = HavePlaces-fewer fewer count fresh few have.places;
}

-- so are they of each kind
pub AreFresh-fewer : (fresh : Fresh) (clerks other fewer count : ℕ) → other ≤ clerks → fewer ≤ count
    → AreFresh fresh clerks count → AreFresh fresh other fewer
AreFresh-fewer fresh clerks other fewer count less few have = record {
  sessions = AreEmptyLists-fewer fresh.sessions.items clerks other fewer count less few have.sessions;
  records = AreEmptyLists-fewer fresh.records.items clerks other fewer count less few have.records;
  batches = AreEmptyLists-fewer fresh.batches.items clerks other fewer count less few have.batches;
}

-- whom the first change names is named
first-named : (change : Change) (changes : List Change) (clerk : ℕ) → IsTrue (is_named (change ∷ []) clerk)
    → IsTrue (is_named (change ∷ changes) clerk)
first-named change changes clerk is = or-first (is_of clerk change) (is_named changes clerk) is

-- whom another change names is named
other-named : (change : Change) (changes : List Change) (clerk : ℕ) → IsTrue (is_named changes clerk)
    → IsTrue (is_named (change ∷ changes) clerk)
other-named change changes clerk is = or-second (is_of clerk change) (is_named changes clerk) is

-- one change more names its clerk
named-more : (changes : List Change) (place : ℕ) (change : Change) (clerk : ℕ) → place < length changes
    → change ≡ get_or changes place change
    → is_named (take (place + 1) changes) clerk ≡ (is_named (take place changes) clerk || is_of clerk change)
named-more changes place change clerk within is =
    list_any_more (is_of clerk) changes place change within
    ∙ ap (λ one. is_named (take place changes) clerk || is_of clerk one) (sym is)

-- the clerk of one change more has places
pub HasPlaces-more : {T : Type 0} (rooms : Roomy (Roomy T)) (changes : List Change) (place : ℕ) (change : Change)
    (clerk count : ℕ) → place < length changes → change ≡ get_or changes place change
    → ((one : ℕ) → is_of one change ≡ (clerk == one))
    → HasPlaces rooms (λ one. is_named (take place changes) one || (clerk == one)) count
    → HasPlaces rooms (is_named (take (place + 1) changes)) count
HasPlaces-more rooms changes place change clerk count within is of have =
    let before : ℕ → Bool = is_named (take place changes) in
    HasPlaces-fewer rooms (is_named (take (place + 1) changes)) (λ one. before one || (clerk == one)) count count
    (λ one named. ap (λ own. before one || own) (sym (of one))
    ∙ sym (named-more changes place change one within is) ∙ named)
    (omega arith) have

-- a change without a clerk names none
pub HasPlaces-same : {T : Type 0} (rooms : Roomy (Roomy T)) (changes : List Change) (place : ℕ) (change : Change)
    (count : ℕ) → place < length changes → change ≡ get_or changes place change
    → ((one : ℕ) → is_of one change ≡ false) → HasPlaces rooms (is_named (take place changes)) count
    → HasPlaces rooms (is_named (take (place + 1) changes)) count
HasPlaces-same rooms changes place change count within is of have =
    let before : ℕ → Bool = is_named (take place changes) in
    HasPlaces-fewer rooms (is_named (take (place + 1) changes)) before count count
    (λ one named. or-none (before one) (ap (λ own. before one || own) (sym (of one))
    ∙ sym (named-more changes place change one within is) ∙ named))
    (omega arith) have

-- the clerks' lists have places of their own
pub HasRoom-own : (tables : Tables) (sessions : Roomy (Roomy SessionRow)) (records : Roomy (Roomy RecordRow))
    (batches : Roomy (Roomy BatchRow)) (named : ℕ → Bool) (count : ℕ) → HasRoom tables named count
    → HasPlaces sessions named (count - 1) → HasPlaces records named (count - 1) → HasPlaces batches named (count - 1)
    → HasRoom (record tables { sessions = sessions; records = records; batches = batches }) named (count - 1)
HasRoom-own tables sessions records batches named count room own_sessions own_records own_batches =
    assumption (
      own_sessions,
      own_records,
      own_batches,
      HasRoom-fewer tables named named (count - 1) count (λ one is. is) (omega arith) room,
    )

-- places are places for one item fewer
pub HasPlaces-less : {T : Type 0} (rooms : Roomy (Roomy T)) (named : ℕ → Bool) (count : ℕ) → HasPlaces rooms named count
    → HasPlaces rooms named (count - 1)
HasPlaces-less rooms named count have =
    HasPlaces-fewer rooms named named (count - 1) count (λ one is. is) (omega arith) have

-- all is ready for the first of them alone
pub IsReady-first : (tables : Tables) (fresh : Fresh) (change : Change) (changes : List Change)
    → IsReady tables fresh (change ∷ changes) → IsReady tables fresh (change ∷ [])
IsReady-first tables fresh change changes ready = record {
  fit = (ready.fit.0, tt);
  whole = ready.whole;
  room = HasRoom-fewer tables (is_named (change ∷ [])) (is_named (change ∷ changes)) 1 (length (change ∷ changes))
      (first-named change changes) (grind arith) ready.room;
  spare = AreFresh-fewer fresh (clerk_count (change ∷ changes)) (clerk_count (change ∷ [])) 1
      (length (change ∷ changes)) (omega arith) (grind arith) ready.spare;
}

-- after the first, all is ready for the others
pub IsReady-next : (tables new : Tables) (fresh left : Fresh) (change : Change) (changes : List Change)
    → IsReady tables fresh (change ∷ changes) → rows_of new ≡ changed (rows_of tables) change
    → ((named : ℕ → Bool) (clerks count : ℕ) → HasRoom tables named count → AreFresh fresh clerks count
    → HasRoom new named (count - 1))
    → ((clerks count : ℕ) → AreFresh fresh (clerk_count (change ∷ []) + clerks) count → AreFresh left clerks count)
    → IsReady new left changes
IsReady-next tables new fresh left change changes ready rows room spare =
    let most : ℕ = length (change ∷ changes) in
    record {
      fit = subst (λ one. FitAll one changes) (sym rows) ready.fit.1;
      whole = subst AreTables (sym rows) (AreTables-changed (rows_of tables) change ready.fit.0 ready.whole);
      room = HasRoom-fewer new (is_named changes) (is_named (change ∷ changes)) (length changes) (most - 1)
          (other-named change changes) (grind arith)
          (room (is_named (change ∷ changes)) (clerk_count (change ∷ changes)) most ready.room ready.spare);
      spare = spare (clerk_count changes) (length changes)
          (AreFresh-fewer fresh (clerk_count (change ∷ changes)) (clerk_count (change ∷ []) + clerk_count changes)
          (length changes) most (omega arith) (grind arith) ready.spare);
    }

-- the last of a list comes first where it is turned round
pub reverse-push : {A : Type 0} (items : List A) (last : A) → reverse (items ++ last ∷ []) ≡ last ∷ reverse items
reverse-push items last = reverse-append items (last ∷ [])

-- changes that are left, of which the last is made first
module _ (tables : Tables) (fresh : Fresh) (left others : List Change) (last : Change) (is : left ≡ others ++ last ∷ [])
    (ready : IsReady tables fresh (reverse left)) where
  -- turned round, they are the last and then the others
  left-turned : reverse left ≡ last ∷ reverse others
  left-turned = ap reverse is ∙ reverse-push others last

  -- all is ready for the last
  pub IsReady-last : IsReady tables fresh (last ∷ [])
  IsReady-last = IsReady-first tables fresh last (reverse others) (subst (IsReady tables fresh) left-turned ready)

  module _ (new : Tables) (rows : rows_of new ≡ changed (rows_of tables) last) where
    -- after it the others make the tables what all would make them
    pub changed_all-others : changed_all (rows_of new) (reverse others) ≡ changed_all (rows_of tables) (reverse left)
    changed_all-others = ap (λ one. changed_all one (reverse others)) rows
        ∙ ap (changed_all (rows_of tables)) (sym left-turned)

    -- and all is ready for them
    pub IsReady-others : (spare : Fresh)
        → ((named : ℕ → Bool) (clerks count : ℕ) → HasRoom tables named count → AreFresh fresh clerks count
        → HasRoom new named (count - 1))
        → ((clerks count : ℕ) → AreFresh fresh (clerk_count (last ∷ []) + clerks) count → AreFresh spare clerks count)
        → IsReady new spare (reverse others)
    IsReady-others spare = IsReady-next tables new fresh spare last (reverse others)
        (subst (IsReady tables fresh) left-turned ready) rows
