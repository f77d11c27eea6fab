-- How many attributes the sessions of an edition have.
use Rattle.std.proofs.Common.{◌≡◌, ◌∙◌, ℕ, ◌<◌, ◌≤◌, Bool, true, false, List, [], ◌∷◌, length, map, set, replicate}
use Rattle.std.proofs.Common.{Option, Some, refl, sym, ap, subst, arith}
use Rattle.std.specs.Prelude.{IfSome, IsSomeAnd, option_map, slice_get}
use Rattle.std.specs.List.{range_with_len}
use Rattle.std.proofs.lemmas.List.{length-map, length-replicate, length-set}
use Rattle.std.proofs.lemmas.List.FromFn.{length-range_with_len}
use Rattle.std.proofs.lemmas.Option.{option_and_then_some, slice_get_within}
use Rattle.desk_base.specs.Places.{is_listed}
use Rattle.desk_words.specs.declared.rows.batch.BatchRow.{BatchRow}
use Rattle.desk_words.specs.declared.rows.session.SessionRow.{SessionRow}
use Rattle.desk_words.specs.Tables.{Published, Rows, published_of}
use Rattle.desk_valid.specs.declared.bound.Bound.{Bound}
use Rattle.desk_valid.specs.Bindings.{IsNamedKit, binding, bound_at, bound_in, bound_of, names_of, parts_of}
use Rattle.desk_valid.specs.Readings.{all_of, master_at, read, rules_at, width_at}
use Rattle.desk_valid.specs.Rows.Session.{IsSessionRow}
use Rattle.desk_valid.specs.Valid.{AreValid}
use Rattle.desk_valid.proofs.Kits.{edition-kit}
use Rattle.desk_valid.proofs.Named.{option_map-Some}
use Rattle.machine_core.specs.Clerk.Confirm.{confirmed_at}
use Rattle.machine_core.specs.Clerk.Enter.{new_session, typed_over}
use Rattle.machine_core.specs.Clerk.Withdraw.{cleared}

-- an edition that has a kit stands
pub edition-stands : (published : Published) (edition : ℕ) (bound : Bound) → bound_at published edition ≡ Some bound
    → edition < length published.editions
edition-stands published edition bound is =
    option_and_then_some (bound_in published) (slice_get published.editions edition) bound is
    (λ row stands made. slice_get_within published.editions edition row stands)

-- it has as many attributes as its kit has names of them
pub width-bound : (published : Published) (edition : ℕ) (bound : Bound) → bound_at published edition ≡ Some bound
    → width_at published edition ≡ Some (length bound.names.attributes)
width-bound published edition bound is =
    option_and_then_some (bound_in published) (slice_get published.editions edition) bound is (λ row stands made.
    option_and_then_some (λ parts. bound_of parts row.folded) (parts_of published row) bound made (λ parts whole named.
    let kit = option_map-Some (λ kit. let one : Bound = record { kit = kit; names = names_of parts } in one)
    (read (binding parts row.folded)) bound named in
    option_and_then_some (λ rules. option_map (λ masters. record { rules = rules; masters = masters })
    (all_of (map (master_at published) row.masters))) (rules_at published row.rulebook) parts whole (λ rules found rest.
    let masters = option_map-Some (λ masters. record { rules = rules; masters = masters })
    (all_of (map (master_at published) row.masters)) parts rest in
    let names : length rules.schema.attributes ≡ length bound.names.attributes =
    ap (λ one. length one.rules.schema.attributes) masters.2
    ∙ ap (λ (one : Bound). length one.names.attributes) kit.2 in
    rw (stands, found, names) refl)))

-- the kit of an edition of valid tables is valid, and each of its places has a name
pub named-kit : (rows : Rows) (edition : ℕ) (bound : Bound) → AreValid rows
    → bound_at (published_of rows) edition ≡ Some bound → IsNamedKit bound
named-kit rows edition bound valid is =
    let Named : Option Bound → Type 0 = λ found. IsSomeAnd found IsNamedKit in
    subst Named is (edition-kit rows edition valid (edition-stands (published_of rows) edition bound is))

-- so it is as wide
pub kit-width : (rows : Rows) (edition : ℕ) (bound : Bound) → AreValid rows
    → bound_at (published_of rows) edition ≡ Some bound → length bound.names.attributes ≡ bound.kit.width
kit-width rows edition bound valid is = (named-kit rows edition bound valid is).attributes

-- and has at most 48 attributes
pub few-attributes : (rows : Rows) (edition : ℕ) (bound : Bound) → AreValid rows
    → bound_at (published_of rows) edition ≡ Some bound → length bound.names.attributes ≤ 48
few-attributes rows edition bound valid is =
    let named = named-kit rows edition bound valid is in
    omega (arith, named.attributes, named.valid.narrow)

-- and so is a session on it that is a good row
pub typed-width : (published : Published) (batches : List BatchRow) (session : SessionRow) (bound : Bound)
    → bound_at published session.edition ≡ Some bound → IsSessionRow published batches session
    → length session.typed ≡ length bound.names.attributes
typed-width published batches session bound is good =
    subst (λ found. IfSome found (λ width. length session.typed ≡ width))
    (width-bound published session.edition bound is)
    good.typed

-- it has as many flags
pub confirmed-width : (published : Published) (batches : List BatchRow) (session : SessionRow) (bound : Bound)
    → bound_at published session.edition ≡ Some bound → IsSessionRow published batches session
    → length session.confirmed ≡ length bound.names.attributes
confirmed-width published batches session bound is good =
    subst (λ found. IfSome found (λ width. length session.confirmed ≡ width))
    (width-bound published session.edition bound is)
    good.confirmed

-- what is typed and confirmed keeps its length
pub length-typed_over : (texts : List (List ℕ)) (cells : List (ℕ × List ℕ))
    → length (typed_over texts cells) ≡ length texts
length-typed_over texts [] = refl
length-typed_over texts ((place, text) ∷ others) =
    length-typed_over (set texts place text) others ∙ length-set texts place text

pub length-confirmed_at : (flags : List Bool) (places : List ℕ) → length (confirmed_at flags places) ≡ length flags
length-confirmed_at flags [] = refl
length-confirmed_at flags (place ∷ places) =
    length-confirmed_at (set flags place true) places ∙ length-set flags place true

pub length-cleared : (flags : List Bool) (places : List ℕ) → length (cleared flags places) ≡ length flags
length-cleared flags [] = refl
length-cleared flags (place ∷ places) = length-cleared (set flags place false) places ∙ length-set flags place false

-- a new session on an edition is a good row
pub IsSessionRow-new : (published : Published) (batches : List BatchRow) (edition : ℕ) (bound : Bound)
    (cells : List (ℕ × List ℕ)) (confirmed : List ℕ) (batch : ℕ) → bound_at published edition ≡ Some bound
    → batch ≤ length batches
    → IsSessionRow published batches (new_session edition (length bound.names.attributes) cells confirmed batch)
IsSessionRow-new published batches edition bound cells confirmed batch is within =
    let width : ℕ = length bound.names.attributes in
    let session : SessionRow = new_session edition width cells confirmed batch in
    let typed : length session.typed ≡ width =
    length-typed_over (replicate width []) cells ∙ length-replicate width [] in
    let flags : length session.confirmed ≡ width =
    length-map (range_with_len 0 width) (is_listed confirmed) ∙ length-range_with_len 0 width in
    record {
      edition = edition-stands published edition bound is;
      typed = subst (λ found. IfSome found (λ one. length session.typed ≡ one))
          (sym (width-bound published edition bound is))
          typed;
      confirmed = subst (λ found. IfSome found (λ one. length session.confirmed ≡ one))
          (sym (width-bound published edition bound is)) flags;
      batch = within;
    }
