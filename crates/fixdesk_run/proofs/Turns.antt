-- The turn of a desk counts the requests that were accepted: each raises it by one, and no other changes it.
use Rattle.std.proofs.Common.{◌≡◌, ◌⊎◌, ◌∙◌, ℕ, suc, ◌+◌, ◌<◌, ◌≤◌, List, [], ◌∷◌, length, get_or, set, inl, inr}
use Rattle.std.proofs.Common.{refl, sym, ap, arith}
use Rattle.std.specs.List.{sum_by}
use Rattle.std.proofs.lemmas.List.{length-append, length-map}
use Rattle.std.proofs.lemmas.List.Sums.{sum_by-cons, sum_by-set}
use Rattle.desk_words.specs.declared.change.Change.{Change}
use Rattle.desk_words.specs.declared.command.Command.{Command}
use Rattle.desk_words.specs.declared.command.Ticket.{Ticket}
use Rattle.desk_words.specs.declared.reply.Reply.{Reply}
use Rattle.desk_words.specs.declared.rows.clerk.ClerkRow.{ClerkRow}
use Rattle.desk_words.specs.declared.clerk_work.ClerkWork.{ClerkWork}
use Rattle.desk_words.specs.declared.steward_work.StewardWork.{StewardWork}
use Rattle.desk_words.specs.Changes.{changed, changed_all}
use Rattle.desk_words.specs.Tables.{Rows, new_clerk}
use Rattle.desk_valid.specs.Valid.{AreValid}
use Rattle.machine_core.specs.declared.making.Making.{Making}
use Rattle.machine_core.specs.Machine.{IsStep}
use Rattle.machine_core.specs.Own.{Own, own_of}
use Rattle.machine_core.specs.Ticket.{ticketed, turn_of}
use Rattle.machine_laws.proofs.Accepted.{making-sound}
use Rattle.machine_laws.proofs.Again.{use-fresh}
use Rattle.machine_laws.proofs.Callers.{names_of}
use Rattle.machine_laws.proofs.Makings.{IsSoundMaking}
use Rattle.machine_laws.proofs.Staying.{IsAccepted, after-clerk, after-steward, by_clerk, by_steward, step-cases}
use Rattle.machine_laws.proofs.Writes.{IsNew, IsStewardsNew}

-- ---- sums

-- a sum of nothing but zeros
zeros : {T : Type 0} (f : T → ℕ) (past : T) (items : List T)
    → ((place : ℕ) → place < length items → f (get_or items place past) ≡ 0) → sum_by f items ≡ 0
zeros f past [] none = refl
zeros f past (item ∷ items) none =
    let first : f item ≡ 0 = none 0 (omega arith) in
    let rest : sum_by f items ≡ 0 = zeros f past items (λ place within. none (suc place) (omega (arith, within))) in
    omega (arith, sum_by-cons f item items, first, rest)

-- a list that goes on with nothing but zeros has the same sum
longer : {T : Type 0} (f : T → ℕ) (past : T) (items others : List T) → length items ≤ length others
    → ((place : ℕ) → place < length items → get_or others place past ≡ get_or items place past)
    → ((place : ℕ) → length items ≤ place → place < length others → f (get_or others place past) ≡ 0)
    → sum_by f others ≡ sum_by f items
longer f past [] others few same none = zeros f past others (λ place within. none place (omega arith) within)
longer f past (item ∷ items) [] few same none = absurd (omega arith)
longer f past (item ∷ items) (other ∷ others) few same none =
    let first : f other ≡ f item = ap f (same 0 (omega arith)) in
    let rest : sum_by f others ≡ sum_by f items = longer f past items others (omega (arith, few))
    (λ place within. same (suc place) (omega (arith, within)))
    (λ place following within. none (suc place) (omega (arith, following)) (omega (arith, within))) in
    omega (arith, sum_by-cons f item items, sum_by-cons f other others, first, rest)

-- the number of a caller's last accepted request
abbrev last_of : ClerkRow → ℕ
last_of row = row.last

-- a row with the next number raises the turn by one
turn-set : (clerks : List ClerkRow) (place : ℕ) (row : ClerkRow) → place < length clerks
    → row.last ≡ (get_or clerks place (new_clerk [])).last + 1 → turn_of (set clerks place row) ≡ turn_of clerks + 1
turn-set clerks place row within next =
    omega (arith, sum_by-set last_of clerks place row (new_clerk []) within, next)

-- ---- requests

module _ (rows : Rows) (valid : AreValid rows) where
  -- what the steward makes leaves the numbers of callers, and a new caller has none
  turn-making : (making : Making) → IsSoundMaking rows making
      → turn_of (changed rows making.change).clerks ≡ turn_of rows.clerks
  turn-making making sound =
      let after : List ClerkRow = (changed rows making.change).clerks in
      let few : length rows.clerks ≤ length after = omega (
        arith,
        ap length sound.names.1,
        length-append (names_of rows.clerks) sound.names.0,
        length-map rows.clerks (λ row. row.name),
        length-map after (λ row. row.name),
      ) in
      longer last_of (new_clerk []) rows.clerks after few
      (λ place within. ap (λ (own : Own). own.row) (sound.own place within))
      (λ place following within. ap (λ (own : Own). own.row.last) (sound.new place following within).1)

  turn-steward : (ticket : Ticket) (work : StewardWork) (answer : Reply) (changes : List Change)
      → IsStewardsNew rows ticket work answer changes
      → turn_of (changed_all rows changes).clerks ≡ turn_of rows.clerks + 1
  turn-steward ticket work answer changes new =
      let sound = making-sound rows work new.making valid new.makes in
      let next : Rows = changed rows new.making.change in
      let row : ClerkRow = ticketed (own_of rows 0).row ticket new.making.act new.making.target in
      let same : (own_of next 0).row ≡ (own_of rows 0).row =
      ap (λ (own : Own). own.row) (sound.own 0 valid.tables.steward) in
      let number : row.last ≡ (own_of next 0).row.last + 1 =
      use-fresh (own_of rows 0).row ticket new.use_made ∙ ap (λ (one : ClerkRow). one.last + 1) (sym same) in
      let raised = turn-set next.clerks 0 row sound.valid.tables.steward number in
      ap (λ (one : Rows). turn_of one.clerks) (after-steward rows valid ticket work answer changes new) ∙ raised
      ∙ ap (λ turn. turn + 1) (turn-making new.making sound)

  turn-clerk : (name : List ℕ) (ticket : Ticket) (work : ClerkWork) (answer : Reply) (changes : List Change)
      → IsNew rows name ticket work answer changes → turn_of (changed_all rows changes).clerks ≡ turn_of rows.clerks + 1
  turn-clerk name ticket work answer changes new =
      let own : Own = own_of rows new.place in
      let row : ClerkRow = ticketed own.row ticket new.deed.act new.deed.target in
      ap (λ (one : Rows). turn_of one.clerks) (after-clerk rows valid name ticket work answer changes new)
      ∙ turn-set rows.clerks new.place row new.is_place.within (use-fresh own.row ticket new.use_made)

  turn-accepted : (command : Command) (answer : Reply) (changes : List Change) → IsAccepted rows command answer changes
      → turn_of (changed_all rows changes).clerks ≡ turn_of rows.clerks + 1
  turn-accepted command answer changes (by_clerk name ticket work answer' changes' new) =
      turn-clerk name ticket work answer changes new
  turn-accepted command answer changes (by_steward ticket work answer' changes' new) =
      turn-steward ticket work answer changes new

  -- a step changes nothing, or raises the turn by one
  pub step-turn : (command : Command) (answer : Reply) (changes : List Change) → IsStep rows command answer changes
      → (changes ≡ []) ⊎ (turn_of (changed_all rows changes).clerks ≡ turn_of rows.clerks + 1)
  step-turn command answer changes step = elim (step-cases rows command answer changes step) [
    | inl none ↦ inl none
    | inr accepted ↦ inr (turn-accepted command answer changes accepted)
  ]
