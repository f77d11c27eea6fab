-- The tables in their order, and what is known of each.
use Rattle.std.proofs.Common.{◌≡◌, ℕ, zero, suc, ◌+◌, ◌<◌, ◌≤◌, List, [], ◌∷◌, length, get_or, Some, sym, subst, ap}
use Rattle.std.proofs.Common.{◌∙◌, refl, inl, inr, arith}
use Rattle.std.specs.Prelude.{All}
use Rattle.std.proofs.lemmas.Bool.{cases_lt}
use Rattle.std.proofs.lemmas.List.{get_or_past}
use Rattle.std.proofs.lemmas.List.Sums.{sum_by_more_le, sum_by-le}
use Rattle.std.proofs.lemmas.List.Elements.{All-weaker}
use Rattle.std.proofs.lemmas.Option.{slice_get_within}
use Rattle.desk_words.specs.Tables.{AreListsOf, AreTables, IsShort, Rows, list_at}
use Rattle.desk_valid.specs.declared.table.Table.{Table}
use Rattle.desk_valid.specs.declared.table.Table.TheVariants.{Clerks, Schemas, Masters, Rulebooks, Editions, Regions}
use Rattle.desk_valid.specs.declared.table.Table.TheVariants.{Sessions, Records, Batches}
use Rattle.desk_valid.specs.Damage.{FailsOwn, IsDamaged, IsFirstDamage, number_of}
use Rattle.desk_valid.specs.FirstDamaged.{IsFirstDamaged, IsWhole}
use Rattle.desk_valid.specs.Valid.{AreValid}

-- the table of a number
abbrev numbered : ℕ → Table
numbered (suc zero) = Clerks
numbered (suc (suc zero)) = Schemas
numbered (suc (suc (suc zero))) = Masters
numbered (suc (suc (suc (suc zero)))) = Rulebooks
numbered (suc (suc (suc (suc (suc zero))))) = Editions
numbered (suc (suc (suc (suc (suc (suc zero)))))) = Regions
numbered (suc (suc (suc (suc (suc (suc (suc zero))))))) = Sessions
numbered (suc (suc (suc (suc (suc (suc (suc (suc zero)))))))) = Records
numbered number = Batches

-- the number of a table tells the table
numbered-number_of : (table : Table) → numbered (number_of table) ≡ table
numbered-number_of Clerks = refl
numbered-number_of Schemas = refl
numbered-number_of Masters = refl
numbered-number_of Rulebooks = refl
numbered-number_of Editions = refl
numbered-number_of Regions = refl
numbered-number_of Sessions = refl
numbered-number_of Records = refl
numbered-number_of Batches = refl

-- no two tables have a number
same-number : (one other : Table) → number_of one ≡ number_of other → one ≡ other
same-number one other same = sym (numbered-number_of one) ∙ ap numbered same ∙ numbered-number_of other

-- there are nine
pub number_of-most : (table : Table) → number_of table ≤ 9
number_of-most Clerks = omega arith
number_of-most Schemas = omega arith
number_of-most Masters = omega arith
number_of-most Rulebooks = omega arith
number_of-most Editions = omega arith
number_of-most Regions = omega arith
number_of-most Sessions = omega arith
number_of-most Records = omega arith
number_of-most Batches = omega arith

-- a whole table is not damaged
undamaged : (rows : Rows) (table : Table) → IsWhole rows table → (place : ℕ) → IsDamaged rows table place → ⊥
undamaged rows Clerks whole place fails = fails.bad (whole place fails.row fails.stands)
undamaged rows Schemas whole place fails = fails.bad (whole place fails.row fails.stands)
undamaged rows Masters whole place fails = fails.bad (whole place fails.row fails.stands)
undamaged rows Rulebooks whole place fails = fails.bad (whole place fails.row fails.stands)
undamaged rows Editions whole place fails = fails.bad (whole place fails.row fails.stands)
undamaged rows Regions whole place fails = fails.bad (whole place fails.row fails.stands)
undamaged rows Sessions whole place fails =
    fails.fails.bad (whole fails.clerk fails.own fails.fails.row fails.fails.stands)
undamaged rows Records whole place fails =
    fails.fails.bad (whole fails.clerk fails.own fails.fails.row fails.fails.stands)
undamaged rows Batches whole place fails =
    fails.fails.bad (whole fails.clerk fails.own fails.fails.row fails.fails.stands)

-- the first damaged row of a table after whole ones is the first damage
pub IsFirstDamage-from : (rows : Rows) (table : Table) (place : ℕ)
    → ((other : Table) → number_of other < number_of table → IsWhole rows other)
    → IsFirstDamaged rows table (Some place) → IsFirstDamage rows (record { table = number_of table; row = place + 1 })
IsFirstDamage-from rows table place whole found = record {
  table = table;
  place = place;
  named = refl;
  damaged = found.0;
  first = λ other earlier before damaged.
      let Damaged : Table → Type 0 = λ one. IsDamaged rows one earlier in
      elim before [
        | inl less ↦ undamaged rows other (whole other less) earlier damaged
        | inr both ↦ found.1 earlier both.1 (subst Damaged (same-number other table both.0) damaged)
      ];
}

-- one whole table more
pub IsWhole-more : (rows : Rows) (count : ℕ) (table : Table) → number_of table ≡ count + 1
    → ((other : Table) → number_of other ≤ count → IsWhole rows other) → IsWhole rows table
    → (other : Table) → number_of other ≤ count + 1 → IsWhole rows other
IsWhole-more rows count table is whole last other most =
    elim (cases_lt (number_of other) (count + 1)) [
      | inl less ↦ whole other (omega arith)
      | inr least ↦
          let same : number_of other ≡ number_of table = omega arith in
          let Whole : Table → Type 0 = IsWhole rows in
          subst Whole (sym (same-number other table same)) last
    ]

-- tables that are all whole are valid
pub AreValid-from : (rows : Rows) → AreTables rows → ((table : Table) → IsWhole rows table) → AreValid rows
AreValid-from rows are whole = record {
  tables = are;
  clerks = whole Clerks;
  schemas = whole Schemas;
  masters = whole Masters;
  rulebooks = whole Rulebooks;
  editions = whole Editions;
  regions = whole Regions;
  sessions = whole Sessions;
  records = whole Records;
  batches = whole Batches;
}

-- a place through the lists of clerks is below 2 ^ 62
own-fits : {T : Type 0} (count : ℕ) (lists : List (List T)) (IsGood : ℕ → ℕ → T → Type 0) (place : ℕ)
    → count < 2147483648 → AreListsOf count lists
    → FailsOwn lists IsGood place → place < 4611686018427387904
own-fits {T} count lists IsGood place few are fails =
    let own : fails.own < length (list_at lists fails.clerk) = slice_get_within (list_at lists fails.clerk) fails.own
    fails.fails.row fails.fails.stands in
    elim (cases_lt fails.clerk (length lists)) [
      | inl within ↦
          let all : All (λ (list : List T). length list ≤ 2147483648) lists = All-weaker IsShort
          (λ list. length list ≤ 2147483648) (λ list short. omega arith) lists are.short in
          omega (
            arith,
            fails.joined,
            are.each,
            sum_by_more_le length lists fails.clerk [] within,
            sum_by-le length
                2147483648 lists all,
          )
      | inr past ↦ absurd (omega (arith, ap length (get_or_past lists fails.clerk [] past)))
    ]

-- and so is each damaged row's
pub place-fits : (rows : Rows) (table : Table) (place : ℕ) → AreTables rows → IsDamaged rows table place
    → place < 4611686018427387904
place-fits rows Clerks place are fails =
    omega (arith, are.clerks, slice_get_within rows.clerks place fails.row fails.stands)
place-fits rows Schemas place are fails =
    omega (arith, are.schemas, slice_get_within rows.schemas place fails.row fails.stands)
place-fits rows Masters place are fails =
    omega (arith, are.masters, slice_get_within rows.masters place fails.row fails.stands)
place-fits rows Rulebooks place are fails =
    omega (arith, are.rulebooks, slice_get_within rows.rulebooks place fails.row fails.stands)
place-fits rows Editions place are fails =
    omega (arith, are.editions, slice_get_within rows.editions place fails.row fails.stands)
place-fits rows Regions place are fails =
    omega (arith, are.regions, slice_get_within rows.regions place fails.row fails.stands)
place-fits rows Sessions place are fails =
    own-fits (length rows.clerks) rows.sessions _ place are.clerks are.sessions fails
place-fits rows Records place are fails =
    own-fits (length rows.clerks) rows.records _ place are.clerks are.records fails
place-fits rows Batches place are fails =
    own-fits (length rows.clerks) rows.batches _ place are.clerks are.batches fails

-- the tables in their order
abbrev pub tables : List Table
tables = Clerks ∷ Schemas ∷ Masters ∷ Rulebooks ∷ Editions ∷ Regions ∷ Sessions ∷ Records ∷ Batches ∷ []

-- the one at a place
abbrev pub table_at : ℕ → Table
table_at place = get_or tables place Clerks

-- each has its number
pub number_of-table_at : (place : ℕ) → place < 9 → number_of (table_at place) ≡ place + 1
number_of-table_at zero below = refl
number_of-table_at (suc zero) below = refl
number_of-table_at (suc (suc zero)) below = refl
number_of-table_at (suc (suc (suc zero))) below = refl
number_of-table_at (suc (suc (suc (suc zero)))) below = refl
number_of-table_at (suc (suc (suc (suc (suc zero))))) below = refl
number_of-table_at (suc (suc (suc (suc (suc (suc zero)))))) below = refl
number_of-table_at (suc (suc (suc (suc (suc (suc (suc zero))))))) below = refl
number_of-table_at (suc (suc (suc (suc (suc (suc (suc (suc zero)))))))) below = refl
number_of-table_at (suc (suc (suc (suc (suc (suc (suc (suc (suc place))))))))) below = absurd (omega arith)
