-- The first row through the lists of the clerks, one after the other.
use Rattle.std.proofs.Common.{◌≡◌, ℕ, ◌+◌, ◌*◌, ◌<◌, ◌≤◌, List, [], length, take, Some, sym, subst, ap, inl, inr, arith}
use Rattle.std.specs.Prelude.{All, slice_get, sum_by}
use Rattle.std.proofs.lemmas.Bool.{cases_lt, cases_order}
use Rattle.std.proofs.lemmas.List.{get_or_past, take_all, take-take}
use Rattle.std.proofs.lemmas.List.Sums.{sum_by_more, sum_by-take-le}
use Rattle.std.proofs.lemmas.Option.{slice_get_within}
use Rattle.desk_words.specs.Tables.{IsShort, list_at}
use Rattle.desk_valid.specs.Damage.{FailsAt, rows_before}
use Rattle.desk_valid.specs.FirstDamaged.{EachBefore, IsFirstBad, IsFirstOwn}
use Rattle.desk_valid.specs.Valid.{EachAt, EachOwn}

-- the rows of one list more
rows_before-more : {T : Type 0} (lists : List (List T)) (clerk : ℕ)
    → rows_before lists (clerk + 1) ≡ rows_before lists clerk + length (list_at lists clerk)
rows_before-more {T} lists clerk =
    elim (cases_lt clerk (length lists)) [
      | inl within ↦ sum_by_more length lists clerk [] within
      | inr past ↦
          let all : take clerk lists ≡ lists = take_all clerk lists past in
          let more : take (clerk + 1) lists ≡ lists = take_all (clerk + 1) lists (omega arith) in
          let none : list_at lists clerk ≡ [] = get_or_past lists clerk [] past in
          let total : List (List T) → ℕ = λ some. sum_by length some in
          omega (arith, ap total all, ap total more, ap length none)
    ]

-- a later clerk's rows stand after those of an earlier one
rows_before-later : {T : Type 0} (lists : List (List T)) (clerk other : ℕ) → clerk < other
    → rows_before lists clerk + length (list_at lists clerk) ≤ rows_before lists other
rows_before-later {T} lists clerk other less =
    let total : List (List T) → ℕ = λ some. sum_by length some in
    let cut : take (clerk + 1) (take other lists) ≡ take (clerk + 1) lists = take-take (clerk + 1) other lists
    (omega arith) in
    omega (arith, rows_before-more lists clerk, sum_by-take-le length (take other lists) (clerk + 1), ap total cut)

-- the rows of the clerks before this one are counted, and each is good
pub record AreCounted {T : Type 0} (lists : List (List T)) (IsGood : ℕ → ℕ → T → Type 0) (before clerk : ℕ) : Type 0
  where
    pub counted : before ≡ rows_before lists clerk
    pub few : before ≤ clerk * 2147483648
    pub good : (earlier : ℕ) → earlier < clerk → EachAt (list_at lists earlier) (IsGood earlier)

-- a list is short
short-list_at : {T : Type 0} (lists : List (List T)) (clerk : ℕ) → All IsShort lists
    → length (list_at lists clerk) < 2147483648
short-list_at lists clerk short =
    elim (cases_lt clerk (length lists)) [
      | inl within ↦ short clerk [] within
      | inr past ↦ rw (get_or_past lists clerk [] past) (omega arith)
    ]

module _ {T : Type 0} (lists : List (List T)) (IsGood : ℕ → ℕ → T → Type 0) where
  -- no row fails before the first bad one of its list
  fails_not : (clerk own other place : ℕ) → other ≡ clerk → EachBefore (list_at lists clerk) (IsGood clerk) own
      → place < own
      → FailsAt (list_at lists other) (IsGood other) place → ⊥
  fails_not clerk own other place same before below fails =
      let Before : ℕ → Type 0 = λ n. EachBefore (list_at lists n) (IsGood n) own in
      fails.bad (subst Before (sym same) before place fails.row below fails.stands)

  -- the first bad row of a list, after lists of good rows
  pub IsFirstOwn-found : (before clerk own : ℕ) → AreCounted lists IsGood before clerk
      → IsFirstBad (list_at lists clerk) (IsGood clerk) (Some own) → IsFirstOwn lists IsGood (Some (before + own))
  IsFirstOwn-found before clerk own have found =
      let within : own < length (list_at lists clerk) = slice_get_within (list_at lists clerk) own found.0.row
      found.0.stands in (
        record { clerk = clerk; own = own; joined = ap (λ n. n + own) have.counted; fails = found.0 },
        λ earlier below fails.
            elim (cases_order fails.clerk clerk) [
              | inl same ↦
                  let level : rows_before lists fails.clerk ≡ rows_before lists clerk = ap (rows_before lists) same in
                  fails_not clerk own fails.clerk fails.own same found.1
                  (omega (arith, level, fails.joined, have.counted)) fails.fails
              | inr (inl less) ↦ fails.fails.bad (have.good fails.clerk less fails.own fails.fails.row
                  fails.fails.stands)
              | inr (inr more) ↦ absurd (omega (
                arith,
                rows_before-later lists clerk fails.clerk more,
                fails.joined,
                have.counted,
              ))
            ],
      )

  -- one list of good rows more
  EachAt-more : (clerk : ℕ) → ((earlier : ℕ) → earlier < clerk → EachAt (list_at lists earlier) (IsGood earlier))
      → EachAt (list_at lists clerk) (IsGood clerk) → (earlier : ℕ) → earlier < clerk + 1
      → EachAt (list_at lists earlier) (IsGood earlier)
  EachAt-more clerk good last earlier below =
      elim (cases_lt earlier clerk) [
        | inl less ↦ good earlier less
        | inr least ↦
            let same : earlier ≡ clerk = omega arith in
            let Good : ℕ → Type 0 = λ n. EachAt (list_at lists n) (IsGood n) in
            subst Good (sym same) last
      ]

  pub AreCounted-more : {own : List T} (before clerk : ℕ) → All IsShort lists → own ≡ list_at lists clerk
      → AreCounted lists IsGood before clerk → EachAt (list_at lists clerk) (IsGood clerk)
      → AreCounted lists IsGood (before + length own) (clerk + 1)
  AreCounted-more {own} before clerk short is have good = record {
    counted = omega (arith, have.counted, ap length is, rows_before-more lists clerk);
    few = omega (arith, have.few, ap length is, short-list_at lists clerk short);
    good = EachAt-more clerk have.good good;
  }

  -- past the last list there is no row
  pub EachOwn-all : (before count : ℕ) → length lists ≤ count → AreCounted lists IsGood before count
      → EachOwn lists IsGood
  EachOwn-all before count enough have clerk place row stands =
      elim (cases_lt clerk count) [
        | inl less ↦ have.good clerk less place row stands
        | inr least ↦
            let long : length lists ≤ clerk = omega arith in
            let none : list_at lists clerk ≡ [] = get_or_past lists clerk [] long in
            let found : slice_get [] place ≡ Some row = subst (λ (list : List T). slice_get list place ≡ Some row)
            none stands in
            absurd (cc)
      ]
