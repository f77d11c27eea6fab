-- A walk of matchit finds a route for each target that spells a pattern of the table, and it is that pattern's.
use Rattle.std.proofs.Common.{◌≡◌, ◌≢◌, ℕ, zero, suc, ◌-◌, ◌⊎◌, Bool, true, false, cond, ◌&&◌, ◌==◌, ltb, List, [], ◌∷◌}
use Rattle.std.proofs.Common.{◌++◌, length, drop, Option, Some, None, Result, Ok, Err, refl, sym, ap, ◌∙◌, subst, arith}
use Rattle.std.proofs.Common.{nat_eq, append-nil, length-append, inl, inr}
use Rattle.std.specs.Prelude.{⊤, is_some, option_map, Contains}
use Rattle.std.specs.List.{list_all, ends_with}
use Rattle.std.proofs.lemmas.Bool.{cases_Bool, and_parts, and_from, eqb-true, eq-eqb, lt-ltb, both_ways}
use Rattle.std.proofs.Math.Seq.{drop-append_seam}
use Rattle.std.proofs.lemmas.List.{drop_all}
use Rattle.std.specs.Option.{option_map_or}
use Rattle.matchit.specs.Rows.{RowsOf, param_token, comes_before}
use Rattle.matchit.specs.Route.{Scan, parse_route}
use Rattle.matchit.specs.Order.{placed}
use Rattle.matchit.specs.Router.{RouteOf, route_from}
use Rattle.matchit.specs.Seek.{first, segment, has_slash, same_text, cuts, better, own, step, or_else, longest_from}
use Rattle.matchit.specs.Seek.{longest_suffix, with_suffix, param_step, seek}
use Rattle.matchit.specs.Level.{IsText}
use Rattle.matchit.specs.declared.error.InsertError.{InsertError}
use Rattle.matchit.proofs.OnLiterals.{matchit_on_literals}
use Rattle.matchit.proofs.ParamLemmas.{same_text-self, better-empty}
use Rattle.http_cut.specs.declared.route.Route.{Route}
use Rattle.http_cut.specs.Routes.{Rows, Match, patterns, placed_read, rows_with, rows_after, route_rows, match_of}
use Rattle.http_cut.specs.Routes.{parts_of, Spells, at_end, byte, tokens_read, tokens_of, SpellsRoute}
use Rattle.http_cut.proofs.Seeking.{Has, seek_found}
use Rattle.http_cut.proofs.Segments.{is_plain, starts_segment, following_param, slash_apart, no_slash, spells_cases}
use Rattle.http_cut.proofs.Segments.{differ, differ_apart}
use Rattle.http_cut.proofs.Spelling.{spells}
use Rattle.http_cut.proofs.Table.{ArePlain, table_plain, Has-plain}

-- ---- segments

-- a word without a slash is its own segment, and a slash after it ends the segment
segment-word : (word : List ℕ) → has_slash word ≡ false → segment word ≡ word
segment-word [] free = refl
segment-word (x ∷ word) free =
    elim (cases_Bool (x == 47)) [
      | inl slash ↦ absurd (slash_apart x word free slash)
      | inr other ↦ rw other (ap (λ (t : List ℕ). x ∷ t) (segment-word word (no_slash x word free)))
    ]

segment-slash : (word rest : List ℕ) → has_slash word ≡ false → segment (word ++ 47 ∷ rest) ≡ word ++ 47 ∷ []
segment-slash [] rest free = refl
segment-slash (x ∷ word) rest free =
    elim (cases_Bool (x == 47)) [
      | inl slash ↦ absurd (slash_apart x word free slash)
      | inr other ↦ rw other (ap (λ (t : List ℕ). x ∷ t) (segment-slash word rest (no_slash x word free)))
    ]

word_ends : (word : List ℕ) → has_slash word ≡ false → ends_with nat_eq word (47 ∷ []) ≡ false
word_ends [] free = refl
word_ends (x ∷ []) free =
    elim (cases_Bool (nat_eq 47 x)) [
      | inl slash ↦ absurd (slash_apart x [] free (eq-eqb x 47 (sym (eqb-true 47 x slash))))
      | inr other ↦ rw other refl
    ]
word_ends (x ∷ y ∷ word) free =
    let less : length (x ∷ y ∷ word) - 1 ≡ suc (length (y ∷ word) - 1) = omega arith in
    rw less (word_ends (y ∷ word) (no_slash x (y ∷ word) free))

word_cuts : (word : List ℕ) → has_slash word ≡ false → cuts word (47 ∷ []) ≡ false
word_cuts word free = rw (word_ends word free) (by (ltb 1 (length word)))
  where
    by : (v : Bool) → (v && false) ≡ false
    by true = refl
    by false = refl

slash_cuts : (word : List ℕ) → word ≢ [] → cuts (word ++ 47 ∷ []) (47 ∷ []) ≡ true
slash_cuts [] some = absurd (some refl)
slash_cuts (x ∷ word) some =
    let less : length ((x ∷ word) ++ 47 ∷ []) - 1 ≡ length (x ∷ word) =
    omega (arith, length-append (x ∷ word) (47 ∷ [])) in
    let longer : ltb 1 (length ((x ∷ word) ++ 47 ∷ [])) ≡ true =
    lt-ltb 1 _ (omega (arith, length-append (x ∷ word) (47 ∷ []))) in
    and_from _ _ longer (rw (less, drop-append_seam (x ∷ word) (47 ∷ [])) refl)

suffix_cases : (pattern : List ℕ) → starts_segment pattern ≡ true → (segment pattern ≡ []) ⊎ (segment pattern ≡ 47 ∷ [])
suffix_cases [] starts = inl refl
suffix_cases (x ∷ pattern) starts = inr (rw starts (ap (λ (v : ℕ). v ∷ []) (eqb-true x 47 starts)))

-- the empty pattern is spelled by nothing
spells_only : (target : List ℕ) → Spells [] target → target ≡ []
spells_only target at_end = refl

-- and nothing spells it alone
spells_nothing : (pattern target : List ℕ) → target ≡ [] → Spells pattern target → pattern ≡ []
spells_nothing [] target none spelled = refl
spells_nothing (x ∷ pattern) target none spelled =
    elim (spells_cases x pattern target spelled) [
      | inl (rest, is, small, spells) ↦ absurd (omega (arith, ap length (sym is ∙ none)))
      | inr (word, rest, is_param, is, some, free, spells) ↦ absurd (some (empty word rest (sym is ∙ none)))
    ]
  where
    empty : (word rest : List ℕ) → word ++ rest ≡ [] → word ≡ []
    empty [] rest e = refl
    empty (y ∷ word) rest e = cc

-- ---- rows whose suffixes are a slash or nothing

module _ {K : Type 0} where
  abbrev pub AllSegmented : RowsOf K → Type 0
  AllSegmented [] = ⊤
  AllSegmented (row ∷ rows) = (starts_segment row.0 ≡ true) × AllSegmented rows

  abbrev pub AllPlain : RowsOf K → Type 0
  AllPlain [] = ⊤
  AllPlain (row ∷ rows) = (is_plain row.0 ≡ true) × AllPlain rows

  -- where no slash cuts, none is found
  longest-nothing : (seg : List ℕ) (rows : RowsOf K) → cuts seg (47 ∷ []) ≡ false → AllSegmented rows
      → longest_from seg [] rows ≡ []
  longest-nothing seg [] no_cut are = refl
  longest-nothing seg ((pattern, key) ∷ rows) no_cut are =
      elim (suffix_cases pattern are.0) [
        | inl e ↦ rw (e, better-empty seg []) (longest-nothing seg rows no_cut are.1)
        | inr e ↦
            let same : better seg [] (47 ∷ []) ≡ [] = rw no_cut refl in
            rw (e, same) (longest-nothing seg rows no_cut are.1)
      ]

  longest-kept : (seg : List ℕ) (rows : RowsOf K) → AllSegmented rows → longest_from seg (47 ∷ []) rows ≡ 47 ∷ []
  longest-kept seg [] are = refl
  longest-kept seg ((pattern, key) ∷ rows) are =
      elim (suffix_cases pattern are.0) [
        | inl e ↦ rw (e, better-empty seg (47 ∷ [])) (longest-kept seg rows are.1)
        | inr e ↦ rw e (longest-kept seg rows are.1)
      ]

  -- where a slash cuts, and a row has it, it is found
  longest-slash : (seg : List ℕ) (rows : RowsOf K) (pattern : List ℕ) (key : K) → cuts seg (47 ∷ []) ≡ true
      → AllSegmented rows
      → Has rows (47 ∷ pattern) key → longest_from seg [] rows ≡ 47 ∷ []
  longest-slash seg [] pattern key cut are has = absurd has
  longest-slash seg ((other, k) ∷ rows) pattern key cut are has =
      elim (suffix_cases other are.0) [
        | inl e ↦ rw (e, better-empty seg []) (elim has [
          | inl same ↦ absurd (omega (arith, ap length (sym e ∙ ap segment same.0)))
          | inr following ↦ longest-slash seg rows pattern key cut are.1 following
        ])
        | inr e ↦
            let same : better seg [] (47 ∷ []) ≡ 47 ∷ [] = rw cut refl in
            rw (e, same) (longest-kept seg rows are.1)
      ]

  -- ---- what a step of the walk keeps

  own-some : (rows : RowsOf K) (key : K) → Has rows [] key → is_some (own rows) ≡ true
  own-some [] key has = absurd has
  own-some (([], k) ∷ rows) key has = refl
  own-some ((x ∷ pattern, k) ∷ rows) key (inl same) = absurd (omega (arith, ap length same.0))
  own-some ((x ∷ pattern, k) ∷ rows) key (inr has) = own-some rows key has

  step-Has : (b : ℕ) (rows : RowsOf K) (pattern : List ℕ) (key : K) → Has rows (b ∷ pattern) key
      → Has (step b rows) pattern key
  step-Has b [] pattern key has = has
  step-Has b (([], k) ∷ rows) pattern key (inl same) = absurd (omega (arith, ap length same.0))
  step-Has b (([], k) ∷ rows) pattern key (inr has) = step-Has b rows pattern key has
  step-Has b ((x ∷ other, k) ∷ rows) pattern key has =
      elim (cases_Bool (x == b)) [
        | inl here ↦ rw here (elim has [
          | inl same ↦
              let is : x ∷ other ≡ b ∷ pattern = same.0 in
              let tail : other ≡ pattern = cc in
              inl (tail, same.1)
          | inr following ↦ inr (step-Has b rows pattern key following)
        ])
        | inr apart ↦ rw apart (elim has [
          | inl same ↦
              let is : x ∷ other ≡ b ∷ pattern = same.0 in
              let head : x ≡ b = cc in
              absurd (both_ways (x == b) apart (eq-eqb x b head))
          | inr following ↦ step-Has b rows pattern key following
        ])
      ]

  step-plain : (b : ℕ) (rows : RowsOf K) → AllPlain rows → AllPlain (step b rows)
  step-plain b [] are = tt
  step-plain b (([], k) ∷ rows) are = step-plain b rows are.1
  step-plain b ((x ∷ other, k) ∷ rows) are =
      elim (x == b) as (λ v. AllPlain (cond v ((other, k) ∷ step b rows) (step b rows))) [
        | true ↦ ((and_parts _ _ are.0).1, step-plain b rows are.1)
        | false ↦ step-plain b rows are.1
      ]

  step-segmented : (rows : RowsOf K) → AllPlain rows → AllSegmented (step param_token rows)
  step-segmented [] are = tt
  step-segmented (([], k) ∷ rows) are = step-segmented rows are.1
  step-segmented ((x ∷ other, k) ∷ rows) are =
      elim (cases_Bool (x == param_token)) [
        | inl here ↦
            let is : x ≡ 256 = eqb-true x param_token here in
            rw here (
              following_param other (subst (λ (t : ℕ). is_plain (t ∷ other)
                  ≡ true) is are.0),
              step-segmented rows are.1,
            )
        | inr apart ↦ rw apart (step-segmented rows are.1)
      ]

  with_suffix-Has : (suffix : List ℕ) (rows : RowsOf K) (pattern : List ℕ) (key : K) → segment pattern ≡ suffix
      → Has rows pattern key
      → Has (with_suffix suffix rows) pattern key
  with_suffix-Has suffix [] pattern key ends has = has
  with_suffix-Has suffix ((other, k) ∷ rows) pattern key ends has =
      elim (cases_Bool (same_text (segment other) suffix)) [
        | inl here ↦ rw here (elim has [
          | inl same ↦ inl same
          | inr following ↦ inr (with_suffix-Has suffix rows pattern key ends following)
        ])
        | inr apart ↦ rw apart (elim has [
          | inl same ↦
              let is : segment other ≡ suffix = ap segment same.0 ∙ ends in
              absurd (both_ways (same_text (segment other) suffix) apart (ap (λ (t : List ℕ). same_text t suffix) is
              ∙ same_text-self suffix))
          | inr following ↦ with_suffix-Has suffix rows pattern key ends following
        ])
      ]

  with_suffix-plain : (suffix : List ℕ) (rows : RowsOf K) → AllPlain rows → AllPlain (with_suffix suffix rows)
  with_suffix-plain suffix [] are = tt
  with_suffix-plain suffix ((other, k) ∷ rows) are =
      elim (same_text (segment other) suffix) as
      (λ v. AllPlain (cond v ((other, k) ∷ with_suffix suffix rows) (with_suffix suffix rows))) [
        | true ↦ (are.0, with_suffix-plain suffix rows are.1)
        | false ↦ with_suffix-plain suffix rows are.1
      ]

  Has-segmented : (rows : RowsOf K) (pattern : List ℕ) (key : K) → AllSegmented rows → Has rows pattern key
      → starts_segment pattern ≡ true
  Has-segmented [] pattern key are has = absurd has
  Has-segmented ((other, k) ∷ rows) pattern key are (inl same) = subst (λ (t : List ℕ). starts_segment t
      ≡ true) same.0 are.0
  Has-segmented ((other, k) ∷ rows) pattern key are (inr has) = Has-segmented rows pattern key are.1 has

  -- ---- the walk

  or_else-left : (a b : Option K) → is_some a ≡ true → is_some (or_else a b) ≡ true
  or_else-left (Some x) b some = refl
  or_else-left None b some = absurd (let wrong : false ≡ true = some in cc)

  or_else-right : (a b : Option K) → is_some b ≡ true → is_some (or_else a b) ≡ true
  or_else-right (Some x) b some = refl
  or_else-right None b some = some

  -- what is found after a parameter, by the number of bytes that it takes and the rows that go on
  module _ (rows : RowsOf K) (key : K) (b : ℕ) (path : List ℕ) where
    abbrev suffix_found : List ℕ
    suffix_found = longest_suffix (segment (b ∷ path)) rows

    abbrev Goes : Bool → Bool → Type 0
    Goes v w =
        is_some (seek ((cond {A = ℕ × RowsOf K} v (
          length (segment (b ∷ path)) - length
              (longest_suffix (segment (b ∷ path)) rows),
          with_suffix (longest_suffix (segment (b ∷ path)) rows) rows,
        )
        (cond w (0, []) (length (b ∷ path), rows))).0 - 1)
        (cond {A = ℕ × RowsOf K} v (
          length (segment (b ∷ path)) - length
              (longest_suffix (segment (b ∷ path)) rows),
          with_suffix (longest_suffix (segment (b ∷ path)) rows) rows,
        )
        (cond w (0, []) (length (b ∷ path), rows))).1 path) ≡ true

    abbrev pub Finds : List ℕ → Type 0
    Finds pattern =
        (skip : ℕ) (others : RowsOf K) → AllPlain others → Has others pattern key → Spells pattern (drop skip path)
        → is_some (seek skip others path) ≡ true

    -- the parameter takes all that is left
    param_at_end : AllSegmented rows → AllPlain rows → Has rows [] key → Finds [] → has_slash (b ∷ path) ≡ false
        → Goes (ltb 0 (length (longest_suffix (segment (b ∷ path)) rows))) (has_slash (b ∷ path))
    param_at_end segmented plain has found free =
        rw (ap (λ (t : List ℕ). ltb 0 (length t)) none, free)
        (found (length (b ∷ path) - 1) rows plain has (subst (Spells []) (sym empty) at_end))
      where
        none : longest_suffix (segment (b ∷ path)) rows ≡ []
        none = longest-nothing (segment (b ∷ path)) rows (ap (λ (t : List ℕ). cuts t (47 ∷ []))
            (segment-word (b ∷ path) free) ∙ word_cuts (b ∷ path) free) segmented

        empty : drop (length (b ∷ path) - 1) path ≡ []
        empty = drop_all (length (b ∷ path) - 1) path (omega arith)

    -- the parameter takes a segment up to its slash
    param_at_slash : (pattern word left : List ℕ) → AllSegmented rows → AllPlain rows → Has rows (47 ∷ pattern) key
        → Finds (47 ∷ pattern)
        → b ∷ path ≡ (b ∷ word) ++ 47 ∷ left → has_slash (b ∷ word) ≡ false → Spells (47 ∷ pattern) (47 ∷ left)
        → Goes (ltb 0 (length (longest_suffix (segment (b ∷ path)) rows))) (has_slash (b ∷ path))
    param_at_slash pattern word left segmented plain has found is free following =
        rw (ap (λ (t : List ℕ). ltb 0 (length t)) slash)
        (found _ (with_suffix suffix_found rows) (with_suffix-plain suffix_found rows plain)
        (with_suffix-Has suffix_found rows (47 ∷ pattern) key (sym slash) has)
        (subst (Spells (47 ∷ pattern)) (sym rest) following))
      where
        seg : segment (b ∷ path) ≡ (b ∷ word) ++ 47 ∷ []
        seg = ap segment is ∙ segment-slash (b ∷ word) left free

        slash : longest_suffix (segment (b ∷ path)) rows ≡ 47 ∷ []
        slash = longest-slash (segment (b ∷ path)) rows pattern key
            (ap (λ (t : List ℕ). cuts t (47 ∷ [])) seg
            ∙ slash_cuts (b ∷ word) (λ e. omega (arith, ap length e))) segmented has

        count : length (segment (b ∷ path)) - length suffix_found - 1 ≡ length word
        count = omega (arith, ap length seg, ap length slash, length-append (b ∷ word) (47 ∷ []))

        tail : path ≡ word ++ 47 ∷ left
        tail = cc

        rest : drop (length (segment (b ∷ path)) - length suffix_found - 1) path ≡ 47 ∷ left
        rest = ap (λ (n : ℕ). drop n path) count ∙ ap (drop (length word)) tail ∙ drop-append_seam word (47 ∷ left)

  param_some : (rows : RowsOf K) (key : K) (b : ℕ) (path pattern word rest : List ℕ) → AllSegmented rows → AllPlain rows
      → Has rows pattern key
      → Finds rows key b path pattern → b ∷ path ≡ word ++ rest → word ≢ [] → has_slash word ≡ false
      → Spells pattern rest
      → is_some (seek ((param_step rows (b ∷ path)).0 - 1) (param_step rows (b ∷ path)).1 path) ≡ true
  unfolding param_step
  param_some rows key b path pattern [] rest segmented plain has found is some free following = absurd (some refl)
  param_some rows key b path [] (x ∷ word) rest segmented plain has found is some free following =
      let whole : b ∷ path ≡ x ∷ word = is ∙ ap (λ (t : List ℕ). (x ∷ word) ++ t) (spells_only rest following)
      ∙ append-nil (x ∷ word) in
      param_at_end rows key b path segmented plain has found (ap has_slash whole ∙ free)
  param_some rows key b path (y ∷ pattern) (x ∷ word) rest segmented plain has found is some free following =
      let slash : y ≡ 47 = eqb-true y 47 (Has-segmented rows (y ∷ pattern) key segmented has) in
      elim (spells_cases y pattern rest following) [
        | inl (left, at_slash, small, spelled) ↦
            let whole : b ∷ path ≡ x ∷ (word ++ rest) = is in
            let head : x ≡ b = cc in
            param_at_slash rows key b path pattern word left segmented plain
            (subst (λ (v : ℕ). Has rows (v ∷ pattern) key) slash has)
            (subst (λ (v : ℕ). Finds rows key b path (v ∷ pattern)) slash found)
            (is ∙ ap (λ (v : ℕ). (v ∷ word) ++ rest) head ∙ ap (λ (t : List ℕ). (b ∷ word) ++ t) (at_slash
            ∙ ap (λ (v : ℕ). v ∷ left) slash))
            (subst (λ (v : ℕ). has_slash (v ∷ word) ≡ false) head free)
            (subst (λ (v : ℕ). Spells (v ∷ pattern) (v ∷ left)) slash (byte y small spelled))
        | inr (other, left, is_param, are, filled, clear, spelled) ↦ absurd (omega (arith, slash, is_param))
      ]

  -- a walk finds a row where the path spells one
  pub seek_some : (path : List ℕ) (skip : ℕ) (rows : RowsOf K) (pattern : List ℕ) (key : K) → AllPlain rows
      → Has rows pattern key
      → Spells pattern (drop skip path) → is_some (seek skip rows path) ≡ true
  unfolding seek
  seek_some [] zero rows pattern key plain has spelled =
      own-some rows key (subst (λ (t : List ℕ). Has rows t key) (spells_nothing pattern [] refl spelled) has)
  seek_some [] (suc skip) rows pattern key plain has spelled =
      own-some rows key (subst (λ (t : List ℕ). Has rows t key) (spells_nothing pattern [] refl spelled) has)
  seek_some (b ∷ path) (suc skip) rows pattern key plain has spelled =
      seek_some path skip rows pattern key plain has spelled
  seek_some (b ∷ path) zero rows [] key plain has spelled =
      absurd (omega (arith, ap length (spells_only (b ∷ path) spelled)))
  seek_some (b ∷ path) zero rows (x ∷ pattern) key plain has spelled =
      elim (spells_cases x pattern (b ∷ path) spelled) [
        | inl (rest, is_byte, small, spells_rest) ↦
            let is : b ∷ path ≡ x ∷ rest = is_byte in
            let head : x ≡ b = cc in
            let tail : rest ≡ path = cc in
            or_else-left _ _ (seek_some path 0 (step b rows) pattern key (step-plain b rows plain)
            (step-Has b rows pattern key (subst (λ (t : ℕ). Has rows (t ∷ pattern) key) head has))
            (subst (Spells pattern) tail spells_rest))
        | inr (word, rest, is_param, is, some, free, spells_rest) ↦
            or_else-right (seek 0 (step b rows) path) _ (or_else-left _ _
            (param_some (step param_token rows) key b path pattern word rest (step-segmented rows plain)
            (step-plain param_token rows plain)
            (step-Has param_token rows pattern key (subst (λ (t : ℕ). Has rows (t ∷ pattern) key) is_param has))
            (λ skip others are among following. seek_some path skip others pattern key are among following) is some free
            spells_rest))
      ]

-- ---- the table

abbrev Among : {A : Type 0} → List A → A → Type 0
Among [] x = ⊥
Among (y ∷ ys) x = (y ≡ x) ⊎ Among ys x

Among-contained : {A : Type 0} (xs : List A) (x : A) → Contains xs x → Among xs x
Among-contained [] x (k, below, e) = absurd (omega arith)
Among-contained (y ∷ ys) x (zero, below, e) = inl e
Among-contained (y ∷ ys) x (suc k, below, e) = inr (Among-contained ys x (k, omega arith, e))

contained-Among : {A : Type 0} (xs : List A) (x : A) → Among xs x → Contains xs x
contained-Among [] x among = absurd among
contained-Among (y ∷ ys) x (inl e) = (0, omega arith, e)
contained-Among (y ∷ ys) x (inr among) =
    let (place, within, is) = contained-Among ys x among in
    (suc place, omega arith, is)

list_all-at : {A : Type 0} (test : A → Bool) (xs : List A) (x : A) → list_all test xs ≡ true → Among xs x → test x
    ≡ true
list_all-at test [] x all among = absurd among
list_all-at test (y ∷ ys) x all (inl e) = subst (λ (z : _). test z ≡ true) e (and_parts _ _ all).0
list_all-at test (y ∷ ys) x all (inr among) = list_all-at test ys x (and_parts _ _ all).1 among

-- a row of the table is of a pattern, and a pattern has a row
placed_from : (new : List ℕ) (route : RouteOf Route) (rows : Rows) (pattern : List ℕ) (found : RouteOf Route)
    → Has (placed (new, route) rows) pattern found → ((new ≡ pattern) × (route ≡ found)) ⊎ Has rows pattern found
placed_from new route [] pattern found has = has
placed_from new route ((other, k) ∷ rows) pattern found has =
    elim (cases_Bool (comes_before new other)) [
      | inl before ↦ rw before at has
      | inr following ↦
          let later : ((other ≡ pattern) × (k ≡ found)) ⊎ Has (placed (new, route) rows) pattern found =
          rw following at has in
          elim later [
            | inl same ↦ inr (inl same)
            | inr rest ↦ elim (placed_from new route rows pattern found rest) [
              | inl same ↦ inl same
              | inr old ↦ inr
                  (inr old)
            ]
          ]
    ]

placed_new : (new : List ℕ) (route : RouteOf Route) (rows : Rows) → Has (placed (new, route) rows) new route
placed_new new route [] = inl (refl, refl)
placed_new new route ((other, k) ∷ rows) =
    elim (comes_before new other) as (λ v. Has (cond v ((new, route) ∷ (other, k) ∷ rows)
    ((other, k) ∷ placed (new, route) rows)) new route) [
      | true ↦ inl (refl, refl)
      | false ↦ inr (placed_new new route rows)
    ]

placed_kept : (new : List ℕ) (route : RouteOf Route) (rows : Rows) (pattern : List ℕ) (found : RouteOf Route)
    → Has rows pattern found
    → Has (placed (new, route) rows) pattern found
placed_kept new route [] pattern found has = absurd has
placed_kept new route ((other, k) ∷ rows) pattern found has =
    elim (cases_Bool (comes_before new other)) [
      | inl before ↦ rw before (inr has)
      | inr following ↦ rw following (elim has [
        | inl same ↦ inl same
        | inr rest ↦ inr (placed_kept new route rows pattern found rest)
      ])
    ]

abbrev IsPatternOf : List (List ℕ × Route) → List ℕ → RouteOf Route → Type 0
IsPatternOf table pattern found = (text : List ℕ) × Among table (text, found.value) × (tokens_of text ≡ pattern)

rows_from : (table : List (List ℕ × Route)) (rows : Rows) (pattern : List ℕ) (found : RouteOf Route)
    → Has (rows_after table rows) pattern found → IsPatternOf table pattern found ⊎ Has rows pattern found
rows_from [] rows pattern found has = inr has
rows_from ((text, route) ∷ table) rows pattern found has =
    elim (rows_from table (rows_with text route rows) pattern found has) [
      | inl (other, among, e) ↦ inl (other, inr among, e)
      | inr last ↦ by (parse_route text) refl last
    ]
  where
    by : (read : Result Scan InsertError) → parse_route text ≡ read → Has (placed_read read route rows) pattern found
        → IsPatternOf ((text, route) ∷ table) pattern found ⊎ Has rows pattern found
    by (Err error) e has = inr has
    by (Ok scan) e has =
        elim (placed_from scan.pattern (route_from scan route) rows pattern found has) [
          | inl same ↦ inl (text, inl (ap (λ (r : RouteOf Route). (text, r.value)) same.1), ap tokens_read e ∙ same.0)
          | inr old ↦ inr old
        ]

rows_kept : (table : List (List ℕ × Route)) (rows : Rows) (pattern : List ℕ) (found : RouteOf Route)
    → Has rows pattern found
    → Has (rows_after table rows) pattern found
rows_kept [] rows pattern found has = has
rows_kept ((text, route) ∷ table) rows pattern found has =
    rows_kept table (rows_with text route rows) pattern found (by (parse_route text))
  where
    by : (read : Result Scan InsertError) → Has (placed_read read route rows) pattern found
    by (Err error) = has
    by (Ok scan) = placed_kept scan.pattern (route_from scan route) rows pattern found has

abbrev is_read : Result Scan InsertError → Bool
is_read (Ok scan) = true
is_read (Err error) = false

rows_to : (table : List (List ℕ × Route)) (rows : Rows) (text : List ℕ) (route : Route)
    → list_all (λ (row : List ℕ × Route). is_read (parse_route row.0)) table ≡ true → Among table (text, route)
    → (found : RouteOf Route) × Has (rows_after table rows) (tokens_of text) found × (found.value ≡ route)
rows_to [] rows text route reads among = absurd among
rows_to ((other, r) ∷ table) rows text route reads (inr among) =
    rows_to table (rows_with other r rows) text route (and_parts _ _ reads).1 among
rows_to ((other, r) ∷ table) rows text route reads (inl same) = by (parse_route other) refl (and_parts _ _ reads).0
  where
    texts : other ≡ text
    texts = ap (λ (row : List ℕ × Route). row.0) same

    routes : r ≡ route
    routes = ap (λ (row : List ℕ × Route). row.1) same

    by : (read : Result Scan InsertError) → parse_route other ≡ read → is_read read ≡ true
        → (found : RouteOf Route) × Has (rows_after table (rows_with other r rows)) (tokens_of text) found
        × (found.value ≡ route)
    by (Err error) e wrong = cc
    by (Ok scan) e is =
        let row : Has (rows_with other r rows) (tokens_of text) (route_from scan r) =
        subst (λ (t : List ℕ). Has (rows_with other r rows) t (route_from scan r)) (sym (ap tokens_read e)
        ∙ ap tokens_of texts)
        (subst (λ (x : Result Scan InsertError). Has (placed_read x r rows) scan.pattern (route_from scan r)) (sym e)
        (placed_new scan.pattern (route_from scan r) rows)) in
        (route_from scan r, rows_kept table (rows_with other r rows) (tokens_of text) (route_from scan r) row, routes)

table_reads : list_all (λ (row : List ℕ × Route). is_read (parse_route row.0)) patterns ≡ true
unfolding matchit_on_literals
table_reads = refl

-- ---- no two patterns have a target in common

abbrev differ_from : List ℕ × Route → List ℕ × Route → Bool
differ_from one other = differ (tokens_of one.0) (tokens_of other.0)

abbrev all_differ : List (List ℕ × Route) → Bool
all_differ [] = true
all_differ (row ∷ table) = list_all (differ_from row) table && all_differ table

table_differs : all_differ patterns ≡ true
unfolding matchit_on_literals
table_differs = refl

abbrev are_plain_tokens : List (List ℕ × Route) → Bool
are_plain_tokens table = list_all (λ row. is_plain (tokens_of row.0)) table

table_tokens : are_plain_tokens patterns ≡ true
unfolding matchit_on_literals
table_tokens = refl

one_pattern : (table : List (List ℕ × Route)) (a b : List ℕ × Route) (target : List ℕ) → all_differ table ≡ true
    → are_plain_tokens table ≡ true
    → Among table a → Among table b → Spells (tokens_of a.0) target → Spells (tokens_of b.0) target → a ≡ b
one_pattern [] a b target differs plain x y u v = absurd x
one_pattern (row ∷ table) a b target differs plain (inl x) (inl y) u v = sym x ∙ y
one_pattern (row ∷ table) a b target differs plain (inr x) (inr y) u v =
    one_pattern table a b target (and_parts _ _ differs).1 (and_parts _ _ plain).1 x y u v
one_pattern (row ∷ table) a b target differs plain (inl x) (inr y) u v =
    absurd (differ_apart (tokens_of row.0) (tokens_of b.0) target (and_parts _ _ plain).0
    (list_all-at (λ (r : List ℕ × Route). is_plain (tokens_of r.0)) table b (and_parts _ _ plain).1 y)
    (list_all-at (differ_from row) table b (and_parts _ _ differs).0 y)
    (subst (λ (r : List ℕ × Route). Spells (tokens_of r.0) target) (sym x) u) v)
one_pattern (row ∷ table) a b target differs plain (inr x) (inl y) u v =
    absurd (differ_apart (tokens_of row.0) (tokens_of a.0) target (and_parts _ _ plain).0
    (list_all-at (λ (r : List ℕ × Route). is_plain (tokens_of r.0)) table a (and_parts _ _ plain).1 x)
    (list_all-at (differ_from row) table a (and_parts _ _ differs).0 x)
    (subst (λ (r : List ℕ × Route). Spells (tokens_of r.0) target) (sym y) v) u)

-- ---- both directions

all_plain : (rows : Rows) → ArePlain rows → AllPlain rows
all_plain [] are = tt
all_plain (row ∷ rows) are = (are.0.plain, all_plain rows are.1)

-- the row that is found is of a pattern that the target spells
found_spells : (target : List ℕ) (found : RouteOf Route) → IsText target → first route_rows target ≡ Some found
    → (text : List ℕ) × Among patterns (text, found.value) × Spells (tokens_of text) target
unfolding route_rows
found_spells target found text e =
    let (pattern, has, matches) = seek_found target 0 route_rows found text e in
    let plain = Has-plain route_rows pattern found table_plain has in
    elim (rows_from patterns [] pattern found has) [
      | inl (written, among, same) ↦ (
        written,
        among,
        subst (λ (t : List ℕ). Spells t target) (sym same) (spells matches plain.plain),
      )
      | inr none ↦ absurd none
    ]

-- a target that has a match spells the pattern of its route
pub match_is_spelled : (target : List ℕ) (found : Match) → IsText target → match_of target ≡ Some found
    → SpellsRoute found.0 target
match_is_spelled target found text e = by (first route_rows target) refl e
  where
    by : (row : Option (RouteOf Route)) → first route_rows target ≡ row
        → option_map {U = Match} (λ (r : RouteOf Route). (r.value, parts_of r target)) row ≡ Some found
        → SpellsRoute found.0 target
    by None is wrong = cc
    by (Some row) is same =
        let (written, among, spelled) = found_spells target row text is in
        let value : row.value ≡ found.0 = ap (λ (m : Option Match). option_map_or
        (λ (x : Match). x.0) m row.value) same in
        subst (λ (r : Route). SpellsRoute r target) value
        (written, contained-Among patterns (written, row.value) among, spelled)

-- a target that spells a pattern has a row
is_found : (target written : List ℕ) (route : Route) → Among patterns (written, route)
    → Spells (tokens_of written) target
    → is_some (first route_rows target) ≡ true
unfolding route_rows
is_found target written route among spelled =
    let row = rows_to patterns [] written route table_reads among in
    seek_some target 0 route_rows (tokens_of written) row.0 (all_plain route_rows table_plain) row.1 spelled

-- a target that spells the pattern of a route has it as its match
pub spelled_is_match : (target : List ℕ) (route : Route) → IsText target → SpellsRoute route target
    → (parts : List (List ℕ × List ℕ)) × (match_of target ≡ Some (route, parts))
spelled_is_match target route text (written, among, spelled) =
    by (first route_rows target) refl (is_found target written route
    (Among-contained patterns (written, route) among) spelled)
  where
    by : (row : Option (RouteOf Route)) → first route_rows target ≡ row → is_some row ≡ true
        → (parts : List (List ℕ × List ℕ)) × (match_of target ≡ Some (route, parts))
    by None is some = cc
    by (Some row) is some =
        let (other, other_among, other_spelled) = found_spells target row text is in
        let same = one_pattern patterns (other, row.value) (written, route) target table_differs table_tokens
        other_among (Among-contained patterns (written, route) among) other_spelled spelled in
        let value : row.value ≡ route = ap (λ (p : List ℕ × Route). p.1) same in
        let parts : List (List ℕ × List ℕ) = parts_of row target in
        let whole : ◌≡◌ {A = Option Match} (Some (row.value, parts)) (Some (route, parts)) =
        ap (λ (r : Route). Some (r, parts)) value in
        (parts, ap (option_map {U = Match} (λ (r : RouteOf Route). (r.value, parts_of r target))) is ∙ whole)
