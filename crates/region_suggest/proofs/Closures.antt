-- The closure of a set of attributes, attribute by attribute.
use Rattle.std.proofs.Common.{◌≡◌, ◌≢◌, ◌⊎◌, ◌<◌, ◌+◌, ◌-◌, ◌∙◌, ℕ, zero, suc, Bool, true, false, List, [], ◌∷◌, ◌++◌}
use Rattle.std.proofs.Common.{length, get_or, set, take, replicate, eqb, eqb-true, length-set, length-append, inl}
use Rattle.std.proofs.Common.{inr, sym, ap, refl, append-nil, add-one, arith}
use Rattle.std.specs.Prelude.{◌↔◌, All, Contains, vec_items}
use Rattle.std.proofs.lemmas.Bool.{cases_Bool, eqb-false}
use Rattle.std.proofs.lemmas.List.{append_assoc, get_or-set_same, get_or-set_other, length-map, length-replicate}
use Rattle.std.proofs.lemmas.List.Elements.{All-append, Contains-append_left, Contains-append_right}
use Rattle.std.proofs.lemmas.List.Elements.{Contains-append_cases}
use Rattle.std.proofs.lemmas.List.Sums.{sum_by-set}
use Rattle.std.proofs.Math.Seq.{take-suc}
use Rattle.fix_engine.specs.Flags.{IsFlagged}
use Rattle.region_suggest.specs.declared.dependencies.Dependencies.{Dependencies}
use Rattle.region_suggest.specs.Closing.{IsEnough, IsMet, TakesOff}
use Rattle.region_suggest.specs.Dependencies.{Follows, IsClosure, IsSound, left_count, occurrences, users, uses_of}
use Rattle.fix_engine.proofs.Lists.{All-Contains, Contains-cases, Contains-first}
use Rattle.region_suggest.proofs.Lists.{Contains-at, IsFlagged-cases}
use Rattle.region_suggest.proofs.Lists.{IsFlagged-here, IsFlagged-set, IsFlagged-within}
use Rattle.region_suggest.proofs.LeftSides.{All-users, Contains-or-none, left_count-flagged, left_count-set}
use Rattle.region_suggest.proofs.LeftSides.{left_count-zero, occurrences-append, occurrences-other, occurrences-self}
use Rattle.region_suggest.proofs.LeftSides.{occurrences-take}

-- ---- an attribute is taken off

-- one item more is after the others
take-next : (items : List ℕ) (index one : ℕ) → index < length items → one ≡ get_or items index 0
    → take (index + 1) items ≡ take index items ++ one ∷ []
take-next items index one within is =
    rw (add-one index) (take-suc items index 0 within ∙ ap (λ x. take index items ++ x ∷ []) (sym is))

-- nothing is taken off yet
pub TakesOff-start : (made : Dependencies) (before found : List ℕ) → TakesOff made [] before before found found
TakesOff-start made before found = record {
  whole = refl;
  missing = λ dependency. omega arith;
  new = [];
  appended = sym (append-nil found);
  met = λ head h. absurd (omega (arith, h.1));
  all = λ dependency h none. absurd (omega (arith, h.1));
  less = omega arith;
}

module _ (made : Dependencies) (ones before after found later : List ℕ) (one : ℕ)
    (taken : TakesOff made ones before after found later)
    (within : one < length after) (some : 0 < get_or after one 0) where
  -- what a dependency misses after one miss less
  missing-set : (dependency : ℕ) → get_or (set after one (get_or after one 0 - 1)) dependency 0
      + occurrences dependency (ones ++ one ∷ []) ≡ get_or before dependency 0
  missing-set dependency = elim (cases_Bool (eqb dependency one)) [
    | inl same ↦
        let is : dependency ≡ one = eqb-true dependency one same in
        rw is (omega (
          arith,
          get_or-set_same after one (get_or after one 0 - 1) 0 within,
          taken.missing one,
          occurrences-append one ones (one ∷ []),
          occurrences-self one,
        ))
    | inr differs ↦
        let apart : dependency ≢ one = eqb-false dependency one differs in
        omega (
          arith,
          get_or-set_other after one dependency (get_or after one 0 - 1) 0 apart,
          taken.missing dependency,
          occurrences-append dependency ones (one ∷ []),
          occurrences-other dependency one (λ is. apart (sym is)),
        )
  ]

  -- those that were met are met still
  met-set : (head : ℕ) → IsMet made ones after head
      → IsMet made (ones ++ one ∷ []) (set after one (get_or after one 0 - 1)) head
  met-set head met =
      let apart : met.dependency ≢ one = λ is. let none : get_or after one 0 ≡ 0 =
      rw (← is) met.met in omega (arith, some, none) in
      record {
        dependency = met.dependency;
        used = Contains-append_left ones (one ∷ []) met.dependency met.used;
        met = get_or-set_other after one met.dependency (get_or after one 0 - 1) 0 apart ∙ met.met;
        is_head = met.is_head;
      }

  -- and all that are met, but for this one, were met before
  all-set : (dependency : ℕ) → dependency ≢ one → Contains (ones ++ one ∷ []) dependency
      → get_or (set after one (get_or after one 0 - 1)) dependency 0 ≡ 0
      → Contains taken.new (get_or made.heads.items dependency 0)
  all-set dependency apart used none = elim (Contains-append_cases ones (one ∷ []) dependency used) [
    | inl earlier ↦ taken.all dependency earlier
        (sym (get_or-set_other after one dependency (get_or after one 0 - 1) 0 apart) ∙ none)
    | inr last ↦ elim (Contains-cases one dependency [] last) [
      | inl is ↦ absurd (apart is)
      | inr nothing ↦ absurd (omega (arith, nothing.1))
    ]
  ]

  -- the dependency misses more attributes than this one
  pub TakesOff-more : (get_or after one 0 ≡ 1 → ⊥)
      → TakesOff made (ones ++ one ∷ []) before (set after one (get_or after one 0 - 1)) found later
  TakesOff-more more = record {
    whole = length-set after one (get_or after one 0 - 1) ∙ taken.whole;
    missing = missing-set;
    new = taken.new;
    appended = taken.appended;
    met = λ head h. met-set head (taken.met head h);
    all = λ dependency used none. elim (cases_Bool (eqb dependency one)) [
      | inl same ↦
          let is : dependency ≡ one = eqb-true dependency one same in
          let here : get_or (set after one (get_or after one 0 - 1)) one 0 ≡ 0 = rw is at none in
          let left = get_or-set_same after one (get_or after one 0 - 1) 0 within in
          let last : get_or after one 0 ≡ 1 = omega (arith, here, left, some) in
          absurd (more last)
      | inr differs ↦ all-set dependency (eqb-false dependency one differs) used none
    ];
    less = omega (arith, taken.less, sum_by-set (λ x. x) after one (get_or after one 0 - 1) 0 within, some);
  }

  -- it misses nothing more, and its head is found
  pub TakesOff-met : get_or after one 0 ≡ 1 → TakesOff made (ones ++ one ∷ []) before
      (set after one (get_or after one 0 - 1)) found (later ++ get_or made.heads.items one 0 ∷ [])
  TakesOff-met last = record {
    whole = length-set after one (get_or after one 0 - 1) ∙ taken.whole;
    missing = missing-set;
    new = taken.new ++ get_or made.heads.items one 0 ∷ [];
    appended = ap (λ all. all ++ get_or made.heads.items one 0 ∷ []) taken.appended
        ∙ append_assoc found taken.new (get_or made.heads.items one 0 ∷ []);
    met = λ head h. elim (Contains-append_cases taken.new (get_or made.heads.items one 0 ∷ []) head h) [
      | inl earlier ↦ met-set head (taken.met head earlier)
      | inr here ↦ elim (Contains-cases (get_or made.heads.items one 0) head [] here) [
        | inr nothing ↦ absurd (omega (arith, nothing.1))
        | inl is ↦ record {
          dependency = one;
          used = Contains-append_right ones (one ∷ []) one (Contains-first one []);
          met = omega (arith, get_or-set_same after one (get_or after one 0 - 1) 0 within, last);
          is_head = is;
        }
      ]
    ];
    all = λ dependency used none. elim (cases_Bool (eqb dependency one)) [
      | inl same ↦
          let is : dependency ≡ one = eqb-true dependency one same in
          rw is (Contains-append_right taken.new (get_or made.heads.items one 0 ∷ []) (get_or made.heads.items one 0)
          (Contains-first (get_or made.heads.items one 0) []))
      | inr differs ↦ Contains-append_left taken.new (get_or made.heads.items one 0 ∷ [])
          (get_or made.heads.items dependency 0)
          (all-set dependency (eqb-false dependency one differs) used none)
    ];
    less = omega (
      arith,
      taken.less,
      sum_by-set (λ x. x) after one (get_or after one 0 - 1) 0 within,
      some,
      length-append later (get_or made.heads.items one 0 ∷ []),
    );
  }

-- a user that is still to come misses an attribute still
pub TakesOff-some : (made : Dependencies) (items : List ℕ) (index : ℕ) (before after found later : List ℕ) (one : ℕ)
    → index < length items → one ≡ get_or items index 0 → IsEnough items before
    → TakesOff made (take index items) before after found later → 0 < get_or after one 0
TakesOff-some made items index before after found later one within is enough taken =
    omega (
      arith,
      enough one,
      taken.missing one,
      occurrences-take one (index + 1) items,
      ap (occurrences one)
          (take-next items index one within is),
      occurrences-append one (take index items) (one ∷ []),
      occurrences-self one,
    )

-- the next user misses one attribute less, and its head is found where it misses nothing more
pub TakesOff-next : (made : Dependencies) (items : List ℕ) (index : ℕ) (before after found later next : List ℕ)
    (one : ℕ)
    → index < length items → one ≡ get_or items index 0 → IsEnough items before → one < length after
    → TakesOff made (take index items) before after found later
    → ((get_or (set after one (get_or after one 0 - 1)) one 0 ≡ 0)
    × (next ≡ later ++ get_or made.heads.items one 0 ∷ []))
    ⊎ ((get_or (set after one (get_or after one 0 - 1)) one 0 ≡ 0 → ⊥) × (next ≡ later))
    → TakesOff made (take (index + 1) items) before (set after one (get_or after one 0 - 1)) found next
TakesOff-next made items index before after found later next one within is enough known taken (inl found_now) =
    let some = TakesOff-some made items index before after found later one within is enough taken in
    let left = get_or-set_same after one (get_or after one 0 - 1) 0 known in
    let last : get_or after one 0 ≡ 1 = omega (arith, some, left, found_now.0) in
    rw (take-next items index one within is, found_now.1)
    (TakesOff-met made (take index items) before after found later one taken known some last)
TakesOff-next made items index before after found later next one within is enough known taken (inr misses) =
    let some = TakesOff-some made items index before after found later one within is enough taken in
    let left = get_or-set_same after one (get_or after one 0 - 1) 0 known in
    rw (take-next items index one within is, misses.1)
    (TakesOff-more made (take index items) before after found later one taken known some
    (λ last. misses.0 (omega (arith, left, last))))

-- ---- the closure so far

-- what is missing is what is left; what is given or follows is flagged or found; and both lie in every closed set
pub record IsClosing (made : Dependencies) (given flags : List Bool) (missing found : List ℕ) : Type 0 where
  pub whole : length flags ≡ length made.uses.items
  pub missing_whole : length missing ≡ length made.heads.items
  pub missing_left : (dependency : ℕ) → dependency < length made.heads.items
      → get_or missing dependency 0 ≡ left_count dependency flags (uses_of made)
  pub found_within : All (λ attribute. attribute < length made.uses.items) found
  pub given_ones : (attribute : ℕ) → IsFlagged given attribute → IsFlagged flags attribute ⊎ Contains found attribute
  pub met : (dependency : ℕ) → dependency < length made.heads.items → get_or missing dependency 0 ≡ 0
      → IsFlagged flags (get_or made.heads.items dependency 0) ⊎ Contains found (get_or made.heads.items dependency 0)
  pub least : (other : List Bool) → Follows made given other
      → (attribute : ℕ) → (IsFlagged flags attribute ⊎ Contains found attribute) → IsFlagged other attribute

-- there is a list of users for each attribute
pub length-uses_of : (made : Dependencies) → length (uses_of made) ≡ length made.uses.items
length-uses_of made = length-map made.uses.items vec_items

module _ (made : Dependencies) (sound : IsSound made) (given : List Bool) (even : length given ≡ length made.uses.items)
  where
    -- nothing is flagged, and what is given is found
    pub IsClosing-start : (flags : List Bool) (missing found : List ℕ) → flags
        ≡ replicate (length made.uses.items) false
        → missing ≡ made.sizes.items → ((attribute : ℕ) → Contains found attribute ↔ IsFlagged given attribute)
        → IsClosing made given flags missing found
    IsClosing-start flags missing found clear all gives =
        let none : (attribute : ℕ) → ¬ IsFlagged flags attribute =
        λ attribute h. no_flag (length made.uses.items) attribute (rw clear at h) in
        record {
          whole = ap length clear ∙ length-replicate (length made.uses.items) false;
          missing_whole = ap length all ∙ sound.whole;
          missing_left = λ dependency known. rw (all, clear) (sound.sizes dependency known);
          found_within = λ k d h. rw (← even) (IsFlagged-within given (get_or found k d)
              ((gives (get_or found k d)).0 (Contains-at found k d h)));
          given_ones = λ attribute h. inr ((gives attribute).1 h);
          met = λ dependency known zero_there.
              let some : 0 < get_or made.sizes.items dependency 0 = sound.filled dependency 0 (rw sound.whole known) in
              let here : get_or made.sizes.items dependency 0 ≡ 0 = rw all at zero_there in
              absurd (omega (arith, some, here));
          least = λ other follows attribute h. elim h [
            | inl flagged ↦ absurd (none attribute flagged)
            | inr found_there ↦ follows.given_ones attribute ((gives attribute).0 found_there)
          ];
        }
      where
        no_flag : (count attribute : ℕ) → ¬ IsFlagged (replicate count false) attribute
        no_flag zero attribute h = cc
        no_flag (suc count) zero h = cc
        no_flag (suc count) (suc attribute) h = no_flag count attribute h

    module _ (flags : List Bool) (missing found rest : List ℕ) (attribute : ℕ) (popped : found ≡ rest ++ attribute ∷ [])
        (closing : IsClosing made given flags missing found) where
      -- what was found is left, or it is the attribute that was taken
      found-cases : (other : ℕ) → Contains found other → Contains rest other ⊎ (other ≡ attribute)
      found-cases other h = elim (Contains-append_cases rest (attribute ∷ []) other (rw popped at h)) [
        | inl left ↦ inl left
        | inr last ↦ elim (Contains-cases attribute other [] last) [
          | inl is ↦ inr is
          | inr nothing ↦ absurd (omega (arith, nothing.1))
        ]
      ]

      -- what is left was found
      found-left : (other : ℕ) → Contains rest other → Contains found other
      found-left other h = rw popped (Contains-append_left rest (attribute ∷ []) other h)

      -- the attribute was found, and is one
      pub attribute_found : Contains found attribute
      attribute_found = rw popped (Contains-append_right rest (attribute ∷ []) attribute (Contains-first attribute []))

      pub attribute_within : attribute < length made.uses.items
      attribute_within = All-Contains (λ one. one < length made.uses.items) found attribute
          closing.found_within attribute_found

      -- what is left are attributes
      rest_within : All (λ one. one < length made.uses.items) rest
      rest_within = λ k d h. All-Contains (λ one. one < length made.uses.items) found (get_or rest k d)
          closing.found_within
          (found-left (get_or rest k d) (Contains-at rest k d h))

      -- an attribute that is flagged already changes nothing
      pub IsClosing-known : IsFlagged flags attribute → IsClosing made given flags missing rest
      IsClosing-known known = record {
        whole = closing.whole;
        missing_whole = closing.missing_whole;
        missing_left = closing.missing_left;
        found_within = rest_within;
        given_ones = λ other h. stays other (closing.given_ones other h);
        met = λ dependency within none. stays (get_or made.heads.items dependency 0)
            (closing.met dependency within none);
        least = λ other follows one h. elim h [
          | inl flagged ↦ closing.least other follows one (inl flagged)
          | inr left ↦ closing.least other follows one (inr (found-left one left))
        ];
      }
        where
          stays : (other : ℕ) → (IsFlagged flags other ⊎ Contains found other)
              → IsFlagged flags other ⊎ Contains rest other
          stays other (inl flagged) = inl flagged
          stays other (inr h) = elim (found-cases other h) [ inl left ↦ inr left | inr is ↦ inl (rw is known) ]

      -- each of its users misses it
      pub IsEnough-closing : get_or flags attribute false ≡ false → IsEnough (users (uses_of made) attribute) missing
      IsEnough-closing clear dependency = elim (Contains-or-none dependency (users (uses_of made) attribute)) [
        | inr none ↦ omega (arith, none)
        | inl used ↦
            let known = All-Contains (λ one. one < length made.heads.items) (users (uses_of made) attribute) dependency
            (All-users (λ one. one < length made.heads.items) (uses_of made) attribute sound.uses_within) used in
            let within : attribute < length flags = rw closing.whole attribute_within in
            omega (
              arith,
              closing.missing_left dependency known,
              left_count-set dependency flags (uses_of made) attribute within
                  (closing.whole ∙ sym (length-uses_of made))
                  clear,
            )
      ]

      -- a new attribute is flagged, and taken off the left sides on which it stands
      pub IsClosing-taken : get_or flags attribute false ≡ false → (after later : List ℕ)
          → TakesOff made (users (uses_of made) attribute) missing after rest later
          → IsClosing made given (set flags attribute true) after later
      IsClosing-taken clear after later taken =
          let within : attribute < length flags = rw closing.whole attribute_within in
          let ones = users (uses_of made) attribute in
          let left : (dependency : ℕ) → dependency < length made.heads.items
          → get_or after dependency 0 ≡ left_count dependency (set flags attribute true) (uses_of made) =
          λ dependency known.
          let now = left_count-set dependency flags (uses_of made) attribute within
          (closing.whole ∙ sym (length-uses_of made)) clear in
          omega (arith, now, taken.missing dependency, closing.missing_left dependency known) in
          let goes_on : (other : ℕ) → (IsFlagged flags other ⊎ Contains found other)
          → IsFlagged (set flags attribute true) other ⊎ Contains later other =
          λ other h. elim h [
            | inl flagged ↦ inl (IsFlagged-set flags attribute other within flagged)
            | inr there ↦ elim (found-cases other there) [
              | inl left_there ↦ inr (rw taken.appended (Contains-append_left rest taken.new other left_there))
              | inr is ↦ inl (rw is (IsFlagged-here flags attribute within))
            ]
          ] in
          let known_users : All (λ one. one < length made.heads.items) ones =
          All-users (λ one. one < length made.heads.items) (uses_of made) attribute sound.uses_within in
          record {
            whole = length-set flags attribute true ∙ closing.whole;
            missing_whole = taken.whole ∙ closing.missing_whole;
            missing_left = left;
            found_within = rw taken.appended (All-append (λ one. one < length made.uses.items) rest taken.new
                rest_within
                (λ k d h.
                let met = taken.met (get_or taken.new k d) (Contains-at taken.new k d h) in
                let known = All-Contains (λ one. one < length made.heads.items) ones met.dependency known_users met.used
                in
                rw met.is_head (sound.heads_within met.dependency 0 known)));
            given_ones = λ other h. goes_on other (closing.given_ones other h);
            met = λ dependency known none. elim (Contains-or-none dependency ones) [
              | inl used ↦ inr (rw taken.appended (Contains-append_right rest taken.new
                  (get_or made.heads.items dependency 0)
                  (taken.all dependency used none)))
              | inr unused ↦ goes_on (get_or made.heads.items dependency 0)
                  (closing.met dependency known (omega (arith, taken.missing dependency, unused, none)))
            ];
            least = λ other follows one h.
                let flagged_there : (place : ℕ) → IsFlagged (set flags attribute true) place → IsFlagged other place =
                λ place flagged. elim (IsFlagged-cases flags attribute place flagged) [
                  | inl is ↦ rw is (closing.least other follows attribute (inr attribute_found))
                  | inr before ↦ closing.least other follows place (inl before)
                ] in
                elim h [
                  | inl flagged ↦ flagged_there one flagged
                  | inr there ↦ elim (Contains-append_cases rest taken.new one (rw taken.appended at there)) [
                    | inl left_there ↦ closing.least other follows one (inr (found-left one left_there))
                    | inr new ↦
                        let met = taken.met one new in
                        let known = All-Contains (λ place. place < length made.heads.items) ones met.dependency
                        known_users met.used in
                        let none : left_count met.dependency (set flags attribute true) (uses_of made) ≡ 0 =
                        sym (left met.dependency known) ∙ met.met in
                        rw met.is_head (follows.heads met.dependency known (λ place used. flagged_there place
                        (left_count-zero met.dependency (set flags attribute true) (uses_of made) place
                        (length-set flags attribute true ∙ closing.whole ∙ sym (length-uses_of made)) none used)))
                  ]
                ];
          }

    -- where nothing is found any more, the closure is flagged
    pub IsClosure-done : (flags : List Bool) (missing found : List ℕ) → length found ≡ 0
        → IsClosing made given flags missing found → IsClosure made given flags
    IsClosure-done flags missing found none closing = record {
      whole = closing.whole;
      follows = record {
        given_ones = λ attribute h. only attribute (closing.given_ones attribute h);
        heads = λ dependency known all. only (get_or made.heads.items dependency 0) (closing.met dependency known
            (closing.missing_left dependency known ∙ left_count-flagged dependency flags (uses_of made) all));
      };
      least = λ other follows attribute h. closing.least other follows attribute (inl h);
    }
      where
        only : (attribute : ℕ) → (IsFlagged flags attribute ⊎ Contains found attribute) → IsFlagged flags attribute
        only attribute (inl flagged) = flagged
        only attribute (inr h) = absurd (omega (arith, none, h.1))
