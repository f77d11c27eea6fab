-- The dependencies of open rules.
use Rattle.std.proofs.Common.{◌≡◌, ◌≢◌, ◌<◌, ◌+◌, ◌∙◌, ℕ, true, false, List, [], ◌∷◌, length, get_or, map, replicate}
use Rattle.std.proofs.Common.{eqb, eqb-true, length-append, inl, inr, sym, ap, refl, arith}
use Rattle.std.specs.Prelude.{All}
use Rattle.std.proofs.lemmas.Bool.{cases_Bool, eqb-false}
use Rattle.std.proofs.lemmas.List.{get_or_append_left, length-map, length-replicate, get_or-replicate}
use Rattle.std.proofs.lemmas.List.Elements.{All-append, All-map}
use Rattle.std.proofs.Math.Seq.{get_or-append_seam}
use Rattle.fix_model.specs.declared.kit.Kit.{Kit}
use Rattle.fix_model.specs.declared.pattern.Pat.{Pat}
use Rattle.fix_model.specs.declared.rule.Rule.{Rule}
use Rattle.fix_model.specs.declared.state.State.{State}
use Rattle.fix_model.specs.Application.{covers_left_side}
use Rattle.fix_model.specs.Rules.{rule_at}
use Rattle.fix_model.specs.Run.{IsFinal}
use Rattle.fix_model.specs.Valid.{IsValidRule}
use Rattle.fix_model.proofs.Hits.{covered_keys-all}
use Rattle.fix_model.proofs.LeftSides.{all-covers_left_side}
use Rattle.region_suggest.specs.declared.dependencies.Dependencies.{Dependencies}
use Rattle.region_suggest.specs.Dependencies.{AddsRule, IsSound, left_count, left_side, uses_of}
use Rattle.region_suggest.specs.Hope.{IsOpen}
use Rattle.region_suggest.specs.Openings.{AreOpenings, IsOpening}
use Rattle.region_suggest.proofs.Closures.{length-uses_of}
use Rattle.region_suggest.proofs.LeftSides.{All-Contains-users, All-with_uses, Contains-with_uses, left_count-flagged}
use Rattle.region_suggest.proofs.LeftSides.{left_count-with_uses_other, left_count-with_uses_self, length-with_uses}

-- no dependency is sound
pub IsSound-none : (made : Dependencies) (width : ℕ) → uses_of made ≡ replicate width [] → made.sizes.items ≡ []
    → made.heads.items ≡ [] → IsSound made
IsSound-none made width none no_size no_head = record {
  whole = ap length no_size ∙ sym (ap length no_head);
  heads_within = rw no_head (λ k d h. absurd (omega (arith, h)));
  uses_within = rw none (λ k d h. empty k d (rw (length-replicate {A = List ℕ} width []) at h));
  sizes = λ dependency known. absurd (let h = rw no_head at known in omega (arith, h));
  filled = rw no_size (λ k d h. absurd (omega (arith, h)));
}
  where
    empty : (k : ℕ) (d : List ℕ) → k < width → All (λ one. one < length made.heads.items)
        (get_or (replicate width []) k d)
    empty k d h = rw (get_or-replicate width k [] d h) (λ j e below. absurd (omega (arith, below)))

-- before the first rule no dependency is known
pub AreOpenings-none : (kit : Kit) (state : State) (made : Dependencies) → uses_of made ≡ replicate kit.width []
    → made.sizes.items ≡ [] → made.heads.items ≡ [] → AreOpenings kit state 0 made
AreOpenings-none kit state made none no_size no_head = record {
  sound = IsSound-none made kit.width none no_size no_head;
  wide = sym (length-uses_of made) ∙ ap length none ∙ length-replicate {A = List ℕ} kit.width [];
  few = omega (arith, ap length no_head);
  each = λ dependency known. absurd (let h = rw no_head at known in omega (arith, h));
  all = λ place below opened. absurd (omega (arith, below));
}

-- where nothing fires, a rule whose keys and conditions are covered is not open
pub IsOpen-covered : (kit : Kit) (state : State) (place : ℕ) → place < length kit.rules → IsFinal kit state
    → covers_left_side state (rule_at kit place) ≡ true → ¬ IsOpen kit state (rule_at kit place)
IsOpen-covered kit state place within final covers opened =
    let rule = rule_at kit place in
    let both = all-covers_left_side state rule covers in
    final (record { rule = place; row = opened.agrees.0 }) (record {
      rule_within = within;
      enabled = record { keys = both.0; conds = both.1; matched = λ k d h. opened.matched k d h (both.1 k d h) };
      uncovered = opened.uncovered;
      agrees = rw (covered_keys-all state rule both.0) at opened.agrees.1;
    })

-- a rule that is not open is passed over
pub AreOpenings-closed : (kit : Kit) (state : State) (made : Dependencies) (place : ℕ)
    → ¬ IsOpen kit state (rule_at kit place)
    → AreOpenings kit state place made → AreOpenings kit state (place + 1) made
AreOpenings-closed kit state made place closed before = record {
  sound = before.sound;
  wide = before.wide;
  few = omega (arith, before.few);
  each = λ dependency known.
      let old = before.each dependency known in
      record { place = old.place; place_below = omega (arith, old.place_below); opening = old.opening };
  all = λ other below opened. elim (cases_Bool (eqb other place)) [
    | inl same ↦ absurd (closed (rw (eqb-true other place same) at opened))
    | inr differs ↦ let apart = eqb-false other place differs in before.all other (omega (arith, below, apart)) opened
  ];
}

module _ (old new : Dependencies) (rule : Rule) (sound : IsSound old) (added : AddsRule old new rule)
    (within : All (λ attribute. attribute < length old.uses.items) (left_side rule))
    (head : rule.head < length old.uses.items)
    (filled : 0 < length (left_side rule)) where
  -- there are as many attributes as before
  pub wide-add : length new.uses.items ≡ length old.uses.items
  wide-add = sym (length-uses_of new) ∙ ap length added.uses
      ∙ length-with_uses (length old.heads.items) (left_side rule) (uses_of old) ∙ length-uses_of old

  -- and one dependency more
  pub more-add : length new.heads.items ≡ length old.heads.items + 1
  more-add = ap length added.heads ∙ length-append old.heads.items (rule.head ∷ [])

  -- the attributes are those of the uses
  inside : All (λ attribute. attribute < length (uses_of old)) (left_side rule)
  inside = rw (length-uses_of old) within

  -- the dependencies are sound still
  pub IsSound-add : IsSound new
  IsSound-add = record {
    whole = ap length added.sizes ∙ length-append old.sizes.items (length (left_side rule) ∷ [])
        ∙ ap (λ n. n + 1) sound.whole ∙ sym more-add;
    heads_within = rw (added.heads, wide-add)
        (All-append (λ one. one < length old.uses.items) old.heads.items (rule.head ∷ []) sound.heads_within
        (λ k d h. let first : k ≡ 0 = omega (arith, h) in rw first head));
    uses_within = rw (added.uses, more-add) (All-with_uses (length old.heads.items) (length old.heads.items + 1)
        (left_side rule) (uses_of old)
        (omega arith) (λ k d h j e below. let known = sound.uses_within k d h j e below in omega (arith, known)));
    sizes = λ dependency known. elim (cases_Bool (eqb dependency (length old.heads.items))) [
      | inl same ↦
          let is : dependency ≡ length old.heads.items = eqb-true dependency (length old.heads.items) same in
          let none : left_count (length old.heads.items) (replicate (length (uses_of old)) false) (uses_of old) ≡ 0 =
          left_count-flagged (length old.heads.items) (replicate (length (uses_of old)) false) (uses_of old)
          (λ place h.
          absurd (let known = All-Contains-users (λ one. one < length old.heads.items) (uses_of old) place
          (length old.heads.items) sound.uses_within h in
          omega (arith, known))) in
          let self = left_count-with_uses_self (length old.heads.items) (left_side rule) (uses_of old) inside in
          let size : get_or new.sizes.items dependency 0 ≡ length (left_side rule) =
          rw (is, added.sizes, ← sound.whole) (get_or-append_seam old.sizes.items (length (left_side rule)) [] 0) in
          size ∙ rw (is, added.uses, wide-add, ← length-uses_of old) (omega (arith, self, none))
      | inr differs ↦
          let apart : dependency ≢ length old.heads.items = eqb-false dependency (length old.heads.items) differs in
          let before : dependency < length old.heads.items = omega (arith, known, more-add, apart) in
          let kept = left_count-with_uses_other (length old.heads.items) dependency (left_side rule) (uses_of old)
          (λ is. apart (sym is)) inside in
          let size : get_or new.sizes.items dependency 0 ≡ get_or old.sizes.items dependency 0 =
          rw added.sizes (get_or_append_left old.sizes.items (length (left_side rule) ∷ []) 0 dependency
          (rw sound.whole before)) in
          size ∙ sound.sizes dependency before ∙ rw (added.uses, wide-add, ← length-uses_of old) (sym kept)
    ];
    filled = rw added.sizes (All-append (λ size. 0 < size) old.sizes.items (length (left_side rule) ∷ []) sound.filled
        (λ k d h. let first : k ≡ 0 = omega (arith, h) in rw first filled));
  }

  -- a dependency that was known is as it was
  pub IsOpening-kept : (kit : Kit) (state : State) (dependency place : ℕ) → dependency < length old.heads.items
      → IsOpening kit state old dependency place → IsOpening kit state new dependency place
  IsOpening-kept kit state dependency place known opening = record {
    opened = opening.opened;
    head = rw added.heads (get_or_append_left old.heads.items (rule.head ∷ []) 0 dependency known) ∙ opening.head;
    left = λ attribute.
        let uses = Contains-with_uses (length old.heads.items) (left_side rule) (uses_of old) attribute dependency
        inside in (
          (λ h. elim (uses.0 (rw added.uses at h)) [
            | inl before ↦ (opening.left attribute).0 before
            | inr equal ↦ absurd (let is = equal.0 in omega (arith, known, is))
          ]),
          λ h. rw added.uses (uses.1 (inl ((opening.left attribute).1 h))),
        );
  }

  -- and the new one is that of the rule
  pub IsOpening-new : (kit : Kit) (state : State) (place : ℕ) → rule ≡ rule_at kit place
      → IsOpen kit state (rule_at kit place)
      → IsOpening kit state new (length old.heads.items) place
  IsOpening-new kit state place is opened = record {
    opened = opened;
    head = rw added.heads (get_or-append_seam old.heads.items rule.head [] 0) ∙ ap (λ (one : Rule). one.head) is;
    left = λ attribute.
        let uses = Contains-with_uses (length old.heads.items) (left_side rule) (uses_of old) attribute
        (length old.heads.items) inside in (
          (λ h. elim (uses.0 (rw added.uses at h)) [
            | inl before ↦ absurd (let known =
                All-Contains-users (λ one. one < length old.heads.items) (uses_of old) attribute
                (length old.heads.items) sound.uses_within before in
                omega (arith, known))
            | inr equal ↦ rw (← is) equal.1
          ]),
          λ h. rw added.uses (uses.1 (inr (refl, rw (← is) at h))),
        );
  }

-- an open rule is added
pub AreOpenings-add : (kit : Kit) (state : State) (old new : Dependencies) (rule : Rule) (place : ℕ)
    → rule ≡ rule_at kit place
    → IsOpen kit state (rule_at kit place) → All (λ attribute. attribute < kit.width) (left_side rule)
    → rule.head < kit.width
    → 0 < length (left_side rule) → AddsRule old new rule → AreOpenings kit state place old
    → AreOpenings kit state (place + 1) new
AreOpenings-add kit state old new rule place is opened within head filled added before =
    let inside : All (λ attribute. attribute < length old.uses.items) (left_side rule) = rw before.wide within in
    let head_inside : rule.head < length old.uses.items = rw before.wide head in
    let more = more-add old new rule before.sound added inside head_inside filled in
    record {
      sound = IsSound-add old new rule before.sound added inside head_inside filled;
      wide = wide-add old new rule before.sound added inside head_inside filled ∙ before.wide;
      few = omega (arith, more, before.few);
      each = λ dependency known. elim (cases_Bool (eqb dependency (length old.heads.items))) [
        | inl same ↦ record {
          place = place;
          place_below = omega arith;
          opening = rw (eqb-true dependency (length old.heads.items) same)
              (IsOpening-new old new rule before.sound added inside head_inside filled kit state place is opened);
        }
        | inr differs ↦
            let apart = eqb-false dependency (length old.heads.items) differs in
            let old_one : dependency < length old.heads.items = omega (arith, known, more, apart) in
            let was = before.each dependency old_one in
            record {
              place = was.place;
              place_below = omega (arith, was.place_below);
              opening = IsOpening-kept old new rule before.sound added inside head_inside filled kit state dependency
                  was.place old_one was.opening;
            }
      ];
      all = λ other below opened_there. elim (cases_Bool (eqb other place)) [
        | inl same ↦ record {
          dependency = length old.heads.items;
          known = omega (arith, more);
          opening = rw (eqb-true other place same)
              (IsOpening-new old new rule before.sound added inside head_inside filled kit state place is opened);
        }
        | inr differs ↦
            let apart = eqb-false other place differs in
            let was = before.all other (omega (arith, below, apart)) opened_there in
            record {
              dependency = was.dependency;
              known = omega (arith, more, was.known);
              opening = IsOpening-kept old new rule before.sound added inside head_inside filled kit state
                  was.dependency other was.known was.opening;
            }
      ];
    }

-- the attributes of a rule are those of the kit, and there is one at least
pub left_side-valid : (kit : Kit) (rule : Rule) → IsValidRule kit rule
    → All (λ attribute. attribute < kit.width) (left_side rule) × (0 < length (left_side rule))
left_side-valid kit rule valid = let keys : List ℕ = map (λ (key : ℕ × ℕ). key.0) rule.keys in
    let conds : List ℕ = map (λ (cond : ℕ × Pat). cond.0) rule.conds in (
      All-append (λ attribute. attribute < kit.width) keys conds
          (All-map (λ attribute. attribute < kit.width) (λ (key : ℕ × ℕ). key.0) rule.keys valid.keys.attributes)
          (All-map (λ attribute. attribute < kit.width) (λ (cond : ℕ × Pat). cond.0) rule.conds valid.conds.attributes),
      omega (arith, valid.keys.some, length-append keys conds, length-map rule.keys (λ (key : ℕ × ℕ). key.0)),
    )
