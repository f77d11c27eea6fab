use Rattle.std.proofs.Common.{◌≡◌, ◌∙◌, ◌++◌, ◌∷◌, [], ℕ, Bool, List, true, false, cond, not, sym, ap, filter}
use Rattle.std.proofs.Common.{slice_index_or}
use Rattle.std.specs.List.{range_with_len}
use Rattle.std.proofs.lemmas.List.{append-nil, get_or_read}
use Rattle.desk_base.specs.Places.{has_text}
use Rattle.desk_carry.proofs.Lists.{filter-range_more}
use Rattle.desk_carry.proofs.moving.places_apart.Goals as goal
use Rattle.desk_carry.proofs.moving.places_apart.Goals.{then-not-has_text+in_ok-push, else-not-has_text}

pub words-preserved : goal.words-preserved
words-preserved c =
    let words = c.args.words.now in
    let others = c.args.others.now in
    let place : ℕ = c.words.place in
    let test : ℕ → Bool = λ n. not (has_text others (slice_index_or words n [])) in
    let here : c.index-words-place.result ≡ slice_index_or words place [] =
    get_or_read words place c.index-words-place.result c.words-test.true c.index-words-place.is [] in
    let told : c.has_text.result ≡ has_text others (slice_index_or words place []) =
    c.has_text.ensures ∙ ap (has_text others) (c.as_str.ensures.text ∙ here) in
    let more = filter-range_more test place in
    elim c.if-not-has_text.branch [
      | then-not-has_text+in_ok-push w ↦
          let absent : test place ≡ true = ap not (sym told ∙ w.if-not-has_text.true) in
          w.places-is ∙ w.in_ok-push.ensures.pushed
          ∙ ap (λ (l : List ℕ). l ++ place ∷ []) c.words.invariant
          ∙ sym (more ∙ ap (λ b. filter test (range_with_len 0 place) ++ cond b (place ∷ []) []) absent)
      | else-not-has_text w ↦
          let there : test place ≡ false = ap not (sym told ∙ w.if-not-has_text.false) in
          w.places-is ∙ c.words.invariant
          ∙ sym (more ∙ ap (λ b. filter test (range_with_len 0 place) ++ cond b (place ∷ []) []) there ∙ append-nil _)
    ]
