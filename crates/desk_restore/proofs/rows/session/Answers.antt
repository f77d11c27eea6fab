use Rattle.std.proofs.Common.{◌≡◌, ◌∙◌, [], ◌∷◌, ap, arith, drop, refl}
use Rattle.std.proofs.lemmas.List.{drop_all}
use Rattle.desk_restore.proofs.Following.{drop-item}
use Rattle.desk_restore.proofs.rows.session.Goals as goal

-- the values are seven, and each was read
pub returns-clause-change : goal.returns-clause-change
returns-clause-change c =
    let values = c.args.values.now in
    let some = c.in-len7.len_at_least in
    let from : drop 7 values ≡ [] = drop_all 7 values (omega (arith, c.in-len7.len_below)) in
    let clerk = c.clerk-item.result in
    let place = c.place-item.result in
    let edition = c.edition-item.result in
    let typed = c.typed-item.result in
    let confirmed = c.confirmed-item.result in
    let stage = c.stage-item.result in
    let batch = c.batch-item.result in
    let whole : values ≡ clerk ∷ place ∷ edition ∷ typed ∷ confirmed ∷ stage ∷ batch ∷ [] =
    drop-item values 0 clerk (omega (arith, some)) c.clerk-item.is ∙ ap (λ left. clerk ∷ left)
    (drop-item values 1 place (omega (arith, some)) c.place-item.is ∙ ap (λ left. place ∷ left)
    (drop-item values 2 edition (omega (arith, some)) c.edition-item.is ∙ ap (λ left. edition ∷ left)
    (drop-item values 3 typed (omega (arith, some)) c.typed-item.is ∙ ap (λ left. typed ∷ left)
    (drop-item values 4 confirmed (omega (arith, some)) c.confirmed-item.is ∙ ap (λ left. confirmed ∷ left)
    (drop-item values 5 stage (omega (arith, some)) c.stage-item.is ∙ ap (λ left. stage ∷ left)
    (drop-item values 6 batch (omega (arith, some)) c.batch-item.is ∙ ap (λ left. batch ∷ left) from)))))) in
    rw (
      whole,
      c.in_ok-clerk.ensures.part,
      c.in_ok-place.ensures.part,
      c.in_ok-edition.ensures.part,
      c.in_ok-typed.ensures.part,
      c.in_ok-confirmed.ensures.part,
      c.in_ok-stage.ensures.part,
      c.in_ok-batch.ensures.part,
      c.in_ok-of.ensures,
      c.in_ok-of-2.ensures,
    ) refl
