-- What the query of all rows leaves of a connection at rest.
use Rattle.std.proofs.Common.{List, [], Result, Ok, Err, IfOk, IfErr, OnOk, IsTrue, sym, subst, ◌∙◌}
use Rattle.sqlite.proofs.Callers.{IsPlain, never_commits}
use Rattle.sqlite.specs.Effect.{IsDatabase}
use Rattle.sqlite.specs.Listing.{understood}
use Rattle.sqlite.specs.Order.{Row}
use Rattle.sqlite.specs.State.{State, HasCleanDisk, Survives, Shown, FailsToQuery, CommitsShowing, IsUnchanged}
use Rattle.sqlite.specs.declared.error.Error.{Error}
use Rattle.row_store.specs.Calls.{Becomes, IsAtRest, Lasts, Leaves, Stays}
use Rattle.row_store.specs.Stored.{Shows}
use Rattle.row_store.specs.Table.{is_desk, tree_of}
use Rattle.row_store.proofs.Desk.{desk_of}
use Rattle.row_store.proofs.Meaning.{fails, shows, unchanged}
use Rattle.row_store.proofs.Rests.{IsSettled, lasts, leaves, was_clean}
use Rattle.row_store.proofs.Texts.{select_text}
use Rattle.row_store.proofs.SelectText.{select_plain}

select_plain_at : (s : State) → IsTrue (is_desk s.now.schema) → IsPlain (understood s.now.schema select_text)
select_plain_at s stands =
    select_plain s.now.schema (tree_of s.now.schema) (desk_of s.now.schema stands)

module _ {A : Type 0} (items : A → List Row) (old new : State)
    (desk : HasCleanDisk old → IsTrue (is_desk old.now.schema)) (rest : IsAtRest old)
    (survives : Survives old new (CommitsShowing select_text [] old)) where
  stands : HasCleanDisk new → IsTrue (is_desk old.now.schema)
  stands clean = desk (was_clean old new _ survives clean)

  same : (answer : A) → HasCleanDisk new → Shown select_text [] old new (items answer) → IsUnchanged old new
  same answer clean shown =
      unchanged (tree_of old.now.schema) old new (items answer) (desk_of old.now.schema (stands clean)) shown

  pub becomes_shown : (r : Result A Error)
      → (HasCleanDisk new → IfOk r (λ answer. Shown select_text [] old new (items answer)))
      → IfOk r (λ answer. Becomes (Shows (items answer)) old new)
  becomes_shown (Ok answer) ok = λ clean.
      let kept = same answer clean (ok clean) in (
        (was_clean old new _ survives clean, kept.0.was_open),
        kept.0.is_open,
        shows old new (items answer) (stands clean) (ok clean),
      )
  becomes_shown (Err e) ok = tt

  pub stays_asked : (r : Result A Error)
      → (HasCleanDisk new → IfOk r (λ answer. Shown select_text [] old new (items answer)))
      → (HasCleanDisk new → IfErr r (FailsToQuery select_text [] old new)) → Stays old new
  stays_asked (Ok answer) ok err clean =
      let kept = same answer clean (ok clean) in
      (was_clean old new _ survives clean, λ opened. (kept.0.was_open, kept.0.now_is))
  stays_asked (Err e) ok err clean =
      (was_clean old new _ survives clean, fails old new e (stands clean) rest.settled (err clean))

  pub leaves_asked : IsSettled old → Leaves (λ _ _. ⊥) old new
  leaves_asked store = leaves (λ _ _. ⊥) (CommitsShowing select_text [] old) old new store rest survives
      (λ opened clean db commits obeys.
      never_commits select_text [] old db.trees (select_plain_at old (stands clean)) commits)

  pub lasts_shown : IsSettled new → (r : Result A Error)
      → (HasCleanDisk new → IfOk r (λ answer. Shown select_text [] old new (items answer))) → OnOk r (Lasts new)
  lasts_shown store (Ok answer) ok = lasts new store
      (λ clean. let kept = same answer clean (ok clean) in
      kept.0.now_is ∙ rest.settled kept.0.was_open ∙ sym kept.0.committed_is)
      (λ clean. let kept = same answer clean (ok clean) in
      subst IsDatabase (sym kept.0.now_is) (rest.obeys kept.0.was_open))
  lasts_shown store (Err e) ok = tt
