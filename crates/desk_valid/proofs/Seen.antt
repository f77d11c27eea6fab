-- Which sessions the records so far name.
use Rattle.std.proofs.Common.{◌≡◌, ◌≢◌, ℕ, ◌+◌, ◌-◌, ◌<◌, ◌≤◌, Bool, true, false, List, [], ◌∷◌, ◌++◌, length, get_or}
use Rattle.std.proofs.Common.{set, take, sym, subst, ap, ◌∙◌, inl, inr, arith, get_or-set_other}
use Rattle.std.specs.Prelude.{All}
use Rattle.std.proofs.lemmas.Bool.{cases_eq, true≢false}
use Rattle.std.proofs.lemmas.Grind.{get_or-set_at}
use Rattle.std.proofs.lemmas.List.{take_more, length-set, length-take, get_or-take}
use Rattle.std.proofs.lemmas.List.Elements.{All-push}
use Rattle.desk_words.specs.declared.rows.record.RecordRow.{RecordRow}
use Rattle.desk_valid.specs.Seen.{AreSeen}

module _ (records : List RecordRow) (place : ℕ) (row : RecordRow) (within : place < length records)
    (is : row ≡ get_or records place row) where
  -- one record more
  taken : take (place + 1) records ≡ take place records ++ row ∷ []
  taken = take_more records place row within ∙ ap (λ (one : RecordRow). take place records ++ one ∷ []) (sym is)

  -- what holds of them holds of the last
  All-last : (P : RecordRow → Type 0) → All P (take (place + 1) records) → P row
  All-last P all =
      let last : get_or (take (place + 1) records) place row ≡ row = get_or-take (place + 1) records place row
      (omega arith) ∙ sym is in
      subst P last (all place row (omega (arith, length-take (place + 1) records)))

  -- and of those before it
  All-before : (P : RecordRow → Type 0) → All P (take (place + 1) records) → All P (take place records)
  All-before P all k d below =
      let less : k < place = omega (arith, length-take place records) in
      let same : get_or (take (place + 1) records) k d ≡ get_or (take place records) k d = get_or-take (place + 1)
      records k d (omega arith) ∙ sym (get_or-take place records k d less) in
      subst P same (all k d (omega (arith, length-take (place + 1) records)))

  -- the flag of the session that it names is put on
  pub AreSeen-more : (seen : List Bool) (sessions : ℕ) → 1 ≤ row.session → row.session ≤ sessions
      → AreSeen seen sessions (take place records)
      → AreSeen (set seen (row.session - 1) true) sessions (take (place + 1) records)
  AreSeen-more seen sessions counted there were = record {
    full = length-set seen (row.session - 1) true ∙ were.full;
    unseen = λ number some few.
        let Other : RecordRow → Type 0 = λ one. one.session ≢ number in
        let Apart : List RecordRow → Type 0 = All Other in
        elim (cases_eq row.session number) [
          | inl same ↦
              let on : get_or (set seen (row.session - 1) true) (number - 1) false ≡ true =
              get_or-set_at seen (row.session - 1) (number - 1) true false (omega arith) (omega (arith, were.full)) in
              (λ off. absurd (true≢false (sym on ∙ off)), λ apart. absurd (All-last Other apart same))
          | inr other ↦
              let ne : number - 1 ≢ row.session - 1 = λ e. other (omega arith) in
              let kept : get_or (set seen (row.session - 1) true) (number - 1) false ≡ get_or seen (number - 1) false =
              get_or-set_other seen (row.session - 1) (number - 1) true false ne in (
                λ off. subst Apart (sym taken) (All-push Other (take place records) row
                    ((were.unseen number some few).0 (sym kept ∙ off)) other),
                λ apart. kept ∙ (were.unseen number some few).1 (All-before Other apart),
              )
        ];
  }
