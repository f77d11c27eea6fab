use Rattle.std.proofs.Common.{◌≡◌, ◌∙◌, ◌+◌, ◌<◌, ◌++◌, ◌∷◌, [], ℕ, List, All, ap, arith, below_more, get_or, length}
use Rattle.std.proofs.Common.{length-append, subst}
use Rattle.std.proofs.Math.Seq.{get_or-append_seam}
use Rattle.std.proofs.lemmas.List.{get_or_append_left}
use Rattle.desk_base.specs.Roomy.{Roomy}
use Rattle.desk_words.specs.declared.rows.session.SessionRow.{SessionRow}
use Rattle.desk_words.specs.Tables.{Rows, list_at, rows_of}
use Rattle.desk_totals.specs.declared.totals.Totals.{Totals}
use Rattle.desk_totals.specs.Totals.{AreTexts, no_totals, totals_at, totals_of}
use Rattle.desk_totals.proofs.counting.all_totals.Goals as goal

-- one clerk more is counted
right-more : (f : ℕ → Totals) (totals : List Totals) (clerk : ℕ) (last : Totals) → length totals ≡ clerk
    → last ≡ f clerk → ((one : ℕ) → one < clerk → get_or totals one no_totals ≡ f one)
    → (one : ℕ) → one < clerk + 1 → get_or (totals ++ last ∷ []) one no_totals ≡ f one
right-more f totals clerk last long is right =
    below_more (λ one. get_or (totals ++ last ∷ []) one no_totals ≡ f one) clerk
    (λ one below. get_or_append_left totals (last ∷ []) no_totals one (omega (arith, long)) ∙ right one below)
    (subst (λ one. get_or (totals ++ last ∷ []) one no_totals ≡ f clerk) long
    (get_or-append_seam totals last [] no_totals ∙ is))

pub clerks-preserved : goal.clerks-preserved
clerks-preserved c =
    let rows : Rows = rows_of c.args.tables.now in
    let items : c.push.new.self.items ≡ c.clerks.totals.items ++ c.of.result ∷ [] =
    ap (λ (room : Roomy Totals). room.items) c.in_ok-push.ensures.pushed in
    let counted : c.of.result ≡ totals_at rows c.clerks.clerk = c.of.ensures.totals
    ∙ ap (λ (sessions : List SessionRow). totals_of sessions c.own_list-records.result.now) c.own_list-sessions.ensures
    ∙ ap (totals_of (list_at rows.sessions c.clerks.clerk)) c.own_list-records.ensures in
    record {
      each = ap length items ∙ length-append c.clerks.totals.items (c.of.result ∷ [])
          ∙ ap (λ (count : ℕ). count + 1) c.clerks.invariant.each;
      right = rw items (right-more (totals_at rows) c.clerks.totals.items c.clerks.clerk c.of.result
          c.clerks.invariant.each counted c.clerks.invariant.right);
      typed = below_more (λ one. All (λ session. AreTexts session.typed) (list_at rows.sessions one)) c.clerks.clerk
          c.clerks.invariant.typed (rw c.own_list-sessions.ensures at c.of.ensures.typed);
      kept = below_more (λ one. All (λ row. AreTexts row.texts) (list_at rows.records one)) c.clerks.clerk
          c.clerks.invariant.kept (rw c.own_list-records.ensures at c.of.ensures.kept);
    }
