-- Sessions that are put after others.
use Rattle.std.proofs.Common.{◌≡◌, ◌∙◌, ℕ, ◌+◌, List, [], ◌∷◌, ◌++◌, length, sym, ap, append_assoc, arith}
use Rattle.std.proofs.lemmas.List.{append-nil, length-append}
use Rattle.desk_words.specs.declared.rows.session.SessionRow.{SessionRow}
use Rattle.desk_words.specs.Changes.{put}
use Rattle.machine_core.specs.Clerk.Batch.{placed}
use Rattle.machine_core.specs.Own.{put_all}
use Rattle.desk_words.proofs.Changes.{put-end}

-- sessions that are put after the others, one after another
pub put_all-placed : (sessions news : List SessionRow) (count : ℕ) → count ≡ length sessions
    → put_all sessions (placed count news) ≡ sessions ++ news
put_all-placed sessions [] count is = sym (append-nil sessions)
put_all-placed sessions (session ∷ news) count is =
    let first : put sessions count session ≡ sessions ++ session ∷ [] =
    ap (λ place. put sessions place session) is ∙ put-end sessions session in
    let longer : count + 1 ≡ length (sessions ++ session ∷ []) =
    omega (arith, is, length-append sessions (session ∷ [])) in
    ap (λ list. put_all list (placed (count + 1) news)) first
    ∙ put_all-placed (sessions ++ session ∷ []) news (count + 1) longer ∙ append_assoc sessions (session ∷ []) news
