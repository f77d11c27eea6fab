-- The rows of a region, one after another.
use Rattle.std.proofs.Common.{◌≡◌, ◌∙◌, ℕ, ◌+◌, ◌<◌, ◌≤◌, suc, sym, ap, List, [], ◌∷◌, ◌++◌, length, get_or, drop}
use Rattle.std.proofs.Common.{Ok, drop-cons, add-one}
use Rattle.std.proofs.lemmas.List.{append-nil, drop_all}
use Rattle.machine_core.specs.Checked.{IsFound, run, told, ◌>>=◌}
use Rattle.machine_core.specs.Steward.AddRegion.{full_row, full_rows}
use Rattle.machine_core.proofs.Chains.{bind-done}
use Rattle.machine_core.proofs.Joined.{joined, joined-next}

-- where nothing was found before, all is still to find
pub rows-none : (attributes : List (List ℕ)) (rows : List (List (List ℕ))) (before : List (List (List ℕ))) → before ≡ []
    → run (full_rows attributes 1 rows) ≡ run (full_rows attributes 1 rows >>= joined before)
rows-none attributes rows before none = rw none (sym (bind-done (full_rows attributes 1 rows)))

-- the next row is found: it stands after what was found before
pub rows-step : (attributes : List (List ℕ)) (rows : List (List (List ℕ))) (place : ℕ) (texts : List (List ℕ))
    (before after : List (List (List ℕ))) (found : List (List ℕ)) → place < length rows
    → texts ≡ get_or rows place texts
    → IsFound (full_row attributes (place + 1) texts) found → after ≡ before ++ found ∷ []
    → run (full_rows attributes (place + 1) (drop place rows) >>= joined before)
    ≡ run (full_rows attributes (place + 1 + 1) (drop (place + 1) rows) >>= joined after)
rows-step attributes rows place texts before after found within here is more =
    let first : IsFound (full_row attributes (place + 1) (get_or rows place texts)) found =
    ap (λ one. run (full_row attributes (place + 1) one)) (sym here) ∙ is in
    rw (more, drop-cons rows place texts within, first, add-one place)
    (joined-next before found (full_rows attributes (suc place + 1) (drop (suc place) rows)))

-- past the last row nothing is left to find
pub rows-end : (attributes : List (List ℕ)) (rows : List (List (List ℕ))) (place : ℕ) (before : List (List (List ℕ)))
    → length rows ≤ place → IsFound (full_rows attributes (place + 1) (drop place rows) >>= joined before) before
rows-end attributes rows place before past = rw (drop_all place rows past)
    (ap (λ list. told (Ok list)) (append-nil before))
