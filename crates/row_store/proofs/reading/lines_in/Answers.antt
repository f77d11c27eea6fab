use Rattle.std.proofs.Common.{◌≡◌, ◌++◌, ◌∷◌, [], List, ◌+◌, map, sym, ap, subst₂, ◌∙◌, take, add-one}
use Rattle.std.specs.List.{AllZip}
use Rattle.std.proofs.Math.Seq.{take-suc}
use Rattle.std.proofs.lemmas.List.{map-append}
use Rattle.desk_packing.specs.Lines.{line_of}
use Rattle.row_store.specs.Stored.{IsLineRow}
use Rattle.row_store.proofs.Refused.{passed_on}
use Rattle.row_store.proofs.reading.lines_in.Goals as goal

zip_push : {A B : Type 0} (R : A → B → Type 0) (xs : List A) (ys : List B) (x : A) (y : B) → AllZip R xs ys → R x y
    → AllZip R (xs ++ x ∷ []) (ys ++ y ∷ [])
zip_push R [] [] x y h k = (k, tt)
zip_push R [] (b ∷ ys) x y h k = absurd h
zip_push R (a ∷ xs) [] x y h k = absurd h
zip_push R (a ∷ xs) (b ∷ ys) x y h k = (h.0, zip_push R xs ys x y h.1 k)

pub rows-preserved : goal.rows-preserved
rows-preserved c =
    let longer : take (c.rows.row-index + 1) c.args.rows.now
    ≡ take c.rows.row-index c.args.rows.now ++ c.row-item.result ∷ [] =
    rw (add-one c.rows.row-index)
    (rw c.row-item.is (take-suc c.args.rows.now c.rows.row-index c.row-item.result c.rows-test.true)) in
    let lines : map line_of c.push.new.self.items
    ≡ map line_of c.rows.lines.items ++ line_of c.in_ok-line_in.field-0 ∷ [] =
    ap (map line_of) c.in_ok-push.ensures.items
    ∙ map-append line_of c.rows.lines.items (c.in_ok-line_in.field-0 ∷ []) in
    subst₂ (AllZip IsLineRow) (sym longer) (sym lines)
    (zip_push IsLineRow _ _ c.row-item.result (line_of c.in_ok-line_in.field-0) c.rows.invariant
    c.in_ok-line_in.ensures.line)

pub returns-in_err-line_in-clause-cause : goal.returns-in_err-line_in-clause-cause
returns-in_err-line_in-clause-cause c = passed_on c.from_residual.result _ _ c.from_residual.ensures.1 (λ other.
    (c.rows.row-index, c.row-item.result, c.rows-test.true, sym c.row-item.is, c.in_err-line_in.ensures.cause other))
