use Rattle.std.proofs.Common.{ℕ, List, [], ◌∷◌, ◌++◌, refl, sym, ap, ◌∙◌, append_assoc}
use Rattle.httparse.specs.Grammar.{print_end, print_blank}
use Rattle.http_cut.proofs.Ends.{print_blank-push}
use Rattle.http_cut.proofs.lines.without_empty_lines.Goals as goal

pub lines-init : goal.lines-init
lines-init c = ([], refl)

pub lines-preserved : goal.lines-preserved
lines-preserved c =
    let so_far = c.lines.invariant in
    let line = c.in-Some.ensures in (
      so_far.0 ++ line.0 ∷ [],
      so_far.1 ∙ ap (λ (t : List ℕ). print_blank so_far.0 ++ t) line.1
          ∙ sym (append_assoc (print_blank so_far.0) (print_end line.0) c.in-Some.rest.now)
          ∙ ap (λ (t : List ℕ). t ++ c.in-Some.rest.now) (sym (print_blank-push so_far.0 line.0)),
    )

pub returns : goal.returns
returns c = (c.lines.invariant.0, c.lines.invariant.1, c.in_default.ensures)
