use Rattle.std.proofs.Common.{◌≡◌, ◌∙◌, ℕ, List, ap, subst, rules}
use Rattle.std.specs.Prelude.{IfOk}
use Rattle.fix_model.proofs.Lengths.{Fits-end_of}
use Rattle.fix_model.specs.declared.state.State.{State}
use Rattle.fix_model.specs.Run.{end_of}
use Rattle.case_json.specs.Answer.{fix_line, fix_shown}
use Rattle.case_json.proofs.answer.fix_line.Goals as goal

-- the end of the run fits the kit
pub show_fix-requires-clause-fits : goal.show_fix-requires-clause-fits
show_fix-requires-clause-fits g c = rw (c.apply.ensures, c.in_ok-end.ensures.copied) (
    Fits-end_of (g.B.Book.kit c.args.book.now) c.width-width.ensures.valid c.args.state.now c.args.first.now
    c.requires.fits c.requires.run)

pub returns : goal.returns
unfolding fix_line
returns g c =
    let kit = g.B.Book.kit c.args.book.now in
    let first = c.args.first.now in
    let line : State → List ℕ = λ at. fix_line c.args.attributes.now kit at first c.args.certain c.args.dissent in
    let end : c.apply.new.state ≡ end_of kit c.args.state.now first =
    c.apply.ensures ∙ ap (λ from. end_of kit from first) c.in_ok-end.ensures.copied in
    let shown = fix_shown c.args.attributes.now kit c.apply.new.state first c.args.certain c.args.dissent in
    let text : IfOk c.line_of.result (λ text. text ≡ line c.apply.new.state) =
    search (rules, c.line_of.ensures shown) in
    subst (λ (at : State). IfOk c.line_of.result (λ text. text ≡ line at)) end text
