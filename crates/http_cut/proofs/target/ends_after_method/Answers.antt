use Rattle.std.proofs.Common.{sym, subst}
use Rattle.std.specs.Prelude.{◌↔◌, IsTrue, Bool}
use Rattle.http_cut.specs.Lines.{EndsAfterMethod}
use Rattle.http_cut.proofs.Ends.{target_test}
use Rattle.http_cut.proofs.target.ends_after_method.Goals as goal

pub returns-in-Some : goal.returns-in-Some
returns-in-Some c =
    subst (λ (b : Bool). IsTrue b ↔ EndsAfterMethod c.args.text.now) (sym c.are_target_bytes.ensures)
    (target_test c.args.text.now c.in-Some.target.now c.in-Some.ensures)

pub returns-in-None : goal.returns-in-None
returns-in-None c =
    let none = c.in-None.ensures in
    (λ f. cc, λ x. absurd (none x.0 x.1))
