use Rattle.std.proofs.Common.{◌≡◌, ◌∙◌, sym, ap}
use Rattle.std.specs.Prelude.{is_some}
use Rattle.desk_valid.specs.ReadTables.{published_in}
use Rattle.desk_valid.specs.Readings.{master_at}
use Rattle.desk_base.proofs.Options.{is_some-copied}
use Rattle.desk_valid.proofs.Readings.{is_some-header_at}
use Rattle.desk_valid.proofs.masters.reads.Goals as goal

pub returns : goal.returns
returns c =
    let told : c.is_some.result ≡ is_some (master_at (published_in c.args.read.now) c.args.place) =
    c.is_some.ensures ∙ sym (is_some-copied c.header_at.result) ∙ ap is_some c.header_at.ensures
    ∙ is_some-header_at (published_in c.args.read.now) c.args.place in
    (λ yes. sym told ∙ yes, λ there. told ∙ there)
