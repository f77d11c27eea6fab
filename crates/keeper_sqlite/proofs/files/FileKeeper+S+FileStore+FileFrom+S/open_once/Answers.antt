use Rattle.std.proofs.Common.{refl, sym, ◌∙◌}
use Rattle.desk_base.proofs.Options.{None-from_is_some}
use Rattle.keeper_sqlite.proofs.files.FileKeeper+S+FileStore+FileFrom+S.open_once.Goals as goal

pub returns-in-Ok-clause-told : goal.returns-in-Ok-clause-told
returns-in-Ok-clause-told g c =
    let none = None-from_is_some c.self.inside.tables (sym c.is_some.ensures ∙ c.if-is_some.false) in
    rw (← c.self.view_is) (rw (none, c.over.ensures) refl)

pub returns-in-Ok-clause-found : goal.returns-in-Ok-clause-found
returns-in-Ok-clause-found g c first =
    rw c.over.ensures (record {
      autocommit = c.in-Ok.ensures.autocommit;
      is_open = λ clean. c.in-Ok.ensures.opened clean;
      database = λ clean. c.in-Ok.ensures.found clean;
      nothing = λ clean. c.in-Ok.ensures.nothing clean;
    })
