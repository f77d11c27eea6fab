use Rattle.sqlite.specs.WalFiles.{image_at}
use Rattle.row_store.proofs.Opened.{copied_found, copied_named, copied_nothing, copied_open, copied_refused}
use Rattle.row_store.proofs.Opened.{blank_file, copied_shielded, copied_sums, copied_unreached}
use Rattle.row_store.proofs.opening.open.Goals as goal

pub returns-in-Ok-clause-opened : goal.returns-in-Ok-clause-opened
returns-in-Ok-clause-opened g c =
    copied_open _ (image_at g.S.Start) c.in-Ok.conn c.in-Ok.ensures.opened c.in-Ok.ensures.found c.without_log.result
    c.without_log.ensures.same

pub returns-in-Ok-clause-found : goal.returns-in-Ok-clause-found
returns-in-Ok-clause-found g c =
    copied_found _ (image_at g.S.Start) c.in-Ok.conn c.in-Ok.ensures.opened c.in-Ok.ensures.found c.without_log.result
    c.without_log.ensures.same

pub returns-in-Ok-clause-nothing : goal.returns-in-Ok-clause-nothing
returns-in-Ok-clause-nothing g c =
    copied_nothing _ (image_at g.S.Start) c.in-Ok.conn c.in-Ok.ensures.opened c.in-Ok.ensures.found
    c.without_log.result c.without_log.ensures.same

pub returns-in-Ok-clause-sums : goal.returns-in-Ok-clause-sums
returns-in-Ok-clause-sums g c =
    copied_sums _ (image_at g.S.Start) c.in-Ok.conn c.in-Ok.ensures.opened c.in-Ok.ensures.found _
    c.without_log.result c.without_log.ensures.same c.without_log.ensures.nothing
    (λ clean nothing. c.in-Ok.ensures.sums clean (blank_file (image_at g.S.Start) nothing))

pub returns-in-Ok-clause-shielded : goal.returns-in-Ok-clause-shielded
returns-in-Ok-clause-shielded g c =
    copied_shielded _ (image_at g.S.Start) c.in-Ok.conn c.in-Ok.ensures.opened c.in-Ok.ensures.found
    c.without_log.result c.without_log.ensures.shielded c.in-Ok.ensures.guarded

pub returns-in-Ok-clause-named : goal.returns-in-Ok-clause-named
returns-in-Ok-clause-named g c = copied_named c.without_log.result c.without_log.ensures.uncopied

pub returns-in-Ok-clause-unreached : goal.returns-in-Ok-clause-unreached
returns-in-Ok-clause-unreached g c = copied_unreached c.without_log.result c.without_log.ensures.uncopied

pub returns-in-Ok-clause-refused : goal.returns-in-Ok-clause-refused
returns-in-Ok-clause-refused g c = copied_refused _ c.without_log.result c.without_log.ensures.uncopied

pub returns-in-Err-open_from-clause-named : goal.returns-in-Err-open_from-clause-named
returns-in-Err-open_from-clause-named g c = rw c.refused.ensures c.in-Err-open_from.ensures.named

pub returns-in-Err-open_from-clause-unreached : goal.returns-in-Err-open_from-clause-unreached
returns-in-Err-open_from-clause-unreached g c = rw c.refused.ensures c.in-Err-open_from.ensures.unopened

pub returns-in-Err-open_from-clause-refused : goal.returns-in-Err-open_from-clause-refused
returns-in-Err-open_from-clause-refused g c = rw c.refused.ensures c.in-Err-open_from.ensures.cause
