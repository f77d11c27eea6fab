use Rattle.std.proofs.Common.{rules}
use Rattle.clean_run.proofs.Written.{unread-written}
use Rattle.clean_run.proofs.words.test_files.Goals as goal

pub returns-clause-unread : goal.returns-clause-unread
returns-clause-unread c =
    unread-written c.args.words.now c.in-Some.file c.test_beside-2.result (search rules) (search rules) (search rules)
    (search rules)
