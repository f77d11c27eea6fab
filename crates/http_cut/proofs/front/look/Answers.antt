use Rattle.std.proofs.lemmas.Bool.{both_ways}
use Rattle.http_cut.proofs.Heads.{never_is_bad}
use Rattle.http_cut.proofs.Opening.{unfinished_awaits, many_is_never, crowded_never}
use Rattle.http_cut.proofs.front.look.Goals as goal
use Rattle.http_cut.proofs.front.look.Goals.{else-bytes-lt-MAX_HEAD-via-then-bytes-lt-MAX_HEAD+else-not-has_many_lines}
use Rattle.http_cut.proofs.front.look.Goals.{else-bytes-lt-MAX_HEAD-via-else-bytes-lt-MAX_HEAD}

pub returns-then-not-has_many_lines : goal.returns-then-not-has_many_lines
returns-then-not-has_many_lines c =
    let unfinished = c.in-Unfinished.ensures in
    unfinished_awaits c.args.bytes.now unfinished.0 unfinished.1 c.if-bytes-lt-MAX_HEAD.true
    (λ many. both_ways _ c.if-not-has_many_lines.true (c.has_many_lines.ensures.1 many))

pub returns-else-bytes-lt-MAX_HEAD : goal.returns-else-bytes-lt-MAX_HEAD
returns-else-bytes-lt-MAX_HEAD c =
    let bytes = c.args.bytes.now in
    let unfinished = c.in-Unfinished.ensures in
    elim c.else-bytes-lt-MAX_HEAD.branch [
      | else-bytes-lt-MAX_HEAD-via-then-bytes-lt-MAX_HEAD+else-not-has_many_lines w ↦
          never_is_bad bytes (many_is_never bytes unfinished.0
          (w.has_many_lines.ensures.0 w.if-not-has_many_lines.false))
      | else-bytes-lt-MAX_HEAD-via-else-bytes-lt-MAX_HEAD w ↦
          never_is_bad bytes (crowded_never bytes unfinished.0 w.if-bytes-lt-MAX_HEAD.false)
    ]
