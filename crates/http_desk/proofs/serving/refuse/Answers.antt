use Rattle.std.proofs.Common.{◌≡◌, inl, inr, List, refl, subst, true, ℕ}
use Rattle.std.proofs.Math.Nat.{lt_of_not-le}
use Rattle.std.specs.Io.KnownBytes.{Appends}
use Rattle.desk_base.specs.Faults.{AppendsPart}
use Rattle.http_desk.specs.Answered.{HasNoRoom}
use Rattle.http_desk.specs.Refusals.{refused_rest, refusal_text}
use Rattle.http_desk.proofs.serving.refuse.Goals as goal

-- the response was written
pub returns-in-Ok : goal.returns-in-Ok
returns-in-Ok g c =
    let same : c.as_bytes.result.now ≡ refusal_text (refused_rest c.args.kind) true c.args.asks_head =
    cc (c.as_bytes.ensures.value, c.text-text.ensures, c.of_rest.ensures) in
    record {
      later = c.write_all.ensures.cause.later;
      ends = inl (
        c.bad_end.ensures,
        subst (λ (t : List ℕ). Appends (g.W.Sink.written c.args.sink.now) (g.W.Sink.written c.write_all.new.sink) t)
            same
            c.in-Ok.ensures.written,
      );
    }

-- or a part of it, by a sink that had no room for all
pub returns-in-Err : goal.returns-in-Err
returns-in-Err g c =
    let same : c.as_bytes.result.now ≡ refusal_text (refused_rest c.args.kind) true c.args.asks_head =
    cc (c.as_bytes.ensures.value, c.text-text.ensures, c.of_rest.ensures) in
    record {
      later = c.write_all.ensures.cause.later;
      ends = inr (
        refl,
        subst (λ (t : List ℕ). AppendsPart (g.W.Sink.written c.args.sink.now) (g.W.Sink.written c.write_all.new.sink) t)
            same c.in-Err.ensures.part,
        c.in-Err.ensures.cause.failed,
        subst (λ (t : List ℕ). HasNoRoom (g.W.Sink.takes c.args.sink.now) t) same
            (λ room has. lt_of_not-le (λ enough. let no = (c.in-Err.ensures.takes room has enough).0 in cc)),
      );
    }
