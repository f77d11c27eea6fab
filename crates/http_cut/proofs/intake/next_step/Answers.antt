use Rattle.std.proofs.Common.{◌≡◌, ◌+◌, ◌<◌, ◌≤◌, ℕ, List, [], ◌∷◌, ◌++◌, length, take, Err, refl, sym, ap, ◌∙◌}
use Rattle.std.proofs.Common.{subst, arith}
use Rattle.std.proofs.Common.{append-nil, append_assoc, length-append, rules}
use Rattle.std.proofs.KnownBytes.{Consumes-kept, Consumes-nil, Consumes-trans}
use Rattle.desk_base.specs.Faults.{HasTaken}
use Rattle.http_cut.specs.declared.step.Step.{Step}
use Rattle.http_cut.specs.declared.intake.TheConstants.{PIECE}
use Rattle.http_cut.specs.declared.intake.IntakeFault.TheVariants.{Failed, NoMemory}
use Rattle.http_cut.specs.Cut.{IsOpen, BeginsRequest, IsBadRest}
use Rattle.http_cut.specs.Looks.{IsStep, Awaits}
use Rattle.http_cut.specs.Taking.{Takes, Fetches, Reading, ReadsOn, ReadsNoFurther}
use Rattle.http_cut.proofs.Cuts.{request_shorter}
use Rattle.http_cut.proofs.Reading.{ReadsOn-push, gave}
use Rattle.http_cut.proofs.Waiting.{open_few, open_now, awaits_on, bad_before, request_ends_in_last}
use Rattle.http_cut.proofs.intake.next_step.Goals as goal

pub reads-init : goal.reads-init
reads-init g c =
    let window = c.args.window.now in
    record {
      takes = record { bytes = []; taken = Consumes-nil _; joined = sym (append-nil window) };
      in_turn = ([], (refl, refl));
      step = subst (λ (b : List ℕ). IsStep b c.first_step-step.result) c.bytes.ensures c.first_step-step.ensures;
      few = λ head body rest begins. let shorter = request_shorter window head body rest begins in
          omega (arith, c.requires.few);
      bad = λ kind wrong. omega (arith, c.requires.few);
      later = omega arith;
      steady = λ steady. steady;
    }

-- what is awaited
pub step_after-step-requires : goal.step_after-step-requires
step_after-step-requires g c =
    λ short.
    let read : List ℕ = take c.in_ok-count.count c.read.new.buf in
    let waits = subst (λ (s : Step). IsStep c.reads.window s) c.in-NeedMore.is c.reads.invariant.step in
    let now : c.bytes-in-reads.result.now ≡ c.reads.window ++ read = c.bytes-in-reads.ensures
    ∙ c.in_ok-add.ensures.added in
    let within = c.in_ok-count.ensures.within in
    let read_some = c.if-count-eq0.false in
    let some : 0 < length read = omega arith in
    let below : length (c.reads.window ++ read) < c.in-NeedMore.least =
    subst (λ (b : List ℕ). length b < c.in-NeedMore.least) now short in (
      short,
      subst (λ (b : List ℕ). Awaits b c.in-NeedMore.least) (sym now)
          (awaits_on c.reads.window read c.in-NeedMore.least some below waits.1),
    )

-- nothing is lost by a read that failed
pub returns-in_err-count-clause-fetched : goal.returns-in_err-count-clause-fetched
returns-in_err-count-clause-fetched g c =
    let so_far = c.reads.invariant.takes in
    let kept : Takes (g.S.Source.left c.args.source.now)
    (g.S.Source.left c.read.new.self) c.args.window.now c.reads.window = record {
      bytes = so_far.bytes;
      taken = Consumes-kept _ _ _ so_far.bytes so_far.taken c.in_err-count.ensures.bytes;
      joined = so_far.joined;
    } in
    let waits = subst (λ (s : Step). IsStep c.reads.window s) c.in-NeedMore.is c.reads.invariant.step in
    let awaits : IsOpen c.reads.window = open_now c.reads.window c.in-NeedMore.least waits.0 waits.1 in
    let failed : c.from_residual.result ≡ Err Failed = search rules in
    subst (Fetches (g.S.Source.left c.args.source.now)
    (g.S.Source.left c.read.new.self) c.args.window.now c.reads.window) (sym failed) (kept, awaits)

-- what was read last is lost, and was taken all the same
pub returns-in_err-add-clause-fetched : goal.returns-in_err-add-clause-fetched
returns-in_err-add-clause-fetched g c =
    let so_far = c.reads.invariant.takes in
    let read : List ℕ = take c.in_ok-count.count c.read.new.buf in
    let lost : HasTaken (g.S.Source.left c.args.source.now) (g.S.Source.left c.read.new.self) = record {
      bytes = so_far.bytes ++ read;
      taken = Consumes-trans _ _ _ so_far.bytes read so_far.taken c.in_ok-count.ensures.bytes.0;
    } in
    let want : c.from_residual-in_err-add.result ≡ Err NoMemory = search rules in
    subst (Fetches (g.S.Source.left c.args.source.now)
    (g.S.Source.left c.read.new.self) c.args.window.now c.add.new.self) (sym want) lost

-- a read takes at least one byte
pub reads-smaller : goal.reads-smaller
reads-smaller g c =
    let read : List ℕ = take c.in_ok-count.count c.read.new.buf in
    let waits = subst (λ (s : Step). IsStep c.reads.window s) c.in-NeedMore.is c.reads.invariant.step in
    let few = open_few c.reads.window (open_now c.reads.window c.in-NeedMore.least waits.0 waits.1) in
    let more : length c.add.new.self ≡ length c.reads.window + length read = ap length c.in_ok-add.ensures.added
    ∙ length-append c.reads.window read in
    let within = c.in_ok-count.ensures.within in
    let some = c.if-count-eq0.false in
    omega arith

pub reads-preserved : goal.reads-preserved
reads-preserved g c =
    let window = c.reads.window in
    let so_far = c.reads.invariant.takes in
    let read : List ℕ = take c.in_ok-count.count c.read.new.buf in
    let waits = subst (λ (s : Step). IsStep window s) c.in-NeedMore.is c.reads.invariant.step in
    let awaits : IsOpen window = open_now window c.in-NeedMore.least waits.0 waits.1 in
    let added : c.add.new.self ≡ window ++ read = c.in_ok-add.ensures.added in
    let within = c.in_ok-count.ensures.within in
    let size : length read ≤ 65536 = omega arith in
    let one : Reading _ = record { source = c.read.new.self; piece = read } in
    let gives = gave g.S.Source.reads c.reads.source c.read.new.self (length c.reads.piece) c.in_ok-count.count
    c.read.new.buf (c.reads.auto.piece ∙ c.requires.piece) (omega arith) c.in_ok-count.ensures.reads
    c.in_ok-count.ensures.within c.if-count-eq0.false in
    let on = subst (λ (w : List ℕ). ReadsOn g.S.Source.reads c.args.source.now c.args.window.now
    (c.reads.invariant.in_turn.0 ++ one ∷ []) c.read.new.self w) (sym added)
    (ReadsOn-push g.S.Source.reads c.args.source.now c.reads.source c.args.window.now window
    c.reads.invariant.in_turn.0 one c.reads.invariant.in_turn.1 awaits gives) in
    record {
      takes = record {
        bytes = so_far.bytes ++ read;
        taken = Consumes-trans _ _ _ so_far.bytes read so_far.taken c.in_ok-count.ensures.bytes.0;
        joined = added ∙ (ap (λ (t : List ℕ). t ++ read) so_far.joined
            ∙ append_assoc c.args.window.now so_far.bytes read);
      };
      in_turn = (c.reads.invariant.in_turn.0 ++ one ∷ [], on);
      step = subst (λ (b : List ℕ). IsStep b c.step_after-step.result) c.bytes-in-reads.ensures
          c.step_after-step.ensures;
      few = λ head body rest begins.
          let less = request_ends_in_last window read head body rest awaits
          (subst (λ (b : List ℕ). BeginsRequest b head body rest) added begins) in
          omega (arith, size);
      bad = λ kind wrong.
          let before = bad_before window read kind awaits (subst (λ (b : List ℕ). IsBadRest b kind) added wrong) in
          omega (arith, size, before, ap length added, length-append window read);
      later = omega (arith, c.reads.invariant.later, c.in_ok-count.ensures.cause.later);
      steady = λ steady. (c.in_ok-count.ensures.steady (c.reads.invariant.steady steady)).1;
    }

-- a request was awaited still where a read failed
pub returns-in_err-count-clause-order : goal.returns-in_err-count-clause-order
returns-in_err-count-clause-order g c =
    let on = c.reads.invariant.in_turn in
    let failed : c.from_residual.result ≡ Err Failed = search rules in
    let read : g.S.Source.reads c.reads.source c.read.new.self PIECE (Err (record {})) =
    subst (λ (n : ℕ). g.S.Source.reads c.reads.source c.read.new.self n (Err (record {})))
    (c.reads.auto.piece ∙ c.requires.piece) c.in_err-count.ensures.reads in
    let reading : ReadsNoFurther g.S.Source.reads c.args.source.now c.read.new.self c.args.window.now c.reads.window
    (Err Failed) = record {
      given = on.0;
      last = c.reads.source;
      held = c.reads.window;
      in_turn = on.1;
      ends = (read, refl);
    } in
    subst (ReadsNoFurther g.S.Source.reads c.args.source.now c.read.new.self c.args.window.now c.reads.window)
    (sym failed) reading

-- and where there was no memory for what one gave
pub returns-in_err-add-clause-order : goal.returns-in_err-add-clause-order
returns-in_err-add-clause-order g c =
    let on = c.reads.invariant.in_turn in
    let read : List ℕ = take c.in_ok-count.count c.read.new.buf in
    let waits = subst (λ (s : Step). IsStep c.reads.window s) c.in-NeedMore.is c.reads.invariant.step in
    let awaits : IsOpen c.reads.window = open_now c.reads.window c.in-NeedMore.least waits.0 waits.1 in
    let one : Reading _ = record { source = c.read.new.self; piece = read } in
    let gives = gave g.S.Source.reads c.reads.source c.read.new.self (length c.reads.piece) c.in_ok-count.count
    c.read.new.buf (c.reads.auto.piece ∙ c.requires.piece) (omega arith) c.in_ok-count.ensures.reads
    c.in_ok-count.ensures.within c.if-count-eq0.false in
    let want : c.from_residual-in_err-add.result ≡ Err NoMemory = search rules in
    let reading : ReadsNoFurther g.S.Source.reads c.args.source.now c.read.new.self c.args.window.now c.add.new.self
    (Err NoMemory) = record {
      given = on.0;
      last = c.reads.source;
      held = c.reads.window;
      in_turn = on.1;
      ends = (awaits, (one, gives, refl));
    } in
    subst (ReadsNoFurther g.S.Source.reads c.args.source.now c.read.new.self c.args.window.now c.add.new.self)
    (sym want) reading
