use Rattle.std.proofs.Common.{◌≡◌, ◌∙◌, ap}
use Rattle.fix_model.specs.Run.{end_of}
use Rattle.region_suggest.proofs.Pairs.{Fits-run}
use Rattle.region_suggest.proofs.suggesting.advice.Goals as goal

pub open_rules-requires : goal.open_rules-requires
open_rules-requires g c = let kit = g.B.Book.kit c.args.book.now in
    let end : c.apply.new.state ≡ end_of kit c.args.state.now c.args.run.now =
    c.apply.ensures ∙ ap (λ state. end_of kit state c.args.run.now) c.in_ok-end.ensures.copied in
    record {
      fits = rw end (Fits-run kit c.args.state.now c.args.run.now c.requires.fits c.requires.run.0);
      ended = rw end c.requires.run.1;
    }

pub needed-requires-clause-fits : goal.needed-requires-clause-fits
needed-requires-clause-fits g c = let kit = g.B.Book.kit c.args.book.now in
    let end : c.apply.new.state ≡ end_of kit c.args.state.now c.args.run.now =
    c.apply.ensures ∙ ap (λ state. end_of kit state c.args.run.now) c.in_ok-end.ensures.copied in
    rw end (Fits-run kit c.args.state.now c.args.run.now c.requires.fits c.requires.run.0)

pub gains-requires-clause-fits : goal.gains-requires-clause-fits
gains-requires-clause-fits g c = let kit = g.B.Book.kit c.args.book.now in
    let end : c.apply.new.state ≡ end_of kit c.args.state.now c.args.run.now =
    c.apply.ensures ∙ ap (λ state. end_of kit state c.args.run.now) c.in_ok-end.ensures.copied in
    rw end (Fits-run kit c.args.state.now c.args.run.now c.requires.fits c.requires.run.0)
