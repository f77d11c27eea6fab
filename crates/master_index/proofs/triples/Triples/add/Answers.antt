use Rattle.std.proofs.Common.{◌≡◌, ◌++◌, ◌∷◌, ◌∙◌, [], Some, None, length, get_or, ap, sym, arith, length-append}
use Rattle.std.proofs.lemmas.Result.{on_ok_weaker}
use Rattle.fix_model.specs.Entries.{earlier_twin}
use Rattle.master_index.proofs.Sharing.{AreTriplesBefore-own, AreTriplesBefore-shared}
use Rattle.master_index.proofs.triples.Triples.add.Goals as goal
use Rattle.master_index.proofs.triples.Triples.add.Goals.{in-Some, in-None+in_ok-push-in-None}

pub returns : goal.returns
returns c =
    let kit = c.args.kit.now in
    let triples = c.args.self.now in
    elim c.match-earlier_twin.branch [
      | in-Some w ↦
          let found : earlier_twin kit c.args.rule ≡ Some w.in-Some.earlier = sym c.earlier_twin.ensures
          ∙ w.in-Some.is in
          let placed : c.match-earlier_twin.place ≡ get_or triples.places w.in-Some.earlier
          0 = rw (w.as_slice.ensures, w.from.ensures) at w.place-is in
          let shared = AreTriplesBefore-shared kit triples c.args.rule w.in-Some.earlier c.requires.before found in
          on_ok_weaker c.push-2.result (λ (pushed : c.push-2.new.self ≡ c.match-earlier_twin.self.places ++
          c.match-earlier_twin.place ∷ []). rw (pushed, w.self-is, placed) shared) c.push-2.ensures.pushed
      | in-None+in_ok-push-in-None w ↦
          let found : earlier_twin kit c.args.rule ≡ None = sym c.earlier_twin.ensures ∙ w.in-None.is in
          let owners : w.push.new.self ≡ triples.owners ++ c.args.rule ∷ [] = w.in_ok-push-in-None.ensures.pushed in
          let placed : c.match-earlier_twin.place ≡ length triples.owners = omega
          (arith, w.place-is, w.len.ensures, ap length owners, length-append triples.owners (c.args.rule ∷ [])) in
          let own = AreTriplesBefore-own kit triples c.args.rule c.requires.rule_within c.requires.before found in
          on_ok_weaker c.push-2.result (λ (pushed : c.push-2.new.self ≡ c.match-earlier_twin.self.places ++
          c.match-earlier_twin.place ∷ []). rw (pushed, w.self-is, owners, placed) own) c.push-2.ensures.pushed
    ]
