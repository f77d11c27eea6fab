use Rattle.std.proofs.Common.{◌≡◌, ◌++◌, ◌∷◌, ◌∙◌, [], Some, length, get_or, ap, sym, arith, length-append}
use Rattle.std.proofs.lemmas.Result.{on_ok_weaker}
use Rattle.fix_model.specs.Entries.{earlier_twin}
use Rattle.master_index.proofs.Maps.{IsIndexBefore-shared, IsIndexBefore-own}
use Rattle.master_index.proofs.index.Index.add.Goals as goal
use Rattle.master_index.proofs.index.Index.add.Goals.{in-Some, in-None+in_ok-map_for-in-None+in_ok-push-in-None}

pub returns : goal.returns
returns c =
    let kit = c.args.kit.now in
    let index = c.args.self.now in
    elim c.match-earlier_twin.branch [
      | in-Some w ↦
          let found : earlier_twin kit c.args.rule ≡ Some w.in-Some.earlier = sym c.earlier_twin.ensures
          ∙ w.in-Some.is in
          let placed : c.match-earlier_twin.place ≡ get_or index.places w.in-Some.earlier
          0 = rw (w.as_slice.ensures, w.from.ensures) at w.place-is in
          let shared = IsIndexBefore-shared kit index c.args.rule w.in-Some.earlier c.requires.valid
          c.requires.rule_within c.requires.before found in
          on_ok_weaker c.push-2.result (λ (pushed : c.push-2.new.self ≡ c.match-earlier_twin.self.places ++
          c.match-earlier_twin.place ∷ []). rw (pushed, w.self-is, placed) shared) c.push-2.ensures.pushed
      | in-None+in_ok-map_for-in-None+in_ok-push-in-None w ↦
          let map = w.in_ok-map_for-in-None.field-0 in
          let is = rw w.rule.ensures.rule at w.in_ok-map_for-in-None.ensures in
          let maps : w.push.new.self ≡ index.maps ++ map ∷ [] = w.in_ok-push-in-None.ensures.pushed in
          let placed : c.match-earlier_twin.place ≡ length index.maps = omega
          (arith, w.place-is, w.len.ensures, ap length maps, length-append index.maps (map ∷ [])) in
          let own = IsIndexBefore-own kit index c.args.rule map c.requires.before is in
          on_ok_weaker c.push-2.result (λ (pushed : c.push-2.new.self ≡ c.match-earlier_twin.self.places ++
          c.match-earlier_twin.place ∷ []). rw (pushed, w.self-is, maps, placed) own) c.push-2.ensures.pushed
    ]
