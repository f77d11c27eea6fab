use Rattle.std.proofs.Common.{◌≡◌, [], Bor, None, Some, IsTrue, arith, false, map, refl, subst, sym}
use Rattle.std.proofs.lemmas.Result.{IfOk-weaker}
use Rattle.desk_cases.specs.declared.case.Part.{Part}
use Rattle.desk_cases.specs.declared.judging.Difference.{Difference}
use Rattle.desk_cases.proofs.Contents.{IsAsWanted-compared, map-none}
use Rattle.desk_cases.proofs.judging.differences.Goals as goal

pub returns-then-is_nothing : goal.returns-then-is_nothing
returns-then-is_nothing c =
    let nothing = c.if-is_nothing.ensures.0 refl in record {
      none = IfOk-weaker c.no_answer.result _ _ (λ found some. (
        λ empty. absurd (some empty),
        λ as_wanted. absurd (as_wanted.some (
          (map-none {T = Bor Part} {U = Part} (λ part. part.now) c.args.wanted.now).1 nothing.0,
          subst (λ parts. parts ≡ []) c.as_slice.ensures.value nothing.1,
        )),
      )) c.no_answer.ensures;
    }

pub returns : goal.returns
returns c = record {
  none = rw c.in_ok-add_rest.ensures (IsAsWanted-compared {D = Difference} c.add_wanted.new.found.items
      (map (λ part. record { wanted = None; got = Some part }) c.add_wanted.new.answer.items)
      (map {A = Bor Part} {B = Part} (λ part. part.now) c.args.wanted.now) c.args.answer.items
      c.add_wanted.new.answer.items (λ none empty.
      let both : IsTrue false = c.if-is_nothing.ensures.1 (
        (map-none {T = Bor Part} {U = Part} (λ part. part.now) c.args.wanted.now).0 none,
        subst (λ parts. parts ≡ []) (sym c.as_slice.ensures.value) empty,
      ) in
      grind (arith, both))
      (map-none {T = Part} {U = Difference} (λ part. record { wanted = None; got = Some part })
      c.add_wanted.new.answer.items) c.in_ok-add_wanted.ensures);
}
